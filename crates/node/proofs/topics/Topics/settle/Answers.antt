use Rattle.std.proofs.Common.{◌≡◌, ◌<◌, ◌≤◌, ◌++◌, ◌∷◌, [], List, inl, inr, ⊎_elim, false, length, map, refl, sym, ap, subst, ◌∙◌, arith, rules}
use Rattle.std.proofs.lemmas.Result.{err_from_is_err_and}
use Rattle.disk.specs.Areas.{apart}
use Rattle.catalog.specs.Catalogs.{remembered, per_ledger}
use Rattle.node.specs.declared.held.Held.{Held}
use Rattle.std.proofs.lemmas.List.{length-append}
use Rattle.node.specs.Numbers.{AreNumbered, IsNumbered}
use Rattle.node.specs.Passing.{settled_names}
use Rattle.node.specs.State.{over}
use Rattle.node.specs.Standing.{broker_of}
use Rattle.std.proofs.lemmas.Bool.{true≢false}
use Rattle.node.proofs.Making.{numbered_push, both_kept, both_left, not_own, works_same, worked_reading, worked_without, worked_with}
use Rattle.node.proofs.Settling.{one_more_name, opened_so, settles_without, no_fault_now, follows, broker_without, fresh_there, name_there, doubted_there, broker_with_name, settles_with, no_topic_fault}
use Rattle.node.proofs.topics.Topics.settle.Goals as goal

pub returns-then-not-is_failed-clause-works : goal.returns-then-not-is_failed-clause-works
returns-then-not-is_failed-clause-works g c = λ names. works_same g.S.Shelf.disk names c.args.self.now c.args.self.now refl refl refl refl refl

pub returns-in_err-again-clause-refusals : goal.returns-in_err-again-clause-refusals
returns-in_err-again-clause-refusals g c = λ s.
    let p = err_from_is_err_and c.from_residual.result c.from_residual.ensures.1 in
    rw (p.1) (⊎_elim (λ memory. inl (p.2 ∙ memory)) (λ other. inr (⊎_elim (λ device. p.2 ∙ device)
    (λ fault. absurd (no_fault_now g.S.Shelf.disk c.args.self.now s (g.met.S.Shelf.lawful c.args.self.now.shelf s.honest).leaves_seen _ fault)) other)) (c.in_err-again.ensures.refused s.honest))

pub returns-in_err-again-clause-works : goal.returns-in_err-again-clause-works
returns-in_err-again-clause-works g c = λ names. (
  omega arith,
  λ s.
      let e = c.in_err-again.ensures in
      worked_reading g.S.Shelf.disk names g.met.T.TopicStore.laws g.met.T.TopicStore.stands_local c.args.self.now _ s e.kept (e.any_moment s.honest) (λ j low f of. e.others s.honest f (not_own j f of))
      refl refl refl (sym c.is_failed.ensures ∙ c.if-not-is_failed.false),
)

pub returns-then-not-is_followed_by-clause-refusals : goal.returns-then-not-is_followed_by-clause-refusals
returns-then-not-is_followed_by-clause-refusals g c = λ s.
    let t = c.args.self.now in
    let e1 = c.in_ok-again.ensures in
    let goes_on = follows g.S.Shelf.disk t s (g.met.S.Shelf.lawful t.shelf s.honest).leaves_seen (sym c.is_failed.ensures ∙ c.if-not-is_failed.false) c.in_ok-again.again (g.S.Shelf.disk c.open.new.shelf) (e1.seen s.honest (λ no. cc)) (e1.opened s.honest) in
    let no : c.is_followed_by.result ≡ false = c.if-not-is_followed_by.true in
    absurd (true≢false (sym (c.is_followed_by.ensures.1 goes_on) ∙ no))

pub returns-then-not-is_followed_by-clause-works : goal.returns-then-not-is_followed_by-clause-works
returns-then-not-is_followed_by-clause-works g c = λ names. (
  omega arith,
  λ s.
      let e = c.in_ok-again.ensures in
      worked_reading g.S.Shelf.disk names g.met.T.TopicStore.laws g.met.T.TopicStore.stands_local c.args.self.now _ s e.kept (e.any_moment s.honest) (λ j low f of. e.others s.honest f (not_own j f of))
      refl refl refl (sym c.is_failed.ensures ∙ c.if-not-is_failed.false),
)

pub returns-in-Err-clause-works : goal.returns-in-Err-clause-works
returns-in-Err-clause-works g c = λ names. (
  omega (arith, ap (λ (l : List (Held _ _)). length l) c.reserve.ensures.items),
  λ s.
      let e = c.in_ok-again.ensures in
      let t = c.args.self.now in
      worked_reading g.S.Shelf.disk names g.met.T.TopicStore.laws g.met.T.TopicStore.stands_local t _ s e.kept (e.any_moment s.honest) (λ j low f of. e.others s.honest f (not_own j f of))
      c.reserve.ensures.items (ap (λ (l : List (Held _ _)). over (broker_of t) (map (λ (h : Held _ _). h.core) l)) c.reserve.ensures.items) refl (sym c.is_failed.ensures ∙ c.if-not-is_failed.false),
)

pub returns-in-Err-open-clause-refusals : goal.returns-in-Err-open-clause-refusals
returns-in-Err-open-clause-refusals g c = λ s.
    let t = c.args.self.now in
    let e1 = c.in_ok-again.ensures in
    let n_is : c.len-number.result ≡ length t.held.items = search rules in
    let more : length t.held.items < length (remembered c.in_ok-again.again) = omega (arith, c.if-len.true, c.len.ensures.count, c.len-2.ensures) in
    ⊎_elim (λ memory. inl memory) (λ other. inr (⊎_elim (λ device. device)
    (λ fault. absurd (no_topic_fault g.S.Shelf.disk t s (g.met.S.Shelf.lawful t.shelf s.honest).leaves_seen (sym c.is_failed.ensures ∙ c.if-not-is_failed.false) c.in_ok-again.again (g.S.Shelf.disk c.open.new.shelf)
    (e1.seen s.honest (λ no. cc)) (e1.opened s.honest) g.T.TopicStore.faulty g.met.T.TopicStore.stands_sound more c.in-Err-open.why (subst (λ k. g.T.TopicStore.faulty k (g.S.Shelf.disk c.open.new.shelf).seen c.in-Err-open.why) n_is fault))) other))
    (c.in-Err-open.ensures.refused (e1.kept.honest s.honest))

pub returns-in-Err-open-clause-works : goal.returns-in-Err-open-clause-works
returns-in-Err-open-clause-works g c = λ names. (
  omega (arith, ap (λ (l : List (Held _ _)). length l) c.reserve.ensures.items),
  λ s.
      let t = c.args.self.now in
      let e1 = c.in_ok-again.ensures in
      let e2 = c.in-Err-open.ensures in
      let h1 = e1.kept.honest s.honest in
      let d0 = g.S.Shelf.disk t.shelf in
      let d1 = g.S.Shelf.disk c.open.new.shelf in
      let d2 = g.S.Shelf.disk c.open-then-len.new.shelf in
      let n_is : c.len-number.result ≡ length t.held.items = search rules in
      worked_reading g.S.Shelf.disk names g.met.T.TopicStore.laws g.met.T.TopicStore.stands_local t _ s (both_kept d0 d1 d2 e1.kept e2.kept)
      (both_left d0 d1 d2 (e1.any_moment s.honest) (e2.any_moment h1))
      (λ j low f of. e2.others h1 f (apart c.len-number.result j (λ is. omega (arith, is, n_is, low)) f of) ∙ e1.others s.honest f (not_own j f of))
      c.reserve.ensures.items (ap (λ (l : List (Held _ _)). over (broker_of t) (map (λ (h : Held _ _). h.core) l)) c.reserve.ensures.items) refl (sym c.is_failed.ensures ∙ c.if-not-is_failed.false),
)

pub invariant_of-self-then-len : goal.invariant_of-self-then-len
invariant_of-self-then-len g c =
    let t = c.args.self.now in
    let h = c.in-Ok.held in
    let again = c.in_ok-again.again in
    let follows_so = c.is_followed_by.ensures.0 c.if-not-is_followed_by.false in
    let pushed : c.push.new.self.items ≡ t.held.items ++ h ∷ [] = search rules in
    let n_is : c.len-number.result ≡ length t.held.items = search rules in
    let more : length t.held.items < length (remembered again) = omega (arith, c.if-len.true, c.len.ensures.count, c.len-2.ensures) in
    let numbered = subst (λ k. IsNumbered (per_ledger again) k h) n_is (subst (λ n. IsNumbered n c.len-number.result h) c.entries_per_ledger-per_ledger.ensures.number c.in-Ok.ensures.numbered) in
    record {
      numbered = subst (λ (l : List (Held _ _)). AreNumbered (per_ledger again) l) (sym pushed) (numbered_push t.held.items h (per_ledger again) (subst (λ n. AreNumbered n t.held.items) (sym follows_so.0) t.numbered) numbered);
      named = one_more_name (length (remembered again)) (length (remembered t.catalog)) (length t.held.items) follows_so.1 t.named more ∙ sym (length-append t.held.items (h ∷ [])) ∙ sym (ap (λ (l : List (Held _ _)). length l) pushed);
      doubted = sym c.in_ok-again.ensures.works;
    }

pub returns-then-len-clause-settled : goal.returns-then-len-clause-settled
returns-then-len-clause-settled g c = λ s.
    let t = c.args.self.now in
    let disk = g.S.Shelf.disk in
    let h = c.in-Ok.held in
    let again = c.in_ok-again.again in
    let d1 = disk c.open.new.shelf in
    let e1 = c.in_ok-again.ensures in
    let e2 = c.in-Ok.ensures in
    let lawful = (g.met.S.Shelf.lawful t.shelf s.honest).leaves_seen in
    let fails = sym c.is_failed.ensures ∙ c.if-not-is_failed.false in
    let seen = e1.seen s.honest (λ no. cc) in
    let settled = e1.opened s.honest in
    let one = g.met.T.TopicStore.stands_one in
    let follows_so = c.is_followed_by.ensures.0 c.if-not-is_followed_by.false in
    let pushed : c.push.new.self.items ≡ t.held.items ++ h ∷ [] = search rules in
    let n_is : c.len-number.result ≡ length t.held.items = search rules in
    let more : length t.held.items < length (remembered again) = omega (arith, c.if-len.true, c.len.ensures.count, c.len-2.ensures) in
    let many = one_more_name (length (remembered again)) (length (remembered t.catalog)) (length t.held.items) follows_so.1 t.named more in
    let core = fresh_there disk t s lawful fails again d1 seen settled one many h.core (opened_so h.core c.entries_per_ledger-per_ledger.result (per_ledger again) c.entries_per_ledger-per_ledger.ensures.number e2.opened) e2.few
    (subst (λ k. g.T.TopicStore.stands k d1.seen h.core.ledger h.core.kept) n_is (e2.found (e1.kept.honest s.honest))) in
    settles_with disk t s lawful fails again d1 seen settled one many _ (broker_with_name disk t s lawful fails again d1 seen settled one many h c.push.new.self.items pushed core)

pub returns-then-len-clause-works : goal.returns-then-len-clause-works
returns-then-len-clause-works g c = λ names.
    let t = c.args.self.now in
    let h = c.in-Ok.held in
    let pushed : c.push.new.self.items ≡ t.held.items ++ h ∷ [] = search rules in (
      omega (arith, ap (λ (l : List (Held _ _)). length l) pushed, length-append t.held.items (h ∷ [])),
      λ s.
          let disk = g.S.Shelf.disk in
          let again = c.in_ok-again.again in
          let d0 = disk t.shelf in
          let d1 = disk c.open.new.shelf in
          let d2 = disk c.open-then-len.new.shelf in
          let e1 = c.in_ok-again.ensures in
          let e2 = c.in-Ok.ensures in
          let h1 = e1.kept.honest s.honest in
          let lawful = (g.met.S.Shelf.lawful t.shelf s.honest).leaves_seen in
          let fails = sym c.is_failed.ensures ∙ c.if-not-is_failed.false in
          let seen = e1.seen s.honest (λ no. cc) in
          let settled = e1.opened s.honest in
          let one = g.met.T.TopicStore.stands_one in
          let follows_so = c.is_followed_by.ensures.0 c.if-not-is_followed_by.false in
          let n_is : c.len-number.result ≡ length t.held.items = search rules in
          let more : length t.held.items < length (remembered again) = omega (arith, c.if-len.true, c.len.ensures.count, c.len-2.ensures) in
          let many = one_more_name (length (remembered again)) (length (remembered t.catalog)) (length t.held.items) follows_so.1 t.named more in
          let core = fresh_there disk t s lawful fails again d1 seen settled one many h.core (opened_so h.core c.entries_per_ledger-per_ledger.result (per_ledger again) c.entries_per_ledger-per_ledger.ensures.number e2.opened) e2.few
          (subst (λ k. g.T.TopicStore.stands k d1.seen h.core.ledger h.core.kept) n_is (e2.found h1)) in
          worked_with disk names g.met.T.TopicStore.laws g.met.T.TopicStore.stands_local t _ s (both_kept d0 d1 d2 e1.kept e2.kept) (both_left d0 d1 d2 (e1.any_moment s.honest) (e2.any_moment h1))
          (λ j low f of. e2.others h1 f (apart c.len-number.result j (λ is. omega (arith, is, n_is, low)) f of) ∙ e1.others s.honest f (not_own j f of))
          h (name_there disk t s lawful fails again d1 seen settled one many) (doubted_there disk t s lawful fails again d1 seen settled one many) pushed e2.rests (e2.stands h1) (broker_with_name disk t s lawful fails again d1 seen settled one many h c.push.new.self.items pushed core)
          (settled_names d1 d2 again (record { seen = λ h. e2.seen h (λ no. cc); any_moment = e2.any_moment; kept = e2.kept }) settled) refl,
    )

pub returns-clause-settled : goal.returns-clause-settled
returns-clause-settled g c = λ s.
    let t = c.args.self.now in
    let disk = g.S.Shelf.disk in
    let e1 = c.in_ok-again.ensures in
    let fails = sym c.is_failed.ensures ∙ c.if-not-is_failed.false in
    let few : length (remembered c.in_ok-again.again) ≤ length t.held.items = omega (arith, c.if-len.false, c.len.ensures.count, c.len-2.ensures) in
    settles_without t.doubtful (broker_of t) _ (t.doubted ∙ fails)
    (broker_without disk t s (g.met.S.Shelf.lawful t.shelf s.honest).leaves_seen fails c.in_ok-again.again (disk c.open.new.shelf) (e1.seen s.honest (λ no. cc)) (e1.opened s.honest) few)

pub returns-clause-works : goal.returns-clause-works
returns-clause-works g c = λ names. (
  omega arith,
  λ s.
      let t = c.args.self.now in
      let disk = g.S.Shelf.disk in
      let e1 = c.in_ok-again.ensures in
      let fails = sym c.is_failed.ensures ∙ c.if-not-is_failed.false in
      let few : length (remembered c.in_ok-again.again) ≤ length t.held.items = omega (arith, c.if-len.false, c.len.ensures.count, c.len-2.ensures) in
      worked_without disk names g.met.T.TopicStore.laws g.met.T.TopicStore.stands_local t _ s e1.kept (e1.any_moment s.honest) (λ j low f of. e1.others s.honest f (not_own j f of)) refl
      (broker_without disk t s (g.met.S.Shelf.lawful t.shelf s.honest).leaves_seen fails c.in_ok-again.again (disk c.open.new.shelf) (e1.seen s.honest (λ no. cc)) (e1.opened s.honest) few)
      (e1.opened s.honest) refl,
)
