use Rattle.std.proofs.Common.{◌≡◌, ◌+◌, ℕ, List, [], ◌∷◌, ◌++◌, Some, Err, map, slice_get, length, refl, sym, ap, subst, ◌∙◌, ⊎_elim, arith, rules}
use Rattle.std.specs.Prelude.{Contains}
use Rattle.std.proofs.lemmas.List.{length-append}
use Rattle.std.proofs.lemmas.List.Elements.{All-head, All-contains_itself}
use Rattle.std.proofs.lemmas.Bool.{true≢false}
use Rattle.disk.specs.Areas.{OfTopic, Within}
use Rattle.disk.specs.Contents.{Settled, BeforeOrAfter}
use Rattle.gated_log.specs.declared.refusal.Refusal.TheVariants as refusal
use Rattle.topic_core.specs.State.{Topic}
use Rattle.catalog.specs.Names.{Names}
use Rattle.catalog.specs.Catalogs.{Own, StandsFor as NamesStand, Holds as NamesHeld, remembered, per_ledger}
use Rattle.session.specs.Broker.{fresh}
use Rattle.node.specs.declared.held.Held.{Held}
use Rattle.node.specs.Numbers.{AreNumbered, IsNumbered}
use Rattle.node.specs.State.{over}
use Rattle.node.specs.Standing.{broker_of}
use Rattle.node.proofs.Making.{works_same, worked_not, worked_doubting, worked_making, made_settled, fresh_files, same_parts, cores_push, numbered_push}
use Rattle.node.proofs.topics.Topics.make.Goals as goal

pub returns-in_err-reserve-clause-works : goal.returns-in_err-reserve-clause-works
returns-in_err-reserve-clause-works g c = works_same g.S.Shelf.disk (c.args.name.now ∷ []) c.args.self.now _ c.reserve.ensures.items refl refl refl refl

pub returns-in_err-added-clause-works : goal.returns-in_err-added-clause-works
returns-in_err-added-clause-works g c = works_same g.S.Shelf.disk (c.args.name.now ∷ []) c.args.self.now _ c.reserve.ensures.items refl refl refl refl

pub returns-in_err-doubted-clause-works : goal.returns-in_err-doubted-clause-works
returns-in_err-doubted-clause-works g c = works_same g.S.Shelf.disk (c.args.name.now ∷ []) c.args.self.now _ c.reserve.ensures.items refl refl refl refl

pub returns-in-Err-clause-works : goal.returns-in-Err-clause-works
returns-in-Err-clause-works g c = (
  omega (arith, ap (λ (l : List (Held _ _)). length l) c.reserve.ensures.items),
  λ s.
      let t = c.args.self.now in
      let disk = g.S.Shelf.disk in
      let e = c.in-Err.ensures in
      let n_is : c.len-number.result ≡ length t.held.items = search rules in
      worked_not disk (c.args.name.now ∷ []) g.met.T.TopicStore.laws g.met.T.TopicStore.stands_local t s c.requires.sure (disk c.create.new.shelf) e.kept (subst (λ k. Within (OfTopic k) (λ i. Unit {0}) (disk t.shelf) (disk c.create.new.shelf)) n_is (e.others s.honest))
      _ refl c.reserve.ensures.items (ap (λ (l : List (Held _ _)). over (broker_of t) (map (λ (h : Held _ _). h.core) l)) c.reserve.ensures.items) (λ names settled. settled),
)

pub invariant_of-self-then-is_failed : goal.invariant_of-self-then-is_failed
invariant_of-self-then-is_failed g c =
    let t = c.args.self.now in
    let e = c.in-Err-add.ensures in
    record {
      numbered = λ j h is. subst (λ n. IsNumbered n j h) (sym e.per_ledger) (t.numbered j h (sym (ap (λ (l : List (Held _ _)). slice_get l j) c.reserve.ensures.items) ∙ is));
      named = ap (λ (l : Names). length l) (e.remembered refl) ∙ t.named ∙ sym (ap (λ (l : List (Held _ _)). length l) c.reserve.ensures.items);
      doubted = sym c.if-is_failed.true ∙ c.is_failed.ensures;
    }

pub invariant_of-self-else-is_failed : goal.invariant_of-self-else-is_failed
invariant_of-self-else-is_failed g c =
    let t = c.args.self.now in
    let e = c.in-Err-add.ensures in
    record {
      numbered = λ j h is. subst (λ n. IsNumbered n j h) (sym e.per_ledger) (t.numbered j h (sym (ap (λ (l : List (Held _ _)). slice_get l j) c.reserve.ensures.items) ∙ is));
      named = ap (λ (l : Names). length l) (e.remembered refl) ∙ t.named ∙ sym (ap (λ (l : List (Held _ _)). length l) c.reserve.ensures.items);
      doubted = t.doubted ∙ c.requires.sure ∙ sym c.if-is_failed.false ∙ c.is_failed.ensures;
    }

pub invariant_of-self-2 : goal.invariant_of-self-2
invariant_of-self-2 g c =
    let t = c.args.self.now in
    let e = c.in_default.ensures in
    let h = c.in-Ok.held in
    let pushed : c.push.new.self.items ≡ t.held.items ++ h ∷ [] = search rules in
    let n_is : c.len-number.result ≡ length t.held.items = search rules in
    let numbered = subst (λ k. IsNumbered (per_ledger t.catalog) k h) n_is (subst (λ n. IsNumbered n c.len-number.result h) c.entries_per_ledger-per_ledger.ensures.number c.in-Ok.ensures.numbered) in
    record {
      numbered = subst (λ n. AreNumbered n c.push.new.self.items) (sym e.per_ledger) (subst (λ (l : List (Held _ _)). AreNumbered (per_ledger t.catalog) l) (sym pushed) (numbered_push t.held.items h (per_ledger t.catalog) t.numbered numbered));
      named = ap (λ (l : Names). length l) e.grown ∙ length-append (remembered t.catalog) (c.in_ok-added.added ∷ []) ∙ ap (λ n. n + 1) t.named ∙ sym (length-append t.held.items (h ∷ [])) ∙ sym (ap (λ (l : List (Held _ _)). length l) pushed);
      doubted = t.doubted ∙ c.requires.sure ∙ sym e.works;
    }

pub returns-then-is_failed-clause-works : goal.returns-then-is_failed-clause-works
returns-then-is_failed-clause-works g c = (
  omega (arith, ap (λ (l : List (Held _ _)). length l) c.reserve.ensures.items),
  λ s.
      let t = c.args.self.now in
      let disk = g.S.Shelf.disk in
      let d1 = disk c.create.new.shelf in
      let name = c.args.name.now in
      let h = c.in-Ok.held in
      let e1 = c.in-Ok.ensures in
      let e2 = c.in-Err-add.ensures in
      let laws = g.met.T.TopicStore.laws in
      let local = g.met.T.TopicStore.stands_local in
      let n_is : c.len-number.result ≡ length t.held.items = search rules in
      let added : c.in_ok-added.added ≡ name = search rules in
      let doubted : c.in_ok-doubted.doubted ≡ name = search rules in
      let core = e1.fresh ∙ ap (λ n. fresh n) c.entries_per_ledger-per_ledger.ensures.number in
      let topic = e1.numbered.0 ∙ n_is in
      let here = e1.stands s.honest in
      let w = subst (λ k. Within (OfTopic k) (λ i. Unit {0}) (disk t.shelf) d1) n_is (e1.others s.honest) in
      let old = remembered t.catalog in
      let appends = e2.appends old (made_settled disk (c.args.name.now ∷ []) laws local t s c.requires.sure d1 e1.kept w) in
      let w' = subst (λ (x : List ℕ). Within Own (BeforeOrAfter (NamesStand (per_ledger t.catalog)) old (old ++ x ∷ [])) d1 (disk c.add.new.shelf)) added appends.within in
      worked_doubting disk (c.args.name.now ∷ []) laws local t s c.requires.sure d1 e1.kept w h core e1.rests topic here (fresh_files h (per_ledger t.catalog) (length t.held.items) d1 core topic here) name (All-head (Contains (name ∷ [])) name [] (All-contains_itself (name ∷ []))) _ e2.kept w'
      c.reserve.ensures.items
      (same_parts e2.per_ledger refl (e2.remembered refl) (ap (λ (x : List ℕ). Some x) doubted) (ap (λ (l : List (Held _ _)). map (λ (h : Held _ _). h.core) l) c.reserve.ensures.items))
      (sym c.is_failed.ensures ∙ c.if-is_failed.true),
)

pub returns-else-is_failed-clause-works : goal.returns-else-is_failed-clause-works
returns-else-is_failed-clause-works g c = (
  omega (arith, ap (λ (l : List (Held _ _)). length l) c.reserve.ensures.items),
  λ s.
      let t = c.args.self.now in
      let disk = g.S.Shelf.disk in
      let d1 = disk c.create.new.shelf in
      let e1 = c.in-Ok.ensures in
      let e2 = c.in-Err-add.ensures in
      let laws = g.met.T.TopicStore.laws in
      let local = g.met.T.TopicStore.stands_local in
      let n_is : c.len-number.result ≡ length t.held.items = search rules in
      let w = subst (λ k. Within (OfTopic k) (λ i. Unit {0}) (disk t.shelf) d1) n_is (e1.others s.honest) in
      let memory : c.in-Err-add.why ≡ refusal.NoMemory = ⊎_elim (λ (device : c.in-Err-add.why ≡ refusal.Device). absurd (true≢false (sym (e2.failed (ap (λ r. Err r) device)) ∙ sym c.is_failed.ensures ∙ c.if-is_failed.false))) (λ (none : c.in-Err-add.why ≡ refusal.NoMemory). none) e2.refusals in
      let m = e2.no_memory (ap (λ r. Err r) memory) in
      worked_not disk (c.args.name.now ∷ []) laws local t s c.requires.sure d1 e1.kept w _ (ap (λ (x : _). disk x) m.1.1) c.reserve.ensures.items
      (same_parts e2.per_ledger refl (e2.remembered refl) refl (ap (λ (l : List (Held _ _)). map (λ (h : Held _ _). h.core) l) c.reserve.ensures.items))
      (λ names settled. record { honest = settled.honest; now = m.0.holds_still _ names settled.now; left = λ i may. m.0.holds_still i names (settled.left i may) }),
)

pub returns-clause-works : goal.returns-clause-works
returns-clause-works g c =
    let t = c.args.self.now in
    let h = c.in-Ok.held in
    let pushed : c.push.new.self.items ≡ t.held.items ++ h ∷ [] = search rules in (
      omega (arith, ap (λ (l : List (Held _ _)). length l) pushed, length-append t.held.items (h ∷ [])),
      λ s.
          let disk = g.S.Shelf.disk in
          let d1 = disk c.create.new.shelf in
          let name = c.args.name.now in
          let e1 = c.in-Ok.ensures in
          let e2 = c.in_default.ensures in
          let laws = g.met.T.TopicStore.laws in
          let local = g.met.T.TopicStore.stands_local in
          let n_is : c.len-number.result ≡ length t.held.items = search rules in
          let added : c.in_ok-added.added ≡ name = search rules in
          let core = e1.fresh ∙ ap (λ n. fresh n) c.entries_per_ledger-per_ledger.ensures.number in
          let topic = e1.numbered.0 ∙ n_is in
          let here = e1.stands s.honest in
          let w = subst (λ k. Within (OfTopic k) (λ i. Unit {0}) (disk t.shelf) d1) n_is (e1.others s.honest) in
          let old = remembered t.catalog in
          let appends = e2.appends old (made_settled disk (c.args.name.now ∷ []) laws local t s c.requires.sure d1 e1.kept w) in
          let w' = subst (λ (x : List ℕ). Within Own (BeforeOrAfter (NamesStand (per_ledger t.catalog)) old (old ++ x ∷ [])) d1 (disk c.add.new.shelf)) added appends.within in
          let names = e2.grown ∙ ap (λ (x : List ℕ). old ++ x ∷ []) added in
          worked_making disk (c.args.name.now ∷ []) laws local t s c.requires.sure d1 e1.kept w h core e1.rests topic here (fresh_files h (per_ledger t.catalog) (length t.held.items) d1 core topic here) name (All-head (Contains (name ∷ [])) name [] (All-contains_itself (name ∷ []))) _ e2.kept w'
          pushed
          (same_parts e2.per_ledger refl names refl
          (ap (λ (l : List (Held _ _)). map (λ (h : Held _ _). h.core) l) pushed ∙ cores_push t.held.items h ∙ ap (λ (u : Topic). map (λ (h : Held _ _). h.core) t.held.items ++ u ∷ []) core))
          (subst (λ (l : Names). Settled (NamesHeld c.add.new.self) (disk c.add.new.shelf) l) (sym e2.grown) appends.added),
    )
