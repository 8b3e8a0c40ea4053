use Rattle.std.proofs.Common.{◌≡◌, ◌⊎◌, refl, sym, subst, ap, ◌∙◌, arith}
use Rattle.std.proofs.lemmas.Result.{err_from_is_err_and}
use Rattle.disk.specs.Disk.{Image}
use Rattle.gated_log.specs.declared.refusal.Refusal.{Refusal}
use Rattle.gated_log.specs.declared.refusal.Refusal.TheVariants.{NoMemory, Device}
use Rattle.gated_log.specs.declared.start.Start.{Start}
use Rattle.managed_ledger.specs.Entries.{begun_at, end_of}
use Rattle.cursor_store.specs.Fronts.{AreSynced}
use Rattle.topic_stores.specs.Views.{entry_view, sub_view, fault}
use Rattle.topic_stores.proofs.Openings.{opened_in, start_told, segments_told, slots_told, synced_still}
use Rattle.topic_stores.proofs.stores.TopicStores.open_in.Goals as goal

pub returns-in_err-entries-clause-refused : goal.returns-in_err-entries-clause-refused
returns-in_err-entries-clause-refused g c = λ honest holds.
    let T = c.args.topic in
    let start = c.in_ok-start.start in
    let d0 = g.S.Shelf.disk c.args.shelf.now in
    let d1 = g.S.Shelf.disk c.begin.new.shelf in
    let h1 = c.begin.ensures.kept.honest honest in
    let p = err_from_is_err_and c.from_residual-in_err-entries.result c.from_residual-in_err-entries.ensures.1 in
    rw (p.1) (subst (λ (r : Refusal). (r ≡ NoMemory) ⊎ ((r ≡ Device) ⊎ fault g.C.SubStore.begins g.E.EntryStore.stands g.E.EntryStore.faulty g.C.SubStore.faulty T d0.seen r)) (sym p.2) (segments_told g.C.SubStore.begins g.E.EntryStore.stands g.E.EntryStore.faulty g.C.SubStore.faulty T start d0.seen d1.seen (c.in_ok-heads.ensures.seen honest (λ no. cc)) (subst (λ (s : Start). g.C.SubStore.begins T d0.seen s) (sym c.in_ok-start.ensures.said) (subst (λ t. g.C.SubStore.begins t d0.seen (g.C.SubStore.start_of_heads c.in_ok-heads.heads)) c.in_ok-heads.ensures.topic (g.met.C.SubStore.heads_begin c.in_ok-heads.heads d0.seen (subst (λ (i : Image). g.C.SubStore.has_heads c.in_ok-heads.heads i) (c.in_ok-heads.ensures.seen honest (λ no. cc)) (c.in_ok-heads.ensures.begun honest))))) _ c.in_ok-start.ensures.in_range (c.in_err-entries.ensures.refused h1 holds)))

pub returns-in_err-subscriptions-clause-refused : goal.returns-in_err-subscriptions-clause-refused
returns-in_err-subscriptions-clause-refused g c = λ honest holds.
    let T = c.args.topic in
    let start = c.in_ok-start.start in
    let d0 = g.S.Shelf.disk c.args.shelf.now in
    let d1 = g.S.Shelf.disk c.begin.new.shelf in
    let d2 = g.S.Shelf.disk c.open.new.shelf in
    let found = c.in_ok-entries.ensures.opened holds in
    let l = begun_at start.base found.0 in
    let counts : c.len.result ≡ end_of l = omega (arith, c.len.ensures.len, found.2, ap (λ (b : Start). b.base) c.in_ok-entries.ensures.start) in
    let h1 = c.begin.ensures.kept.honest honest in
    let h2 = c.open.ensures.kept.honest h1 in
    let now = subst (λ (i : Image). g.C.SubStore.has_heads c.in_ok-heads.heads i) (sym (c.in_ok-entries.ensures.seen h1 (λ no. cc))) (c.in_ok-heads.ensures.begun honest) in
    let synced = synced_still (g.C.SubStore.area (g.C.SubStore.topic_of_heads c.in_ok-heads.heads)) d1 d2 (c.in_ok-entries.ensures.seen h1 (λ no. cc)) (c.open.ensures.any_moment h1) (subst (λ t. AreSynced (g.C.SubStore.area t) d1) (sym c.in_ok-heads.ensures.topic) (c.in_ok-heads.ensures.synced honest refl)) in
    let same = c.in_ok-entries.ensures.seen h1 (λ no. cc) ∙ c.in_ok-heads.ensures.seen honest (λ no. cc) in
    let held = g.met.E.EntryStore.holds_stands c.in_ok-entries.entries d2.seen l (found.1 h1).now in
    let begins = subst (λ (b : Start). g.E.EntryStore.stands (g.E.EntryStore.topic_of c.in_ok-entries.entries) b d2.seen l) c.in_ok-entries.ensures.start held in
    let stands = subst (λ t. g.E.EntryStore.stands t start d2.seen l) c.in_ok-entries.ensures.topic begins in
    let p = err_from_is_err_and c.from_residual-in_err-subscriptions.result c.from_residual-in_err-subscriptions.ensures.1 in
    rw (p.1) (subst (λ (r : Refusal). (r ≡ NoMemory) ⊎ ((r ≡ Device) ⊎ fault g.C.SubStore.begins g.E.EntryStore.stands g.E.EntryStore.faulty g.C.SubStore.faulty T d0.seen r)) (sym p.2) (slots_told g.C.SubStore.begins g.E.EntryStore.stands g.E.EntryStore.faulty g.C.SubStore.faulty T start d0.seen d2.seen same (subst (λ (s : Start). g.C.SubStore.begins T d0.seen s) (sym c.in_ok-start.ensures.said) (subst (λ t. g.C.SubStore.begins t d0.seen (g.C.SubStore.start_of_heads c.in_ok-heads.heads)) c.in_ok-heads.ensures.topic (g.met.C.SubStore.heads_begin c.in_ok-heads.heads d0.seen (subst (λ (i : Image). g.C.SubStore.has_heads c.in_ok-heads.heads i) (c.in_ok-heads.ensures.seen honest (λ no. cc)) (c.in_ok-heads.ensures.begun honest))))) _ c.len.result (g.C.SubStore.topic_of_heads c.in_ok-heads.heads) l c.in_ok-start.ensures.in_range c.in_ok-heads.ensures.topic counts stands (c.in_err-subscriptions.ensures.refused h2 now synced)))

pub returns-in_err-start-clause-refused : goal.returns-in_err-start-clause-refused
returns-in_err-start-clause-refused g c = λ honest holds.
    let T = c.args.topic in
    let start = g.C.SubStore.start_of_heads c.in_ok-heads.heads in
    let d0 = g.S.Shelf.disk c.args.shelf.now in
    let d1 = g.S.Shelf.disk c.begin.new.shelf in
    let same = c.in_ok-heads.ensures.seen honest (λ no. cc) in
    let said = subst (λ t. g.C.SubStore.begins t d0.seen start) c.in_ok-heads.ensures.topic (g.met.C.SubStore.heads_begin c.in_ok-heads.heads d0.seen (subst (λ (i : Image). g.C.SubStore.has_heads c.in_ok-heads.heads i) same (c.in_ok-heads.ensures.begun honest))) in
    let p = err_from_is_err_and c.from_residual-in_err-start.result c.from_residual-in_err-start.ensures.1 in
    rw (p.1) (start_told g.C.SubStore.begins g.E.EntryStore.stands g.E.EntryStore.faulty g.C.SubStore.faulty T start d0.seen d1.seen same said _ c.in_err-start.ensures.refused.0 (p.2 ∙ c.in_err-start.ensures.refused.1))

pub returns-then-not-begins_there-clause-refused : goal.returns-then-not-begins_there-clause-refused
returns-then-not-begins_there-clause-refused g c = λ honest holds.
    let d1 = g.S.Shelf.disk c.begin.new.shelf in
    let d2 = g.S.Shelf.disk c.open.new.shelf in
    let h1 = c.begin.ensures.kept.honest honest in
    let h2 = c.open.ensures.kept.honest h1 in
    let now = subst (λ (i : Image). g.C.SubStore.has_heads c.in_ok-heads.heads i) (sym (c.in_ok-entries.ensures.seen h1 (λ no. cc))) (c.in_ok-heads.ensures.begun honest) in
    let synced = synced_still (g.C.SubStore.area (g.C.SubStore.topic_of_heads c.in_ok-heads.heads)) d1 d2 (c.in_ok-entries.ensures.seen h1 (λ no. cc)) (c.open.ensures.any_moment h1) (subst (λ t. AreSynced (g.C.SubStore.area t) d1) (sym c.in_ok-heads.ensures.topic) (c.in_ok-heads.ensures.synced honest refl)) in
    absurd (c.begins_there.ensures.differs c.if-not-begins_there.true (c.in_ok-start.ensures.said ∙ sym (c.in_ok-subscriptions.ensures.start h2 now synced)))

pub returns-clause-opened : goal.returns-clause-opened
returns-clause-opened g c = λ holds.
    let T = c.args.topic in
    let start = c.in_ok-start.start in
    let d0 = g.S.Shelf.disk c.args.shelf.now in
    let d1 = g.S.Shelf.disk c.begin.new.shelf in
    let d2 = g.S.Shelf.disk c.open.new.shelf in
    let found = c.in_ok-entries.ensures.opened holds in
    let l = begun_at start.base found.0 in
    let counts : c.len.result ≡ end_of l = omega (arith, c.len.ensures.len, found.2, ap (λ (b : Start). b.base) c.in_ok-entries.ensures.start) in
    let d3 = g.S.Shelf.disk c.open_from.new.shelf in
    let e = entry_view g.E.EntryStore.topic_of g.E.EntryStore.start_of g.E.EntryStore.counts g.E.EntryStore.per_ledger g.E.EntryStore.failed g.E.EntryStore.holds c.in_ok-entries.entries in
    let s = sub_view g.C.SubStore.topic_of g.C.SubStore.start_of g.C.SubStore.content g.C.SubStore.failed g.C.SubStore.holds g.C.SubStore.written c.in_ok-subscriptions.subscriptions in
    let same : start ≡ s.start = c.begins_there.ensures.same c.if-not-begins_there.false in (
      found.0,
      λ honest.
          let h1 = c.begin.ensures.kept.honest honest in
          let h2 = c.open.ensures.kept.honest h1 in
          let now = subst (λ (i : Image). g.C.SubStore.has_heads c.in_ok-heads.heads i) (sym (c.in_ok-entries.ensures.seen h1 (λ no. cc))) (c.in_ok-heads.ensures.begun honest) in
          let synced = synced_still (g.C.SubStore.area (g.C.SubStore.topic_of_heads c.in_ok-heads.heads)) d1 d2 (c.in_ok-entries.ensures.seen h1 (λ no. cc)) (c.open.ensures.any_moment h1) (subst (λ t. AreSynced (g.C.SubStore.area t) d1) (sym c.in_ok-heads.ensures.topic) (c.in_ok-heads.ensures.synced honest refl)) in
          opened_in T e s d2 d3 c.len.result start found.0 c.in_ok-entries.ensures.topic (c.in_ok-subscriptions.ensures.topic ∙ c.in_ok-heads.ensures.topic) c.in_ok-entries.ensures.start same counts (found.1 h1)
          (c.open_from.ensures.kept.honest h2) (c.in_ok-subscriptions.ensures.seen h2) (c.open_from.ensures.any_moment h2) (c.in_ok-subscriptions.ensures.opened h2 now synced),
      found.2,
      found.3,
    )
