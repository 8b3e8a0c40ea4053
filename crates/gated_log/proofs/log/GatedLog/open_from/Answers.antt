use Rattle.std.proofs.Common.{◌≡◌, ◌⊎◌, inl, inr, ⊎_elim, ℕ, ◌+◌, ◌≤◌, length, List, ◌++◌, [], ◌∷◌, sym, ◌∙◌, ap, subst}
use Rattle.std.specs.Option.{option_map, IfSome}
use Rattle.std.proofs.lemmas.Result.{err_from_is_err_and}
use Rattle.disk.specs.declared.file_id.FileId.{FileId}
use Rattle.disk.specs.Disk.{Image}
use Rattle.disk.specs.Areas.{folder_of}
use Rattle.gated_log.specs.Labels.{header_size}
use Rattle.gated_log.specs.declared.log_id.LogId.{LogId}
use Rattle.gated_log.specs.declared.refusal.Refusal.{Refusal}
use Rattle.gated_log.specs.declared.refusal.Refusal.TheVariants.{Device, NoMemory, Damaged}
use Rattle.gated_log.specs.Batches.{IsLog}
use Rattle.gated_log.specs.Folds.{FitsFile, behind, IsFault, begun, grown}
use Rattle.gated_log.specs.Logs.{log_id}
use Rattle.gated_log.specs.Reading.{reader_at, HasRead, IsNext}
use Rattle.gated_log.proofs.Further.{still_synced}
use Rattle.gated_log.proofs.Folding.{log_of, goes_first, goes_more, label_fault, gate_fault, body_fault, last_fits, settles}
use Rattle.gated_log.proofs.log.GatedLog.open_from.Goals as goal

pub returns-then-not-branch-clause-refused : goal.returns-then-not-branch-clause-refused
returns-then-not-branch-clause-refused g c = λ before honest has held.
    let reader = c.in_ok-reader.reader in
    let form = behind (g.F.Fold.form (g.F.Fold.rule c.args.fold.now)) before in
    let read = c.in_ok-reader.ensures.begun (g.S.Shelf.disk c.args.shelf.now).seen has.is in
    let bad : ¬ form (begun reader.id.label) = subst (λ (i : LogId). ¬ form (begun i.label)) c.id.ensures (c.in_ok-begin.ensures.refused before held cc) in
    inr (inr (label_fault form c.args.head.now.file (g.S.Shelf.disk c.args.shelf.now).seen reader read c.in_ok-reader.ensures.file bad))

pub returns-in_err-body-clause-refused : goal.returns-in_err-body-clause-refused
returns-in_err-body-clause-refused g c = λ before honest has held.
    let form = behind (g.F.Fold.form (g.F.Fold.rule c.args.fold.now)) before in
    let mid = g.S.Shelf.disk c.bodies.shelf in
    let file = c.args.head.now.file in
    let so_far = c.bodies.invariant.0 in
    let read = so_far.read before held in
    let formed = subst (λ r. g.F.Fold.form r (before ++ log_of c.bodies.reader read.0 ∷ [])) c.bodies.invariant.1 (g.met.F.Fold.holds_form c.bodies.fold (before ++ log_of c.bodies.reader read.0 ∷ []) read.3) in
    let p = err_from_is_err_and c.from_residual-in_err-body.result c.from_residual-in_err-body.ensures.1 in
    let e = c.in_err-body.field-0.0 in
    let told = ⊎_elim (λ none. inl none) (λ other. ⊎_elim (λ device. inr (inl device))
    (λ is. inr (inr (subst (λ (i : Image). IsFault form file (i file) e) (so_far.seen honest) (gate_fault form file mid.seen c.bodies.reader read.0 e (read.2 honest has) so_far.file_is formed is)))) other) (c.in_err-body.ensures.refused read.0 (so_far.kept.honest honest) (read.2 honest has)) in
    rw (p.1) (subst (λ (e : Refusal). (e ≡ NoMemory) ⊎ ((e ≡ Device) ⊎ IsFault form file ((g.S.Shelf.disk c.args.shelf.now).seen file) e)) (sym p.2) told)

pub returns-in_default-clause-opened : goal.returns-in_default-clause-opened
returns-in_default-clause-opened g c = λ before held.
    let mid = g.S.Shelf.disk c.bodies.shelf in
    let new = g.S.Shelf.disk c.next.new.shelf in
    let so_far = c.bodies.invariant.0 in
    let read = so_far.read before held in
    let old = c.bodies.reader in
    let reader = c.next.new.self in
    let log = c.finish.result in
    let id_is : log_id log ≡ old.id = c.finish.ensures.id ∙ c.next.ensures.id in (
      read.0,
      λ honest has.
          let honest1 = so_far.kept.honest honest in
          let same = c.next.ensures.seen honest1 in
          let there = read.2 honest has in
          let ended = subst (λ o. IsNext old reader mid.seen read.0 (option_map (λ body. body.items) o)) c.in_default.is (c.in_ok-body.ensures.next read.0 honest1 there) in
          let is : IsLog (folder_of reader.id.file) reader.id.label read.0 (new.seen reader.id.file) = subst (λ (i : LogId). IsLog (folder_of i.file) i.label read.0 (new.seen i.file)) (sym c.next.ensures.id) (subst (λ (i : Image). IsLog (folder_of old.id.file) old.id.label read.0 (i old.id.file)) (sym same) ended.0) in
          let holds = c.finish.ensures.log new.seen read.0 (subst (λ (i : Image). HasRead reader i read.0) (sym same) ended.1) is in
          let synced = still_synced c.args.head.now.file mid new (so_far.synced honest has) same (c.next.ensures.any_moment honest1) in
          settles log c.args.head.now.file new read.0 (c.next.ensures.kept.honest honest1) synced (ap (λ (i : LogId). i.file) id_is ∙ so_far.file_is) holds,
      subst (λ (i : LogId). g.F.Fold.holds c.bodies.fold (before ++ record { label = i.label; bodies = read.0 } ∷ [])) (sym id_is) read.3,
    )

pub returns-then-not-branch-2-clause-refused : goal.returns-then-not-branch-2-clause-refused
returns-then-not-branch-2-clause-refused g c = λ before honest has held.
    let form = behind (g.F.Fold.form (g.F.Fold.rule c.args.fold.now)) before in
    let mid = g.S.Shelf.disk c.bodies.shelf in
    let file = c.args.head.now.file in
    let so_far = c.bodies.invariant.0 in
    let honest1 = so_far.kept.honest honest in
    let read = so_far.read before held in
    let old = c.bodies.reader in
    let body = c.in-Some.body.items in
    let more = subst (λ o. IsNext old c.next.new.self mid.seen read.0 (option_map (λ body. body.items) o)) c.in-Some.is (c.in_ok-body.ensures.next read.0 honest1 (read.2 honest has)) in
    let formed = subst (λ r. g.F.Fold.form r (before ++ log_of old read.0 ∷ [])) c.bodies.invariant.1 (g.met.F.Fold.holds_form c.bodies.fold (before ++ log_of old read.0 ∷ []) read.3) in
    let fits : length c.deref.result.now ≤ 33554432 = subst (λ (l : List ℕ). length l ≤ 33554432) (sym c.deref.ensures.value) (last_fits read.0 body c.next.new.self mid.seen more) in
    let refused = c.in_ok-body-2.ensures.refused before (log_of old read.0) read.3 fits cc in
    let bad : ¬ form (grown (log_of old read.0) body) = subst (λ r. ¬ g.F.Fold.form r (before ++ grown (log_of old read.0) body ∷ [])) c.bodies.invariant.1
    (subst (λ (l : List ℕ). ¬ g.F.Fold.form (g.F.Fold.rule c.bodies.fold) (before ++ grown (log_of old read.0) l ∷ [])) c.deref.ensures.value refused) in
    inr (inr (subst (λ (i : Image). IsFault form file (i file) (Damaged file c.gate-gate.result)) (so_far.seen honest)
    (body_fault form file mid.seen old c.next.new.self read.0 body c.gate-gate.result (read.2 honest has) more c.next.ensures.id so_far.file_is formed bad (c.gate-gate.ensures ∙ read.1))))

pub bodies-init : goal.bodies-init
bodies-init g c = (
  goes_first c.args.head.now (g.S.Shelf.disk c.args.shelf.now) (g.F.Fold.holds c.args.fold.now) (g.F.Fold.holds c.begin-2.new.self) c.in_ok-reader.reader c.in_ok-reader.ensures.file (c.in_ok-reader.ensures.at ∙ ap (λ (f : FileId). header_size (folder_of f)) (sym c.in_ok-reader.ensures.file)) (λ has. c.in_ok-reader.ensures.begun (g.S.Shelf.disk c.args.shelf.now).seen has.is)
      (λ before held. subst (λ (i : LogId). g.F.Fold.holds c.begin-2.new.self (before ++ begun i.label ∷ [])) c.id.ensures (c.in_ok-begin.ensures.taken before held cc)),
  c.begin-2.ensures.rule,
)

pub bodies-preserved : goal.bodies-preserved
bodies-preserved g c =
    let first = g.S.Shelf.disk c.args.shelf.now in
    let mid = g.S.Shelf.disk c.bodies.shelf in
    let new = g.S.Shelf.disk c.next.new.shelf in
    let so_far = c.bodies.invariant.0 in
    let old = c.bodies.reader in
    let body = c.in-Some.body.items in (
      goes_more c.args.head.now first mid new (g.F.Fold.holds c.args.fold.now) (g.F.Fold.holds c.bodies.fold) (g.F.Fold.holds c.body.new.self) old c.next.new.self body so_far c.next.ensures.kept c.next.ensures.id c.next.ensures.seen c.next.ensures.any_moment (subst (λ o. IfSome o (λ body. reader_at c.next.new.self ≡ reader_at old + 5 + length body.items)) c.in-Some.is c.in_ok-body.ensures.at)
          (λ bodies h read. subst (λ o. IsNext old c.next.new.self mid.seen bodies (option_map (λ body. body.items) o)) c.in-Some.is (c.in_ok-body.ensures.next bodies h read))
          (λ logs log held few. subst (λ (l : List ℕ). g.F.Fold.holds c.body.new.self (logs ++ grown log l ∷ [])) c.deref.ensures.value (c.in_ok-body-2.ensures.taken logs log held (subst (λ (l : List ℕ). FitsFile (grown log l)) (sym c.deref.ensures.value) few) cc)),
      c.body.ensures.rule ∙ c.bodies.invariant.1,
    )
