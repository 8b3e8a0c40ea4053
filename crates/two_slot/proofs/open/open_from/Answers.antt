use Rattle.std.proofs.Common.{inl, inr, [], refl, sym, ◌∙◌, subst}
use Rattle.std.proofs.lemmas.Result.{err_from_is_err_and}
use Rattle.disk.specs.declared.file_id.FileId.{FileId}
use Rattle.gated_log.specs.declared.head.LogHead.{LogHead}
use Rattle.gated_log.specs.declared.refusal.Refusal.{Refusal}
use Rattle.gated_log.specs.Folds.{behind, IsFault}
use Rattle.gated_log.specs.Head.{HasHead}
use Rattle.two_slot.specs.declared.choice.Choice.TheVariants.{Refuse, Read, ReadZero}
use Rattle.two_slot.specs.Faults.{IsSlotsFault}
use Rattle.two_slot.proofs.Opening.{says_of, fault_of, Told, told_of, head_there, read_settled}
use Rattle.two_slot.proofs.open.open_from.Goals as goal

pub returns-in-Refuse-clause-refused : goal.returns-in-Refuse-clause-refused
returns-in-Refuse-clause-refused g c = λ honest are held.
    let disk = g.S.Shelf.disk c.args.shelf.now in
    let form = behind (g.F.Fold.form (g.F.Fold.rule c.args.fold.now)) [] in
    let by = Refuse c.in-Refuse.slot c.in-Refuse.fault in
    let says = says_of c.args.heads.now disk c.header_of.result c.header_of-2.result by are c.header_of.ensures c.header_of-2.ensures (sym c.in-Refuse.is ∙ c.choose.ensures) in
    inr (inr (fault_of form c.args.heads.now.topic disk c.header_of.result c.header_of-2.result by c.refusal_of.result says c.refusal_of.ensures))

pub returns-in_err-log-in-Read-clause-refused : goal.returns-in_err-log-in-Read-clause-refused
returns-in_err-log-in-Read-clause-refused g c = λ honest are held.
    let disk = g.S.Shelf.disk c.args.shelf.now in
    let heads = c.args.heads.now in
    let form = behind (g.F.Fold.form (g.F.Fold.rule c.args.fold.now)) [] in
    let by = Read c.in-Read.slot c.in-Read.spare in
    let says = says_of heads disk c.header_of.result c.header_of-2.result by are c.header_of.ensures c.header_of-2.ensures (sym c.in-Read.is ∙ c.choose.ensures) in
    let has = subst (λ (h : LogHead). HasHead h disk) (sym c.head.ensures.head) (head_there heads disk c.in-Read.slot are) in
    let p = err_from_is_err_and c.from_residual.result c.from_residual.ensures.1 in
    let e = c.in_err-log-in-Read.field-0.0 in
    let told = told_of (λ e. IsFault form c.head.result.now.file (disk.seen c.head.result.now.file) e) (λ e. IsSlotsFault form heads.topic disk.seen e) e
    (λ is. fault_of form heads.topic disk c.header_of.result c.header_of-2.result by e says (subst (λ (f : FileId). IsFault form f (disk.seen f) e) c.head.ensures.file is))
    (c.in_err-log-in-Read.ensures.refused [] honest has held) in
    rw (p.1) (subst (λ (e : Refusal). Told (λ e. IsSlotsFault form heads.topic disk.seen e) e) (sym p.2) told)

pub returns-in_ok-log-in-Read-clause-opened : goal.returns-in_ok-log-in-Read-clause-opened
returns-in_ok-log-in-Read-clause-opened g c = λ honest are held.
    let disk = g.S.Shelf.disk c.args.shelf.now in
    let new = g.S.Shelf.disk c.open_from.new.shelf in
    let heads = c.args.heads.now in
    let by = Read c.in-Read.slot c.in-Read.spare in
    let says = says_of heads disk c.header_of.result c.header_of-2.result by are c.header_of.ensures c.header_of-2.ensures (sym c.in-Read.is ∙ c.choose.ensures) in
    let has = subst (λ (h : LogHead). HasHead h disk) (sym c.head.ensures.head) (head_there heads disk c.in-Read.slot are) in
    let opened = c.in_ok-log-in-Read.ensures.opened [] held in
    let settled = opened.1 honest has in (
      opened.0,
      read_settled _ heads.topic c.in-Read.slot c.in-Read.spare (record { topic_is = refl; slot_is = refl; spare_is = refl }) disk new c.header_of.result c.header_of-2.result says opened.0
          (c.is_failed-failed.ensures ∙ settled.now.works) (c.open_from.ensures.seen honest) (c.open_from.ensures.any_moment honest) settled,
      opened.2,
    )

pub returns-in_err-open_from-in-ReadZero-clause-refused : goal.returns-in_err-open_from-in-ReadZero-clause-refused
returns-in_err-open_from-in-ReadZero-clause-refused g c = λ honest are held.
    let disk = g.S.Shelf.disk c.args.shelf.now in
    let heads = c.args.heads.now in
    let form = behind (g.F.Fold.form (g.F.Fold.rule c.args.fold.now)) [] in
    let by = ReadZero c.in-ReadZero.fault in
    let says = says_of heads disk c.header_of.result c.header_of-2.result by are c.header_of.ensures c.header_of-2.ensures (sym c.in-ReadZero.is ∙ c.choose.ensures) in
    let p = err_from_is_err_and c.from_residual-in_err-open_from-in-ReadZero.result c.from_residual-in_err-open_from-in-ReadZero.ensures.1 in
    let e = c.in_err-open_from-in-ReadZero.field-0.0 in
    let told = told_of (λ e. IsFault form heads.zero.file (disk.seen heads.zero.file) e) (λ e. IsSlotsFault form heads.topic disk.seen e) e
    (λ is. fault_of form heads.topic disk c.header_of.result c.header_of-2.result by e says (inl (subst (λ (f : FileId). IsFault form f (disk.seen f) e) heads.zero_is is)))
    (c.in_err-open_from-in-ReadZero.ensures.refused [] honest are.zero held) in
    rw (p.1) (subst (λ (e : Refusal). Told (λ e. IsSlotsFault form heads.topic disk.seen e) e) (sym p.2) told)
