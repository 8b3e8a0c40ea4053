use Rattle.std.proofs.Common.{sym}
use Rattle.std.proofs.lemmas.Result.{err_from_is_err_and}
use Rattle.proto_fields.proofs.Shorter.{field_at-shorter}
use Rattle.commands.proofs.Walk.{read-fault}
use Rattle.commands.proofs.Kept.{keeping-this, keeping-other, keeping-all}
use Rattle.commands.proofs.message.Message.read.Goals.{then-number-held, else-number-held}
use Rattle.commands.proofs.message.Message.read.Goals as goal

pub returns-in_err-field : goal.returns-in_err-field
returns-in_err-field c =
    let p = err_from_is_err_and c.from_residual.result c.from_residual.ensures.1 in
    rw (p.1, p.2) (sym (read-fault _ c.fields.invariant.read c.in_err-field.ensures.0 c.in_err-field.ensures.1))

pub fields-smaller-after-number-held : goal.fields-smaller-after-number-held
fields-smaller-after-number-held c = let found = rw c.in-Some.is at c.in_ok-field.ensures in field_at-shorter _ _ found

pub fields-preserved-after-number-held : goal.fields-preserved-after-number-held
fields-preserved-after-number-held c =
    let found = rw c.in-Some.is at c.in_ok-field.ensures in
    elim c.if-number-held.branch [
      | then-number-held w ↦ rw w.held-is (keeping-this _ _ _ c.fields.invariant found w.if-number-held.true w.with.ensures)
      | else-number-held w ↦ rw w.held-is (keeping-other _ _ c.fields.invariant found w.if-number-held.false)
    ]

pub fields-smaller : goal.fields-smaller
fields-smaller c = let found = rw c.in-Some.is at c.in_ok-field.ensures in field_at-shorter _ _ found

pub fields-preserved : goal.fields-preserved
fields-preserved c =
    let found = rw c.in-Some.is at c.in_ok-field.ensures in
    elim c.if-number-held.branch [
      | then-number-held w ↦ rw w.held-is (keeping-this _ _ _ c.fields.invariant found w.if-number-held.true w.with.ensures)
      | else-number-held w ↦ rw w.held-is (keeping-other _ _ c.fields.invariant found w.if-number-held.false)
    ]

pub invariant_of-result : goal.invariant_of-result
invariant_of-result c =
    let none = rw c.in_default.is at c.in_ok-field.ensures in keeping-all c.fields.invariant none.0

pub returns : goal.returns
returns c =
    let none = rw c.in_default.is at c.in_ok-field.ensures in
    let read = keeping-all c.fields.invariant none.0 in
    sym read.fields
