use Rattle.std.proofs.Common.{◌∙◌, sym, refl}
use Rattle.std.proofs.lemmas.Result.{err_from_is_err_and}
use Rattle.proto_fields.proofs.Shorter.{field_at-shorter}
use Rattle.commands.proofs.Walk.{searched-other, searched-this, searched-fault, searched-all, search-has}
use Rattle.commands.proofs.message.has_number.Goals as goal

pub returns-in_err-field : goal.returns-in_err-field
returns-in_err-field c =
    let p = err_from_is_err_and c.from_residual.result c.from_residual.ensures.1 in
    rw (p.1, p.2) (sym (searched-fault _ c.fields.invariant c.in_err-field.ensures.0 c.in_err-field.ensures.1) ∙ search-has c.args.number c.args.bytes.now)

pub fields-smaller-then-field-number : goal.fields-smaller-then-field-number
fields-smaller-then-field-number c = let found = rw c.in-Some.is at c.in_ok-field.ensures in field_at-shorter _ _ found

pub fields-preserved-then-field-number : goal.fields-preserved-then-field-number
fields-preserved-then-field-number c =
    let found = rw c.in-Some.is at c.in_ok-field.ensures in
    searched-other _ _ c.fields.invariant found c.if-field-number.true

pub fields-smaller-else-field-number : goal.fields-smaller-else-field-number
fields-smaller-else-field-number c = let found = rw c.in-Some.is at c.in_ok-field.ensures in field_at-shorter _ _ found

pub fields-preserved-else-field-number : goal.fields-preserved-else-field-number
fields-preserved-else-field-number c =
    let found = rw c.in-Some.is at c.in_ok-field.ensures in
    searched-this _ _ _ c.fields.invariant found c.if-field-number.false refl

pub fields-smaller : goal.fields-smaller
fields-smaller c = let found = rw c.in-Some.is at c.in_ok-field.ensures in field_at-shorter _ _ found

pub fields-preserved : goal.fields-preserved
fields-preserved c =
    let found = rw c.in-Some.is at c.in_ok-field.ensures in
    searched-this _ _ _ c.fields.invariant found c.if-field-number.false refl

pub returns : goal.returns
returns c =
    let none = rw c.in_default.is at c.in_ok-field.ensures in
    sym (searched-all c.fields.invariant none.0) ∙ search-has c.args.number c.args.bytes.now
