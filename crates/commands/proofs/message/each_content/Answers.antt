use Rattle.std.proofs.Common.{◌∙◌, sym}
use Rattle.std.proofs.lemmas.Result.{err_from_is_err_and}
use Rattle.proto_fields.proofs.Shorter.{field_at-shorter}
use Rattle.commands.proofs.Walk.{content_of-err, searched-other, searched-this, searched-wrong, searched-fault, searched-all, search-parts}
use Rattle.commands.proofs.message.each_content.Goals as goal

pub returns-in_err-field : goal.returns-in_err-field
returns-in_err-field c =
    let p = err_from_is_err_and c.from_residual.result c.from_residual.ensures.1 in
    rw (p.1, p.2) (sym (search-parts c.args.number c.args.bytes.now) ∙ searched-fault _ c.fields.invariant c.in_err-field.ensures.0 c.in_err-field.ensures.1)

pub fields-smaller-then-field-number : goal.fields-smaller-then-field-number
fields-smaller-then-field-number c = let found = rw c.in-Some.is at c.in_ok-field.ensures in field_at-shorter _ _ found

pub fields-preserved-then-field-number : goal.fields-preserved-then-field-number
fields-preserved-then-field-number c =
    let found = rw c.in-Some.is at c.in_ok-field.ensures in
    searched-other _ _ c.fields.invariant found c.if-field-number.true

pub returns-in_err-content_of : goal.returns-in_err-content_of
returns-in_err-content_of c =
    let found = rw c.in-Some.is at c.in_ok-field.ensures in
    let p = err_from_is_err_and c.from_residual-in_err-content_of.result c.from_residual-in_err-content_of.ensures.1 in
    let wrong = content_of-err _ _ c.in_err-content_of.ensures in
    rw (p.1, p.2, wrong) (sym (search-parts c.args.number c.args.bytes.now) ∙ searched-wrong _ _ c.fields.invariant found c.if-field-number.false (rw wrong at c.in_err-content_of.ensures))

pub fields-smaller-in_ok-push : goal.fields-smaller-in_ok-push
fields-smaller-in_ok-push c = let found = rw c.in-Some.is at c.in_ok-field.ensures in field_at-shorter _ _ found

pub fields-preserved-in_ok-push : goal.fields-preserved-in_ok-push
fields-preserved-in_ok-push c =
    let found = rw c.in-Some.is at c.in_ok-field.ensures in
    rw c.in_ok-push.ensures.items (searched-this _ _ _ c.fields.invariant found c.if-field-number.false c.in_ok-content_of.ensures)

pub returns : goal.returns
returns c =
    let none = rw c.in_default.is at c.in_ok-field.ensures in
    rw c.new.ensures (sym (search-parts c.args.number c.args.bytes.now) ∙ searched-all c.fields.invariant none.0)
