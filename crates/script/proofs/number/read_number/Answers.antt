use Rattle.std.proofs.Common.{sym, ◌∙◌}
use Rattle.script.proofs.Numbers.{number_of-no_first, number_of-plus, number_of-no_text, number_of-parse, get_or-first, err_fact, ok_fact}
use Rattle.script.proofs.number.read_number.Goals as goal

pub returns-in_err-first : goal.returns-in_err-first
returns-in_err-first c = c.from_residual.ensures ∙ sym (number_of-no_first c.args.text.now c.in_err-first.ensures.value)

pub returns-then-first-eq43 : goal.returns-then-first-eq43
returns-then-first-eq43 c =
    let first = get_or-first c.args.text.now c.in_ok-first.field-0.now c.in_ok-first.ensures.value in
    sym (number_of-plus c.args.text.now (first ∙ c.if-first-eq43.true))

pub returns-in_err-ok : goal.returns-in_err-ok
returns-in_err-ok c =
    let no_text = err_fact _ _ c.from_utf8.result c.in_err-ok.ensures.value c.from_utf8.ensures.cases in
    c.from_residual-in_err-ok.ensures ∙ sym (number_of-no_text c.args.text.now no_text.1.0)

pub returns : goal.returns
returns c =
    let first = get_or-first c.args.text.now c.in_ok-first.field-0.now c.in_ok-first.ensures.value in
    let same = ok_fact _ _ c.from_utf8.result c.in_ok-ok.field-0 c.in_ok-ok.ensures.value c.from_utf8.ensures.cases in
    c.ok-2.ensures.value ∙ number_of-parse c.args.text.now c.parse.result (rw same.0 at c.parse.ensures.value.0) (λ e. c.if-first-eq43.false (sym first ∙ e))
