use Rattle.std.proofs.Common.{◌≡◌, ◌∙◌, ap, sym, arith, get_or, bytes_eq, true, false, List}
use Rattle.records.proofs.Present.{Text, blank, found_text, none_further}
use Rattle.records.proofs.name_set.Names.place_of.Goals as goal

pub returns-then-eq : goal.returns-then-eq
returns-then-eq c =
    let is : bytes_eq (get_or c.args.self.now.names.items c.loop-place.place blank).now c.args.name.now ≡ true =
    ap (λ (l : List Text). bytes_eq (get_or l c.loop-place.place blank).now c.args.name.now) (sym c.deref.ensures.0) ∙ sym c.eq.ensures ∙ c.if-eq.true in
    found_text c.args.self.now.names.items c.loop-place.place c.args.name.now (omega (arith, c.loop-place-test.true, c.len-place-end.ensures.value)) is

pub loop-place-preserved : goal.loop-place-preserved
loop-place-preserved c =
    let is : bytes_eq (get_or c.args.self.now.names.items c.loop-place.place blank).now c.args.name.now ≡ false =
    ap (λ (l : List Text). bytes_eq (get_or l c.loop-place.place blank).now c.args.name.now) (sym c.deref.ensures.0) ∙ sym c.eq.ensures ∙ c.if-eq.false in
    none_further c.args.self.now.names.items c.loop-place.place c.args.name.now (omega (arith, c.loop-place-test.true, c.len-place-end.ensures.value)) is c.loop-place.invariant
