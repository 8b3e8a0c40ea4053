use Rattle.std.proofs.Common.{◌<◌, sym, rules}
use Rattle.std.proofs.lemmas.Bool.{false≢true}
use Rattle.bells.proofs.Marked.{marked_one}
use Rattle.bells.proofs.marks.Marks.add.Goals as goal

pub invariant_of-self : goal.invariant_of-self
invariant_of-self c =
    let small : c.from.result < 256 = search rules in
    ((λ e. absurd (false≢true (sym e))), λ e. marked_one c.self.inside.places c.from.result small e)
