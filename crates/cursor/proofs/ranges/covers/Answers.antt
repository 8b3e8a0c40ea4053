use Rattle.std.proofs.Common.{◌∙◌, ap, sym}
use Rattle.cursor.proofs.Behind.{covers_in, covers_apart}
use Rattle.cursor.proofs.ranges.covers.Goals as goal

pub returns-in-Some : goal.returns-in-Some
returns-in-Some c = ap (covers_in c.args.position) (sym c.in-Some.is ∙ c.range_behind.ensures) ∙ sym (covers_apart c.args.position c.args.after.now.entries c.requires.apart)

pub returns-in-None : goal.returns-in-None
returns-in-None c = ap (covers_in c.args.position) (sym c.in-None.is ∙ c.range_behind.ensures) ∙ sym (covers_apart c.args.position c.args.after.now.entries c.requires.apart)
