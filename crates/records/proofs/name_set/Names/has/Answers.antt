use Rattle.std.proofs.Common.{◌∙◌, sym}
use Rattle.records.proofs.Present.{found_among}
use Rattle.records.proofs.name_set.Names.has.Goals as goal

pub returns : goal.returns
returns c = λ kept are. c.is_some.ensures ∙ found_among c.args.name.now _ c.place_of.result c.place_of.ensures ∙ sym (are.there c.args.name.now)
