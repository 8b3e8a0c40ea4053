use Rattle.names.proofs.Parts.{both_ways}
use Rattle.names.proofs.law.topic_names_are_three_parts.Goals as goal

pub returns : goal.returns
returns c = both_ways
