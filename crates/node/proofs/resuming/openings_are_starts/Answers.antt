use Rattle.node.proofs.Since.{crash_start, life_since, cut_life_since}
use Rattle.node.proofs.resuming.openings_are_starts.Goals as goal

pub returns : goal.returns
returns c = record { crash = crash_start; life = life_since; cut = cut_life_since }
