use Rattle.std.proofs.Common.{List, Option, ◌∙◌, ap, codes}
use Rattle.std.specs.Prelude.{option_and_then}
use Rattle.clap.specs.Words.{Row, first_of, found_of}
use Rattle.clap.proofs.WalkLemmas.{first_value-rows}
use Rattle.pulsar_node.proofs.arguments.script_file.Goals as goal

pub returns : goal.returns
returns c =
    c.get_str.ensures
    ∙ first_value-rows (found_of c.in_ok-replay.replay.now) (codes "FILE")
    ∙ ap (λ (rows : Option (List Row)). option_and_then (λ r. first_of (codes "FILE") r) rows) c.in_ok-replay.ensures.rows
