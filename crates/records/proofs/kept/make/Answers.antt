use Rattle.std.proofs.Common.{◌∙◌}
use Rattle.std.specs.FinMap as map
use Rattle.std.specs.String.{string_bytes}
use Rattle.records.specs.Maps.{map_of}
use Rattle.records.proofs.Maps.{inserted}
use Rattle.records.proofs.kept.make.Goals as goal

pub returns-clause-ok : goal.returns-clause-ok
returns-clause-ok c =
    inserted c.args.cursors.now c.insert.new.self (string_bytes c.in_ok-name.name) _ c.in_ok-insert.ensures.updates
    ∙ (λ i. map.insert (map_of c.args.cursors.now.entries) (c.in_ok-name.ensures.ok i) (c.in_ok-starting_at.ensures i))
