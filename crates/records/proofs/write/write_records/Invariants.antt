use Rattle.std.proofs.Common.{◌≡◌, ◌∷◌, take}
use Rattle.std.specs.List.{flat_map}
use Rattle.records.specs.Bytes.{spelling}
use Rattle.records.proofs.write.write_records.Given as goal

abbrev pub invariant-loop-change : goal.invariant-loop-change
invariant-loop-change l = l.body.items ≡ 0 ∷ flat_map spelling (take l.change-index l.records)
