use Rattle.std.proofs.Common.{◌≡◌, false, take}
use Rattle.records.specs.Present.{is_among, texts}
use Rattle.records.proofs.name_set.Names.place_of.Given as goal

abbrev pub invariant-loop-place : goal.invariant-loop-place
invariant-loop-place l = is_among l.name (take l.place (texts l.self)) ≡ false
