use Rattle.std.proofs.Common.{◌≡◌, ◌^◌, drop}
use Rattle.records.specs.Records.{AreFormed, after_all}
use Rattle.records.proofs.kept.KeptSubscriptions.apply_all.Given as goal

abbrev pub invariant-loop-change : goal.invariant-loop-change
invariant-loop-change l = record {
  formed : AreFormed (2 ^ 62) l.self (drop l.change-index l.records);
  same : after_all (drop l.change-index l.records) l.self ≡ after_all l.records l.fn.self;
}
