use Rattle.managed_ledger.specs.Laid.{full_after}
use Rattle.managed_ledger.proofs.law.closed_segments_are_full.Goals as goal

pub returns : goal.returns
returns c = full_after
