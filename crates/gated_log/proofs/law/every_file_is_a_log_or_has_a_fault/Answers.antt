use Rattle.gated_log.proofs.Exists.{file_finds}
use Rattle.gated_log.proofs.law.every_file_is_a_log_or_has_a_fault.Goals as goal

pub returns : goal.returns
returns c = file_finds
