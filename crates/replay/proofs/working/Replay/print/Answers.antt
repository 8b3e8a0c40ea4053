use Rattle.std.proofs.lemmas.Result.{err_from_is_err_and}
use Rattle.replay.specs.declared.working.Replay.{Replay}
use Rattle.replay.proofs.Worked.{writes_fault}
use Rattle.replay.proofs.working.Replay.print.Goals as goal

pub returns-in_err-write_output-clause-writes : goal.returns-in_err-write_output-clause-writes
returns-in_err-write_output-clause-writes g c =
    let p = err_from_is_err_and c.from_residual.result c.from_residual.ensures.1 in
    rw (p.1, p.2) (writes_fault (Unit {0}) Replay _ _ _ c.in_err-write_output.field-0.0 c.in_err-write_output.ensures.writes)
