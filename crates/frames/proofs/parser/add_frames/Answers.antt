use Rattle.std.proofs.lemmas.Result.{err_from_is_err_and}
use Rattle.frames.proofs.Steps.{midway-step, midway-fault}
use Rattle.frames.proofs.parser.add_frames.Goals as goal

pub returns-in_err-taken-clause-err : goal.returns-in_err-taken-clause-err
returns-in_err-taken-clause-err c =
    let p = err_from_is_err_and c.from_residual.result c.from_residual.ensures.1 in
    rw (p.1, p.2) (midway-fault _ c.take_bytes.new.unfinished.items _ c.pieces.invariant c.in_err-taken.ensures)

pub pieces-preserved : goal.pieces-preserved
pieces-preserved c =
    rw c.split_at.ensures.back (midway-step _ _ _ c.pieces.invariant c.in_ok-taken.ensures)
