use Rattle.std.proofs.Common.{take, length-drop, arith}
use Rattle.std.proofs.lemmas.Result.{err_from_is_err_and}
use Rattle.replay.proofs.Written.{written_more, written_same, take-rest, IsFront-take}
use Rattle.replay.proofs.sink.write_whole.Goals as goal

pub loop-preserved : goal.loop-preserved
loop-preserved g c =
    let bytes = c.args.bytes.now in
    let tail = take-rest c.loop.written bytes in (
      omega (arith, rw tail at c.in_ok-written.ensures.bound, length-drop c.loop.written bytes),
      written_more _ _ _ c.loop.written c.in_ok-written.field-0 bytes c.loop.invariant.1 (rw tail at c.in_ok-written.ensures.ok),
    )

pub returns-in_err-written : goal.returns-in_err-written
returns-in_err-written g c =
    let p = err_from_is_err_and c.from_residual.result c.from_residual.ensures.1 in
    let fault = c.in_err-written.ensures.err in
    rw (p.1, p.2, fault.0) (
      take c.loop.written c.args.bytes.now,
      IsFront-take c.loop.written c.args.bytes.now,
      written_same _ _ _ c.loop.written c.args.bytes.now c.loop.invariant.1 fault.1,
    )

pub returns : goal.returns
returns g c = (take c.loop.written c.args.bytes.now, IsFront-take c.loop.written c.args.bytes.now, c.loop.invariant.1)
