use Rattle.std.proofs.lemmas.Result.{err_from_is_err_and}
use Rattle.replay.proofs.Worked.{read_fails}
use Rattle.replay.proofs.running.replay.Goals as goal

pub returns-in_err-bytes-clause-replays : goal.returns-in_err-bytes-clause-replays
returns-in_err-bytes-clause-replays g c =
    let p = err_from_is_err_and c.from_residual.result c.from_residual.ensures.1 in
    rw (p.1, p.2) (read_fails (g.R.Source.remaining c.args.source.now) (g.W.Sink.contents c.args.sink.now) c.in_err-bytes.field-0.0 c.in_err-bytes.ensures.fault)
