use Rattle.std.proofs.Common.{List, Ok, Err, subst}
use Rattle.std.proofs.lemmas.Result.{err_from_is_err_and}
use Rattle.script.specs.declared.line.Line.{Line}
use Rattle.replay.specs.declared.working.Replay.{Replay}
use Rattle.replay.specs.contracts.working.ReplayLiving.TheImpl.{lives-value}
use Rattle.replay.specs.Replay.{WorksLines}
use Rattle.replay.proofs.Worked.{begun_fails, run_fails, run_finished}
use Rattle.replay.proofs.running.replay_script.Goals as goal

pub returns-in_err-replay-clause-replays : goal.returns-in_err-replay-clause-replays
returns-in_err-replay-clause-replays g c =
    let p = err_from_is_err_and c.from_residual-in_err-replay.result c.from_residual-in_err-replay.ensures.1 in
    rw (p.1, p.2) (begun_fails c.args.bytes.now c.in_ok-per_ledger.field-0 c.in_ok-per_ledger.ensures.found (g.W.Sink.contents c.args.sink.now)
    {R = Replay} lives-value.it (g.W.Sink.contents c.begin.new.sink) c.in_err-replay.field-0.0 c.in_err-replay.ensures.begun)

pub returns-in_err-work_lines-clause-replays : goal.returns-in_err-work_lines-clause-replays
returns-in_err-work_lines-clause-replays g c =
    let b = c.in_ok-replay.ensures.begun in
    let p = err_from_is_err_and c.from_residual-in_err-work_lines.result c.from_residual-in_err-work_lines.ensures.1 in
    let fault = c.in_err-work_lines.field-0.0 in
    let worked = subst (λ (ls : List Line). WorksLines {X = Unit {0}} 2 b.1 ls (g.W.Sink.contents c.begin.new.sink) (g.W.Sink.contents c.work_lines.new.sink) (Err fault)) c.into_vec.ensures (c.in_err-work_lines.ensures.works b.1 b.3) in
    rw (p.1, p.2) (run_fails c.args.bytes.now c.in_ok-per_ledger.field-0 c.in_ok-per_ledger.ensures.found (g.W.Sink.contents c.args.sink.now)
    (g.W.Sink.contents c.begin.new.sink) (g.W.Sink.contents c.work_lines.new.sink) b.0 b.1 fault b.2 b.4 worked)

pub returns-clause-replays : goal.returns-clause-replays
returns-clause-replays g c =
    let b = c.in_ok-replay.ensures.begun in
    let worked = subst (λ (ls : List Line). WorksLines {X = Unit {0}} 2 b.1 ls (g.W.Sink.contents c.begin.new.sink) (g.W.Sink.contents c.work_lines.new.sink) (Ok tt)) c.into_vec.ensures (c.in_ok-work_lines.ensures.works b.1 b.3) in
    run_finished c.args.bytes.now c.in_ok-per_ledger.field-0 c.in_ok-per_ledger.ensures.found (g.W.Sink.contents c.args.sink.now)
    (g.W.Sink.contents c.begin.new.sink) (g.W.Sink.contents c.work_lines.new.sink) (g.W.Sink.contents c.finish.new.self) b.0 worked.0 b.1 worked.1 b.2 b.4
    worked.2 worked.3 c.finish.ensures.kept c.finish.result c.finish.ensures.fault
