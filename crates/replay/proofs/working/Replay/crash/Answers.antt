use Rattle.std.proofs.Common.{refl, sym, ◌∙◌, inl, inr}
use Rattle.disk.specs.declared.crash_shelf.Fuse.TheVariants as fuse
use Rattle.node.specs.Driving.{shelf_in, segments_known}
use Rattle.replay.specs.contracts.working.ReplayLiving.TheImpl.{lives-value}
use Rattle.replay.specs.declared.event.Task.TheVariants as task
use Rattle.replay.specs.declared.working.Replay.{Replay}
use Rattle.replay.specs.Replay.{Moment}
use Rattle.replay.proofs.Worked.{task_told, lays, lays_none, is_ok_so, is_err_so}
use Rattle.replay.proofs.working.Replay.crash.Goals as goal

pub returns-then-is_err-clause-works : goal.returns-then-is_err-clause-works
returns-then-is_err-clause-works g c = λ old lives.
    let arm = c.arm.ensures in
    let device = shelf_in c.arm.new.self in
    let refused = is_err_so c.arm.result (sym c.is_err.ensures.value ∙ c.if-is_err.true) arm.refused in
    let none = lays_none old (shelf_in c.args.self.machine) device lives.0 arm.same refused in
    task_told {R = Replay} lives-value.it c.args.self.line old (task.Crash c.args.form) _ (record { life = old.life; device = device; known = old.known }) _ _ _ c.tell.result
    c.tell.ensures.writes c.tell.ensures.same (inr (none, refl)) (refl, arm.holds old.life lives.1, lives.2 ∙ sym arm.known)

pub returns-clause-works : goal.returns-clause-works
returns-clause-works g c = λ old lives.
    let arm = c.arm.ensures in
    let device = shelf_in c.arm.new.self in
    let ordered : Moment = record { life = old.life; device = device; known = old.known } in
    let armed = is_ok_so c.arm.result (sym c.is_err.ensures.value ∙ c.if-is_err.false) arm.armed in
    let laid = lays old (shelf_in c.args.self.machine) device lives.0 arm.same (fuse.CrashAs c.args.form) armed in
    let s = c.crash-machine.ensures.step old.life (arm.holds old.life lives.1) in
    task_told {R = Replay} lives-value.it c.args.self.line old (task.Crash c.args.form) _ (record { life = s.0; device = shelf_in c.crash-machine.result.0; known = segments_known c.crash-machine.result.0 }) _ _ _ c.print.result
    c.print.ensures.writes c.print.ensures.same (inl (ordered, laid, record { output = c.crash-machine.result.1; step = s.1; cut = c.crash-machine.ensures.cut; printed = refl })) (refl, s.2, refl)
