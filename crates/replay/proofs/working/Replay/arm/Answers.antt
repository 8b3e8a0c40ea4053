use Rattle.std.proofs.Common.{refl, sym, ◌∙◌, inl, inr}
use Rattle.node.specs.Driving.{shelf_in}
use Rattle.replay.specs.contracts.working.ReplayLiving.TheImpl.{lives-value}
use Rattle.replay.specs.declared.event.Task.TheVariants as task
use Rattle.replay.specs.declared.working.Replay.{Replay}
use Rattle.replay.proofs.Worked.{task_told, lays, lays_none, is_ok_so, is_err_so}
use Rattle.replay.proofs.working.Replay.arm.Goals as goal

pub returns-then-is_err-clause-works : goal.returns-then-is_err-clause-works
returns-then-is_err-clause-works g c = λ old lives.
    let arm = c.arm.ensures in
    let device = shelf_in c.arm.new.self in
    let refused = is_err_so c.arm.result (sym c.is_err.ensures.value ∙ c.if-is_err.true) arm.refused in
    let none = lays_none old (shelf_in c.args.self.machine) device lives.0 arm.same refused in
    task_told {R = Replay} lives-value.it c.args.self.line old (task.Arm c.args.fuse) _ (record { life = old.life; device = device; known = old.known }) _ _ _ c.tell.result
    c.tell.ensures.writes c.tell.ensures.same (inr (none, refl)) (refl, arm.holds old.life lives.1, lives.2 ∙ sym arm.known)

pub returns-clause-works : goal.returns-clause-works
returns-clause-works g c = λ old lives.
    let arm = c.arm.ensures in
    let device = shelf_in c.arm.new.self in
    let armed = is_ok_so c.arm.result (sym c.is_err.ensures.value ∙ c.if-is_err.false) arm.armed in
    let laid = lays old (shelf_in c.args.self.machine) device lives.0 arm.same c.args.fuse armed in
    task_told {R = Replay} lives-value.it c.args.self.line old (task.Arm c.args.fuse) _ (record { life = old.life; device = device; known = old.known }) _ _ _ c.tell-2.result
    c.tell-2.ensures.writes c.tell-2.ensures.same (inl (laid, refl)) (refl, arm.holds old.life lives.1, lives.2 ∙ sym arm.known)
