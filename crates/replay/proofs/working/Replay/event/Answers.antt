use Rattle.std.proofs.Common.{◌≡◌, ℕ, true, refl, sym, subst}
use Rattle.disk_mem.specs.declared.shelf.MemShelf.{MemShelf}
use Rattle.disk_mem.specs.Device.{disk_of}
use Rattle.node.specs.Driving.{KnowsOn, segments_known, shelf_in}
use Rattle.replay.specs.contracts.working.ReplayLiving.TheImpl.{lives-value}
use Rattle.replay.specs.declared.event.Task.TheVariants as task
use Rattle.replay.specs.declared.working.Replay.{Replay}
use Rattle.replay.specs.Replay.{segments_laid}
use Rattle.replay.proofs.Worked.{task_told}
use Rattle.replay.proofs.working.Replay.event.Goals as goal

pub returns-clause-works : goal.returns-clause-works
returns-clause-works g c = λ old lives.
    let s = c.event-output.ensures.step old.life lives.1 in
    let now = segments_known c.event-output.new.self in
    let known : old.life.up ≡ true → KnowsOn segments_laid (disk_of old.device).seen old.life.state s.0.state old.known now = λ up.
    subst (λ (d : MemShelf). KnowsOn segments_laid (disk_of d).seen old.life.state s.0.state old.known now) (sym lives.0)
    (subst (λ (k : ℕ → ℕ). KnowsOn segments_laid (disk_of (shelf_in c.args.self.machine)).seen old.life.state s.0.state k now) (sym lives.2) (c.event-output.ensures.known old.life s.0 lives.1 s.2 up)) in
    task_told {R = Replay} lives-value.it c.args.self.line old (task.Event c.args.event) _ (record { life = s.0; device = shelf_in c.event-output.new.self; known = now }) _ _ _ c.print.result
    c.print.ensures.writes c.print.ensures.same (record { output = c.event-output.result; step = s.1; known = known; printed = refl }) (refl, s.2, refl)
