use Rattle.std.proofs.Common.{refl, sym, subst, List, ℕ}
use Rattle.std.proofs.lemmas.Result.{err_from_is_err_and}
use Rattle.disk_mem.specs.declared.shelf.MemShelf.{MemShelf}
use Rattle.disk_mem.specs.Device.{disk_of}
use Rattle.node.specs.Driving.{shelf_in}
use Rattle.replay.specs.Replay.{StatusOf}
use Rattle.replay.proofs.Worked.{task_fails, task_forgets}
use Rattle.replay.proofs.working.Replay.status.Goals as goal

pub returns-in_err-text-clause-works : goal.returns-in_err-text-clause-works
returns-in_err-text-clause-works g c = λ old lives.
    let p = err_from_is_err_and c.from_residual.result c.from_residual.ensures.1 in
    rw (p.1, p.2) (task_forgets _ c.args.self.line old _ _)

pub returns-in_err-write_whole-clause-works : goal.returns-in_err-write_whole-clause-works
returns-in_err-write_whole-clause-works g c = λ old lives.
    let p = err_from_is_err_and c.from_residual-in_err-write_whole.result c.from_residual-in_err-write_whole.ensures.1 in
    let known = subst (λ (k : ℕ → ℕ). StatusOf old.life.up old.life.state (disk_of (shelf_in c.args.self.machine)).seen k c.in_ok-text.text.items) (sym lives.2) (c.in_ok-text.ensures old.life lives.1) in
    let at = subst (λ (d : MemShelf). StatusOf old.life.up old.life.state (disk_of d).seen old.known c.in_ok-text.text.items) (sym lives.0) known in
    let told = subst (λ (t : List ℕ). StatusOf old.life.up old.life.state (disk_of old.device).seen old.known t) (sym c.as_slice.ensures.value) at in
    rw (p.1, p.2) (task_fails _ c.args.self.line old _ c.as_slice.result.now old _ _ c.in_err-write_whole.field-0.0 (record { same = refl; printed = told }) c.in_err-write_whole.ensures.writes)

pub returns-clause-works : goal.returns-clause-works
returns-clause-works g c = λ old lives.
    let known = subst (λ (k : ℕ → ℕ). StatusOf old.life.up old.life.state (disk_of (shelf_in c.args.self.machine)).seen k c.in_ok-text.text.items) (sym lives.2) (c.in_ok-text.ensures old.life lives.1) in
    let at = subst (λ (d : MemShelf). StatusOf old.life.up old.life.state (disk_of d).seen old.known c.in_ok-text.text.items) (sym lives.0) known in
    let told = subst (λ (t : List ℕ). StatusOf old.life.up old.life.state (disk_of old.device).seen old.known t) (sym c.as_slice.ensures.value) at in record {
      text = c.as_slice.result.now;
      new = old;
      step = record { same = refl; printed = told };
      writes = c.in_ok-write_whole.ensures.writes;
      goes_on = lives;
    }
