use Rattle.subscriptions.specs.State.{Subscriptions}
use Rattle.subscriptions.proofs.Limits.{limits_left}
use Rattle.subscriptions.proofs.Passed.{are_hints}
use Rattle.subscriptions.proofs.Standing.{places_left}
use Rattle.subscriptions.proofs.Noted.{notes_none}
use Rattle.subscriptions.proofs.table.Subscriptions.leave.Goals as goal

pub invariant_of-self : goal.invariant_of-self
invariant_of-self g c =
    let t : Subscriptions = record { subs = c.self.inside.subs.items; changes = c.self.inside.changes.items; slots = c.self.inside.marks.slots; messages = c.self.inside.marks.messages } in
    let n : Subscriptions = record t { subs = c.leave_all.new.subs.items } in
    (rw c.leave_all.ensures.left (limits_left t c.args.who c.self.invariant.0), are_hints n c.leave_all.new.hints.items (c.leave_all.ensures.hints t.slots c.self.invariant.1.each_one), rw c.leave_all.ensures.left (places_left t.subs c.self.inside.directory c.leave.new.self c.args.who c.leave.ensures c.self.invariant.2), notes_none c.leave_all.new.subs.items c.clear.new.self c.clear.ensures)
