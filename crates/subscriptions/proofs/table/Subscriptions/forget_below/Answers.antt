use Rattle.std.proofs.Common.{◌∙◌}
use Rattle.subscriptions.specs.State.{Subscriptions}
use Rattle.subscriptions.proofs.Passed.{hints_opened}
use Rattle.subscriptions.proofs.table.Subscriptions.forget_below.Goals as goal

pub invariant_of-self : goal.invariant_of-self
invariant_of-self g c =
    let t : Subscriptions = record { subs = c.self.inside.subs.items; changes = c.self.inside.changes.items; slots = c.forget_below.new.self.slots; messages = c.forget_below.new.self.messages } in (
      record { names = c.self.invariant.0.names; subscriptions = c.self.invariant.0.subscriptions; changes = c.self.invariant.0.changes },
      hints_opened t c.clear_all.new.hints.items (c.clear_all.ensures.same ∙ c.self.invariant.1.places) c.clear_all.ensures.empty,
      c.self.invariant.2,
      c.self.invariant.3,
    )

pub invariant_of-self-else-forget_below : goal.invariant_of-self-else-forget_below
invariant_of-self-else-forget_below g c =
    let same = c.forget_below.ensures.same c.if-forget_below.false in
    rw same (c.self.invariant.0, c.self.invariant.1, c.self.invariant.2, c.self.invariant.3)
