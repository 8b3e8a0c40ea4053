use Rattle.std.proofs.Common.{◌≡◌, [], ◌∷◌, rules}
use Rattle.subscriptions.specs.Marks.{marked}
use Rattle.subscriptions.specs.State.{Subscriptions}
use Rattle.subscriptions.proofs.Limits.{limits_marked}
use Rattle.subscriptions.proofs.Passed.{hints_marked}
use Rattle.subscriptions.proofs.table.Subscriptions.add_mark.Goals as goal

pub invariant_of-self-2 : goal.invariant_of-self-2
invariant_of-self-2 g c =
    let t : Subscriptions = record { subs = c.self.inside.subs.items; changes = c.self.inside.changes.items; slots = c.self.inside.marks.slots; messages = c.self.inside.marks.messages } in
    let pushed : c.push.new.self ≡ marked c.self.inside.marks c.args.slot c.args.messages = search rules in
    rw pushed (limits_marked t (c.args.slot ∷ []) (c.args.messages ∷ []) c.self.invariant.0, hints_marked t (c.args.slot ∷ []) (c.args.messages ∷ []) c.self.inside.hints.items c.self.invariant.1, c.self.invariant.2, c.self.invariant.3)
