use Rattle.std.proofs.Common.{◌≡◌, [], refl, rules}
use Rattle.subscriptions.specs.State.{Subscriptions}
use Rattle.subscriptions.proofs.Limits.{limits_none}
use Rattle.subscriptions.proofs.Passed.{hints_opened}
use Rattle.subscriptions.proofs.Standing.{places_none}
use Rattle.subscriptions.proofs.Noted.{notes_none}
use Rattle.subscriptions.proofs.table.Subscriptions.new.Goals as goal

pub invariant_of-result : goal.invariant_of-result
invariant_of-result g c =
    let t : Subscriptions = record { subs = c.new.result.items; changes = c.new-2.result.items; slots = c.new-3.result.slots; messages = c.new-3.result.messages } in
    let nobody : t.subs ≡ [] = search rules in
    let cleared : c.new-4.result.items ≡ [] = search rules in
    (limits_none _ _ _ _ nobody (search rules), hints_opened t c.new-4.result.items (rw (nobody, cleared) refl) (rw cleared tt), rw nobody (places_none c.new-5.result c.new-5.ensures), notes_none t.subs c.new-6.result c.new-6.ensures)
