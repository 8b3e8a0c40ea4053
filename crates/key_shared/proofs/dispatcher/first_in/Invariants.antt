use Rattle.std.proofs.Common.{ℕ, ◌<◌, ◌≤◌, ◌-◌, ◌^◌}
use Rattle.holds.specs.Backlog.{IsOpenIn}
use Rattle.key_shared.proofs.dispatcher.first_in.Given as goal

abbrev pub invariant-loop-position : goal.invariant-loop-position
invariant-loop-position g l = (l.start ≤ l.from) × ((i : ℕ) → l.start ≤ i → i < l.from → IsOpenIn (g.P.Pending.backlog l.pending) l.ranges i → ⊥)

abbrev pub decreases-loop-position : goal.decreases-loop-position
decreases-loop-position g l = 2 ^ 62 - l.from
