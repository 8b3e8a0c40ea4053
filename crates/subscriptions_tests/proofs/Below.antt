-- What is open where all below a position is acknowledged, and nothing is held.
use Rattle.std.proofs.Common.{ℕ, ◌<◌, ◌≤◌, ap, arith}
use Rattle.std.proofs.lemmas.Bool.Decides.{nat_tests}
use Rattle.std.specs.FinMap as map
use Rattle.std.specs.Ordering.{nat_cmp}
use Rattle.cursor.specs.Positions.{below, has_below}
use Rattle.holds.specs.Deliveries.{holder_in}
use Rattle.holds.specs.Backlog.{IsOpenAt}

pub is_open : (first committed i : ℕ) → first ≤ i → i < committed → IsOpenAt committed (below first) map.empty i
is_open first committed i low high = record {
  is_committed = high;
  is_unacked = let h = has_below first i in grind (arith, nat_tests);
  is_free = ap holder_in (map.get-empty nat_cmp i);
}

pub is_behind : (first committed i : ℕ) → IsOpenAt committed (below first) map.empty i → first ≤ i
is_behind first committed i here = let h = has_below first i in let m = here.is_unacked in grind (arith, nat_tests)
