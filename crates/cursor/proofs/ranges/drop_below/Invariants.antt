use Rattle.std.proofs.Common.{◌≡◌, ℕ, ◌||◌, nat_lt, length}
use Rattle.cursor.specs.Ranged.{in_ranges, AreApart}
use Rattle.cursor.proofs.ranges.drop_below.Given as goal

abbrev pub invariant-loop-first : goal.invariant-loop-first
invariant-loop-first l = record {
  apart : AreApart l.after.entries;
  same : (q : ℕ) → (nat_lt q l.end || in_ranges l.after.entries q) ≡ (nat_lt q l.end || in_ranges l.initial.after.entries q);
}

abbrev pub decreases-loop-first : goal.decreases-loop-first
decreases-loop-first l = length l.after.entries
