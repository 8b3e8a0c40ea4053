-- A set of positions kept as a mark-delete and ranges after it. A range is the pair of its end, which isn't in it, and its start.
use Rattle.std.specs.Prelude.{◌≡◌, ℕ, ◌+◌, ◌-◌, ◌^◌, ◌<◌, ◌≤◌, Bool, false, ◌||◌, ◌&&◌, not, ◌==◌, cond, List, [], ◌∷◌, nat_lt, nat_le, Option, Some, None}
use Rattle.std.specs.FinSet as set
use Rattle.std.specs.Ordering.{nat_cmp}
use Rattle.std.specs.Option.{unwrap_or}
use Rattle.std.specs.List.{filter}
use Rattle.std.specs.Map.{lookup, remove_entry}
use Rattle.std.specs.BTreeMap.{is_at, insert_entry}
use Rattle.std.proofs.Common.{◌∙◌}
use Rattle.cursor.specs.Positions.{Positions, below, between, has_empty, has_union, has_below, has_between}

abbrev pub Ranges : Type 0
Ranges = List (ℕ × ℕ)

-- whether q lies in one of the ranges
abbrev pub in_ranges : Ranges → ℕ → Bool
in_ranges [] q = false
in_ranges (r ∷ rs) q = (nat_lt q r.0 && not (nat_lt q r.1)) || in_ranges rs q

-- the ranges follow the mark and each other, with a gap before each
abbrev pub IsApart : ℕ → Ranges → Type 0
IsApart mark [] = mark ≤ 2 ^ 62
IsApart mark (r ∷ rs) = (mark < r.1) × (r.1 < r.0) × IsApart r.0 rs

-- the ranges follow each other with gaps
abbrev pub AreApart : Ranges → Type 0
AreApart [] = Unit {0}
AreApart (r ∷ rs) = (r.1 < r.0) × IsApart r.0 rs

-- the ranges follow each other with gaps, and the first ends behind the mark
abbrev pub IsJoinable : ℕ → Ranges → Type 0
IsJoinable mark [] = mark ≤ 2 ^ 62
IsJoinable mark (r ∷ rs) = (mark < r.0) × (r.1 < r.0) × IsApart r.0 rs

-- the first range that ends behind p
abbrev pub behind : ℕ → Ranges → Option (ℕ × ℕ)
behind p [] = None
behind p (r ∷ rs) = cond (nat_lt p r.0) (Some r) (behind p rs)

-- where the run of p ends: with the next range, if that one begins right behind p
abbrev pub end_of : ℕ → Option (ℕ × ℕ) → ℕ
end_of p None = p + 1
end_of p (Some r) = cond (r.1 == p + 1) r.0 (p + 1)

-- the range of p and of the ranges that it touches
abbrev pub widened : ℕ → Ranges → ℕ × ℕ
widened p rs = (end_of p (behind p rs), unwrap_or (lookup (is_at (nat_cmp p)) rs) p)

-- the ranges with p, which none has
abbrev pub added : ℕ → Ranges → Ranges
added p rs = remove_entry (is_at (nat_cmp p)) (insert_entry nat_cmp rs (widened p rs).0 (widened p rs).1)

-- where the range from `first` on and before `end` begins and ends, with those that it touches: its end, and its start
abbrev pub start_of : ℕ → Option (ℕ × ℕ) → ℕ
start_of first None = first
start_of first (Some r) = cond (nat_lt r.1 first) r.1 first

abbrev pub last_of : ℕ → Option (ℕ × ℕ) → ℕ
last_of end None = end
last_of end (Some r) = cond (nat_le r.1 end) r.0 end

abbrev pub spread : ℕ → ℕ → Ranges → ℕ × ℕ
spread first end rs = (last_of end (behind (end - 1) rs), start_of first (behind (first - 1) rs))

-- the ranges with this one in the place of those that it touches
abbrev pub with_range : ℕ → ℕ × ℕ → Ranges → Ranges
with_range first range rs = filter (λ r. nat_lt r.0 first || nat_le range.0 r.0) (insert_entry nat_cmp rs range.0 range.1)

-- the ranges with the positions from `first` on and before `end`
abbrev pub joined : ℕ → ℕ → Ranges → Ranges
joined first end rs = with_range first (spread first end rs) rs

-- the positions of the ranges
abbrev covered : Ranges → Positions
covered [] = set.empty
covered (r ∷ rs) = set.union (between r.1 r.0) (covered rs)

-- the positions below the mark, and those of the ranges
unfoldable pub ranged : ℕ → Ranges → Positions
ranged mark rs = set.union (below mark) (covered rs)

has_covered : (rs : Ranges) (q : ℕ) → set.contains (covered rs) q ≡ in_ranges rs q
has_covered [] q = has_empty q
has_covered (r ∷ rs) q = has_union (between r.1 r.0) (covered rs) q ∙ (λ i. has_between r.1 r.0 q i || has_covered rs q i)

pub has_ranged : (mark : ℕ) (rs : Ranges) (q : ℕ) → set.contains (ranged mark rs) q ≡ (nat_lt q mark || in_ranges rs q)
unfolding ranged
has_ranged mark rs q = has_union (below mark) (covered rs) q ∙ (λ i. has_below mark q i || has_covered rs q i)
