-- Maps from the names of subscriptions to the sets of their acknowledged positions.
use Rattle.std.specs.Prelude.{◌≡◌, ℕ, ◌≤◌, true, List, map as each, String}
use Rattle.std.specs.Option.{is_some}
use Rattle.std.specs.String.{string_bytes}
use Rattle.std.specs.Ordering.{nat_cmp}
use Rattle.std.specs.Coded.{Coded, coded_ℕ, coded_list}
use Rattle.std.specs.Cmp.Lexicographic.{slice_cmp}
use Rattle.std.specs.FinMap as map
use Rattle.cursor.specs.Positions.{Positions, positions_code}
use Rattle.records.specs.Names.{is_subscription_name}

-- each name's acknowledged positions
abbrev pub Kept : Type 0
Kept = map.FinMap (slice_cmp nat_cmp) Positions

abbrev pub kept_code : Coded Kept
kept_code = map.code (coded_list coded_ℕ) positions_code

-- the names as bytes
abbrev pub by_bytes : {X : Type 0} → List (String X × Positions) → List (List ℕ × Positions)
by_bytes entries = each (λ e. (string_bytes e.0, e.1)) entries

-- the map with these entries
abbrev pub map_of : {X : Type 0} → List (String X × Positions) → Kept
map_of entries = map.from_entries (by_bytes entries)

-- at most 64 subscriptions, and each has a name
pub record IsSound (kept : Kept) : Type 0 where
  pub few : map.len kept ≤ 64
  pub named : (q : List ℕ) → is_some (map.get kept q) ≡ true → is_subscription_name q ≡ true
