-- The names that are there, as records are gone over: of the map no more is needed to see whether they are of their form.
use Rattle.std.specs.Prelude.{◌≡◌, ℕ, Bool, false, List, [], ◌∷◌, length, map as each}
use Rattle.std.specs.List.{list_any}
use Rattle.std.specs.Ordering.{nat_cmp, eq_by_cmp}
use Rattle.std.specs.Cmp.Lexicographic.{slice_cmp}
use Rattle.std.specs.FinMap as map
use Rattle.records.specs.declared.name_set.Names.{Names}
use Rattle.records.specs.Maps.{Kept}

abbrev pub texts : Names → List (List ℕ)
texts names = each (λ name. name.now) names.names.items

abbrev pub is_among : List ℕ → List (List ℕ) → Bool
is_among name names = list_any (eq_by_cmp (slice_cmp nat_cmp) name) names

-- each is there once
abbrev pub AreApart : List (List ℕ) → Type 0
AreApart [] = Unit {0}
AreApart (name ∷ names) = (is_among name names ≡ false) × AreApart names

-- these are the names of what is kept
pub record AreNamesOf (kept : Kept) (names : List (List ℕ)) : Type 0 where
  pub there : (name : List ℕ) → map.contains_key kept name ≡ is_among name names
  pub count : map.len kept ≡ length names
  pub apart : AreApart names
