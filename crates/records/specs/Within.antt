-- Which positions are kept, beside a ledger.
use Rattle.std.proofs.Common.{◌≡◌, ◌∙◌, ◌⊎◌, inl, inr, ⊎_elim, sym, refl, subst, ℕ, ◌+◌, ◌<◌, ◌≤◌, List, [], ◌∷◌, Bool, true, false, ◌||◌, cond, Some, None, Option, nat_eq, nat_lt, arith}
use Rattle.std.specs.Ordering.{nat_cmp, eq_by_cmp}
use Rattle.std.specs.Cmp.Lexicographic.{slice_cmp, nat_list_cmp_total}
use Rattle.std.specs.FinMap as map
use Rattle.std.specs.FinSet as set
use Rattle.std.proofs.lemmas.Bool.Decides.{nat_tests}
use Rattle.cursor.specs.Positions.{Positions, Has, below, between, has_insert, has_union, has_below, has_between}
use Rattle.records.specs.declared.record.Record.{Record}
use Rattle.records.specs.declared.record.Record.TheVariants.{Made, Removed, Acknowledged, AcknowledgedThrough, AcknowledgedRange}
use Rattle.records.specs.Maps.{Kept}
use Rattle.records.specs.Records.{changed, changed_at, after, after_all, IsFormed, AreFormed}
use Rattle.records.specs.Bytes.{Means}

-- each position of the set is one of a ledger of so many entries
abbrev pub AreBelow : ℕ → Positions → Type 0
AreBelow entries acked = (i : ℕ) → Has acked i → i < entries

-- and so is each kept one
abbrev pub IsWithin : ℕ → Kept → Type 0
IsWithin entries kept = (name : List ℕ) (acked : Positions) → map.get kept name ≡ Some acked → AreBelow entries acked

-- ---- what is kept by records of their form is

same_set : (a b : Positions) → Some a ≡ Some b → a ≡ b
same_set a b is = cc

inserted_within : (entries : ℕ) (kept : Kept) (name : List ℕ) (acked : Positions) → IsWithin entries kept → AreBelow entries acked → IsWithin entries (map.insert kept name acked)
inserted_within entries kept name acked within low q s there =
    by_test (eq_by_cmp (slice_cmp nat_cmp) q name) (sym (map.get-insert nat_list_cmp_total kept name acked q) ∙ there)
  where
    by_test : (b : Bool) → cond b (Some acked) (map.get kept q) ≡ Some s → AreBelow entries s
    by_test true is = subst (λ (t : Positions). AreBelow entries t) (same_set acked s is) low
    by_test false is = within q s is

removed_within : (entries : ℕ) (kept : Kept) (name : List ℕ) → IsWithin entries kept → IsWithin entries (map.remove kept name)
removed_within entries kept name within q s there =
    by_test (eq_by_cmp (slice_cmp nat_cmp) q name) (sym (map.get-remove nat_list_cmp_total kept name q) ∙ there)
  where
    by_test : (b : Bool) → cond b None (map.get kept q) ≡ Some s → AreBelow entries s
    by_test true is = absurd (let e : None ≡ Some s = is in cc)
    by_test false is = within q s is

changed_within : (entries : ℕ) (kept : Kept) (name : List ℕ) (change : Positions → Positions) → IsWithin entries kept → ((s : Positions) → AreBelow entries s → AreBelow entries (change s)) → IsWithin entries (changed kept name change)
changed_within entries kept name change within low = by_found (map.get kept name) refl
  where
    by_found : (o : Option Positions) → map.get kept name ≡ o → IsWithin entries (changed_at o kept name change)
    by_found None there = within
    by_found (Some acked) there = inserted_within entries kept name (change acked) within (low acked (within name acked there))

either : (a b : Bool) → (a || b) ≡ true → (a ≡ true) ⊎ (b ≡ true)
either true b is = inl refl
either false b is = inr is

below_low : (entries n : ℕ) → n ≤ entries → AreBelow entries (below n)
below_low entries n low i has = let h : nat_lt i n ≡ true = sym (has_below n i) ∙ has in grind (arith, nat_tests)

union_low : (entries : ℕ) (s t : Positions) → AreBelow entries s → AreBelow entries t → AreBelow entries (set.union s t)
union_low entries s t low low' i has = ⊎_elim (low i) (low' i) (either (set.contains s i) (set.contains t i) (sym (has_union s t i) ∙ has))

insert_low : (entries p : ℕ) (s : Positions) → p < entries → AreBelow entries s → AreBelow entries (set.insert s p)
insert_low entries p s low all i has = ⊎_elim (λ is. this is) (all i) (either (nat_eq i p) (set.contains s i) (sym (has_insert s p i) ∙ has))
  where
    this : nat_eq i p ≡ true → i < entries
    this is = grind (arith, nat_tests)

between_low : (entries first end : ℕ) → end ≤ entries → AreBelow entries (between first end)
between_low entries first end low i has = let h = sym (has_between first end i) ∙ has in grind (arith, nat_tests)

pub within_after : (entries : ℕ) (kept : Kept) (r : Record) → IsFormed entries kept r → IsWithin entries kept → IsWithin entries (after r kept)
within_after entries kept (Made name start) formed within = inserted_within entries kept name (below start) within (below_low entries start formed.placed.1)
within_after entries kept (Removed name) formed within = removed_within entries kept name within
within_after entries kept (Acknowledged name position) formed within = changed_within entries kept name _ within (λ s low. insert_low entries position s formed.placed.1 low)
within_after entries kept (AcknowledgedThrough name position) formed within = changed_within entries kept name _ within (λ s low. union_low entries s (below (position + 1)) low (below_low entries (position + 1) (omega (arith, formed.placed.1))))
within_after entries kept (AcknowledgedRange name first last) formed within = changed_within entries kept name _ within (λ s low. union_low entries s (between first (last + 1)) low (between_low entries first (last + 1) (omega (arith, formed.placed.2))))

pub within_all : (entries : ℕ) (kept : Kept) (rs : List Record) → AreFormed entries kept rs → IsWithin entries kept → IsWithin entries (after_all rs kept)
within_all entries kept [] formed within = within
within_all entries kept (r ∷ rs) formed within = within_all entries (after r kept) rs formed.1 (within_after entries kept r formed.0 within)

means_within_from : (entries : ℕ) (old : Kept) (bodies : List (List ℕ)) (kept : Kept) → Means entries old bodies kept → IsWithin entries old → IsWithin entries kept
means_within_from entries old [] kept is within = subst (λ (k : Kept). IsWithin entries k) (sym is) within
means_within_from entries old (body ∷ bodies) kept is within =
    means_within_from entries is.0 bodies kept is.2 (subst (λ (k : Kept). IsWithin entries k) (sym is.1.new_is) (within_all entries old is.1.records is.1.formed within))

-- What bodies mean beside a ledger is within it.
pub means_within : (entries : ℕ) (bodies : List (List ℕ)) (kept : Kept) → Means entries map.empty bodies kept → IsWithin entries kept
means_within entries bodies kept is = means_within_from entries map.empty bodies kept is (λ name acked there. absurd (let e : None ≡ Some acked = sym (map.get-empty (slice_cmp nat_cmp) name) ∙ there in cc))
