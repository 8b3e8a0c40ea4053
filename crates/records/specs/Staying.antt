-- What all have acknowledged stays so.
use Rattle.std.proofs.Common.{◌≡◌, ◌∙◌, sym, refl, subst, ap, ℕ, ◌+◌, ◌≤◌, List, [], ◌∷◌, Bool, true, false, ◌||◌, cond, Some, None, Option, nat_eq, nat_lt, arith}
use Rattle.std.specs.Ordering.{nat_cmp, eq_by_cmp}
use Rattle.std.specs.Cmp.Lexicographic.{slice_cmp, nat_list_cmp_total}
use Rattle.std.specs.FinMap as map
use Rattle.std.specs.FinSet as set
use Rattle.std.proofs.lemmas.Bool.Decides.{nat_tests}
use Rattle.cursor.specs.Positions.{Positions, below, between, has_insert, has_union, has_below}
use Rattle.records.specs.declared.record.Record.{Record}
use Rattle.records.specs.declared.record.Record.TheVariants.{Made, Removed, Acknowledged, AcknowledgedThrough, AcknowledgedRange}
use Rattle.records.specs.Maps.{Kept}
use Rattle.records.specs.Records.{changed, changed_at, after, after_all}
use Rattle.records.specs.Floors.{HasBelow, HaveBelow, StartsFrom, StartFrom}

same_set : (a b : Positions) → Some a ≡ Some b → a ≡ b
same_set a b is = cc

pub inserted : (b : ℕ) (kept : Kept) (name : List ℕ) (acked : Positions) → HaveBelow b kept → HasBelow b acked → HaveBelow b (map.insert kept name acked)
inserted b kept name acked have has q s there =
    by_test (eq_by_cmp (slice_cmp nat_cmp) q name) (sym (map.get-insert nat_list_cmp_total kept name acked q) ∙ there)
  where
    by_test : (t : Bool) → cond t (Some acked) (map.get kept q) ≡ Some s → HasBelow b s
    by_test true is = subst (λ (t : Positions). HasBelow b t) (same_set acked s is) has
    by_test false is = have q s is

removed : (b : ℕ) (kept : Kept) (name : List ℕ) → HaveBelow b kept → HaveBelow b (map.remove kept name)
removed b kept name have q s there =
    by_test (eq_by_cmp (slice_cmp nat_cmp) q name) (sym (map.get-remove nat_list_cmp_total kept name q) ∙ there)
  where
    by_test : (t : Bool) → cond t None (map.get kept q) ≡ Some s → HasBelow b s
    by_test true is = absurd (let e : None ≡ Some s = is in cc)
    by_test false is = have q s is

changes_it : (b : ℕ) (kept : Kept) (name : List ℕ) (change : Positions → Positions) → HaveBelow b kept → ((s : Positions) → HasBelow b s → HasBelow b (change s)) → HaveBelow b (changed kept name change)
changes_it b kept name change have more = by_found (map.get kept name) refl
  where
    by_found : (o : Option Positions) → map.get kept name ≡ o → HaveBelow b (changed_at o kept name change)
    by_found None there = have
    by_found (Some acked) there = inserted b kept name (change acked) have (more acked (have name acked there))

begins : (b start : ℕ) → b ≤ start → HasBelow b (below start)
begins b start low i less = has_below start i ∙ (let t : nat_lt i start ≡ true = grind (arith, nat_tests) in t)

or_true : (a b : Bool) → b ≡ true → (a || b) ≡ true
or_true true b is = refl
or_true false b is = is

true_or : (a b : Bool) → a ≡ true → (a || b) ≡ true
true_or a b is = ap (λ (x : Bool). x || b) is

joins_it : (b : ℕ) (s t : Positions) → HasBelow b s → HasBelow b (set.union s t)
joins_it b s t has i less = has_union s t i ∙ true_or (set.contains s i) (set.contains t i) (has i less)

gains : (b p : ℕ) (s : Positions) → HasBelow b s → HasBelow b (set.insert s p)
gains b p s has i less = has_insert s p i ∙ or_true (nat_eq i p) (set.contains s i) (has i less)

pub stays_after : (b : ℕ) (kept : Kept) (r : Record) → StartsFrom b r → HaveBelow b kept → HaveBelow b (after r kept)
stays_after b kept (Made name start) from have = inserted b kept name (below start) have (begins b start from)
stays_after b kept (Removed name) from have = removed b kept name have
stays_after b kept (Acknowledged name position) from have = changes_it b kept name _ have (λ s has. gains b position s has)
stays_after b kept (AcknowledgedThrough name position) from have = changes_it b kept name _ have (λ s has. joins_it b s (below (position + 1)) has)
stays_after b kept (AcknowledgedRange name first last) from have = changes_it b kept name _ have (λ s has. joins_it b s (between first (last + 1)) has)

pub stays_all : (b : ℕ) (kept : Kept) (rs : List Record) → HaveBelow b kept → StartFrom b rs → HaveBelow b (after_all rs kept)
stays_all b kept [] have from = have
stays_all b kept (r ∷ rs) have from = stays_all b (after r kept) rs (stays_after b kept r from.0 have) from.1

-- ---- where there is no subscription

pub none_there : (name : List ℕ) (acked : Positions) → ¬ (map.get (map.empty {X = Positions} {R = slice_cmp nat_cmp}) name ≡ Some acked)
none_there name acked = λ there. let e : None ≡ Some acked = sym (map.get-empty (slice_cmp nat_cmp) name) ∙ there in cc

pub none_have : (b : ℕ) → HaveBelow b map.empty
none_have b name acked there = absurd (none_there name acked there)
