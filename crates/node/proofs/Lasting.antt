-- Durable subscriptions keep a promise through records of their form, until one removes its subscription, or makes the one that is gone.
use Rattle.std.proofs.Common.{◌≡◌, ◌∙◌, ℕ, zero, suc, ◌+◌, ◌≤◌, Bool, true, false, cond, ◌||◌, Some, None, List, [], ◌∷◌, ◌++◌, length, take, drop, refl, sym, ap, subst, arith}
use Rattle.std.proofs.lemmas.List.{take_all, drop_all, take-append-le, drop-append-le}
use Rattle.std.specs.List.{AllByRecursion}
use Rattle.std.specs.Str.{bytes_eq}
use Rattle.std.specs.FinSet as set
use Rattle.std.specs.FinMap as map
use Rattle.cursor.specs.Positions.{Positions, Has, below, between, has_insert, has_union}
use Rattle.records.specs.declared.record.Record.{Record}
use Rattle.records.specs.declared.record.Record.TheVariants.{Made, Removed, Acknowledged, AcknowledgedThrough, AcknowledgedRange}
use Rattle.records.specs.Maps.{Kept}
use Rattle.records.specs.Records.{after, after_all, changed, changed_at, acknowledged, IsFormed, AreFormed}
use Rattle.subscriptions.proofs.Kept.{same_name, get_insert, get_remove, after_append, after_parts}
use Rattle.node.specs.Promising.{Promise, There, Gone, HasAcked, IsKept}

-- a record that isn't the removal of a subscription that is there, nor makes one that is gone
abbrev pub Spares : Promise → Record → Type 0
Spares (There name positions) (Made made start) = Unit {0}
Spares (There name positions) (Removed removed) = bytes_eq name removed ≡ false
Spares (There name positions) (Acknowledged acked position) = Unit {0}
Spares (There name positions) (AcknowledgedThrough acked position) = Unit {0}
Spares (There name positions) (AcknowledgedRange acked first last) = Unit {0}
Spares (Gone name) (Made made start) = bytes_eq name made ≡ false
Spares (Gone name) (Removed removed) = Unit {0}
Spares (Gone name) (Acknowledged acked position) = Unit {0}
Spares (Gone name) (AcknowledgedThrough acked position) = Unit {0}
Spares (Gone name) (AcknowledgedRange acked first last) = Unit {0}

-- a promise is kept by what each front of some records makes of the durable subscriptions
abbrev pub Lasts : List Record → Kept → Promise → Type 0
Lasts [] kept p = IsKept kept p
Lasts (r ∷ rs) kept p = IsKept kept p × Lasts rs (after r kept) p

-- a promise is kept by what the first n records make of them, and by each front of the others
abbrev pub LastsBehind : ℕ → List Record → Kept → Promise → Type 0
LastsBehind n rs kept p = Lasts (drop n rs) (after_all (take n rs) kept) p

-- ---- one record

none_some : (s : Positions) → None ≡ Some s → ⊥
none_some s is = cc

some_same : (s s' : Positions) → Some s ≡ Some s' → s ≡ s'
some_same s s' is = cc

has_more : (a b : Bool) → a ≡ true → (a || b) ≡ true
has_more true b h = refl
has_more false b h = cc

more_or : (a b : Bool) → b ≡ true → (a || b) ≡ true
more_or true b h = refl
more_or false b h = h

-- a set that only grows
abbrev Grows : (Positions → Positions) → Type 0
Grows f = (s : Positions) (i : ℕ) → Has s i → Has (f s) i

grows_by_one : (n : List ℕ) (position : ℕ) → Grows (acknowledged (Acknowledged n position))
grows_by_one n position s i has = has_insert s position i ∙ more_or _ (set.contains s i) has

grows_through : (n : List ℕ) (position : ℕ) → Grows (acknowledged (AcknowledgedThrough n position))
grows_through n position s i has = has_union s (below (position + 1)) i ∙ has_more (set.contains s i) _ has

grows_by_range : (n : List ℕ) (first last : ℕ) → Grows (acknowledged (AcknowledgedRange n first last))
grows_by_range n first last s i has = has_union s (between first (last + 1)) i ∙ has_more (set.contains s i) _ has

-- of a subscription that is there
module _ (kept : Kept) (name : List ℕ) (acked : Positions) (is : HasAcked kept name acked) where
  -- the look-up of another name
  there_other : (kept' : Kept) → map.get kept' name ≡ map.get kept name → HasAcked kept' name acked
  there_other kept' same = record { acked = is.acked; there = same ∙ is.there; each = is.each }

  there_made : (n : List ℕ) (s : Positions) → map.get kept n ≡ None → HasAcked (map.insert kept n s) name acked
  there_made n s none =
      elim (bytes_eq name n) as (λ b. bytes_eq name n ≡ b → map.get (map.insert kept n s) name ≡ cond b (Some s) (map.get kept name) → HasAcked (map.insert kept n s) name acked) [
        | true ↦ λ same _. absurd (none_some is.acked (sym none ∙ ap (map.get kept) (sym (same_name name n same)) ∙ is.there))
        | false ↦ λ _ found. there_other (map.insert kept n s) found
      ] refl (get_insert kept n s name)

  there_removed : (n : List ℕ) → bytes_eq name n ≡ false → HasAcked (map.remove kept n) name acked
  there_removed n other = there_other (map.remove kept n) (get_remove kept n name ∙ ap (λ b. cond b None (map.get kept name)) other)

  there_changed : (n : List ℕ) (f : Positions → Positions) → Grows f → HasAcked (changed kept n f) name acked
  there_changed n f more = elim (map.get kept n) as (λ o. map.get kept n ≡ o → HasAcked (changed_at o kept n f) name acked) [
    | None ↦ λ _. is
    | Some s ↦ λ there.
        elim (bytes_eq name n) as (λ b. bytes_eq name n ≡ b → map.get (map.insert kept n (f s)) name ≡ cond b (Some (f s)) (map.get kept name) → HasAcked (map.insert kept n (f s)) name acked) [
          | true ↦ λ same found.
              let one : is.acked ≡ s = some_same is.acked s (sym is.there ∙ ap (map.get kept) (same_name name n same) ∙ there) in
              record { acked = f s; there = found; each = λ i has. more s i (subst (λ (x : Positions). Has x i) one (is.each i has)) }
          | false ↦ λ _ found. there_other (map.insert kept n (f s)) found
        ] refl (get_insert kept n (f s) name)
  ] refl

-- of one that is gone
module _ (kept : Kept) (name : List ℕ) (gone : map.get kept name ≡ None) where
  gone_inserted : (n : List ℕ) (s : Positions) → bytes_eq name n ≡ false → map.get (map.insert kept n s) name ≡ None
  gone_inserted n s other = get_insert kept n s name ∙ ap (λ b. cond b (Some s) (map.get kept name)) other ∙ gone

  gone_removed : (n : List ℕ) → map.get (map.remove kept n) name ≡ None
  gone_removed n = get_remove kept n name ∙ elim (bytes_eq name n) as (λ b. cond b None (map.get kept name) ≡ None) [ true ↦ refl | false ↦ gone ]

  gone_changed : (n : List ℕ) (f : Positions → Positions) → map.get (changed kept n f) name ≡ None
  gone_changed n f = elim (map.get kept n) as (λ o. map.get kept n ≡ o → map.get (changed_at o kept n f) name ≡ None) [
    | None ↦ λ _. gone
    | Some s ↦ λ there. elim (bytes_eq name n) as (λ b. bytes_eq name n ≡ b → map.get (map.insert kept n (f s)) name ≡ None) [
      | true ↦ λ same. absurd (none_some s (sym gone ∙ ap (map.get kept) (same_name name n same) ∙ there))
      | false ↦ λ other. gone_inserted n (f s) other
    ] refl
  ] refl

kept_after : (e : ℕ) (kept : Kept) (r : Record) (p : Promise) → IsFormed e kept r → Spares p r → IsKept kept p → IsKept (after r kept) p
kept_after e kept (Made n start) (There name acked) formed spares is = there_made kept name acked is n (below start) formed.placed.0.not_there
kept_after e kept (Removed n) (There name acked) formed spares is = there_removed kept name acked is n spares
kept_after e kept (Acknowledged n position) (There name acked) formed spares is = there_changed kept name acked is n (acknowledged (Acknowledged n position)) (grows_by_one n position)
kept_after e kept (AcknowledgedThrough n position) (There name acked) formed spares is = there_changed kept name acked is n (acknowledged (AcknowledgedThrough n position)) (grows_through n position)
kept_after e kept (AcknowledgedRange n first last) (There name acked) formed spares is = there_changed kept name acked is n (acknowledged (AcknowledgedRange n first last)) (grows_by_range n first last)
kept_after e kept (Made n start) (Gone name) formed spares is = gone_inserted kept name is n (below start) spares
kept_after e kept (Removed n) (Gone name) formed spares is = gone_removed kept name is n
kept_after e kept (Acknowledged n position) (Gone name) formed spares is = gone_changed kept name is n (acknowledged (Acknowledged n position))
kept_after e kept (AcknowledgedThrough n position) (Gone name) formed spares is = gone_changed kept name is n (acknowledged (AcknowledgedThrough n position))
kept_after e kept (AcknowledgedRange n first last) (Gone name) formed spares is = gone_changed kept name is n (acknowledged (AcknowledgedRange n first last))

-- ---- records

pub lasts : (e : ℕ) (rs : List Record) (kept : Kept) (p : Promise) → AreFormed e kept rs → AllByRecursion (Spares p) rs → IsKept kept p → Lasts rs kept p
lasts e [] kept p formed spares is = is
lasts e (r ∷ rs) kept p formed spares is = (is, lasts e rs (after r kept) p formed.1 spares.1 (kept_after e kept r p formed.0 spares.0 is))

pub lasts_first : (rs : List Record) (kept : Kept) (p : Promise) → Lasts rs kept p → IsKept kept p
lasts_first [] kept p is = is
lasts_first (r ∷ rs) kept p is = is.0

pub lasts_last : (rs : List Record) (kept : Kept) (p : Promise) → Lasts rs kept p → IsKept (after_all rs kept) p
lasts_last [] kept p is = is
lasts_last (r ∷ rs) kept p is = lasts_last rs (after r kept) p is.1

pub lasts_front : (n : ℕ) (rs : List Record) (kept : Kept) (p : Promise) → Lasts rs kept p → IsKept (after_all (take n rs) kept) p
lasts_front zero rs kept p is = lasts_first rs kept p is
lasts_front (suc n) [] kept p is = is
lasts_front (suc n) (r ∷ rs) kept p is = lasts_front n rs (after r kept) p is.1

pub lasts_behind : (n : ℕ) (rs : List Record) (kept : Kept) (p : Promise) → Lasts rs kept p → LastsBehind n rs kept p
lasts_behind zero rs kept p is = is
lasts_behind (suc n) [] kept p is = is
lasts_behind (suc n) (r ∷ rs) kept p is = lasts_behind n rs (after r kept) p is.1

pub behind_last : (n : ℕ) (rs : List Record) (kept : Kept) (p : Promise) → LastsBehind n rs kept p → IsKept (after_all rs kept) p
behind_last n rs kept p is = subst (λ (k : Kept). IsKept k p) (after_parts n rs kept) (lasts_last (drop n rs) (after_all (take n rs) kept) p is)

-- all records
pub behind_all : (rs : List Record) (kept : Kept) (p : Promise) → IsKept (after_all rs kept) p → LastsBehind (length rs) rs kept p
behind_all rs kept p is =
    subst (λ (l : List Record). Lasts l (after_all (take (length rs) rs) kept) p) (sym (drop_all (length rs) rs (omega arith)))
    (subst (λ (l : List Record). IsKept (after_all l kept) p) (sym (take_all (length rs) rs (omega arith))) is)

lasts_both : (rs more : List Record) (kept : Kept) (p : Promise) → Lasts rs kept p → Lasts more (after_all rs kept) p → Lasts (rs ++ more) kept p
lasts_both [] more kept p first second = second
lasts_both (r ∷ rs) more kept p first second = (first.0, lasts_both rs more (after r kept) p first.1 second)

formed_rest : (e : ℕ) (rs more : List Record) (kept : Kept) → AreFormed e kept (rs ++ more) → AreFormed e (after_all rs kept) more
formed_rest e [] more kept formed = formed
formed_rest e (r ∷ rs) more kept formed = formed_rest e rs more (after r kept) formed.1

-- more records that spare the promise
module _ (e : ℕ) (rs more : List Record) (kept : Kept) (p : Promise) (formed : AreFormed e kept (rs ++ more)) (spares : AllByRecursion (Spares p) more) where
  pub lasts_more : Lasts rs kept p → Lasts (rs ++ more) kept p
  lasts_more is = lasts_both rs more kept p is (lasts e more (after_all rs kept) p (formed_rest e rs more kept formed) spares (lasts_last rs kept p is))

  pub kept_more : IsKept (after_all rs kept) p → IsKept (after_all (rs ++ more) kept) p
  kept_more is =
      subst (λ (k : Kept). IsKept k p) (sym (after_append rs more kept))
      (lasts_last more (after_all rs kept) p (lasts e more (after_all rs kept) p (formed_rest e rs more kept formed) spares is))

  pub behind_more : (n : ℕ) → n ≤ length rs → LastsBehind n rs kept p → LastsBehind n (rs ++ more) kept p
  behind_more n fits is =
      let first : Kept = after_all (take n rs) kept in
      let formed' : AreFormed e (after_all (drop n rs) first) more = subst (λ (k : Kept). AreFormed e k more) (sym (after_parts n rs kept)) (formed_rest e rs more kept formed) in
      subst (λ (l : List Record). Lasts l (after_all (take n (rs ++ more)) kept) p) (sym (drop-append-le n rs more fits))
      (subst (λ (l : List Record). Lasts (drop n rs ++ more) (after_all l kept) p) (sym (take-append-le n rs more fits))
      (lasts_both (drop n rs) more first p is (lasts e more (after_all (drop n rs) first) p formed' spares (lasts_last (drop n rs) first p is))))
