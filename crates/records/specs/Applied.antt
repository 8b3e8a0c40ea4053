-- Records of their form, one by one.
use Rattle.std.proofs.Common.{◌≡◌, ◌∙◌, ap, sym, refl, subst, ℕ, zero, suc, ◌+◌, ◌<◌, ◌≤◌, ◌^◌, List, [], ◌∷◌, ◌++◌, Bool, true, false, ◌&&◌, get_or, length, drop, arith}
use Rattle.std.proofs.lemmas.List.{at_drop_more, at_drop_all}
use Rattle.std.proofs.lemmas.Bool.Decides.{nat_tests}
use Rattle.std.proofs.lemmas.Str.{IsUtf8-from_ascii}
use Rattle.std.specs.Str.{IsUtf8, IsAscii}
use Rattle.std.specs.List.{list_all, All}
use Rattle.records.specs.declared.record.Record.{Record}
use Rattle.records.specs.declared.record.Record.TheVariants.{Made, Removed, Acknowledged, AcknowledgedThrough, AcknowledgedRange}
use Rattle.names.specs.Names.{is_name_byte}
use Rattle.records.specs.Names.{is_subscription_name}
use Rattle.records.specs.Maps.{Kept}
use Rattle.records.specs.Records.{name_of, IsPlaced, IsFormed, AreFormed, HasPositions, after, after_all}

-- ---- a name is text

name_byte : (b : ℕ) → is_name_byte b ≡ true → b < 128
name_byte b is = grind (arith, nat_tests)

first_true : (a b : Bool) → (a && b) ≡ true → a ≡ true
first_true true b is = refl
first_true false b is = is

second_true : (a b : Bool) → (a && b) ≡ true → b ≡ true
second_true true b is = is
second_true false b is = absurd (Prim.cc)

name_bytes : (bs : List ℕ) → list_all is_name_byte bs ≡ true → IsAscii bs
name_bytes [] is i = omega arith
name_bytes (b ∷ bs) is zero = name_byte b (first_true _ _ is)
name_bytes (b ∷ bs) is (suc i) = name_bytes bs (second_true (is_name_byte b) _ is) i

pub name_is_text : (name : List ℕ) → is_subscription_name name ≡ true → IsUtf8 name
name_is_text name is = IsUtf8-from_ascii name (name_bytes name (second_true _ _ is))

-- ---- forms

pub formed_positions : (n : ℕ) (kept : Kept) (r : Record) → n ≤ 2 ^ 62 → IsFormed n kept r → HasPositions r
formed_positions n kept (Made name start) low formed = omega (arith, formed.placed.1)
formed_positions n kept (Removed name) low formed = tt
formed_positions n kept (Acknowledged name position) low formed = omega (arith, formed.placed.1)
formed_positions n kept (AcknowledgedThrough name position) low formed = omega (arith, formed.placed.1)
formed_positions n kept (AcknowledgedRange name first last) low formed = (formed.placed.1, omega (arith, formed.placed.2))

placed_longer : (n m : ℕ) (kept : Kept) (r : Record) → n ≤ m → IsPlaced n kept r → IsPlaced m kept r
placed_longer n m kept (Made name start) low placed = (placed.0, omega (arith, placed.1))
placed_longer n m kept (Removed name) low placed = placed
placed_longer n m kept (Acknowledged name position) low placed = (placed.0, omega (arith, placed.1))
placed_longer n m kept (AcknowledgedThrough name position) low placed = (placed.0, omega (arith, placed.1))
placed_longer n m kept (AcknowledgedRange name first last) low placed = (placed.0, placed.1, omega (arith, placed.2))

pub formed_longer : (n m : ℕ) (kept : Kept) (r : Record) → n ≤ m → IsFormed n kept r → IsFormed m kept r
formed_longer n m kept r low formed = record { name_is = formed.name_is; placed = placed_longer n m kept r low formed.placed }

pub are_formed_longer : (n m : ℕ) (kept : Kept) (rs : List Record) → n ≤ m → AreFormed n kept rs → AreFormed m kept rs
are_formed_longer n m kept [] low formed = tt
are_formed_longer n m kept (r ∷ rs) low formed = (formed_longer n m kept r low formed.0, are_formed_longer n m (after r kept) rs low formed.1)

pub are_named : (n : ℕ) (kept : Kept) (rs : List Record) → AreFormed n kept rs → All (λ r. is_subscription_name (name_of r) ≡ true) rs
are_named n kept [] formed k d within = absurd (omega (arith, within))
are_named n kept (r ∷ rs) formed zero d within = formed.0.name_is
are_named n kept (r ∷ rs) formed (suc k) d within = are_named n (after r kept) rs formed.1 k d (omega (arith, within))

-- ---- one after the other

next_is : (rs : List Record) (i : ℕ) (r : Record) → r ≡ get_or rs i r → i < length rs → drop i rs ≡ r ∷ drop (i + 1) rs
next_is rs i r is within = at_drop_more (λ (l : List Record). l) rs i r within ∙ ap (λ (x : Record). x ∷ drop (i + 1) rs) (sym is)

pub record IsStep (n : ℕ) (kept : Kept) (rs : List Record) (i : ℕ) (r : Record) : Type 0 where
  pub first : IsFormed n kept r
  pub rest : AreFormed n (after r kept) (drop (i + 1) rs)
  pub same : after_all (drop i rs) kept ≡ after_all (drop (i + 1) rs) (after r kept)

pub step : (n : ℕ) (kept : Kept) (rs : List Record) (i : ℕ) (r : Record) → r ≡ get_or rs i r → i < length rs → AreFormed n kept (drop i rs) → IsStep n kept rs i r
step n kept rs i r is within formed =
    let e = next_is rs i r is within in
    let f : AreFormed n kept (r ∷ drop (i + 1) rs) = subst (λ (l : List Record). AreFormed n kept l) e formed in
    record { first = f.0; rest = f.1; same = ap (λ (l : List Record). after_all l kept) e }

pub all_done : (kept : Kept) (rs : List Record) (i : ℕ) → length rs ≤ i → after_all (drop i rs) kept ≡ kept
all_done kept rs i past = at_drop_all (λ (l : List Record). after_all l kept) rs i past

pub after_one_more : (rs : List Record) (r : Record) (kept : Kept) → after_all (rs ++ r ∷ []) kept ≡ after r (after_all rs kept)
after_one_more [] r kept = refl
after_one_more (s ∷ rs) r kept = after_one_more rs r (after s kept)

pub one_more_formed : (n : ℕ) (kept : Kept) (rs : List Record) (r : Record) → AreFormed n kept rs → IsFormed n (after_all rs kept) r → AreFormed n kept (rs ++ r ∷ [])
one_more_formed n kept [] r formed first = (first, tt)
one_more_formed n kept (s ∷ rs) r formed first = (formed.0, one_more_formed n (after s kept) rs r formed.1 first)
