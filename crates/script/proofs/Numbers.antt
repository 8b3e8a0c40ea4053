-- What reading a number gives.
use Rattle.std.proofs.Common.{◌≡◌, ◌≢◌, ℕ, ◌<◌, ◌^◌, Bool, true, false, cond, ◌&&◌, List, [], ◌∷◌, length, get_or, Some, None, Result, Ok, Err, refl, sym, ap, ◌∙◌, arith, inl, inr}
use Rattle.std.specs.Prelude.{nat_lt, slice_get, MatchResult}
use Rattle.std.specs.Result.{result_ok}
use Rattle.std.specs.Str.{all_ascii_digits, IsUtf8}
use Rattle.std.specs.Str.Parse.{digits_value, ParsesUnsigned}
use Rattle.std.proofs.lemmas.Str.{IsUtf8-from_ascii}
use Rattle.std.proofs.lemmas.Str.Parse.{IsNumeralModel, numerals_by_value, tells_all_ascii_digits, parse_plain, digit_at}
use Rattle.std.proofs.lemmas.Fmt.{IsAscii-from_digits}
use Rattle.std.proofs.lemmas.Bool.{cases_lt}
use Rattle.std.proofs.lemmas.Bool.Decides.{nat_tests}
use Rattle.script.specs.Reading.{number_of}

pub digits_model : IsNumeralModel (λ ds. all_ascii_digits ds ≡ true) (digits_value 10)
digits_model = numerals_by_value _ tells_all_ascii_digits

some_number : (n v m : ℕ) (digits : Bool) → digits ≡ true → 0 < n → v < m → cond (nat_lt 0 n && digits && nat_lt v m) (Some v) None ≡ Some v
some_number n v m digits d p q = grind (arith, nat_tests)

no_number : (n v m : ℕ) (digits : Bool) → ((digits ≡ true) × (0 < n) × (v < m) → ⊥) → cond (nat_lt 0 n && digits && nat_lt v m) (Some v) None ≡ None
no_number n v m false h = grind (arith, nat_tests)
no_number n v m true h =
    elim (cases_lt 0 n) [
      | inl some ↦
          elim (cases_lt v m) [
            | inl small ↦ absurd (h (refl, some, small))
            | inr large ↦ grind (arith, nat_tests)
          ]
      | inr none ↦ grind (arith, nat_tests)
    ]

pub number_of-some : (text : List ℕ) → all_ascii_digits text ≡ true → 0 < length text → digits_value 10 text < 2 ^ 64 → number_of text ≡ Some (digits_value 10 text)
unfolding number_of
number_of-some text d p q = some_number (length text) (digits_value 10 text) (2 ^ 64) (all_ascii_digits text) d p q

pub number_of-none : (text : List ℕ) → ((all_ascii_digits text ≡ true) × (0 < length text) × (digits_value 10 text < 2 ^ 64) → ⊥) → number_of text ≡ None
unfolding number_of
number_of-none text h = no_number (length text) (digits_value 10 text) (2 ^ 64) (all_ascii_digits text) h

pub number_of-nil : number_of [] ≡ None
number_of-nil = number_of-none [] (λ h. omega (arith, h.1))

-- a plus is no digit
pub number_of-plus : (text : List ℕ) → get_or text 0 0 ≡ 43 → number_of text ≡ None
number_of-plus text plus =
    number_of-none text (λ h. let digit = digit_at text 0 (digits_model.to text h.0) h.1 in omega (arith, digit.0, digit.1))

-- digits are text
pub number_of-no_text : (text : List ℕ) → (IsUtf8 text → ⊥) → number_of text ≡ None
number_of-no_text text other =
    number_of-none text (λ h. other (IsUtf8-from_ascii text (IsAscii-from_digits text (digits_model.to text h.0))))

-- what `parse` gives of a text without a plus
pub number_of-parse : {E : Type 0} → (text : List ℕ) (r : Result ℕ E) → ParsesUnsigned 64 10 text r → get_or text 0 0 ≢ 43 → result_ok r ≡ number_of text
number_of-parse {E} text (Ok n) h plain =
    let p = parse_plain digits_model {E = E} 64 text (Ok n) h plain in
    ap Some p.1 ∙ sym (number_of-some text p.0.0 p.0.1 p.0.2)
number_of-parse {E} text (Err e) h plain =
    sym (number_of-none text (parse_plain digits_model {E = E} 64 text (Err e) h plain))

-- no first byte
pub number_of-no_first : (text : List ℕ) → None ≡ slice_get text 0 → number_of text ≡ None
number_of-no_first [] h = number_of-nil
number_of-no_first (x ∷ text) h = cc h

-- the first byte
pub get_or-first : (text : List ℕ) (x : ℕ) → Some x ≡ slice_get text 0 → get_or text 0 0 ≡ x
get_or-first [] x h = cc h
get_or-first (y ∷ text) x h = cc h

-- what stands under the error of a call, and under its value
pub err_fact : {A E : Type 0} (P : A → Type 0) (Q : E → Type 0) (r : Result A E) → None ≡ result_ok r → MatchResult r P Q → (e : E) × Q e
err_fact P Q (Ok x) e h = cc e
err_fact P Q (Err y) e h = (y, h)

pub ok_fact : {A E : Type 0} (P : A → Type 0) (Q : E → Type 0) (r : Result A E) (x : A) → Some x ≡ result_ok r → MatchResult r P Q → P x
ok_fact P Q (Ok y) x e h = let same : x ≡ y = cc e in rw same h
ok_fact P Q (Err y) x e h = cc e
