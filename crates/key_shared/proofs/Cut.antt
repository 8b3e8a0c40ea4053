-- A byte string is cut into blocks of four bytes and a tail.
use Rattle.std.proofs.Common.{◌≡◌, ℕ, List, [], ◌∷◌, length, refl, ap, arith}
use Rattle.std.proofs.lemmas.List.Elements.{All-cons, All-nil}
use Rattle.key_shared.specs.Murmur.{blocks}
use Rattle.key_shared.specs.Laws.{IsCut}

abbrev IsFour : List ℕ → Type 0
IsFour block = length block ≡ 4

pub cut : (bytes : List ℕ) → IsCut bytes
cut [] = record { whole = refl; fours = All-nil IsFour; short = omega arith }
cut (a ∷ []) = record { whole = refl; fours = All-nil IsFour; short = omega arith }
cut (a ∷ b ∷ []) = record { whole = refl; fours = All-nil IsFour; short = omega arith }
cut (a ∷ b ∷ c ∷ []) = record { whole = refl; fours = All-nil IsFour; short = omega arith }
cut (a ∷ b ∷ c ∷ d ∷ rest) =
    let later = cut rest in
    record {
      whole = ap (λ bytes. a ∷ b ∷ c ∷ d ∷ bytes) later.whole;
      fours = All-cons IsFour (a ∷ b ∷ c ∷ d ∷ []) (blocks rest) refl later.fours;
      short = later.short;
    }
