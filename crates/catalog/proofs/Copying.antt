-- The names of a list of topics, one by one.
use Rattle.std.proofs.Common.{◌≡◌, ℕ, ◌+◌, ◌<◌, suc, true, List, [], ◌∷◌, ◌++◌, length, take, sym, ◌∙◌, ap, arith}
use Rattle.std.specs.Prelude.{Some, slice_get}
use Rattle.std.proofs.lemmas.Option.{slice_get_within, get_or_from_slice_get}
use Rattle.std.proofs.Math.Seq.{take-suc}
use Rattle.names.specs.Names.{is_topic_name}
use Rattle.names.proofs.Parts.{name_is_short}
use Rattle.catalog.specs.Names.{Names}

-- the names up to this one, and this one
pub one_more : (names : Names) (place : ℕ) (name : List ℕ) → slice_get names place ≡ Some name → take place names ++ name ∷ [] ≡ take (place + 1) names
one_more names place name there =
    let next : suc place ≡ place + 1 = omega arith in
    ap (λ (n : List ℕ). take place names ++ n ∷ []) (sym (get_or_from_slice_get names place name [] there)) ∙ sym (take-suc names place [] (slice_get_within names place name there)) ∙ ap (λ (k : ℕ). take k names) next

-- a name is never too large for a batch
pub short : (body : List ℕ) → is_topic_name body ≡ true → 33554432 < length body → ⊥
short body good large = absurd (omega (arith, large, name_is_short body good))
