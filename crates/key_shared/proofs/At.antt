-- The consumer at a place.
use Rattle.std.proofs.Common.{◌≡◌, ℕ, zero, suc, ◌<◌, Bool, true, false, cond, Option, Some, None, IfSome, IfNone, List, [], ◌∷◌, length, get_or, ap, ◌∙◌, arith}
use Rattle.std.specs.List.{find, position}
use Rattle.std.specs.Option.{IsSomeAnd}
use Rattle.std.proofs.lemmas.List.Quantifiers.{position-Some}
use Rattle.holds.specs.declared.consumer.Consumer.{Consumer}

module _ {X : Type 0} (test : X → Bool) where
  record IsPlace (xs : List X) (i : ℕ) (d : X) : Type 0 where
    pub within : i < length xs
    pub here : test (get_or xs i d) ≡ true
    pub before : (k : ℕ) → k < i → test (get_or xs k d) ≡ false

  rest : (x : X) (xs : List X) (i : ℕ) (d : X) → IsPlace (x ∷ xs) (suc i) d → IsPlace xs i d
  rest x xs i d p = record { within = omega (arith, p.within); here = p.here; before = λ k h. p.before (suc k) (omega (arith, h)) }

  found : (xs : List X) (i : ℕ) (d : X) → IsPlace xs i d → find test xs ≡ Some (get_or xs i d)
  found [] i d p = absurd (omega (arith, p.within))
  found (x ∷ xs) zero d p = ap (λ b. cond b (Some x) (find test xs)) p.here
  found (x ∷ xs) (suc i) d p = ap (λ b. cond b (Some x) (find test xs)) (p.before zero (omega arith)) ∙ found xs i d (rest x xs i d p)

  -- what a search finds stands at the place that it finds
  pub found_at : (xs : List X) (i : ℕ) (d : X) → position test xs ≡ Some i → find test xs ≡ Some (get_or xs i d)
  found_at xs i d at = let p = position-Some test xs i d at in found xs i d (record { within = p.0; here = p.1; before = p.2 })

-- what is said of the consumer at the place is said of the one that is found
pub one_admits : (r : Option ℕ) (o : Option Consumer) (c : Consumer) (P : Consumer → ℕ → Type 0) → o ≡ Some c → IfSome r (λ i. P c i) → IfSome r (λ i. IsSomeAnd o (λ c. P c i))
one_admits r None c P is h = absurd (cc)
one_admits None (Some d) c P is h = tt
one_admits (Some i) (Some d) c P is h = let same : d ≡ c = cc in rw same h

pub none_admits : (r : Option ℕ) (o : Option Consumer) (c : Consumer) (P : Consumer → ℕ → Type 0) → o ≡ Some c → IfNone r ((i : ℕ) → P c i → ⊥) → IfNone r ((i : ℕ) → IsSomeAnd o (λ c. P c i) → ⊥)
none_admits r None c P is h = absurd (cc)
none_admits None (Some d) c P is h = let same : d ≡ c = cc in rw same h
none_admits (Some i) (Some d) c P is h = tt
