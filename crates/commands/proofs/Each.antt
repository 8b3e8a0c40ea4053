-- The parts of a repeated message, read one at a time.
use Rattle.std.proofs.Common.{◌≡◌, ℕ, ◌<◌, ◌≤◌, suc, ◌+◌, List, [], ◌∷◌, ◌++◌, drop, length, Ok, Err, Result, refl, ap, ◌∙◌, sym, slice_index_or, add-one, append_assoc, append-nil}
use Rattle.std.proofs.Math.Seq.{drop-cons}
use Rattle.std.proofs.lemmas.List.{drop_all}
use Rattle.commands.specs.declared.fault.CommandFault.{CommandFault}
use Rattle.commands.specs.Reading.{◌>>=◌}
use Rattle.commands.specs.Message.{each}

-- what was read in front of what comes
abbrev with_front : {A : Type 0} → List A → Result (List A) CommandFault → Result (List A) CommandFault
with_front done r = r >>= λ xs. Ok (done ++ xs)

with_front-none : {A : Type 0} (r : Result (List A) CommandFault) → r ≡ with_front [] r
with_front-none (Ok xs) = refl
with_front-none (Err e) = refl

with_front-more : {A : Type 0} (done : List A) (x : A) (r : Result (List A) CommandFault) →
    with_front done (r >>= λ others. Ok (x ∷ others)) ≡ with_front (done ++ x ∷ []) r
with_front-more done x (Ok xs) = ap (λ l. Ok l) (sym (append_assoc done (x ∷ []) xs))
with_front-more done x (Err e) = refl

-- the first i parts were read
pub record ReadParts {A : Type 0} (read : List ℕ → Result A CommandFault) (parts : List (List ℕ)) (i : ℕ) (done : List A) : Type 0 where
  pub so_far : each read parts ≡ with_front done (each read (drop i parts))

pub parts-none : {A : Type 0} (read : List ℕ → Result A CommandFault) (parts : List (List ℕ)) → ReadParts read parts 0 []
parts-none read parts = record { so_far = with_front-none (each read parts) }

front : (parts : List (List ℕ)) (i : ℕ) (part : List ℕ) → i < length parts → part ≡ slice_index_or parts i part →
    drop i parts ≡ part ∷ drop (i + 1) parts
front parts i part lt is = rw add-one (drop-cons parts i part lt ∙ ap (λ f. f ∷ drop (suc i) parts) (sym is))

pub parts-more : {A : Type 0} {read : List ℕ → Result A CommandFault} {parts : List (List ℕ)} {i : ℕ} {done : List A} (part : List ℕ) (x : A) →
    ReadParts read parts i done → i < length parts → part ≡ slice_index_or parts i part → read part ≡ Ok x →
    ReadParts read parts (i + 1) (done ++ x ∷ [])
parts-more {A} {read} {parts} {i} {done} part x h lt is e =
    record { so_far = h.so_far ∙ rw (front parts i part lt is) (rw e (with_front-more done x (each read (drop (i + 1) parts)))) }

pub parts-fault : {A : Type 0} {read : List ℕ → Result A CommandFault} {parts : List (List ℕ)} {i : ℕ} {done : List A} (part : List ℕ) (fault : CommandFault) →
    ReadParts read parts i done → i < length parts → part ≡ slice_index_or parts i part → read part ≡ Err fault →
    each read parts ≡ Err fault
parts-fault {A} {read} {parts} {i} {done} part fault h lt is e =
    h.so_far ∙ rw (front parts i part lt is) (rw e refl)

pub parts-all : {A : Type 0} {read : List ℕ → Result A CommandFault} {parts : List (List ℕ)} {i : ℕ} {done : List A} →
    ReadParts read parts i done → length parts ≤ i → each read parts ≡ Ok done
parts-all {A} {read} {parts} {i} {done} h le = h.so_far ∙ rw (drop_all i parts le) (ap (λ l. Ok l) (append-nil done))
