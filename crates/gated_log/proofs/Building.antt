-- A whole log that is built grows by a batch.
use Rattle.std.proofs.Common.{◌≡◌, ℕ, ◌≤◌, List, [], ◌∷◌, ◌++◌, length, drop, sym, ◌∙◌, ap, arith, append_assoc, length-append}
use Rattle.std.specs.Int.{w32, to_le_bytes}
use Rattle.std.proofs.lemmas.Grind.{flat_map-append}
use Rattle.std.proofs.lemmas.List.{append-nil, drop-append-le}
use Rattle.gated_log.specs.Batches.{Bodies, sized, batches}

batches_push : (bodies : Bodies) (body : List ℕ) → batches (bodies ++ body ∷ []) ≡ batches bodies ++ 1 ∷ sized body
batches_push bodies body = flat_map-append (λ (b : List ℕ). 1 ∷ sized b) bodies (body ∷ []) ∙ ap (λ (l : List ℕ). batches bodies ++ l) (append-nil (1 ∷ sized body))

-- the batches stand behind room
pub more : (n : ℕ) (room more' items was : List ℕ) → items ≡ room ++ more' → n ≤ length room → drop n room ≡ was → drop n items ≡ was ++ more'
more n room more' items was is long before = ap (λ (l : List ℕ). drop n l) is ∙ drop-append-le n room more' long ∙ ap (λ (l : List ℕ). l ++ more') before

pub batch_more : (n : ℕ) (bodies : Bodies) (body b0 b1 b2 b3 le : List ℕ) → n ≤ length b0 → drop n b0 ≡ batches bodies → b1 ≡ b0 ++ 1 ∷ [] → le ≡ to_le_bytes w32 (length body) → b2 ≡ b1 ++ le → b3 ≡ b2 ++ body
    → drop n b3 ≡ batches (bodies ++ body ∷ [])
unfolding sized
batch_more n bodies body b0 b1 b2 b3 le long e0 e1 el e2 e3 =
    let one = more n b0 (1 ∷ []) b1 (batches bodies) e1 long e0 in
    let two = more n b1 le b2 (batches bodies ++ 1 ∷ []) e2 (omega (arith, long, ap length e1, length-append b0 (1 ∷ []))) one in
    let three = more n b2 body b3 ((batches bodies ++ 1 ∷ []) ++ le) e3 (omega (arith, long, ap length e1, length-append b0 (1 ∷ []), ap length e2, length-append b1 le)) two in
    three
    ∙ ap (λ (l : List ℕ). l ++ body) (append_assoc (batches bodies) (1 ∷ []) le) ∙ append_assoc (batches bodies) (1 ∷ le) body
    ∙ ap (λ (l : List ℕ). batches bodies ++ 1 ∷ (l ++ body)) el ∙ sym (batches_push bodies body)
