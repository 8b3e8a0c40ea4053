-- How long a log's bytes are, and a part of their front.
use Rattle.std.proofs.Common.{◌≡◌, ℕ, zero, suc, ◌+◌, ◌≤◌, List, [], ◌∷◌, ◌++◌, length, take, drop, refl, ap, arith, length-append}
use Rattle.disk.specs.declared.file_id.Folder.{Folder}
use Rattle.disk.specs.declared.file_id.Folder.TheVariants.{One, Two}
use Rattle.gated_log.specs.declared.label.Label.{Label}
use Rattle.gated_log.specs.Labels.{header, header_size}
use Rattle.gated_log.specs.Batches.{Bodies, sized, batches, opened}
use Rattle.gated_log.specs.One.{opened_push}

pub length-sized : (body : List ℕ) → length (sized body) ≡ 4 + length body
unfolding sized
length-sized body = omega arith

pub length-opened : (folder : Folder) (label : Label) (bodies : Bodies) → length (opened folder label bodies) ≡ header_size folder + length (batches bodies)
unfolding opened
length-opened One label bodies = omega (arith, length-append (header One 1 label) (batches bodies))
length-opened Two label bodies = omega (arith, length-append (header Two 1 label) (batches bodies))

-- a batch more
pub length-opened_push : (folder : Folder) (label : Label) (bodies : Bodies) (body : List ℕ) → length (opened folder label (bodies ++ body ∷ [])) ≡ length (opened folder label bodies) + 5 + length body
length-opened_push folder label bodies body =
    let both = ap length (opened_push folder label bodies body []) in
    omega (arith, both, length-sized body, length-append (opened folder label (bodies ++ body ∷ [])) [], length-append (opened folder label bodies) (1 ∷ (sized body ++ [])), length-append (sized body) [])

-- a part of the front of some bytes
taken_front : (n : ℕ) (xs ys : List ℕ) → n ≤ length xs → take n (xs ++ ys) ≡ take n xs
taken_front zero xs ys fits = refl
taken_front (suc n) [] ys fits = absurd (omega (arith, fits))
taken_front (suc n) (x ∷ xs) ys fits = ap (λ (l : List ℕ). x ∷ l) (taken_front n xs ys (omega (arith, fits)))

pub part_front : (at n : ℕ) (xs ys : List ℕ) → at + n ≤ length xs → take n (drop at (xs ++ ys)) ≡ take n (drop at xs)
part_front zero n xs ys fits = taken_front n xs ys (omega (arith, fits))
part_front (suc at) zero [] ys fits = absurd (omega (arith, fits))
part_front (suc at) (suc n) [] ys fits = absurd (omega (arith, fits))
part_front (suc at) n (x ∷ xs) ys fits = part_front at n xs ys (omega (arith, fits))
