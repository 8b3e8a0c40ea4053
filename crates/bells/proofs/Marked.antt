-- A place that was marked.
use Rattle.std.proofs.Common.{◌≡◌, ℕ, ◌<◌, Bool, true, false, List, length, sym, ap, ◌∙◌, arith}
use Rattle.std.proofs.Math.ListN.{get_or}
use Rattle.std.proofs.lemmas.List.{length-set, length-replicate, get_or-set_same, get_or-replicate}
use Rattle.bells.specs.Marking.{no_marks, with_mark}

-- not none is marked
pub marked_one : (marks : List Bool) (place : ℕ) → place < 256 → with_mark marks place ≡ no_marks → true ≡ false
marked_one marks place small none =
    let all : length marks ≡ 256 = sym (length-set marks place true) ∙ ap length none ∙ length-replicate 256 false in
    sym (get_or-set_same marks place true false (omega (arith, all, small))) ∙ ap (λ (xs : List Bool). get_or xs place false) none ∙ get_or-replicate 256 place false false small
