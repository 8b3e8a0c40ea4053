-- How many permits the consumers have left together, one consumer after another.
use Rattle.std.proofs.Common.{◌≡◌, ℕ, ◌+◌, ◌-◌, ◌^◌, ◌<◌, List, length, get_or, take, ap, sym, ◌∙◌, arith}
use Rattle.std.specs.Prelude.{min, sum_by}
use Rattle.std.proofs.lemmas.List.Sums.{sum_by_more}
use Rattle.subscriptions.specs.State.{Consumer}
use Rattle.subscriptions.specs.Summaries.{left_of, permits_left}

-- a sum that stops at m, one term more
pub stopped_more : (a b m : ℕ) → min (min a m + b) m ≡ min (a + b) m
stopped_more a b m = omega arith

-- one consumer more
pub left_more : (cs : List Consumer) (i : ℕ) (c : Consumer) → i < length cs → c ≡ get_or cs i c → min (permits_left (take i cs) + left_of c) (2 ^ 64 - 1) ≡ permits_left (take (i + 1) cs)
left_more cs i c low is =
    let more : sum_by left_of (take (i + 1) cs) ≡ sum_by left_of (take i cs) + left_of c =
    sum_by_more left_of cs i c low ∙ ap (λ (d : Consumer). sum_by left_of (take i cs) + left_of d) (sym is) in
    stopped_more (sum_by left_of (take i cs)) (left_of c) (2 ^ 64 - 1) ∙ ap (λ (n : ℕ). min n (2 ^ 64 - 1)) (sym more)
