-- The session's own name of a producer is short.
use Rattle.std.proofs.Common.{ℕ, ◌^◌, ◌<◌, ◌≤◌, ◌∷◌, length, length-append, arith}
use Rattle.std.specs.Fmt.{decimal}
use Rattle.std.proofs.lemmas.Fmt.{length-decimal-le}
use Rattle.session.specs.Producing.{own_name}

pub length-own_name : (who id : ℕ) → who < 2 ^ 64 → id < 2 ^ 64 → length (own_name who id) ≤ 43
length-own_name who id h k =
    let a : length (decimal who) ≤ 20 = length-decimal-le 20 who (omega arith) (omega arith) h in
    let b : length (decimal id) ≤ 20 = length-decimal-le 20 id (omega arith) (omega arith) k in
    omega (arith, length-append (decimal who) (45 ∷ 112 ∷ decimal id))
