-- What putting says of a vector.
use Rattle.std.specs.Prelude.{◌<◌, ℕ, ◌+◌, List, length, Vec, vec_len}
use Rattle.std.specs.Vec.{vec_capacity}

-- the capacity has no place for these bytes behind the items, so that the vector has to grow
abbrev pub LacksRoom : {Z : Type 0} → Vec ℕ Z → List ℕ → Type 0
LacksRoom out bytes = vec_capacity out < vec_len out + length bytes
