-- What is written, one text behind the other.
use Rattle.std.proofs.Common.{ℕ, List, ◌++◌, Option, Some, None, append_assoc}
use Rattle.std.specs.Io.KnownBytes.{Appends}

-- two texts
pub appends_both : (old mid new : Option (List ℕ)) (a b : List ℕ) → Appends old mid a → Appends mid new b → Appends old new (a ++ b)
appends_both None mid new a b first second = tt
appends_both (Some xs) None new a b first second = absurd first
appends_both (Some xs) (Some ys) None a b first second = absurd second
appends_both (Some xs) (Some ys) (Some zs) a b first second = rw (second, first) (append_assoc xs a b)
