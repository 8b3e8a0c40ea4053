-- Which of 256 places are marked.
use Rattle.std.specs.Prelude.{ℕ, Bool, true, false, List, replicate, get_or, set}

-- none is marked
abbrev pub no_marks : List Bool
no_marks = replicate 256 false

-- all are
abbrev pub all_marks : List Bool
all_marks = replicate 256 true

abbrev pub is_marked : List Bool → ℕ → Bool
is_marked marks place = get_or marks place false

-- this place is marked besides
abbrev pub with_mark : List Bool → ℕ → List Bool
with_mark marks place = set marks place true

-- this place isn't marked
abbrev pub without_mark : List Bool → ℕ → List Bool
without_mark marks place = set marks place false
