-- What a search of the catalog finds.
use Rattle.std.specs.Prelude.{◌≡◌, ℕ, Option, Some, None, List, [], ◌∷◌, ◌++◌, length}
use Rattle.catalog.specs.Names.{Names, number_of}

-- the number of the name, where it is there; else it was put behind the others
abbrev pub NumberIn : Option ℕ → Names → List ℕ → ℕ → Names → Type 0
NumberIn (Some there) settled name number new = (number ≡ there) × (new ≡ settled)
NumberIn None settled name number new = (number ≡ length settled) × (new ≡ settled ++ name ∷ [])

-- the name has this number among these names, once a name in doubt was settled
abbrev pub IsNumberOf : List ℕ → ℕ → Names → Type 0
IsNumberOf name number new = (settled : Names) × NumberIn (number_of settled name) settled name number new
