-- The ledgers of a server.
use Rattle.std.specs.Prelude.{◌≡◌, ℕ}
use Rattle.std.specs.declared.sync.ledger.Blank.{Blank}
use Rattle.topic_lock.specs.Tallies.{Side}

-- the blank is this side's ledger, with so many parts
abbrev pub IsOf : Blank → Side → ℕ → Type 0
IsOf blank side count = (blank.name ≡ side.name) × (blank.parts ≡ side.parts) × (blank.parts ≡ count)
