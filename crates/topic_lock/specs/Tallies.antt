-- Which ledgers a tally has.
use Rattle.std.specs.Prelude.{ℕ}

-- a ledger's name, and into how many parts its shares are cut
pub record Side : Type 0 where
  pub name : ℕ
  pub parts : ℕ

-- the two ledgers of one total
pub record Sides : Type 0 where
  pub one : Side
  pub other : Side

abbrev pub no_sides : Sides
no_sides = record { one = record { name = 0; parts = 0 }; other = record { name = 0; parts = 0 } }
