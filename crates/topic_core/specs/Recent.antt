-- The entries of a ledger that stand in memory.
use Rattle.std.specs.Prelude.{◌≡◌, ℕ, ◌≤◌, nat_le, Bool, true, Result, Ok, Err, List, ◌++◌, length, All}
use Rattle.managed_ledger.specs.Entries.{Ledger}
use Rattle.gated_log.specs.declared.read_error.ReadError.{ReadError}

-- these entries are the ledger's last ones, none longer than any that is accepted
pub record AreLast (ledger : Ledger) (recent : List (List ℕ)) : Type 0 where
  pub older : List (List ℕ)
  pub ends : ledger.entries ≡ older ++ recent
  pub each_small : All (λ entry. length entry ≤ 1048576) recent

-- some first ones are gone
pub record IsRest (old new : List (List ℕ)) : Type 0 where
  pub gone : List (List ℕ)
  pub is : old ≡ gone ++ new

-- what was read is no longer than any that is accepted
abbrev pub is_short : Result (List ℕ) ReadError → Bool
is_short (Ok entry) = nat_le (length entry) 1048576
is_short (Err why) = true
