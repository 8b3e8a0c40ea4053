-- A list of a session's consumers, by which it is served away from it.
use Rattle.std.specs.Prelude.{◌≡◌, ℕ, Option, List}
use Rattle.session.specs.Client.{Client}
use Rattle.session.specs.declared.entry.Entry.{Entry}
use Rattle.session.specs.declared.fault.Fault.{Fault}

pub record Listing : Type 0 where
  pub number : ℕ  -- the session's
  pub fault : Option Fault  -- why it had ended
  pub consumers : List Entry  -- its consumers, in rising id
  pub replies : ℕ  -- how many replies it had collected before

-- the list has the session's number, its fault and its consumers
pub record IsListOf (c : Client) (list : Listing) : Type 0 where
  pub number : list.number ≡ c.number
  pub fault : list.fault ≡ c.fault
  pub consumers : list.consumers ≡ c.consumers
