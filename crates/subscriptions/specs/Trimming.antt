-- Positions that no subscription needs any more.
use Rattle.std.specs.Prelude.{ℕ, ◌<◌}
use Rattle.cursor.specs.Positions.{Has}
use Rattle.subscriptions.specs.State.{Subscription}

-- the subscription has acknowledged all positions below this one
abbrev pub IsPast : ℕ → Subscription → Type 0
IsPast position s = (i : ℕ) → i < position → Has s.acked i
