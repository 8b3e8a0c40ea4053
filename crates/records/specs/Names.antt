-- Names of subscriptions.
use Rattle.std.specs.Prelude.{ℕ, Bool, List}
use Rattle.names.specs.Names.{is_name_part}

-- our own rule: a subscription's name is what a part of a topic's name is
abbrev pub is_subscription_name : List ℕ → Bool
is_subscription_name name = is_name_part name
