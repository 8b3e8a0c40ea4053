-- The list of an Exclusive subscription's consumers, and why it takes no further one.
use Rattle.std.specs.Prelude.{List, [], ◌∷◌, Option, Some, None, IsTrue}
use Rattle.std.specs.List.{list_any}
use Rattle.holds.specs.Deliveries.{same_key}
use Rattle.holds.specs.declared.consumer.Consumer.{Consumer}
use Rattle.holds.specs.declared.consumer.ConsumerKey.{ConsumerKey}
use Rattle.holds.specs.declared.consumer.Refusal.{Refusal}
use Rattle.holds.specs.declared.consumer.Refusal.TheVariants.{ConsumerBusy}

-- one consumer or none, as a list
abbrev pub lone_list : Option Consumer → List Consumer
lone_list None = []
lone_list (Some c) = c ∷ []

-- a subscription that has its consumer takes no further one
abbrev pub lone_refusal : List Consumer → Option Refusal
lone_refusal [] = None
lone_refusal (c ∷ cs) = Some ConsumerBusy

-- a consumer with this key is attached
abbrev pub IsAttached : List Consumer → ConsumerKey → Type 0
IsAttached consumers key = IsTrue (list_any (λ c. same_key c.key key) consumers)
