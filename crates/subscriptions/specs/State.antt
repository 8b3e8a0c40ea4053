-- The subscriptions of a topic, and the changes of them that aren't durable yet.
use Rattle.std.specs.Prelude.{ℕ, List}
use Rattle.cursor.specs.Positions.{Positions}
use Rattle.holds.specs.Deliveries.{Deliveries}
use Rattle.permits.specs.Ends.{Word}
use Rattle.holds.specs.declared.consumer.Consumer.{Consumer as Seat}
use Rattle.holds.specs.declared.consumer.ConsumerKey.{ConsumerKey}
use Rattle.subscriptions.specs.declared.consumer.Mode.{Mode}
use Rattle.records.specs.declared.record.Record.{Record}

-- an attached consumer
pub record Consumer : Type 0 where
  pub key : ConsumerKey
  pub granted : ℕ  -- how many permits it is known to have been granted
  pub sent : ℕ  -- how many messages it got
  pub word : Word  -- whose permits it takes
  pub looks : ℕ  -- how often it was looked there

pub record Subscription : Type 0 where
  pub name : List ℕ
  pub mode : Mode
  pub consumers : List Consumer  -- the attached ones, the earliest first
  pub seats : List Seat  -- the same ones, with the hash ranges that each asked for
  pub acked : Positions  -- the acknowledged positions
  pub deliveries : Deliveries  -- of the positions that were sent and aren't acknowledged: who holds each, and how often it was sent

pub record Subscriptions : Type 0 where
  pub subs : List Subscription  -- the earliest made first
  pub changes : List Record  -- the ones that aren't durable yet
  pub slots : List ℕ  -- the hash slot of each entry of the topic, by its position
  pub messages : List ℕ  -- and how many messages it has
