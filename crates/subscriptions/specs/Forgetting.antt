-- The counts of acknowledged positions, for which nobody asks.
use Rattle.std.specs.Prelude.{◌≡◌, ℕ, not, List, Option, map as each}
use Rattle.std.specs.FinMap as map
use Rattle.std.specs.FinSet as set
use Rattle.cursor.specs.Positions.{Positions}
use Rattle.holds.specs.Deliveries.{Deliveries}
use Rattle.holds.specs.declared.consumer.ConsumerKey.{ConsumerKey}
use Rattle.holds.specs.declared.consumer.Consumer.{Consumer as Seat}
use Rattle.holds.specs.declared.consumer.SlotRange.{SlotRange}
use Rattle.subscriptions.specs.declared.consumer.Mode.{Mode}
use Rattle.subscriptions.specs.State.{Subscription, Subscriptions}
use Rattle.subscriptions.specs.Steps.{subscribe_refusals, attached, granted, grants_too_many, learnt, HasLearnt, acknowledged, acknowledged_through, unsubscribe_refusals, unsubscribed, sent, sent_before, left, detached, redelivered, settled, marked, forgotten, Admits}
use Rattle.permits.specs.Ends.{Seen, Word}

-- the deliveries of the positions that aren't acknowledged
abbrev pub unacknowledged : Positions → Deliveries → Deliveries
unacknowledged acked deliveries = map.retain_keys deliveries (λ i. not (set.contains acked i))

-- a subscription that has forgotten who held its acknowledged positions, and how often they were sent
abbrev pub forgetting : Subscription → Subscription
forgetting s = record s { deliveries = unacknowledged s.acked s.deliveries }

abbrev pub forgetful : Subscriptions → Subscriptions
forgetful t = record t { subs = each (λ s. forgetting s) t.subs }

-- Whether those counts are forgotten changes no answer: not what is refused, not who may get what, not how often that was sent
-- before.
pub record AnswersTheSame (t : Subscriptions) : Type 0 where
  pub subscribe : (name : List ℕ) (mode : Mode) (ranges : List SlotRange) → subscribe_refusals (forgetful t) name mode ranges ≡ subscribe_refusals t name mode ranges
  pub grant : (key : ConsumerKey) (permits : ℕ) → grants_too_many (forgetful t) key permits ≡ grants_too_many t key permits
  pub unsubscribe : (key : ConsumerKey) → unsubscribe_refusals (forgetful t) key ≡ unsubscribe_refusals t key
  pub admits : (key : ConsumerKey) (committed i : ℕ) → Admits t key committed i → Admits (forgetful t) key committed i
  pub admits_no_more : (key : ConsumerKey) (committed i : ℕ) → Admits (forgetful t) key committed i → Admits t key committed i
  pub times : (key : ConsumerKey) (committed i : ℕ) → Admits t key committed i → sent_before (forgetful t) key i ≡ sent_before t key i

-- And so after any calls: whatever is forgotten before a call, what is remembered behind it is the same.
pub record GoesOnTheSame (t : Subscriptions) : Type 0 where
  pub attach : (name : List ℕ) (mode : Mode) (seat : Seat) (word : Word) (start : ℕ) → forgetful (attached (forgetful t) name mode seat word start) ≡ forgetful (attached t name mode seat word start)
  pub grant : (key : ConsumerKey) (permits : ℕ) → forgetful (granted (forgetful t) key permits) ≡ forgetful (granted t key permits)
  pub learn : (key : ConsumerKey) (seen : Seen) → forgetful (learnt (forgetful t) key seen) ≡ forgetful (learnt t key seen)
  pub look : (who : ℕ) (new : Subscriptions) → HasLearnt who t new → HasLearnt who (forgetful t) (forgetful new)
  pub acknowledge : (key : ConsumerKey) (positions : List ℕ) → forgetful (acknowledged (forgetful t) key positions) ≡ forgetful (acknowledged t key positions)
  pub acknowledge_through : (key : ConsumerKey) (position : ℕ) → forgetful (acknowledged_through (forgetful t) key position) ≡ forgetful (acknowledged_through t key position)
  pub unsubscribe : (key : ConsumerKey) → forgetful (unsubscribed (forgetful t) key) ≡ forgetful (unsubscribed t key)
  pub send : (key : ConsumerKey) (i : ℕ) → forgetful (sent (forgetful t) key i) ≡ forgetful (sent t key i)
  pub leave : (who : ℕ) → forgetful (left (forgetful t) who) ≡ forgetful (left t who)
  pub detach : (key : ConsumerKey) → forgetful (detached (forgetful t) key) ≡ forgetful (detached t key)
  pub redeliver : (key : ConsumerKey) (asked : Option (List ℕ)) → forgetful (redelivered (forgetful t) key asked) ≡ forgetful (redelivered t key asked)
  pub settle : (count : ℕ) → forgetful (settled (forgetful t) count) ≡ forgetful (settled t count)
  pub mark : (slots messages : List ℕ) → forgetful (marked (forgetful t) slots messages) ≡ forgetful (marked t slots messages)
  pub forget : (position : ℕ) → forgetful (forgotten (forgetful t) position) ≡ forgetful (forgotten t position)

abbrev pub CountsAreForgotten : Type 0
CountsAreForgotten = (t : Subscriptions) → AnswersTheSame t × GoesOnTheSame t
