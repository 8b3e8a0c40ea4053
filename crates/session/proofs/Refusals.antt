-- What a session that refuses nothing by itself knows of what it is asked.
use Rattle.std.proofs.Common.{◌≡◌, Bool, true, false, not, cond, ◌||◌, Option, Some, None, List, length, refl}
use Rattle.std.specs.Prelude.{is_some, nat_le}
use Rattle.std.proofs.lemmas.Bool.{true≢false}
use Rattle.commands.specs.declared.consuming.Subscribe.{Subscribe}
use Rattle.commands.specs.declared.producing.Producer.{Producer}
use Rattle.commands.specs.declared.server_error.ServerError.{ServerError}
use Rattle.commands.specs.declared.server_error.ServerError.TheVariants.{TooManyRequests, InvalidTopicName, NotAllowedError}
use Rattle.names.specs.Names.{is_topic_name}
use Rattle.records.specs.Names.{is_subscription_name}
use Rattle.topic_core.specs.Steps.{first_standing}
use Rattle.session.specs.Producing as producing
use Rattle.session.specs.Table.{has_entry}
use Rattle.session.specs.Consuming.{own_refusals, IsNamed}
use Rattle.session.specs.declared.entry.Entry.{Entry}

none-first : (b : Bool) (e : ServerError) (o : Option ServerError) → cond b (Some e) o ≡ None → b ≡ false
none-first true e o h = cc
none-first false e o h = refl

none-rest : (b : Bool) (e : ServerError) (o : Option ServerError) → cond b (Some e) o ≡ None → o ≡ None
none-rest true e o h = cc
none-rest false e o h = h

turned : (b : Bool) → not b ≡ false → b ≡ true
turned true h = refl
turned false h = absurd (true≢false h)

-- a PRODUCER is for a topic's name
pub producer_topic : (producers : List Entry) (asked : Producer) → first_standing (producing.own_refusals producers asked) ≡ None → is_topic_name asked.topic ≡ true
producer_topic producers asked none =
    let second = none-rest (has_entry producers asked.producer_id) NotAllowedError _ none in
    let third = none-rest (nat_le 64 (length producers)) TooManyRequests _ second in
    turned _ (none-first (not (is_topic_name asked.topic)) InvalidTopicName _ third)

-- a SUBSCRIBE is of an id that isn't in use
pub subscribe_fresh : (consumers : List Entry) (asked : Subscribe) → first_standing (own_refusals consumers asked) ≡ None → has_entry consumers asked.consumer_id ≡ false
subscribe_fresh consumers asked none = none-first (has_entry consumers asked.consumer_id) NotAllowedError _ none

-- what stands behind the first two refusals of a SUBSCRIBE
third_row : (consumers : List Entry) (asked : Subscribe) (o : Option ServerError) →
    cond (has_entry consumers asked.consumer_id) (Some NotAllowedError) (cond (nat_le 64 (length consumers)) (Some TooManyRequests) o) ≡ None → o ≡ None
third_row consumers asked o none = none-rest (nat_le 64 (length consumers)) TooManyRequests o (none-rest (has_entry consumers asked.consumer_id) NotAllowedError _ none)

-- and for a topic's name
pub subscribe_topic : (consumers : List Entry) (asked : Subscribe) → first_standing (own_refusals consumers asked) ≡ None → is_topic_name asked.topic ≡ true
subscribe_topic consumers asked none = turned _ (none-first (not (is_topic_name asked.topic)) InvalidTopicName _ (third_row consumers asked _ none))

-- what stands behind the first four
fifth_row : (consumers : List Entry) (asked : Subscribe) → first_standing (own_refusals consumers asked) ≡ None →
    cond (not (is_subscription_name asked.subscription)) (Some NotAllowedError) None ≡ None
fifth_row consumers asked none =
    let fourth = none-rest (not (is_topic_name asked.topic)) InvalidTopicName _ (third_row consumers asked _ none) in
    none-rest (not asked.durable || is_some asked.start_message_id) NotAllowedError _ fourth

-- and its subscription has the name of one
pub subscribe_named : (consumers : List Entry) (asked : Subscribe) → first_standing (own_refusals consumers asked) ≡ None → IsNamed asked
subscribe_named consumers asked none = turned _ (none-first (not (is_subscription_name asked.subscription)) NotAllowedError _ (fifth_row consumers asked none))
