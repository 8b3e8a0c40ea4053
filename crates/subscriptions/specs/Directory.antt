-- Where each consumer stands, or its subscription does.
use Rattle.std.specs.Prelude.{◌≡◌, ℕ, ◌-◌, min, nat_lt, cond, Option, Some, None, List, position}
use Rattle.std.specs.BTreeMap.{is_at}
use Rattle.std.specs.Map.{lookup}
use Rattle.std.specs.declared.cmp.Ordering.{Ordering}
use Rattle.std.specs.Ordering.{nat_cmp, ordering_then}
use Rattle.holds.specs.declared.consumer.ConsumerKey.{ConsumerKey}
use Rattle.subscriptions.specs.declared.directory.Found.{Found}
use Rattle.subscriptions.specs.State.{Consumer, Subscription}
use Rattle.subscriptions.specs.Steps.{is_consumer, is_on}

abbrev pub pair_cmp : ℕ × ℕ → ℕ × ℕ → Ordering
pair_cmp a b = ordering_then (nat_cmp a.0 b.0) (nat_cmp a.1 b.1)

-- the place of a consumer, by its session and its id there
abbrev pub place_in : List ((ℕ × ℕ) × ℕ) → ConsumerKey → Option ℕ
place_in places key = lookup (is_at (pair_cmp (key.session, key.id))) places

-- a consumer that was found, if one was, still stands there
abbrev pub IsRight : Option Found → List ((ℕ × ℕ) × ℕ) → Type 0
IsRight None places = Unit {0}
IsRight (Some found) places = place_in places found.key ≡ Some found.place

-- each consumer has the place of the first subscription that it is attached to, and nobody else has one
pub record ArePlaces (subs : List Subscription) (places : List ((ℕ × ℕ) × ℕ)) : Type 0 where
  pub found : (key : ConsumerKey) → place_in places key ≡ position (is_on key) subs

-- each consumer of a list has the place where it stands first, and nobody else has one
pub record ArePlacesAmong (consumers : List Consumer) (places : List ((ℕ × ℕ) × ℕ)) : Type 0 where
  pub found : (key : ConsumerKey) → place_in places key ≡ position (is_consumer key) consumers

-- the first of two places
abbrev pub earliest : Option ℕ → ℕ → ℕ
earliest None place = place
earliest (Some former) place = min former place

-- where what stood at a place stands once another place has gone
abbrev pub moved_up : ℕ → ℕ → ℕ
moved_up gone place = cond (nat_lt gone place) (place - 1) place

-- another place of one that has a place
abbrev pub put_in_place : Option ℕ → Option ℕ → Option ℕ
put_in_place None former = None
put_in_place (Some place) None = None
put_in_place (Some place) (Some former) = Some place

-- a place before the end
abbrev pub place_before : ℕ → Option ℕ → Option ℕ
place_before end None = None
place_before end (Some place) = cond (nat_lt place end) (Some place) None

-- where one of a list stands has this place, if it has one; whoever else keeps its own
abbrev pub numbered : Option ℕ → Option ℕ → Option ℕ
numbered None former = former
numbered (Some place) former = put_in_place (Some place) former
