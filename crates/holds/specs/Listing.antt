-- Which positions each consumer holds, as a set of places: a session, a consumer's id there, and a position.
use Rattle.std.specs.Prelude.{◌≡◌, ℕ, ◌&&◌, nat_eq, cond, Bool, Option}
use Rattle.std.specs.Ordering.{nat_cmp, ordering_then}
use Rattle.std.specs.declared.cmp.Ordering.{Ordering}
use Rattle.std.specs.BTreeSet.{BTreeSet, contains}
use Rattle.std.specs.BTreeMap.{BTreeMap}
use Rattle.std.specs.BTreeMap as tree
use Rattle.holds.specs.declared.consumer.ConsumerKey.{ConsumerKey}
use Rattle.holds.specs.declared.delivery.Delivery.{Delivery}
use Rattle.holds.specs.Deliveries.{holder_in, is_held_by, same_key}

abbrev pub Place : Type 0
Place = ℕ × ℕ × ℕ

-- places by session, then by id, then by position
abbrev pub place_cmp : Place → Place → Ordering
place_cmp a b = ordering_then (ordering_then (nat_cmp a.0 b.0) (nat_cmp a.1 b.1)) (nat_cmp a.2 b.2)

-- whether the consumer is listed with the position
abbrev pub is_listed : BTreeSet Place → ConsumerKey → ℕ → Bool
is_listed places consumer position = contains place_cmp places (consumer.session, consumer.id, position)

-- after is before, but for whether this consumer is listed with this position
abbrev pub IsSetTo : Bool → BTreeSet Place → ConsumerKey → ℕ → BTreeSet Place → Type 0
IsSetTo listed before consumer position after = (c : ConsumerKey) (q : ℕ) → is_listed after c q ≡ cond (nat_eq q position && same_key consumer c) listed (is_listed before c q)

-- the position is listed with its holder, and with nobody else
abbrev pub IsListedAt : BTreeSet Place → ℕ → Option ConsumerKey → Type 0
IsListedAt places position holder = (c : ConsumerKey) → is_listed places c position ≡ is_held_by c holder

-- after is before, but that the position is listed with that holder alone
abbrev pub IsRelisted : BTreeSet Place → ℕ → Option ConsumerKey → BTreeSet Place → Type 0
IsRelisted before position holder after = (c : ConsumerKey) (q : ℕ) → is_listed after c q ≡ cond (nat_eq q position) (is_held_by c holder) (is_listed before c q)

-- each position is listed with its holder, and with nobody else
abbrev pub IsListing : BTreeMap ℕ Delivery → BTreeSet Place → Type 0
IsListing deliveries places = (c : ConsumerKey) (q : ℕ) → is_listed places c q ≡ is_held_by c (holder_in (tree.get nat_cmp deliveries q))
