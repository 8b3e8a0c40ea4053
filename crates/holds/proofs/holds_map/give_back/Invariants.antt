use Rattle.std.proofs.Common.{◌≡◌, ℕ, length}
use Rattle.std.specs.Option.{option_map}
use Rattle.std.specs.Ordering.{nat_cmp}
use Rattle.std.specs.BTreeMap as tree
use Rattle.holds.specs.Deliveries.{given_back}
use Rattle.holds.specs.Listing.{IsListing}
use Rattle.holds.proofs.holds_map.give_back.Given as goal

abbrev pub invariant-loop-position : goal.invariant-loop-position
invariant-loop-position l = record {
  listing : IsListing l.initial.deliveries l.initial.places → IsListing l.deliveries l.places;
  freed : IsListing l.initial.deliveries l.initial.places → (q : ℕ) → option_map (given_back l.consumer) (tree.get nat_cmp l.deliveries q) ≡ option_map (given_back l.consumer) (tree.get nat_cmp l.initial.deliveries q);
}

abbrev pub decreases-loop-position : goal.decreases-loop-position
decreases-loop-position l = length l.places.keys
