-- Hints that are lowered to what is given back.
use Rattle.std.proofs.Common.{◌≡◌, ℕ, ◌<◌, ◌≤◌, min, Bool, true, false, not, ◌||◌, cond, List, [], ◌∷◌, length, set, get_or, ◌∙◌, ap, sym, refl, subst, arith, Option, Some, None}
use Rattle.std.specs.Option.{option_map}
use Rattle.std.specs.Prelude.{map as each}
use Rattle.std.specs.FinMap as map
use Rattle.std.specs.FinSet as positions
use Rattle.cursor.specs.Positions.{Positions}
use Rattle.holds.specs.Backlog.{attached}
use Rattle.holds.specs.Deliveries.{Deliveries, holder, holder_in, given_back}
use Rattle.holds.specs.declared.consumer.ConsumerKey.{ConsumerKey}
use Rattle.holds.specs.declared.consumer.Consumer.{Consumer as Seat}
use Rattle.holds.specs.declared.delivery.Delivery.{Delivery}
use Rattle.subscriptions.specs.declared.consumer.Mode.{Mode}
use Rattle.subscriptions.specs.declared.hint.Hint.{Hint}
use Rattle.subscriptions.specs.Progress.{listed}
use Rattle.subscriptions.specs.Hints.{IsPassed, IsHint, AreHintsOn, AreHints, lowered}
use Rattle.subscriptions.specs.State.{Subscription, Subscriptions}
use Rattle.subscriptions.specs.Steps.{redelivered_on, is_asked_back, serves_many}
use Rattle.subscriptions.proofs.Each.{get_each}
use Rattle.subscriptions.proofs.Settled.{is_in}
use Rattle.subscriptions.proofs.Passed.{are_hints, hints_at, hints_set}

under_first : (a b i : ℕ) → i < min a b → i < a
under_first a b i h = omega arith

under_second : (a b i : ℕ) → i < min a b → i < b
under_second a b i h = omega arith

-- what isn't named isn't asked back where the mode serves many
pub none_asked : (mode : Mode) (ps : List ℕ) (i : ℕ) → serves_many mode ≡ true → is_in i ps ≡ false → is_asked_back mode (Some ps) i ≡ false
none_asked mode ps i many out = ap (λ b. not b || positions.contains (listed ps) i) many ∙ positions.contains-from_list_nat ps i ∙ out

-- what isn't asked back keeps its holder
kept_holder : (b : Bool) (key : ConsumerKey) (x : Option Delivery) → b ≡ false → holder_in (option_map (λ d. cond b (given_back key d) d) x) ≡ holder_in x
kept_holder b key None h = refl
kept_holder b key (Some d) h = ap (λ b. holder_in (Some (cond b (given_back key d) d))) h

passed_lower : (o : Option Seat) (acked : Positions) (d d' : Deliveries) (slots : List ℕ) (n from : ℕ) → ((i : ℕ) → i < from → holder d' i ≡ holder d i)
    → IsPassed o acked d slots n → IsPassed o acked d' slots (min n from)
passed_lower None acked d d' slots n from same passed = tt
passed_lower (Some seat) acked d d' slots n from same passed = λ i low lacks free here. passed i (under_first n from i low) lacks (sym (same i (under_second n from i low)) ∙ free) here

min_fits : (a b n : ℕ) → a ≤ n → min a b ≤ n
min_fits a b n h = omega arith

hint_lower : (slots : List ℕ) (key : ConsumerKey) (asked : Option (List ℕ)) (s : Subscription) (from : ℕ) (hint : Hint) → ((i : ℕ) → i < from → is_asked_back s.mode asked i ≡ false)
    → IsHint slots s hint → IsHint slots (redelivered_on key asked s) (lowered from hint)
hint_lower slots key asked s from hint none ok = record {
  known = min_fits hint.below from _ ok.known;
  passed = passed_lower (attached hint.key s.seats) s.acked s.deliveries (redelivered_on key asked s).deliveries slots hint.below from
      (λ i low. ap (λ o. holder_in o) (get_each (λ i d. cond (is_asked_back s.mode asked i) (given_back key d) d) s.deliveries i) ∙ kept_holder (is_asked_back s.mode asked i) key (map.get s.deliveries i) (none i low))
      ok.passed;
}

all_lower : (slots : List ℕ) (key : ConsumerKey) (asked : Option (List ℕ)) (s : Subscription) (from : ℕ) → ((i : ℕ) → i < from → is_asked_back s.mode asked i ≡ false)
    → (hints : List Hint) → AreHintsOn slots s hints → AreHintsOn slots (redelivered_on key asked s) (each (lowered from) hints)
all_lower slots key asked s from none [] all = tt
all_lower slots key asked s from none (hint ∷ hints) all = (hint_lower slots key asked s from hint none all.0, all_lower slots key asked s from none hints all.1)

-- positions of a subscription are given back, none of them below a place
pub hints_lowered : (t : Subscriptions) (hints : List (List Hint)) (key : ConsumerKey) (asked : Option (List ℕ)) (i from : ℕ) (s s' : Subscription) (h h' : List Hint) → AreHints t hints → i < length t.subs
    → s ≡ get_or t.subs i s → h ≡ get_or hints i h → ((i : ℕ) → i < from → is_asked_back s.mode asked i ≡ false) → s' ≡ redelivered_on key asked s → h' ≡ each (lowered from) h
    → AreHints (record t { subs = set t.subs i s' }) (set hints i h')
hints_lowered t hints key asked i from s s' h h' are low is its none new lower =
    are_hints (record t { subs = set t.subs i s' }) (set hints i h')
    (hints_set t.slots t.subs hints i s' h' are.each_one
    (subst (λ (x : Subscription). AreHintsOn t.slots x h') (sym new)
    (subst (AreHintsOn t.slots (redelivered_on key asked s)) (sym lower) (all_lower t.slots key asked s from none h (hints_at t.slots t.subs hints i s h are.each_one low is its)))))
