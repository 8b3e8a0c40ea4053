-- The seats of a subscription's consumers, as its dispatcher knows them.
use Rattle.std.proofs.Common.{◌≡◌, ℕ, zero, suc, ◌+◌, ◌<◌, ◌≤◌, Bool, true, false, not, cond, nat_eq, ◌||◌, ◌&&◌, List, [], ◌∷◌, ◌++◌, length, filter, take, ◌∙◌, ap, sym, refl, arith, Option, Some, None, get_or, inl, inr}
use Rattle.std.proofs.lemmas.Bool.{true≢false}
use Rattle.std.proofs.lemmas.Bool.Decides.{nat_tests, leb_tells}
use Rattle.std.proofs.lemmas.List.{take_more}
use Rattle.std.specs.List.{list_any, find, position}
use Rattle.std.specs.Option.{IfSome, IfNone, IsSomeAnd, is_some}
use Rattle.std.specs.Prelude.{map as each}
use Rattle.holds.specs.Backlog.{Backlog, IsFirst, IsLeast, IsOpenAt, IsOpenIn, attached}
use Rattle.holds.specs.Deliveries.{same_key}
use Rattle.holds.specs.declared.consumer.ConsumerKey.{ConsumerKey}
use Rattle.holds.specs.declared.consumer.Consumer.{Consumer as Seat}
use Rattle.subscriptions.specs.declared.consumer.Mode.{Mode}
use Rattle.subscriptions.specs.declared.consumer.Mode.TheVariants.{Exclusive, Failover, Shared, KeyShared}
use Rattle.subscriptions.specs.State.{Consumer}
use Rattle.subscriptions.specs.Steps.{is_consumer, is_first, AdmitsBy, IsLeastIn}
use Rattle.subscriptions.specs.Dispatching.{keys, leads, Gives}
use Rattle.key_shared.specs.Ranges.{IsOpenFrom, place_of}
use Rattle.subscriptions.specs.Hints.{IsPassed}
use Rattle.subscriptions.specs.State.{Subscription}
use Rattle.subscriptions.specs.Freeing.{is_among}
use Rattle.subscriptions.proofs.Sound.{among}
use Rattle.subscriptions.proofs.Settled.{or_three}
use Rattle.subscriptions.proofs.Standing.{behind, step, any_place}

module _ {X : Type 0} (key_of : X → ConsumerKey) where
  pub any_key : (test : ConsumerKey → Bool) (xs : List X) → list_any test (each key_of xs) ≡ list_any (λ x. test (key_of x)) xs
  any_key test [] = refl
  any_key test (x ∷ xs) = ap (λ b. test (key_of x) || b) (any_key test xs)

  pub place_key : (test : ConsumerKey → Bool) (xs : List X) → position test (each key_of xs) ≡ position (λ x. test (key_of x)) xs
  place_key test [] = refl
  place_key test (x ∷ xs) = step test (key_of x) (each key_of xs) ∙ ap (behind (test (key_of x))) (place_key test xs) ∙ sym (step (λ x. test (key_of x)) x xs)

-- ---- what the dispatchers give, and what the modes admit

abbrev seat_keys : List Seat → List ConsumerKey
seat_keys seats = each (λ (seat : Seat). seat.key) seats

found_is_some : (test : Seat → Bool) (seats : List Seat) → is_some (find test seats) ≡ list_any test seats
found_is_some test [] = refl
found_is_some test (seat ∷ seats) = elim (test seat) as (λ b. is_some (cond b (Some seat) (find test seats)) ≡ (b || list_any test seats)) [
  | true ↦ refl
  | false ↦ found_is_some test seats
]

same_itself : (a b : ConsumerKey) → a ≡ b → same_key a b ≡ true
same_itself a b h = ap (λ k. same_key k b) h ∙ grind (arith, nat_tests)

same_numbers : (a b : ConsumerKey) → same_key a b ≡ true → (a.session ≡ b.session) × (a.id ≡ b.id)
same_numbers a b h = (grind (arith, nat_tests), grind (arith, nat_tests))

pub one_key : (a b : ConsumerKey) → same_key a b ≡ true → a ≡ b
one_key a b h =
    let parts = same_numbers a b h in
    ap (λ s. let k : ConsumerKey = record { session = s; id = a.id } in k) parts.0 ∙ ap (λ i. let k : ConsumerKey = record { session = b.session; id = i } in k) parts.1

pub leads_first : (key : ConsumerKey) (seats : List Seat) → IsFirst seats key → leads key seats ≡ true
leads_first key [] f = cc
leads_first key (seat ∷ seats) f = let same : seat ≡ f.0 = cc in same_itself seat.key key (ap (λ (x : Seat). x.key) same ∙ f.2)

pub first_leads : (key : ConsumerKey) (seats : List Seat) → leads key seats ≡ true → IsFirst seats key
first_leads key [] h = absurd (true≢false (sym h))
first_leads key (seat ∷ seats) h = (seat, refl, one_key seat.key key h)

-- one answer for two ways to say what is given
pub said_some : (r : Option ℕ) (P Q : ℕ → Type 0) → ((i : ℕ) → P i → Q i) → IfSome r P → IfSome r Q
said_some None P Q to h = tt
said_some (Some i) P Q to h = to i h

pub said_none : (r : Option ℕ) (P Q : ℕ → Type 0) → ((i : ℕ) → Q i → P i) → IfNone r ((i : ℕ) → P i → ⊥) → IfNone r ((i : ℕ) → Q i → ⊥)
said_none None P Q to h = λ i q. h i (to i q)
said_none (Some i) P Q to h = tt

-- no position below the place is left for the consumer: what a search from there finds is the least of all
not_passed : (seat : Seat) (b : Backlog) (from i : ℕ) → IsPassed (Some seat) b.acked b.deliveries b.slots from → IsOpenIn b seat.ranges i → from ≤ i
not_passed seat b from i passed here = elim (leb_tells from i) [
  | inl high ↦ high.1
  | inr low ↦ absurd (passed i low.1 here.0.is_unacked here.0.is_free here.1)
]

pub least_from : (o : Option Seat) (b : Backlog) (from i : ℕ) → IsPassed o b.acked b.deliveries b.slots from → IsSomeAnd o (λ seat. IsLeast (IsOpenFrom b seat.ranges from) i)
    → IsSomeAnd o (λ seat. IsLeastIn seat.ranges b.slots (IsOpenAt b.committed b.acked b.deliveries) i)
least_from None b from i passed h = h
least_from (Some seat) b from i passed h = (h.0.1, λ j here. h.1 j (not_passed seat b from j passed here, here))

pub from_least : (o : Option Seat) (b : Backlog) (from i : ℕ) → IsPassed o b.acked b.deliveries b.slots from → IsSomeAnd o (λ seat. IsLeastIn seat.ranges b.slots (IsOpenAt b.committed b.acked b.deliveries) i)
    → IsSomeAnd o (λ seat. IsOpenFrom b seat.ranges from i)
from_least None b from i passed h = h
from_least (Some seat) b from i passed h = (not_passed seat b from i passed h.0, h.0)

-- the seats and the consumers have the same keys

abbrev leads_key : ConsumerKey → List ConsumerKey → Bool
leads_key key [] = false
leads_key key (k ∷ ks) = same_key k key

leads_seats : (key : ConsumerKey) (seats : List Seat) → leads key seats ≡ leads_key key (seat_keys seats)
leads_seats key [] = refl
leads_seats key (seat ∷ seats) = refl

leads_consumers : (key : ConsumerKey) (cs : List Consumer) → leads_key key (keys cs) ≡ is_first key cs
leads_consumers key [] = refl
leads_consumers key (c ∷ cs) = refl

leads_seated : (key : ConsumerKey) (seats : List Seat) (cs : List Consumer) → seat_keys seats ≡ keys cs → leads key seats ≡ is_first key cs
leads_seated key seats cs seated = leads_seats key seats ∙ ap (leads_key key) seated ∙ leads_consumers key cs

any_seated : (key : ConsumerKey) (seats : List Seat) (cs : List Consumer) → seat_keys seats ≡ keys cs → list_any (λ (seat : Seat). same_key seat.key key) seats ≡ list_any (is_consumer key) cs
any_seated key seats cs seated =
    sym (any_key (λ (seat : Seat). seat.key) (λ k. same_key k key) seats) ∙ ap (list_any (λ k. same_key k key)) seated ∙ any_key (λ (c : Consumer). c.key) (λ k. same_key k key) cs

attached_seated : (key : ConsumerKey) (seats : List Seat) (cs : List Consumer) → seat_keys seats ≡ keys cs → list_any (is_consumer key) cs ≡ true → is_some (attached key seats) ≡ true
attached_seated key seats cs seated on = found_is_some (λ (seat : Seat). same_key seat.key key) seats ∙ any_seated key seats cs seated ∙ on

-- a consumer's seat has its place
pub place_seated : (key : ConsumerKey) (seats : List Seat) (cs : List Consumer) → seat_keys seats ≡ keys cs → place_of key seats ≡ position (is_consumer key) cs
place_seated key seats cs seated =
    sym (place_key (λ (seat : Seat). seat.key) (λ k. same_key k key) seats) ∙ ap (position (λ k. same_key k key)) seated ∙ place_key (λ (c : Consumer). c.key) (λ k. same_key k key) cs

-- who has a place is attached, within the list
pub placed_attached : (key : ConsumerKey) (seats : List Seat) (place : ℕ) → place_of key seats ≡ Some place → is_some (attached key seats) ≡ true
placed_attached key seats place at =
    found_is_some (λ (seat : Seat). same_key seat.key key) seats ∙ sym (any_place (λ (seat : Seat). same_key seat.key key) seats) ∙ ap (λ (o : Option ℕ). is_some o) at

-- what the dispatcher gives a consumer is what its mode lets it get
pub admits_given : (mode : Mode) (key : ConsumerKey) (s : Subscription) (slots : List ℕ) (Opens : ℕ → Type 0) (i : ℕ) → seat_keys s.seats ≡ keys s.consumers
    → Gives mode s.seats key slots Opens i → AdmitsBy mode key s slots Opens i
admits_given Exclusive key s slots Opens i seated g = g.1
admits_given Failover key s slots Opens i seated g = (sym (leads_seated key s.seats s.consumers seated) ∙ g.0, g.1)
admits_given Shared key s slots Opens i seated g = g.1
admits_given KeyShared key s slots Opens i seated g = g

pub gives_admitted : (mode : Mode) (key : ConsumerKey) (s : Subscription) (slots : List ℕ) (Opens : ℕ → Type 0) (i : ℕ) → seat_keys s.seats ≡ keys s.consumers
    → list_any (is_consumer key) s.consumers ≡ true → AdmitsBy mode key s slots Opens i → Gives mode s.seats key slots Opens i
gives_admitted Exclusive key s slots Opens i seated on a = (attached_seated key s.seats s.consumers seated on, a)
gives_admitted Failover key s slots Opens i seated on a = (leads_seated key s.seats s.consumers seated ∙ a.0, a.1)
gives_admitted Shared key s slots Opens i seated on a = (attached_seated key s.seats s.consumers seated on, a)
gives_admitted KeyShared key s slots Opens i seated on a = a

-- ---- the session's consumers go from the dispatcher, one after another

any_append : {X : Type 0} (test : X → Bool) (xs ys : List X) → list_any test (xs ++ ys) ≡ (list_any test xs || list_any test ys)
any_append test [] ys = refl
any_append test (x ∷ xs) ys = ap (λ b. test x || b) (any_append test xs ys) ∙ or_three (test x) (list_any test xs) (list_any test ys)

filter_twice : {X : Type 0} (p q : X → Bool) (xs : List X) → filter p (filter q xs) ≡ filter (λ x. q x && p x) xs
filter_twice p q [] = refl
filter_twice p q (x ∷ xs) = elim (q x) as (λ b. filter p (cond b (x ∷ filter q xs) (filter q xs)) ≡ cond (b && p x) (x ∷ filter (λ x. q x && p x) xs) (filter (λ x. q x && p x) xs)) [
  | true ↦ ap (λ ys. cond (p x) (x ∷ ys) ys) (filter_twice p q xs)
  | false ↦ filter_twice p q xs
]

filter_alike : {X : Type 0} (p q : X → Bool) → ((x : X) → p x ≡ q x) → (xs : List X) → filter p xs ≡ filter q xs
filter_alike p q same [] = refl
filter_alike p q same (x ∷ xs) = ap (λ b. cond b (x ∷ filter p xs) (filter p xs)) (same x) ∙ ap (λ ys. cond (q x) (x ∷ ys) ys) (filter_alike p q same xs)

filter_all : {X : Type 0} (xs : List X) → filter (λ x. true) xs ≡ xs
filter_all [] = refl
filter_all (x ∷ xs) = ap (λ ys. x ∷ ys) (filter_all xs)

-- the seats that stay once the first of the session's consumers are gone
abbrev pub staying : ℕ → List Consumer → List Seat → List Seat
staying who gone seats = filter (λ (seat : Seat). not (is_among who gone (Some seat.key))) seats

pub all_stay : (who : ℕ) (seats : List Seat) → staying who [] seats ≡ seats
all_stay who seats = filter_all seats

not_either : (a b : Bool) → (not a && not b) ≡ not (a || (b || false))
not_either true b = refl
not_either false true = refl
not_either false false = refl

among_next : (who : ℕ) (cs : List Consumer) (c : Consumer) (k : ConsumerKey) → is_among who (cs ++ c ∷ []) (Some k) ≡ (is_among who cs (Some k) || ((nat_eq c.key.session who && same_key k c.key) || false))
among_next who cs c k = any_append (λ (c : Consumer). nat_eq c.key.session who && same_key k c.key) cs (c ∷ [])

-- one consumer more is looked at
pub one_goes : (who : ℕ) (cs : List Consumer) (i : ℕ) (c d : Consumer) (seats before after : List Seat) → i < length cs → c ≡ get_or cs i d → before ≡ staying who (take i cs) seats
    → after ≡ filter (λ (seat : Seat). not (nat_eq c.key.session who && same_key seat.key c.key)) before → after ≡ staying who (take (i + 1) cs) seats
one_goes who cs i c d seats before after within read so_far is =
    is ∙ ap (filter (λ (seat : Seat). not (nat_eq c.key.session who && same_key seat.key c.key))) so_far
    ∙ filter_twice (λ (seat : Seat). not (nat_eq c.key.session who && same_key seat.key c.key)) (λ (seat : Seat). not (is_among who (take i cs) (Some seat.key))) seats
    ∙ filter_alike _ _ (λ (seat : Seat). not_either (is_among who (take i cs) (Some seat.key)) (nat_eq c.key.session who && same_key seat.key c.key) ∙ ap not (sym (among_next who (take i cs) c seat.key))) seats
    ∙ ap (λ gone. staying who gone seats) (ap (λ x. take i cs ++ x ∷ []) read ∙ sym (take_more cs i d within))

-- where it is of another session, it stays
pub stays_there : (w : Bool) (key : ConsumerKey) (seats : List Seat) → w ≡ false → seats ≡ filter (λ (seat : Seat). not (w && same_key seat.key key)) seats
stays_there true key seats h = absurd (true≢false h)
stays_there false key seats h = sym (filter_all seats)

all_taken : {X : Type 0} (xs : List X) (i : ℕ) → length xs ≤ i → take i xs ≡ xs
all_taken [] zero h = refl
all_taken [] (suc i) h = refl
all_taken (x ∷ xs) zero h = absurd (omega (arith, h))
all_taken (x ∷ xs) (suc i) h = ap (λ ys. x ∷ ys) (all_taken xs i (omega (arith, h)))

or_right : (a b : Bool) → b ≡ true → (a || b) ≡ true
or_right true b h = refl
or_right false b h = h

those_stay : (who : ℕ) (gone : List Consumer) (seats : List Seat) → ((k : ConsumerKey) → list_any (λ (seat : Seat). same_key seat.key k) seats ≡ true → list_any (is_consumer k) gone ≡ true)
    → staying who gone seats ≡ filter (λ (seat : Seat). not (nat_eq seat.key.session who)) seats
those_stay who gone [] to = refl
those_stay who gone (seat ∷ seats) to =
    let here : is_among who gone (Some seat.key) ≡ nat_eq seat.key.session who =
    among who seat.key gone ∙ ap (λ b. b && nat_eq seat.key.session who) (to seat.key (ap (λ b. b || list_any (λ (other : Seat). same_key other.key seat.key) seats) (same_itself seat.key seat.key refl))) in
    ap (λ b. cond (not b) (seat ∷ staying who gone seats) (staying who gone seats)) here
    ∙ ap (λ rest. cond (not (nat_eq seat.key.session who)) (seat ∷ rest) rest) (those_stay who gone seats (λ k h. to k (or_right (same_key seat.key k) _ h)))

pub session_gone : (who : ℕ) (cs : List Consumer) (i : ℕ) (seats after : List Seat) → length cs ≤ i → seat_keys seats ≡ keys cs → after ≡ staying who (take i cs) seats
    → after ≡ filter (λ (seat : Seat). not (nat_eq seat.key.session who)) seats
session_gone who cs i seats after past seated is =
    is ∙ ap (λ gone. staying who gone seats) (all_taken cs i past) ∙ those_stay who cs seats (λ k h. sym (any_seated k seats cs seated) ∙ h)
