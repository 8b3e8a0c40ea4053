-- A session's end, where it has no consumer on a subscription.
use Rattle.std.proofs.Common.{◌≡◌, ℕ, zero, suc, ◌<◌, length, arith, Bool, true, false, not, nat_eq, cond, ◌||◌, ◌&&◌, List, [], ◌∷◌, filter, ◌∙◌, ap, sym, refl, Option, Some, None}
use Rattle.std.proofs.lemmas.Bool.{true≢false}
use Rattle.std.specs.List.{list_any}
use Rattle.std.specs.Option.{option_map}
use Rattle.std.specs.Prelude.{map as each}
use Rattle.std.specs.FinMap as map
use Rattle.holds.specs.Deliveries.{same_key}
use Rattle.holds.specs.declared.consumer.ConsumerKey.{ConsumerKey}
use Rattle.holds.specs.declared.consumer.Consumer.{Consumer as Seat}
use Rattle.holds.specs.declared.delivery.Delivery.{Delivery}
use Rattle.subscriptions.specs.Freeing.{is_among, freed_among}
use Rattle.subscriptions.specs.Soundness.{IsSoundSubscription}
use Rattle.subscriptions.specs.State.{Consumer, Subscription}
use Rattle.subscriptions.specs.Steps.{left_on}
use Rattle.subscriptions.proofs.Lists.{firsts}
use Rattle.subscriptions.proofs.Sound.{freed_by_all}

or_first : (a b : Bool) → (a || b) ≡ false → a ≡ false
or_first true b h = h
or_first false b h = refl

or_second : (a b : Bool) → (a || b) ≡ false → b ≡ false
or_second true b h = absurd (true≢false h)
or_second false b h = h

kept_all : {X : Type 0} (gone : X → Bool) (xs : List X) → list_any gone xs ≡ false → filter (λ x. not (gone x)) xs ≡ xs
kept_all gone [] none = refl
kept_all gone (x ∷ xs) none =
    ap (λ b. cond (not b) (x ∷ filter (λ x. not (gone x)) xs) (filter (λ x. not (gone x)) xs)) (or_first (gone x) (list_any gone xs) none)
    ∙ ap (λ ys. x ∷ ys) (kept_all gone xs (or_second (gone x) (list_any gone xs) none))

by_keys : {X : Type 0} (test : ConsumerKey → Bool) (key_of : X → ConsumerKey) (xs : List X) → list_any (λ x. test (key_of x)) xs ≡ list_any test (each key_of xs)
by_keys test key_of [] = refl
by_keys test key_of (x ∷ xs) = ap (λ b. test (key_of x) || b) (by_keys test key_of xs)

among_none : (who : ℕ) (cs : List Consumer) (h : Option ConsumerKey) → list_any (λ c. nat_eq c.key.session who) cs ≡ false → is_among who cs h ≡ false
among_none who cs None none = refl
among_none who [] (Some k) none = refl
among_none who (c ∷ cs) (Some k) none =
    ap (λ b. (b && same_key k c.key) || is_among who cs (Some k)) (or_first (nat_eq c.key.session who) (list_any (λ c. nat_eq c.key.session who) cs) none)
    ∙ among_none who cs (Some k) (or_second (nat_eq c.key.session who) (list_any (λ c. nat_eq c.key.session who) cs) none)

nothing_freed : (who : ℕ) (cs : List Consumer) (x : Option Delivery) → list_any (λ c. nat_eq c.key.session who) cs ≡ false → x ≡ option_map (freed_among who cs) x
nothing_freed who cs None none = refl
nothing_freed who cs (Some d) none = sym (ap (λ b. let e : Delivery = record { holder = cond b None d.holder; times = d.times } in Some e) (among_none who cs d.holder none))

firsts_length : {X : Type 0} (f : X → X) (n : ℕ) (xs : List X) → length (firsts f n xs) ≡ length xs
firsts_length f zero xs = refl
firsts_length f (suc n) [] = refl
firsts_length f (suc n) (x ∷ xs) = omega (arith, firsts_length f n xs)

-- the next one is there
pub next_one : {X : Type 0} (f : X → X) (n end : ℕ) (xs ys : List X) → ys ≡ firsts f n xs → end ≡ length xs → n < end → n < length ys
next_one f n end xs ys is last low = omega (arith, ap length is, firsts_length f n xs)

-- nobody goes, and nothing is freed
pub stays_left : (who : ℕ) (s : Subscription) → IsSoundSubscription s → list_any (λ c. nat_eq c.key.session who) s.consumers ≡ false → left_on who s ≡ s
stays_left who s sound none =
    let of : ConsumerKey → Bool = λ k. nat_eq k.session who in
    let unseated : list_any (λ (c : Seat). nat_eq c.key.session who) s.seats ≡ false =
    by_keys of (λ (c : Seat). c.key) s.seats ∙ ap (list_any of) sound.seated ∙ sym (by_keys of (λ (c : Consumer). c.key) s.consumers) ∙ none in
    let consumers = kept_all (λ (c : Consumer). nat_eq c.key.session who) s.consumers none in
    let seats = kept_all (λ (c : Seat). nat_eq c.key.session who) s.seats unseated in
    let deliveries = freed_by_all who s s.deliveries sound (λ q. nothing_freed who s.consumers (map.get s.deliveries q) none) in
    λ i. record s { consumers = consumers i; seats = seats i; deliveries = sym deliveries i }
