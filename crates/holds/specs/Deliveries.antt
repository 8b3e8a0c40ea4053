-- For each position that was sent and isn't acknowledged: who holds it, and how often it was sent.
use Rattle.std.specs.Prelude.{ℕ, ◌+◌, ◌-◌, ◌^◌, min, Bool, false, cond, ◌&&◌, nat_eq, Option, Some, None, refl}
use Rattle.std.specs.Ordering.{nat_cmp}
use Rattle.std.specs.Coded.{Coded, code_by, coded×, coded_ℕ, coded_option}
use Rattle.std.specs.FinMap as map
use Rattle.holds.specs.declared.consumer.ConsumerKey.{ConsumerKey}
use Rattle.holds.specs.declared.delivery.Delivery.{Delivery}

abbrev pub Deliveries : Type 0
Deliveries = map.FinMap nat_cmp Delivery

abbrev key_code : Coded ConsumerKey
key_code = code_by (ℕ × ℕ) (coded× coded_ℕ coded_ℕ) (λ k. (k.session, k.id)) (λ p. record { session = p.0; id = p.1 }) (λ _. refl)

abbrev delivery_code : Coded Delivery
delivery_code = code_by (Option ConsumerKey × ℕ) (coded× (coded_option key_code) coded_ℕ) (λ d. (d.holder, d.times)) (λ p. record { holder = p.0; times = p.1 }) (λ _. refl)

abbrev pub deliveries_code : Coded Deliveries
deliveries_code = map.code coded_ℕ delivery_code

-- whether two keys are one
abbrev pub same_key : ConsumerKey → ConsumerKey → Bool
same_key a b = nat_eq a.session b.session && nat_eq a.id b.id

abbrev pub holder_in : Option Delivery → Option ConsumerKey
holder_in None = None
holder_in (Some d) = d.holder

abbrev pub times_in : Option Delivery → ℕ
times_in None = 0
times_in (Some d) = d.times

-- who holds a position
abbrev pub holder : Deliveries → ℕ → Option ConsumerKey
holder d i = holder_in (map.get d i)

-- how often a position was sent
abbrev pub times : Deliveries → ℕ → ℕ
times d i = times_in (map.get d i)

-- a position held by a consumer, and sent once more, as far as 32 bits count
abbrev pub sent_to : ConsumerKey → Option Delivery → Delivery
sent_to consumer d = record { holder = Some consumer; times = min (times_in d + 1) (2 ^ 32 - 1) }

-- a delivery that nobody holds any more
abbrev pub released : Delivery → Delivery
released d = record { holder = None; times = d.times }

abbrev pub is_held_by : ConsumerKey → Option ConsumerKey → Bool
is_held_by consumer None = false
is_held_by consumer (Some key) = same_key key consumer

-- a delivery that the consumer no longer holds
abbrev pub given_back : ConsumerKey → Delivery → Delivery
given_back consumer d = record { holder = cond (is_held_by consumer d.holder) None d.holder; times = d.times }
