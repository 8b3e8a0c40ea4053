-- Where each consumer of a list stands as the list changes.
use Rattle.std.proofs.Common.{◌≡◌, ℕ, ◌+◌, ◌<◌, ◌≤◌, Bool, true, false, not, nat_eq, nat_lt, cond, List, [], ◌∷◌, ◌++◌, length, get_or, drop, filter, ◌∙◌, ap, sym, refl, arith, Option, Some, None}
use Rattle.std.proofs.lemmas.Bool.{true≢false}
use Rattle.std.proofs.lemmas.Bool.Decides.{nat_tests}
use Rattle.std.proofs.lemmas.List.{drop_more}
use Rattle.std.proofs.lemmas.List.Quantifiers.{position-Some}
use Rattle.std.specs.List.{list_any, position}
use Rattle.std.specs.Option.{option_map, is_some}
use Rattle.holds.specs.Deliveries.{same_key}
use Rattle.holds.specs.declared.consumer.ConsumerKey.{ConsumerKey}
use Rattle.subscriptions.specs.State.{Consumer}
use Rattle.subscriptions.specs.Directory.{place_in, ArePlacesAmong, earliest, put_in_place, place_before, numbered}
use Rattle.subscriptions.specs.Steps.{first_changed, is_consumer, granted_to, learnt_to, sent_more}
use Rattle.subscriptions.proofs.Passed.{key_is}
use Rattle.permits.specs.Ends.{Seen}
use Rattle.subscriptions.proofs.Standing.{behind, step, any_place, same_place, beside_place, pushed_place, any_left, none_left, apart, of_session, of_another, by_key, put_some}

abbrev Places : Type 0
Places = List ((ℕ × ℕ) × ℕ)

-- ---- numbered from the last to the first

-- the place of what stands behind the first n
abbrev pub from_on : ℕ → Option ℕ → Option ℕ
from_on n o = option_map (λ p. p + n) o

-- where the consumer stands among those from the nth on
abbrev pub place_from : ℕ → ConsumerKey → List Consumer → Option ℕ
place_from n key cs = from_on n (position (is_consumer key) (drop n cs))

all_dropped : {X : Type 0} (xs : List X) → drop (length xs) xs ≡ []
all_dropped [] = refl
all_dropped (x ∷ xs) = all_dropped xs

pub numbered_none : (cs : List Consumer) (n : ℕ) (key : ConsumerKey) (former : Option ℕ) → n ≡ length cs → former ≡ numbered (place_from n key cs) former
numbered_none cs n key former is = sym (ap (λ n. numbered (place_from n key cs) former) is ∙ ap (λ xs. numbered (from_on (length cs) (position (is_consumer key) xs)) former) (all_dropped cs))

one_more : (b : Bool) (n : ℕ) (o former : Option ℕ) → cond b (put_in_place (Some n) (numbered (from_on (n + 1) o) former)) (numbered (from_on (n + 1) o) former) ≡ numbered (from_on n (behind b o)) former
one_more true n None None = refl
one_more true n None (Some f) = ap (λ n. Some n) (omega arith)
one_more true n (Some p) None = refl
one_more true n (Some p) (Some f) = ap (λ n. Some n) (omega arith)
one_more false n None former = refl
one_more false n (Some p) None = refl
one_more false n (Some p) (Some f) = ap (λ n. Some n) (omega arith)

pub numbered_next : (cs : List Consumer) (n : ℕ) (c : Consumer) (key : ConsumerKey) (before after former : Option ℕ) → n < length cs → c ≡ get_or cs n c → before ≡ numbered (place_from (n + 1) key cs) former
    → after ≡ cond (same_key c.key key) (put_in_place (Some n) before) before → after ≡ numbered (place_from n key cs) former
numbered_next cs n c key before after former low read so_far is =
    is ∙ ap (λ o. cond (same_key c.key key) (put_in_place (Some n) o) o) so_far
    ∙ one_more (same_key c.key key) n (position (is_consumer key) (drop (n + 1) cs)) former
    ∙ ap (λ o. numbered (from_on n o) former) (sym (step (is_consumer key) c (drop (n + 1) cs)))
    ∙ ap (λ x. numbered (from_on n (position (is_consumer key) (x ∷ drop (n + 1) cs))) former) read
    ∙ ap (λ xs. numbered (from_on n (position (is_consumer key) xs)) former) (sym (drop_more cs n c low))

from_first : (o : Option ℕ) → from_on 0 o ≡ o
from_first None = refl
from_first (Some p) = ap (λ n. Some n) (omega arith)

pub numbered_all : (cs : List Consumer) (n : ℕ) (key : ConsumerKey) (after former : Option ℕ) → n ≤ 0 → after ≡ numbered (place_from n key cs) former → after ≡ numbered (position (is_consumer key) cs) former
numbered_all cs n key after former done is =
    let none : n ≡ 0 = omega (arith, done) in
    is ∙ ap (λ n. numbered (place_from n key cs) former) none ∙ ap (λ o. numbered o former) (from_first (position (is_consumer key) cs))

-- ---- the places as the list changes

one_place : (o former : Option ℕ) → is_some former ≡ is_some o → numbered o former ≡ o
one_place None None h = refl
one_place None (Some f) h = absurd (true≢false h)
one_place (Some p) None h = absurd (true≢false (sym h))
one_place (Some p) (Some f) h = refl

-- who stands in the list is who has a place
renumbered : (cs : List Consumer) (before after : Places) → ((k : ConsumerKey) → is_some (place_in before k) ≡ list_any (is_consumer k) cs) → ((k : ConsumerKey) → place_in after k ≡ numbered (position (is_consumer k) cs) (place_in before k))
    → ArePlacesAmong cs after
renumbered cs before after known is = record { found = λ k. is k ∙ one_place (position (is_consumer k) cs) (place_in before k) (known k ∙ sym (any_place (is_consumer k) cs)) }

of_the_one : (a key k : ConsumerKey) → same_key key k ≡ true → not (same_key a key) ≡ true → same_key a k ≡ false
of_the_one a key k same other = grind (arith, nat_tests)

abbrev others : ConsumerKey → List Consumer → List Consumer
others key cs = filter (λ c. not (is_consumer key c)) cs

-- a consumer goes
pub places_without : (cs : List Consumer) (before between after : Places) (key : ConsumerKey) → ((k : ConsumerKey) → place_in between k ≡ cond (same_key key k) (put_in_place None (place_in before k)) (place_in before k))
    → ((k : ConsumerKey) → place_in after k ≡ numbered (position (is_consumer k) (others key cs)) (place_in between k)) → ArePlacesAmong cs before → ArePlacesAmong (others key cs) after
places_without cs before between after key dropped is are = renumbered (others key cs) between after known is where
  known : (k : ConsumerKey) → is_some (place_in between k) ≡ list_any (is_consumer k) (others key cs)
  known k = ap (λ (o : Option ℕ). is_some o) (dropped k) ∙ elim (same_key key k) as (λ b. same_key key k ≡ b → is_some (cond b (put_in_place None (place_in before k)) (place_in before k)) ≡ list_any (is_consumer k) (others key cs)) [
    | true ↦ λ same. sym (none_left (is_consumer k) (λ c. not (is_consumer key c)) (λ c stays. of_the_one c.key key k same stays) cs)
    | false ↦ λ other. ap (λ (o : Option ℕ). is_some o) (are.found k) ∙ any_place (is_consumer k) cs ∙ sym (any_left (is_consumer k) (λ c. not (is_consumer key c)) (apart key k other) cs)
  ] refl

abbrev of_others : ℕ → List Consumer → List Consumer
of_others who cs = filter (λ c. not (nat_eq c.key.session who)) cs

-- a session goes
pub places_without_session : (cs : List Consumer) (before between after : Places) (who : ℕ) → ((k : ConsumerKey) → place_in between k ≡ cond (nat_eq k.session who) None (place_in before k))
    → ((k : ConsumerKey) → place_in after k ≡ numbered (position (is_consumer k) (of_others who cs)) (place_in between k)) → ArePlacesAmong cs before → ArePlacesAmong (of_others who cs) after
places_without_session cs before between after who dropped is are = renumbered (of_others who cs) between after known is where
  known : (k : ConsumerKey) → is_some (place_in between k) ≡ list_any (is_consumer k) (of_others who cs)
  known k = ap (λ (o : Option ℕ). is_some o) (dropped k) ∙ elim (nat_eq k.session who) as (λ b. nat_eq k.session who ≡ b → is_some (cond b None (place_in before k)) ≡ list_any (is_consumer k) (of_others who cs)) [
    | true ↦ λ its. sym (none_left (is_consumer k) (λ c. not (nat_eq c.key.session who)) (λ c stays. of_session c.key k who its stays) cs)
    | false ↦ λ other. ap (λ (o : Option ℕ). is_some o) (are.found k) ∙ any_place (is_consumer k) cs ∙ sym (any_left (is_consumer k) (λ c. not (nat_eq c.key.session who)) (λ c gone. of_another c.key k who other gone) cs)
  ] refl

-- one more, behind the others
pub places_pushed : (cs : List Consumer) (before after : Places) (c : Consumer) (n : ℕ) → n ≡ length cs
    → ((k : ConsumerKey) → place_in after k ≡ cond (same_key c.key k) (Some (earliest (place_in before c.key) n)) (place_in before k))
    → ArePlacesAmong cs before → ArePlacesAmong (cs ++ c ∷ []) after
places_pushed cs before after c n last added are = record {
  found = λ k. added k ∙ by_key c.key k _ _ _
      (λ same. ap (λ o. Some (earliest o n)) (are.found c.key)
      ∙ ap (λ (k : ConsumerKey). Some (earliest (position (is_consumer k) cs) n)) (key_is c.key k same)
      ∙ ap (λ n. Some (earliest (position (is_consumer k) cs) n)) last
      ∙ sym (pushed_place (is_consumer k) cs c same))
      (λ other. are.found k ∙ sym (beside_place (is_consumer k) cs c other));
}

at_the_end : (n : ℕ) → nat_lt n n ≡ false
at_the_end n = grind (arith, nat_tests)

before_the_end : (p n : ℕ) → p < n → nat_lt p n ≡ true
before_the_end p n low = grind (arith, nat_tests)

-- the former place of one that was pushed
taken_back : (o : Option ℕ) (n : ℕ) → ((p : ℕ) → o ≡ Some p → p < n) → place_before n (Some (earliest o n)) ≡ o
taken_back None n low = ap (λ b. cond b (Some n) None) (at_the_end n)
taken_back (Some p) n low =
    let first : earliest (Some p) n ≡ p = omega (arith, low p refl) in
    ap (λ q. place_before n (Some q)) first ∙ ap (λ b. cond b (Some p) None) (before_the_end p n (low p refl))

-- the last one goes
pub places_popped : (cs : List Consumer) (before after : Places) (c : Consumer) (n : ℕ) (former : Option ℕ) → n ≡ length cs → former ≡ place_before n (place_in before c.key)
    → ((k : ConsumerKey) → place_in after k ≡ cond (same_key c.key k) (put_in_place former (place_in before k)) (place_in before k))
    → ArePlacesAmong (cs ++ c ∷ []) before → ArePlacesAmong cs after
places_popped cs before after c n former last was put are = record {
  found = λ k. put k ∙ by_key c.key k _ _ _
      (λ same.
      let stood : (q : ConsumerKey) → same_key c.key q ≡ true → place_in before q ≡ Some (earliest (position (is_consumer q) cs) (length cs)) = λ q here. are.found q ∙ pushed_place (is_consumer q) cs c here in
      ap (put_in_place former) (stood k same) ∙ put_some former _ ∙ was ∙ ap (λ (q : ConsumerKey). place_before n (place_in before q)) (key_is c.key k same)
      ∙ ap (place_before n) (stood k same) ∙ ap (λ n. place_before n (Some (earliest (position (is_consumer k) cs) (length cs)))) last
      ∙ taken_back (position (is_consumer k) cs) (length cs) (λ p at. (position-Some (is_consumer k) cs p c at).0))
      (λ other. are.found k ∙ beside_place (is_consumer k) cs c other);
}

-- consumers change, and keep their keys
pub places_granted_to : (cs : List Consumer) (places : Places) (key : ConsumerKey) (permits : ℕ) → ArePlacesAmong cs places → ArePlacesAmong (first_changed (is_consumer key) (granted_to permits) cs) places
places_granted_to cs places key permits are = record { found = λ k. are.found k ∙ sym (same_place (is_consumer k) (is_consumer key) (granted_to permits) (λ _. refl) cs) }

pub places_learnt_to : (cs : List Consumer) (places : Places) (key : ConsumerKey) (n : Seen) → ArePlacesAmong cs places → ArePlacesAmong (first_changed (is_consumer key) (learnt_to n) cs) places
places_learnt_to cs places key n are = record { found = λ k. are.found k ∙ sym (same_place (is_consumer k) (is_consumer key) (learnt_to n) (λ _. refl) cs) }

pub places_taken : (cs : List Consumer) (places : Places) (key : ConsumerKey) (n : ℕ) → ArePlacesAmong cs places → ArePlacesAmong (first_changed (is_consumer key) (sent_more n) cs) places
places_taken cs places key n are = record { found = λ k. are.found k ∙ sym (same_place (is_consumer k) (is_consumer key) (sent_more n) (λ _. refl) cs) }

-- nobody is there
pub nobody_placed : (places : Places) → places ≡ [] → ArePlacesAmong [] places
nobody_placed places none = record { found = λ k. ap (λ ps. place_in ps k) none }
