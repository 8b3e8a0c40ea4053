-- Where each consumer stands as a topic's subscriptions change.
use Rattle.std.proofs.Common.{◌≡◌, ℕ, zero, suc, ◌+◌, ◌<◌, Bool, true, false, not, nat_eq, nat_lt, nat_le, cond, ◌||◌, ◌&&◌, List, [], ◌∷◌, ◌++◌, length, get_or, filter, ◌∙◌, ap, sym, subst, refl, arith, Option, Some, None}
use Rattle.std.proofs.lemmas.Bool.{true≢false}
use Rattle.std.proofs.lemmas.Bool.Decides.{nat_tests}
use Rattle.std.specs.List.{list_any, find, position, position_or_len, remove}
use Rattle.std.specs.Option.{option_map, is_some}
use Rattle.std.specs.BTreeMap.{is_at}
use Rattle.std.specs.Map.{lookup}
use Rattle.std.specs.Cmp.{unsigned_tied}
use Rattle.std.specs.Ordering.{nat_cmp, ordering_then, is_eq}
use Rattle.std.specs.declared.cmp.Ordering.{Ordering}
use Rattle.std.specs.declared.cmp.Ordering.TheVariants.{Less, Equal, Greater}
use Rattle.std.specs.Prelude.{map as each}
use Rattle.holds.specs.Deliveries.{same_key}
use Rattle.holds.specs.declared.consumer.ConsumerKey.{ConsumerKey}
use Rattle.holds.specs.declared.consumer.Consumer.{Consumer as Seat}
use Rattle.cursor.specs.Positions.{Positions}
use Rattle.subscriptions.specs.declared.consumer.Mode.{Mode}
use Rattle.subscriptions.specs.declared.consumer.Refusal.TheVariants.{ConsumerBusy, TooManyRequests}
use Rattle.subscriptions.specs.State.{Consumer, Subscription, Subscriptions}
use Rattle.subscriptions.specs.Directory.{pair_cmp, place_in, ArePlaces, earliest, moved_up, put_in_place}
use Rattle.subscriptions.specs.Steps.{first_changed, is_consumer, is_on, is_named, is_shared, opened_one, granted_to, granted_on, learnt_to, learnt_on, sent_more, sent_on, acked_on, acked_through_on, redelivered_on, attached_to, made, detached_on, left_on, first_standing, unsubscribe_refusals}
use Rattle.subscriptions.proofs.Sound.{any_changed}
use Rattle.subscriptions.proofs.Passed.{key_is}
use Rattle.subscriptions.proofs.Places.{is_place, finds}
use Rattle.permits.specs.Ends.{Seen, Word}

-- ---- the directory as a list

then_equal : (x y : Ordering) → is_eq (ordering_then x y) ≡ (is_eq x && is_eq y)
then_equal Less y = refl
then_equal Equal y = refl
then_equal Greater y = refl

tied : (key k : ConsumerKey) → is_at (pair_cmp (key.session, key.id)) (k.session, k.id) ≡ same_key key k
tied key k =
    then_equal (nat_cmp key.session k.session) (nat_cmp key.id k.id)
    ∙ ap (λ b. b && is_eq (nat_cmp key.id k.id)) (unsigned_tied key.session k.session)
    ∙ ap (λ b. nat_eq key.session k.session && b) (unsigned_tied key.id k.id)

tied_cond : (key k : ConsumerKey) (x y : Option ℕ) → cond (is_at (pair_cmp (key.session, key.id)) (k.session, k.id)) x y ≡ cond (same_key key k) x y
tied_cond key k x y = ap (λ b. cond b x y) (tied key k)

-- what stands at each pair once one has been changed
abbrev Changed : List ((ℕ × ℕ) × ℕ) → List ((ℕ × ℕ) × ℕ) → ConsumerKey → Option ℕ → Type 0
Changed es es' key place = (q : ℕ × ℕ) → lookup (is_at (pair_cmp q)) es' ≡ cond (is_at (pair_cmp (key.session, key.id)) q) place (lookup (is_at (pair_cmp q)) es)

pub added : (es es' now : List ((ℕ × ℕ) × ℕ)) (key : ConsumerKey) (place first : ℕ) (former : Option ℕ) → es ≡ now → former ≡ place_in now key → first ≡ earliest former place → Changed es es' key (Some first)
    → (k : ConsumerKey) → place_in es' k ≡ cond (same_key key k) (Some (earliest (place_in now key) place)) (place_in now k)
added es es' now key place first former same was is says k =
    says (k.session, k.id) ∙ tied_cond key k (Some first) (place_in es k) ∙ ap (λ n. cond (same_key key k) (Some n) (place_in es k)) (is ∙ ap (λ o. earliest o place) was)
    ∙ ap (λ l. cond (same_key key k) (Some (earliest (place_in now key) place)) (place_in l k)) same

pub dropped : (es es' : List ((ℕ × ℕ) × ℕ)) (key : ConsumerKey) (place : Option ℕ) → place ≡ None → Changed es es' key None
    → (k : ConsumerKey) → place_in es' k ≡ cond (same_key key k) (put_in_place place (place_in es k)) (place_in es k)
dropped es es' key place none says k =
    says (k.session, k.id) ∙ tied_cond key k None (place_in es k) ∙ ap (λ o. cond (same_key key k) (put_in_place o (place_in es k)) (place_in es k)) (sym none)

pub overwritten : (es es' : List ((ℕ × ℕ) × ℕ)) (key : ConsumerKey) (place former : ℕ) → place_in es key ≡ Some former → Changed es es' key (Some place)
    → (k : ConsumerKey) → place_in es' k ≡ cond (same_key key k) (put_in_place (Some place) (place_in es k)) (place_in es k)
overwritten es es' key place former was says k =
    says (k.session, k.id) ∙ tied_cond key k (Some place) (place_in es k)
    ∙ elim (same_key key k) as (λ b. same_key key k ≡ b → cond b (Some place) (place_in es k) ≡ cond b (put_in_place (Some place) (place_in es k)) (place_in es k)) [
      | true ↦ λ same. sym (ap (put_in_place (Some place)) (ap (place_in es) (sym (key_is key k same)) ∙ was))
      | false ↦ λ _. refl
    ] refl

stays_or_goes : (s t w : Bool) (v : ℕ) (rest : Option ℕ) → (t ≡ true → s ≡ w) → cond (not s) (cond t (Some v) (cond w None rest)) (cond w None rest) ≡ cond w None (cond t (Some v) rest)
stays_or_goes true true true v rest h = refl
stays_or_goes true true false v rest h = absurd (true≢false (h refl))
stays_or_goes false true true v rest h = absurd (true≢false (sym (h refl)))
stays_or_goes false true false v rest h = refl
stays_or_goes true false w v rest h = refl
stays_or_goes false false w v rest h = refl

same_session : (key k : ConsumerKey) (who : ℕ) → same_key key k ≡ true → nat_eq k.session who ≡ nat_eq key.session who
same_session key k who same = grind (arith, nat_tests)

pub without_session : (who : ℕ) (es : List ((ℕ × ℕ) × ℕ)) (k : ConsumerKey) → place_in (filter (λ e. not (nat_eq e.0.0 who)) es) k ≡ cond (nat_eq k.session who) None (place_in es k)
without_session who [] k = elim (nat_eq k.session who) as (λ b. None ≡ cond {A = Option ℕ} b None None) [ true ↦ refl | false ↦ refl ]
without_session who (e ∷ es) k =
    let here : ConsumerKey = record { session = e.0.0; id = e.0.1 } in
    let rest = without_session who es k in
    elim (nat_eq e.0.0 who) as (λ s. place_in (cond (not s) (e ∷ filter (λ e. not (nat_eq e.0.0 who)) es) (filter (λ e. not (nat_eq e.0.0 who)) es)) k
    ≡ cond (not s) (cond (is_at (pair_cmp (k.session, k.id)) e.0) (Some e.1) (cond (nat_eq k.session who) None (place_in es k))) (cond (nat_eq k.session who) None (place_in es k))) [
      | true ↦ rest
      | false ↦ ap (λ o. cond (is_at (pair_cmp (k.session, k.id)) e.0) (Some e.1) o) rest
    ]
    ∙ stays_or_goes (nat_eq e.0.0 who) (is_at (pair_cmp (k.session, k.id)) e.0) (nat_eq k.session who) e.1 (place_in es k) (λ at. same_session k here who (sym (tied k here) ∙ at))

less : (n m : ℕ) → nat_lt n m ≡ true → n < m
less n m h = grind (arith, nat_tests)

pub in_bounds : (n m i : ℕ) → cond (nat_lt n m) (Some n) None ≡ Some i → i < m
in_bounds n m i = elim (nat_lt n m) as (λ b. nat_lt n m ≡ b → cond b (Some n) None ≡ Some i → i < m) [
  | true ↦ λ low is. let same : n ≡ i = cc in subst (λ k. k < m) same (less n m low)
  | false ↦ λ _ is. absurd (cc)
] refl

pub in_list : (subs : List Subscription) (places : List ((ℕ × ℕ) × ℕ)) (key : ConsumerKey) (place : ℕ) → ArePlaces subs places → place_in places key ≡ Some place → place < length subs
in_list subs places key place are is = in_bounds (position_or_len (is_on key) subs) (length subs) place (sym (are.found key) ∙ is)

-- ---- the first place in a list, element by element

abbrev pub behind : Bool → Option ℕ → Option ℕ
behind b o = cond b (Some 0) (option_map suc o)

-- a place in what follows the first element
deeper : (b : Bool) (o : Option ℕ) (p : ℕ) → behind b (Some (earliest o p)) ≡ Some (earliest (behind b o) (suc p))
deeper true o p = ap (λ n. Some n) (omega arith)
deeper false None p = refl
deeper false (Some r) p = ap (λ n. Some n) (omega arith)

first_of_all : (o : Option ℕ) → earliest o 0 ≡ 0
first_of_all None = refl
first_of_all (Some r) = omega arith

up_and_down : (r : ℕ) → r ≡ moved_up 0 (suc r)
up_and_down r = grind (arith, nat_tests)

unmoved : (o : Option ℕ) → o ≡ option_map (moved_up 0) (option_map suc o)
unmoved None = refl
unmoved (Some r) = ap (λ n. Some n) (up_and_down r)

up_one : (p r : ℕ) → suc (moved_up p r) ≡ moved_up (suc p) (suc r)
up_one p r = grind (arith, nat_tests)

stays_first : (p : ℕ) → 0 ≡ moved_up (suc p) 0
stays_first p = grind (arith, nat_tests)

moved_behind : (b : Bool) (o : Option ℕ) (p : ℕ) → behind b (option_map (moved_up p) o) ≡ option_map (moved_up (suc p)) (behind b o)
moved_behind true o p = ap (λ n. Some n) (stays_first p)
moved_behind false None p = refl
moved_behind false (Some r) p = ap (λ n. Some n) (up_one p r)

some_long : (m : ℕ) → nat_lt 0 (suc m) ≡ true
some_long m = grind (arith, nat_tests)

longer : (n m : ℕ) → nat_lt (1 + n) (suc m) ≡ nat_lt n m
longer n m = grind (arith, nat_tests)

further : (b : Bool) (n : ℕ) → cond b (Some (1 + n)) None ≡ option_map suc (cond b (Some n) None)
further true n = ap (λ k. Some k) (omega arith)
further false n = refl

first_or_behind : (b : Bool) (n m : ℕ) → cond (nat_lt (cond (not b) (1 + n) 0) (suc m)) (Some (cond (not b) (1 + n) 0)) None ≡ behind b (cond (nat_lt n m) (Some n) None)
first_or_behind true n m = ap (λ b. cond b (Some 0) None) (some_long m)
first_or_behind false n m = ap (λ b. cond b (Some (1 + n)) None) (longer n m) ∙ further (nat_lt n m) n

some_behind : (b : Bool) (o : Option ℕ) → is_some (behind b o) ≡ (b || is_some o)
some_behind true o = refl
some_behind false None = refl
some_behind false (Some r) = refl

module _ {X : Type 0} (q : X → Bool) where
  pub step : (x : X) (xs : List X) → position q (x ∷ xs) ≡ behind (q x) (position q xs)
  step x xs = first_or_behind (q x) (position_or_len q xs) (length xs)

  -- one that passes has a place
  pub any_place : (xs : List X) → is_some (position q xs) ≡ list_any q xs
  any_place [] = refl
  any_place (x ∷ xs) = ap (λ (o : Option ℕ). is_some o) (step x xs) ∙ some_behind (q x) (position q xs) ∙ ap (λ b. q x || b) (any_place xs)

  -- the test says the same of what is changed
  pub same_place : (test : X → Bool) (f : X → X) → ((x : X) → q (f x) ≡ q x) → (xs : List X) → position q (first_changed test f xs) ≡ position q xs
  same_place test f same [] = refl
  same_place test f same (x ∷ xs) = elim (test x) as (λ b. position q (cond b (f x ∷ xs) (x ∷ first_changed test f xs)) ≡ position q (x ∷ xs)) [
    | true ↦ step (f x) xs ∙ ap (λ b. behind b (position q xs)) (same x) ∙ sym (step x xs)
    | false ↦ step x (first_changed test f xs) ∙ ap (behind (q x)) (same_place test f same xs) ∙ sym (step x xs)
  ]

  at_once : (test : X → Bool) (f : X → X) → ((x : X) → q (f x) ≡ true) → (x : X) (xs : List X) (p : ℕ) → Some 0 ≡ Some p → position q (f x ∷ xs) ≡ Some (earliest (position q (x ∷ xs)) p)
  at_once test f here x xs p is =
      let first : 0 ≡ p = cc in
      step (f x) xs ∙ ap (λ b. behind b (position q xs)) (here x) ∙ ap (λ n. Some n) (sym (first_of_all (position q (x ∷ xs)))) ∙ ap (λ n. Some (earliest (position q (x ∷ xs)) n)) first

  next_one : (x : X) (xs ys : List X) (t : Option ℕ) (p : ℕ) → option_map suc t ≡ Some p → ((r : ℕ) → t ≡ Some r → position q ys ≡ Some (earliest (position q xs) r)) → position q (x ∷ ys) ≡ Some (earliest (position q (x ∷ xs)) p)
  next_one x xs ys None p is rest = absurd (cc)
  next_one x xs ys (Some r) p is rest =
      let before : suc r ≡ p = cc in
      step x ys ∙ ap (behind (q x)) (rest r refl) ∙ deeper (q x) (position q xs) r ∙ ap (λ o. Some (earliest o (suc r))) (sym (step x xs)) ∙ ap (λ n. Some (earliest (position q (x ∷ xs)) n)) before

-- the first that passes one test comes to pass another
joined_place : {X : Type 0} (q test : X → Bool) (f : X → X) → ((x : X) → q (f x) ≡ true) → (xs : List X) (p : ℕ) → position test xs ≡ Some p → position q (first_changed test f xs) ≡ Some (earliest (position q xs) p)
joined_place q test f here [] p at = absurd (cc)
joined_place q test f here (x ∷ xs) p at = elim (test x) as (λ b. behind b (position test xs) ≡ Some p → position q (cond b (f x ∷ xs) (x ∷ first_changed test f xs)) ≡ Some (earliest (position q (x ∷ xs)) p)) [
  | true ↦ λ is. at_once q test f here x xs p is
  | false ↦ λ is. next_one q x xs (first_changed test f xs) (position test xs) p is (λ r at. joined_place q test f here xs r at)
] (sym (step test x xs) ∙ at)

module _ {X : Type 0} (q : X → Bool) where
  -- one more, behind the others
  pub beside_place : (xs : List X) (y : X) → q y ≡ false → position q (xs ++ y ∷ []) ≡ position q xs
  beside_place [] y other = step q y [] ∙ ap (λ b. behind b None) other
  beside_place (x ∷ xs) y other = step q x (xs ++ y ∷ []) ∙ ap (behind (q x)) (beside_place xs y other) ∙ sym (step q x xs)

  pub pushed_place : (xs : List X) (y : X) → q y ≡ true → position q (xs ++ y ∷ []) ≡ Some (earliest (position q xs) (length xs))
  pushed_place [] y here = step q y [] ∙ ap (λ b. behind b None) here
  pushed_place (x ∷ xs) y here =
      step q x (xs ++ y ∷ []) ∙ ap (behind (q x)) (pushed_place xs y here) ∙ deeper (q x) (position q xs) (length xs) ∙ ap (λ o. Some (earliest o (suc (length xs)))) (sym (step q x xs))

  -- each is changed
  nowhere : (f : X → X) → ((x : X) → q (f x) ≡ false) → (xs : List X) → position q (each f xs) ≡ None
  nowhere f none [] = refl
  nowhere f none (x ∷ xs) = step q (f x) (each f xs) ∙ ap (λ b. behind b (position q (each f xs))) (none x) ∙ ap (option_map suc) (nowhere f none xs)

  same_each : (f : X → X) → ((x : X) → q (f x) ≡ q x) → (xs : List X) → position q (each f xs) ≡ position q xs
  same_each f same [] = refl
  same_each f same (x ∷ xs) = step q (f x) (each f xs) ∙ ap (λ b. behind b (position q (each f xs))) (same x) ∙ ap (behind (q x)) (same_each f same xs) ∙ sym (step q x xs)

  -- one that doesn't pass goes
  removed_place : (xs : List X) (p : ℕ) (d : X) → p < length xs → q (get_or xs p d) ≡ false → position q (remove xs p) ≡ option_map (moved_up p) (position q xs)
  removed_place [] p d low other = absurd (omega (arith, low))
  removed_place (x ∷ xs) zero d low other = unmoved (position q xs) ∙ ap (λ b. option_map (moved_up 0) (behind b (position q xs))) (sym other) ∙ ap (option_map (moved_up 0)) (sym (step q x xs))
  removed_place (x ∷ xs) (suc p) d low other =
      step q x (remove xs p) ∙ ap (behind (q x)) (removed_place xs p d (omega (arith, low)) other) ∙ moved_behind (q x) (position q xs) p ∙ ap (option_map (moved_up (suc p))) (sym (step q x xs))

  -- whether any passes
  any_beside : (xs : List X) (y : X) → q y ≡ false → list_any q (xs ++ y ∷ []) ≡ list_any q xs
  any_beside [] y other = ap (λ b. b || false) other
  any_beside (x ∷ xs) y other = ap (λ b. q x || b) (any_beside xs y other)

  or_true : (b : Bool) → (b || true) ≡ true
  or_true true = refl
  or_true false = refl

  any_pushed : (xs : List X) (y : X) → q y ≡ true → list_any q (xs ++ y ∷ []) ≡ true
  any_pushed [] y here = ap (λ b. b || false) here
  any_pushed (x ∷ xs) y here = ap (λ b. q x || b) (any_pushed xs y here) ∙ or_true (q x)

  pub any_left : (keep : X → Bool) → ((x : X) → keep x ≡ false → q x ≡ false) → (xs : List X) → list_any q (filter keep xs) ≡ list_any q xs
  any_left keep gone [] = refl
  any_left keep gone (x ∷ xs) = elim (keep x) as (λ b. keep x ≡ b → list_any q (cond b (x ∷ filter keep xs) (filter keep xs)) ≡ (q x || list_any q xs)) [
    | true ↦ λ _. ap (λ b. q x || b) (any_left keep gone xs)
    | false ↦ λ is. any_left keep gone xs ∙ ap (λ b. b || list_any q xs) (sym (gone x is))
  ] refl

  pub none_left : (keep : X → Bool) → ((x : X) → keep x ≡ true → q x ≡ false) → (xs : List X) → list_any q (filter keep xs) ≡ false
  none_left keep gone [] = refl
  none_left keep gone (x ∷ xs) = elim (keep x) as (λ b. keep x ≡ b → list_any q (cond b (x ∷ filter keep xs) (filter keep xs)) ≡ false) [
    | true ↦ λ is. ap (λ b. b || list_any q (filter keep xs)) (gone x is) ∙ none_left keep gone xs
    | false ↦ λ _. none_left keep gone xs
  ] refl

-- ---- who is on a subscription

other_key : (a b c : ConsumerKey) → same_key a b ≡ false → same_key c a ≡ true → same_key c b ≡ false
other_key a b c other same = grind (arith, nat_tests)

-- who is the one isn't the other
pub apart : (key k : ConsumerKey) → same_key key k ≡ false → (c : Consumer) → not (is_consumer key c) ≡ false → is_consumer k c ≡ false
apart key k other c is = other_key key k c.key other (not_false (is_consumer key c) is) where
  not_false : (b : Bool) → not b ≡ false → b ≡ true
  not_false true h = refl
  not_false false h = absurd (true≢false h)

pub of_session : (key k : ConsumerKey) (who : ℕ) → nat_eq k.session who ≡ true → not (nat_eq key.session who) ≡ true → same_key key k ≡ false
of_session key k who its other = grind (arith, nat_tests)

pub of_another : (key k : ConsumerKey) (who : ℕ) → nat_eq k.session who ≡ false → not (nat_eq key.session who) ≡ false → same_key key k ≡ false
of_another key k who its other = grind (arith, nat_tests)

on_granted : (key : ConsumerKey) (permits : ℕ) (k : ConsumerKey) (s : Subscription) → is_on k (granted_on key permits s) ≡ is_on k s
on_granted key permits k s = any_changed (is_consumer key) (granted_to permits) (is_consumer k) (λ _. refl) s.consumers

pub on_learnt : (key : ConsumerKey) (n : Seen) (k : ConsumerKey) (s : Subscription) → is_on k (learnt_on key n s) ≡ is_on k s
on_learnt key n k s = any_changed (is_consumer key) (learnt_to n) (is_consumer k) (λ _. refl) s.consumers

on_sent : (key : ConsumerKey) (n i : ℕ) (k : ConsumerKey) (s : Subscription) → is_on k (sent_on key n i s) ≡ is_on k s
on_sent key n i k s = any_changed (is_consumer key) (sent_more n) (is_consumer k) (λ _. refl) s.consumers

on_detached : (key k : ConsumerKey) → same_key key k ≡ false → (s : Subscription) → is_on k (detached_on key s) ≡ is_on k s
on_detached key k other s = any_left (is_consumer k) (λ c. not (is_consumer key c)) (apart key k other) s.consumers

on_left : (who : ℕ) (k : ConsumerKey) → nat_eq k.session who ≡ false → (s : Subscription) → is_on k (left_on who s) ≡ is_on k s
on_left who k other s = any_left (is_consumer k) (λ c. not (nat_eq c.key.session who)) (λ c gone. of_another c.key k who other gone) s.consumers

off_left : (who : ℕ) (k : ConsumerKey) → nat_eq k.session who ≡ true → (s : Subscription) → is_on k (left_on who s) ≡ false
off_left who k its s = none_left (is_consumer k) (λ c. not (nat_eq c.key.session who)) (λ c stays. of_session c.key k who its stays) s.consumers

same_itself : (key : ConsumerKey) → same_key key key ≡ true
same_itself key = grind (arith, nat_tests)

two_long : (n : ℕ) → nat_lt 1 (suc (suc n)) ≡ true
two_long n = grind (arith, nat_tests)

-- nobody else is on a subscription of one consumer
alone : (key k : ConsumerKey) (cs : List Consumer) → same_key key k ≡ false → nat_lt 1 (length cs) ≡ false → list_any (is_consumer key) cs ≡ true → list_any (is_consumer k) cs ≡ false
alone key k [] other one on = refl
alone key k (c ∷ []) other one on = ap (λ b. b || false) (other_key key k c.key other (sym (or_none (is_consumer key c)) ∙ on)) where
  or_none : (b : Bool) → (b || false) ≡ b
  or_none true = refl
  or_none false = refl
alone key k (c ∷ d ∷ cs) other one on = absurd (true≢false (sym (two_long (length cs)) ∙ one))

-- ---- the places as the subscriptions change

-- a subscription keeps its consumers
places_kept : (subs : List Subscription) (places : List ((ℕ × ℕ) × ℕ)) (test : Subscription → Bool) (f : Subscription → Subscription) → ((k : ConsumerKey) (s : Subscription) → is_on k (f s) ≡ is_on k s)
    → ArePlaces subs places → ArePlaces (first_changed test f subs) places
places_kept subs places test f same are = record { found = λ k. are.found k ∙ sym (same_place (is_on k) test f (same k) subs) }

pub places_granted : (subs : List Subscription) (places : List ((ℕ × ℕ) × ℕ)) (key : ConsumerKey) (permits : ℕ) → ArePlaces subs places → ArePlaces (first_changed (is_on key) (granted_on key permits) subs) places
places_granted subs places key permits are = places_kept subs places (is_on key) (granted_on key permits) (on_granted key permits) are

pub places_learnt : (subs : List Subscription) (places : List ((ℕ × ℕ) × ℕ)) (key : ConsumerKey) (n : Seen) → ArePlaces subs places → ArePlaces (first_changed (is_on key) (learnt_on key n) subs) places
places_learnt subs places key n are = places_kept subs places (is_on key) (learnt_on key n) (on_learnt key n) are

pub places_sent : (subs : List Subscription) (places : List ((ℕ × ℕ) × ℕ)) (key : ConsumerKey) (n i : ℕ) → ArePlaces subs places → ArePlaces (first_changed (is_on key) (sent_on key n i) subs) places
places_sent subs places key n i are = places_kept subs places (is_on key) (sent_on key n i) (on_sent key n i) are

pub places_acked : (subs : List Subscription) (places : List ((ℕ × ℕ) × ℕ)) (key : ConsumerKey) (positions : List ℕ) → ArePlaces subs places → ArePlaces (first_changed (is_on key) (acked_on positions) subs) places
places_acked subs places key positions are = places_kept subs places (is_on key) (acked_on positions) (λ _ _. refl) are

pub places_acked_through : (subs : List Subscription) (places : List ((ℕ × ℕ) × ℕ)) (key : ConsumerKey) (i : ℕ) → ArePlaces subs places → ArePlaces (first_changed (is_on key) (acked_through_on i) subs) places
places_acked_through subs places key i are = places_kept subs places (is_on key) (acked_through_on i) (λ _ _. refl) are

pub places_redelivered : (subs : List Subscription) (places : List ((ℕ × ℕ) × ℕ)) (key : ConsumerKey) (asked : Option (List ℕ)) → ArePlaces subs places → ArePlaces (first_changed (is_on key) (redelivered_on key asked) subs) places
places_redelivered subs places key asked are = places_kept subs places (is_on key) (redelivered_on key asked) (λ _ _. refl) are

-- one consumer's place is another, and the rest stay
pub by_key : (key k : ConsumerKey) (a b c : Option ℕ) → (same_key key k ≡ true → a ≡ c) → (same_key key k ≡ false → b ≡ c) → cond (same_key key k) a b ≡ c
by_key key k a b c its others = elim (same_key key k) as (λ s. same_key key k ≡ s → cond s a b ≡ c) [ true ↦ λ same. its same | false ↦ λ other. others other ] refl

abbrev newcomer : Seat → Word → Consumer
newcomer seat word = record { key = seat.key; granted = 0; sent = 0; word = word; looks = 0 }

-- a consumer is attached to the subscription of a name
pub places_joined : (subs : List Subscription) (places places' : List ((ℕ × ℕ) × ℕ)) (name : List ℕ) (mode : Mode) (seat : Seat) (word : Word) (p : ℕ) → position (is_named name) subs ≡ Some p
    → ((k : ConsumerKey) → place_in places' k ≡ cond (same_key seat.key k) (Some (earliest (place_in places seat.key) p)) (place_in places k))
    → ArePlaces subs places → ArePlaces (first_changed (is_named name) (attached_to mode seat word) subs) places'
places_joined subs places places' name mode seat word p at says are = record {
  found = λ k. says k ∙ by_key seat.key k _ _ _
      (λ same. ap (λ o. Some (earliest o p)) (are.found seat.key)
      ∙ ap (λ (k : ConsumerKey). Some (earliest (position (is_on k) subs) p)) (key_is seat.key k same)
      ∙ sym (joined_place (is_on k) (is_named name) (attached_to mode seat word) (λ s. any_pushed (is_consumer k) s.consumers (newcomer seat word) same) subs p at))
      (λ other. are.found k ∙ sym (same_place (is_on k) (is_named name) (attached_to mode seat word) (λ s. any_beside (is_consumer k) s.consumers (newcomer seat word) other) subs));
}

-- a subscription is made, with a consumer
pub places_made : (subs : List Subscription) (places places' : List ((ℕ × ℕ) × ℕ)) (name : List ℕ) (mode : Mode) (seat : Seat) (word : Word) (start n : ℕ) → n ≡ length subs
    → ((k : ConsumerKey) → place_in places' k ≡ cond (same_key seat.key k) (Some (earliest (place_in places seat.key) n)) (place_in places k))
    → ArePlaces subs places → ArePlaces (subs ++ attached_to mode seat word (made name mode start) ∷ []) places'
places_made subs places places' name mode seat word start n last says are = record {
  found = λ k. says k ∙ by_key seat.key k _ _ _
      (λ same. ap (λ o. Some (earliest o n)) (are.found seat.key)
      ∙ ap (λ (k : ConsumerKey). Some (earliest (position (is_on k) subs) n)) (key_is seat.key k same)
      ∙ ap (λ n. Some (earliest (position (is_on k) subs) n)) last
      ∙ sym (pushed_place (is_on k) subs (attached_to mode seat word (made name mode start)) (any_pushed (is_consumer k) [] (newcomer seat word) same)))
      (λ other. are.found k ∙ sym (beside_place (is_on k) subs (attached_to mode seat word (made name mode start)) (any_beside (is_consumer k) [] (newcomer seat word) other)));
}

pub put_some : (place : Option ℕ) (n : ℕ) → put_in_place place (Some n) ≡ place
put_some None n = refl
put_some (Some place) n = refl

-- an attach is refused after all
pub places_back : (subs : List Subscription) (places places' places'' : List ((ℕ × ℕ) × ℕ)) (key : ConsumerKey) (n : ℕ) (former : Option ℕ) → former ≡ place_in places key
    → ((k : ConsumerKey) → place_in places' k ≡ cond (same_key key k) (Some n) (place_in places k))
    → ((k : ConsumerKey) → place_in places'' k ≡ cond (same_key key k) (put_in_place former (place_in places' k)) (place_in places' k))
    → ArePlaces subs places → ArePlaces subs places''
places_back subs places places' places'' key n former was added put are = record {
  found = λ k. put k ∙ by_key key k _ _ _
      (λ same. ap (put_in_place former) (added k ∙ ap (λ b. cond b (Some n) (place_in places k)) same) ∙ put_some former n ∙ was ∙ ap (place_in places) (key_is key k same) ∙ are.found k)
      (λ other. added k ∙ ap (λ b. cond b (Some n) (place_in places k)) other ∙ are.found k);
}

-- a consumer goes
pub places_detached : (subs : List Subscription) (places places' : List ((ℕ × ℕ) × ℕ)) (key : ConsumerKey) (p : ℕ) (next : Option ℕ) → position (is_on key) subs ≡ Some p
    → next ≡ position (is_on key) (first_changed (is_on key) (detached_on key) subs)
    → ((k : ConsumerKey) → place_in places' k ≡ cond (same_key key k) (put_in_place next (place_in places k)) (place_in places k))
    → ArePlaces subs places → ArePlaces (first_changed (is_on key) (detached_on key) subs) places'
places_detached subs places places' key p next at is says are = record {
  found = λ k. says k ∙ by_key key k _ _ _
      (λ same. ap (put_in_place next) (ap (place_in places) (sym (key_is key k same)) ∙ are.found key ∙ at) ∙ put_some next p ∙ is ∙ ap (λ (k : ConsumerKey). position (is_on k) (first_changed (is_on key) (detached_on key) subs)) (key_is key k same))
      (λ other. are.found k ∙ sym (same_place (is_on k) (is_on key) (detached_on key) (on_detached key k other) subs));
}

-- a session goes
pub places_left : (subs : List Subscription) (places places' : List ((ℕ × ℕ) × ℕ)) (who : ℕ) → ((k : ConsumerKey) → place_in places' k ≡ cond (nat_eq k.session who) None (place_in places k))
    → ArePlaces subs places → ArePlaces (each (λ s. left_on who s) subs) places'
places_left subs places places' who says are = record {
  found = λ k. says k ∙ elim (nat_eq k.session who) as (λ b. nat_eq k.session who ≡ b → cond b None (place_in places k) ≡ position (is_on k) (each (λ s. left_on who s) subs)) [
    | true ↦ λ its. sym (nowhere (is_on k) (λ s. left_on who s) (off_left who k its) subs)
    | false ↦ λ other. are.found k ∙ sym (same_each (is_on k) (λ s. left_on who s) (on_left who k other) subs)
  ] refl;
}

not_shared : (t : Subscriptions) (key : ConsumerKey) (p : ℕ) (s : Subscription) → position (is_on key) t.subs ≡ Some p → s ≡ get_or t.subs p s → first_standing (unsubscribe_refusals t key) ≡ None → nat_lt 1 (length s.consumers) ≡ false
not_shared t key p s at read allowed =
    sym (ap (λ (o : Option Subscription). is_shared o) (finds (is_on key) t.subs p s at read))
    ∙ elim (is_shared (find (is_on key) t.subs)) as (λ b. first_standing ((b, ConsumerBusy) ∷ (nat_le 65536 (length t.changes), TooManyRequests) ∷ []) ≡ None → b ≡ false) [
      | true ↦ λ busy. absurd (cc)
      | false ↦ λ _. refl
    ] allowed

-- a subscription goes, with its only consumer
pub places_gone : (t : Subscriptions) (places places' places'' : List ((ℕ × ℕ) × ℕ)) (key : ConsumerKey) (p : ℕ) (s : Subscription) (next : Option ℕ) → position (is_on key) t.subs ≡ Some p → s ≡ get_or t.subs p s
    → first_standing (unsubscribe_refusals t key) ≡ None → next ≡ position (is_on key) (remove t.subs p)
    → ((k : ConsumerKey) → place_in places' k ≡ option_map (moved_up p) (place_in places k))
    → ((k : ConsumerKey) → place_in places'' k ≡ cond (same_key key k) (put_in_place next (place_in places' k)) (place_in places' k))
    → ArePlaces t.subs places → ArePlaces (remove t.subs p) places''
places_gone t places places' places'' key p s next at read allowed is moved put are =
    let there = is_place (is_on key) t.subs p s at in
    let one = not_shared t key p s at read allowed in
    record {
      found = λ k. put k ∙ by_key key k _ _ _
          (λ same. ap (put_in_place next) (moved k ∙ ap (λ (k : ConsumerKey). option_map (moved_up p) (place_in places k)) (sym (key_is key k same)) ∙ ap (option_map (moved_up p)) (are.found key ∙ at)) ∙ put_some next (moved_up p p) ∙ is
          ∙ ap (λ (k : ConsumerKey). position (is_on k) (remove t.subs p)) (key_is key k same))
          (λ other. moved k ∙ ap (option_map (moved_up p)) (are.found k)
          ∙ sym (removed_place (is_on k) t.subs p s there.within (ap (is_on k) (sym read) ∙ alone key k s.consumers other one (ap (is_on key) read ∙ there.here))));
    }

-- nobody is attached
pub places_none : (places : List ((ℕ × ℕ) × ℕ)) → places ≡ [] → ArePlaces [] places
places_none places none = record { found = λ k. ap (λ ps. place_in ps k) none }

pub places_opened : (kept : List (List ℕ × Positions)) (subs : List Subscription) (places : List ((ℕ × ℕ) × ℕ)) → subs ≡ each opened_one kept → places ≡ [] → ArePlaces subs places
places_opened kept subs places are none = record { found = λ k. ap (λ ps. place_in ps k) none ∙ sym (ap (position (is_on k)) are ∙ nobody k kept) } where
  nobody : (k : ConsumerKey) (kept : List (List ℕ × Positions)) → position (is_on k) (each opened_one kept) ≡ None
  nobody k [] = refl
  nobody k (e ∷ kept) = step (is_on k) (opened_one e) (each opened_one kept) ∙ ap (option_map suc) (nobody k kept)
