-- What a consumer's permits learn, from the consumer to the subscriptions of a topic.
use Rattle.std.proofs.Common.{◌≡◌, ◌⊎◌, inl, inr, ⊎_elim, ℕ, ◌+◌, ◌≤◌, ◌^◌, Bool, true, false, cond, nat_eq, max, MatchBool, Option, Some, None, List, [], ◌∷◌, get_or, set, refl, ap, sym, ◌∙◌, subst, arith}
use Rattle.std.specs.List.{find, position}
use Rattle.std.specs.Prelude.{slice_index}
use Rattle.std.specs.Option.{option_map}
use Rattle.holds.specs.declared.consumer.ConsumerKey.{ConsumerKey}
use Rattle.subscriptions.specs.declared.hint.Hint.{Hint}
use Rattle.subscriptions.specs.declared.quiet.Note.{Note}
use Rattle.subscriptions.specs.State.{Consumer, Subscription, Subscriptions}
use Rattle.subscriptions.specs.Directory.{ArePlaces}
use Rattle.subscriptions.specs.Hints.{AreHints}
use Rattle.subscriptions.specs.Quiet.{noted, AreQuiet}
use Rattle.subscriptions.specs.Soundness.{HasLimits}
use Rattle.subscriptions.specs.Laws.{LearningAdmits}
use Rattle.subscriptions.specs.declared.consumer.Mode.{Mode}
use Rattle.subscriptions.specs.declared.consumer.Mode.TheVariants.{Exclusive, Failover, Shared, KeyShared}
use Rattle.holds.specs.Backlog.{IsOpenAt}
use Rattle.std.proofs.lemmas.Bool.{true≢false}
use Rattle.std.proofs.lemmas.Bool.Decides.{nat_tests}
use Rattle.subscriptions.specs.Steps.{AdmitsAt, AdmitsBy, is_first, IsLearnt, IsLooked, first_changed, is_consumer, is_on, learnt, learnt_on, learnt_to, has_permit, has_permit_at, sent, sent_on, sent_more}
use Rattle.subscriptions.proofs.Places.{changes, finds, stays}
use Rattle.subscriptions.proofs.Sound.{any_changed}
use Rattle.subscriptions.proofs.Limits.{limits_changed}
use Rattle.subscriptions.proofs.Looking.{nothing_to, seen_once, unseen}
use Rattle.subscriptions.proofs.Noted.{notes_learnt, notes_sent}
use Rattle.subscriptions.proofs.Passed.{hints_learnt, hints_sent}
use Rattle.permits.specs.Ends.{Seen, Word}
use Rattle.subscriptions.proofs.Standing.{on_learnt, places_learnt, places_sent, same_place}

-- ---- one consumer

more_known : (known known' : ℕ) → known ≤ known' → known' ≡ max known known'
more_known known known' more = omega (arith, more)

-- a consumer's permits before and behind looks, of which there were so many
same_but_known : (key : ConsumerKey) (known known' sent sent' looks looks' n : ℕ) (word word' : Word) → sent' ≡ sent → known ≤ known' → word' ≡ word → looks' ≡ looks + n
    → (let new : Consumer = record { key = key; granted = known'; sent = sent'; word = word'; looks = looks' } in
    let old : Consumer = record { key = key; granted = known; sent = sent; word = word; looks = looks } in new ≡ learnt_to (record { granted = known'; looks = n }) old)
same_but_known key known known' sent sent' looks looks' n word word' s more same many =
    λ i. record { key = key; granted = more_known known known' more i; sent = s i; word = same i; looks = many i }

-- how many looks there were: one at least, or none where nobody grants behind the gauge's back
looks_between : (exact : Type 0) (looks looks' : ℕ) → exact ⊎ (looks' ≡ looks + 1) → (exact → looks' ≡ looks) → (n : ℕ) × (looks' ≡ looks + n) × (exact ⊎ (1 ≤ n))
looks_between exact looks looks' said none = ⊎_elim (λ e. (0, omega (arith, none e), inl e)) (λ one. (1, one, inr (omega arith))) said

pub looked : (exact : Type 0) (key : ConsumerKey) (known known' sent sent' looks looks' : ℕ) (word word' : Word) (old : Consumer)
    → (let inside : Consumer = record { key = key; granted = known; sent = sent; word = word; looks = looks } in inside ≡ old)
    → sent' ≡ sent → known ≤ known' → known' ≤ 2 ^ 62 → word' ≡ word → exact ⊎ (looks' ≡ looks + 1) → (exact → looks' ≡ looks)
    → (let new : Consumer = record { key = key; granted = known'; sent = sent'; word = word'; looks = looks' } in IsLooked exact (λ n. learnt_to n old) new)
looked exact key known known' sent sent' looks looks' word word' old is s more bound same said none =
    let n = looks_between exact looks looks' said none in record {
      learnt = record {
        seen = record { granted = known'; looks = n.0 };
        bound = bound;
        same = same_but_known key known known' sent sent' looks looks' n.0 word word' s more same n.1 ∙ ap (learnt_to (record { granted = known'; looks = n.0 })) is;
      };
      once = n.2;
    }

raised : (b : Bool) (n sent sent' : ℕ) (P : Type 0) → b ≡ true → MatchBool b (sent' ≡ sent + n) P → sent' ≡ sent + n
raised true n sent sent' P is said = said
raised false n sent sent' P is said = absurd (cc)

pub took : (exact : Type 0) (key : ConsumerKey) (n known known' sent sent' looks looks' : ℕ) (word word' : Word) (old : Consumer) (b : Bool) (P : Type 0)
    → (let inside : Consumer = record { key = key; granted = known; sent = sent; word = word; looks = looks } in inside ≡ old)
    → b ≡ true → MatchBool b (sent' ≡ sent + n) P → known ≤ known' → known' ≤ 2 ^ 62 → word' ≡ word → exact ⊎ (looks' ≡ looks + 1) → (exact → looks' ≡ looks)
    → (let new : Consumer = record { key = key; granted = known'; sent = sent'; word = word'; looks = looks' } in IsLearnt (λ seen. learnt_to seen (sent_more n old)) new)
took exact key n known known' sent sent' looks looks' word word' old b P is answer s more bound same said none =
    let between = looks_between exact looks looks' said none in record {
      seen = record { granted = known'; looks = between.0 };
      bound = bound;
      same = same_but_known key known known' (sent + n) sent' looks looks' between.0 word word' (raised b n sent sent' P answer s) more same between.1
          ∙ ap (λ (c : Consumer). learnt_to (record { granted = known'; looks = between.0 }) (sent_more n c)) is;
    }

-- ---- the first that passes a test

module _ {X : Type 0} (test : X → Bool) where
  pub found_changed : (f : X → X) → ((x : X) → test (f x) ≡ test x) → (xs : List X) (y : X) → find test xs ≡ Some y → find test (first_changed test f xs) ≡ Some (f y)
  found_changed f same [] y is = absurd (cc)
  found_changed f same (x ∷ xs) y is =
      elim (test x) as (λ b. test x ≡ b → cond b (Some x) (find test xs) ≡ Some y → find test (cond b (f x ∷ xs) (x ∷ first_changed test f xs)) ≡ Some (f y)) [
        | true ↦ λ t is. ap (λ b. cond b (Some (f x)) (find test xs)) (same x ∙ t) ∙ ap (option_map f) is
        | false ↦ λ t is. ap (λ b. cond b (Some x) (find test (first_changed test f xs))) t ∙ found_changed f same xs y is
      ] refl is

  pub changed_twice : (f g : X → X) → ((x : X) → test (g x) ≡ test x) → (xs : List X) → first_changed test (λ x. f (g x)) xs ≡ first_changed test f (first_changed test g xs)
  changed_twice f g same [] = refl
  changed_twice f g same (x ∷ xs) =
      elim (test x) as (λ b. test x ≡ b → cond b (f (g x) ∷ xs) (x ∷ first_changed test (λ x. f (g x)) xs) ≡ first_changed test f (cond b (g x ∷ xs) (x ∷ first_changed test g xs))) [
        | true ↦ λ t. sym (ap (λ b. cond b (f (g x) ∷ xs) (g x ∷ first_changed test f xs)) (same x ∙ t))
        | false ↦ λ t. ap (λ ys. x ∷ ys) (changed_twice f g same xs) ∙ sym (ap (λ b. cond b (f x ∷ first_changed test g xs) (x ∷ first_changed test f (first_changed test g xs))) t)
      ] refl

  -- the element at the place is read, learns and is written back
  pub learnt_place : (f : Seen → X → X) (xs : List X) (i : ℕ) (x y : X) → position test xs ≡ Some i → x ≡ get_or xs i x → IsLearnt (λ n. f n x) y → IsLearnt (λ n. first_changed test (f n) xs) (set xs i y)
  learnt_place f xs i x y at read l = record { seen = l.seen; bound = l.bound; same = changes test (f l.seen) xs i x y at read l.same }

  pub looked_place : (exact : Type 0) (f : Seen → X → X) (xs : List X) (i : ℕ) (x y : X) → position test xs ≡ Some i → x ≡ get_or xs i x → IsLooked exact (λ n. f n x) y
      → IsLooked exact (λ n. first_changed test (f n) xs) (set xs i y)
  unfolding learnt_place
  looked_place exact f xs i x y at read l = record { learnt = learnt_place f xs i x y at read l.learnt; once = l.once }

  nothing_changed : (f : X → X) → ((x : X) → x ≡ f x) → (xs : List X) → xs ≡ first_changed test f xs
  nothing_changed f same [] = refl
  nothing_changed f same (x ∷ xs) = elim (test x) as (λ b. x ∷ xs ≡ cond b (f x ∷ xs) (x ∷ first_changed test f xs)) [
    | true ↦ ap (λ y. y ∷ xs) (same x)
    | false ↦ ap (λ ys. x ∷ ys) (nothing_changed f same xs)
  ]

  pub nothing_learnt : (f : Seen → X → X) → ((x : X) → x ≡ f unseen x) → (xs : List X) → IsLearnt (λ n. first_changed test (f n) xs) xs
  nothing_learnt f same xs = record { seen = unseen; bound = omega arith; same = nothing_changed (f unseen) same xs }

  -- where nobody passes the test, however often it was looked
  pub looked_nowhere : (exact : Type 0) (f : Seen → X → X) (xs : List X) → position test xs ≡ None → IsLooked exact (λ n. first_changed test (f n) xs) xs
  looked_nowhere exact f xs at = record { learnt = record { seen = seen_once; bound = omega arith; same = stays test (f seen_once) xs at }; once = inr (omega arith) }

  pub finds_learnt : (f : Seen → X → X) → ((n : Seen) (x : X) → test (f n x) ≡ test x) → (xs : List X) (i : ℕ) (x y : X) → position test xs ≡ Some i → x ≡ get_or xs i x → IsLearnt (λ n. f n x) y → find test (set xs i y) ≡ Some y
  finds_learnt f same xs i x y at read l =
      ap (find test) (changes test (f l.seen) xs i x y at read l.same)
      ∙ found_changed (f l.seen) (same l.seen) xs x (finds test xs i x at read)
      ∙ ap (λ z. Some z) (sym l.same)

  pub learnt_twice : (f : Seen → X → X) (g : X → X) → ((x : X) → test (g x) ≡ test x) → (xs : List X) (i : ℕ) (x y : X) → position test xs ≡ Some i → x ≡ get_or xs i x → IsLearnt (λ n. f n (g x)) y
      → IsLearnt (λ n. first_changed test (f n) (first_changed test g xs)) (set xs i y)
  learnt_twice f g same xs i x y at read l = record {
    seen = l.seen;
    bound = l.bound;
    same = changes test (λ z. f l.seen (g z)) xs i x y at read l.same ∙ changed_twice (f l.seen) g same xs;
  }

-- what is made of what was learnt
pub learnt_within : {X Y : Type 0} (make : X → Y) (f : Seen → X) (x : X) → IsLearnt f x → IsLearnt (λ n. make (f n)) (make x)
learnt_within make f x l = record { seen = l.seen; bound = l.bound; same = ap make l.same }

pub looked_within : {X Y : Type 0} (exact : Type 0) (make : X → Y) (f : Seen → X) (x : X) → IsLooked exact f x → IsLooked exact (λ n. make (f n)) (make x)
unfolding learnt_within
looked_within exact make f x l = record { learnt = learnt_within make f x l.learnt; once = l.once }

-- ---- the subscriptions of a topic

nothing_on : (key : ConsumerKey) (s : Subscription) → s ≡ learnt_on key unseen s
nothing_on key s = ap (λ (cs : List Consumer). let n : Subscription = record s { consumers = cs } in n) (nothing_changed (is_consumer key) (learnt_to unseen) nothing_to s.consumers)

on_sent : (key : ConsumerKey) (m p : ℕ) (s : Subscription) → is_on key (sent_on key m p s) ≡ is_on key s
on_sent key m p s = any_changed (is_consumer key) (sent_more m) (is_consumer key) (λ _. refl) s.consumers

module _ (t : Subscriptions) (key : ConsumerKey) where
  abbrev with_subs : List Subscription → Subscriptions
  with_subs xs = record t { subs = xs }

  abbrev IsKeptWith : List (List Hint) → List ((ℕ × ℕ) × ℕ) → List (Option Note) → List Subscription → Type 0
  IsKeptWith hints places notes xs = HasLimits (with_subs xs) × AreHints (with_subs xs) hints × ArePlaces xs places × AreQuiet xs notes

  pub looks_at : (exact : Type 0) (i : ℕ) (s s' : Subscription) → position (is_on key) t.subs ≡ Some i → s ≡ get_or t.subs i s → IsLooked exact (λ n. learnt_on key n s) s'
      → IsLooked exact (learnt t key) (with_subs (set t.subs i s'))
  looks_at exact i s s' at read l = looked_within exact with_subs _ (set t.subs i s') (looked_place (is_on key) exact (learnt_on key) t.subs i s s' at read l)

  -- nobody is attached by this key
  pub looks_nowhere : (exact : Type 0) → position (is_on key) t.subs ≡ None → IsLooked exact (learnt t key) t
  looks_nowhere exact at = looked_within exact with_subs _ t.subs (looked_nowhere (is_on key) exact (learnt_on key) t.subs at)

  pub learns_nothing : IsLearnt (learnt t key) t
  learns_nothing = learnt_within with_subs _ t.subs (nothing_learnt (is_on key) (learnt_on key) (nothing_on key) t.subs)

  pub permit_after : (i : ℕ) (s s' : Subscription) (b : Bool) → position (is_on key) t.subs ≡ Some i → s ≡ get_or t.subs i s → IsLearnt (λ n. learnt_on key n s) s' → b ≡ has_permit (find (is_consumer key) s'.consumers)
      → b ≡ has_permit_at key (find (is_on key) (set t.subs i s'))
  permit_after i s s' b at read l is = is ∙ sym (ap (has_permit_at key) (finds_learnt (is_on key) (learnt_on key) (λ n s. on_learnt key n key s) t.subs i s s' at read l))

  -- who learns stands where it stood
  pub stands_learnt : (i : ℕ) (t' : Subscriptions) → position (is_on key) t.subs ≡ Some i → IsLearnt (learnt t key) t' → position (is_on key) t'.subs ≡ Some i
  stands_learnt i t' at l = ap (λ (x : Subscriptions). position (is_on key) x.subs) l.same ∙ same_place (is_on key) (is_on key) (learnt_on key l.seen) (on_learnt key l.seen key) t.subs ∙ at

  pub kept_learnt : (i : ℕ) (n : Seen) (s s' : Subscription) (hints : List (List Hint)) (places : List ((ℕ × ℕ) × ℕ)) (notes notes' : List (Option Note)) → ((q : ℕ) → noted q notes' ≡ cond (nat_eq q key.session) None (noted q notes))
      → position (is_on key) t.subs ≡ Some i → s ≡ get_or t.subs i s → s' ≡ learnt_on key n s → IsKeptWith hints places notes t.subs → IsKeptWith hints places notes' (set t.subs i s')
  kept_learnt i n s s' hints places notes notes' says at read is kept =
      subst (IsKeptWith hints places notes') (sym (changes (is_on key) (learnt_on key n) t.subs i s s' at read is)) (
        limits_changed t (is_on key) (learnt_on key n) (λ _. refl) kept.0,
        hints_learnt t key n hints kept.1,
        places_learnt t.subs places key n kept.2,
        notes_learnt t.subs notes notes' key n says kept.3,
      )

  pub sends_at : (p i : ℕ) (s s' : Subscription) → position (is_on key) t.subs ≡ Some i → s ≡ get_or t.subs i s → IsLearnt (λ n. learnt_on key n (sent_on key (slice_index t.messages p) p s)) s'
      → IsLearnt (learnt (sent t key p) key) (with_subs (set t.subs i s'))
  sends_at p i s s' at read l = learnt_within with_subs _ (set t.subs i s') (learnt_twice (is_on key) (learnt_on key) (sent_on key (slice_index t.messages p) p) (on_sent key (slice_index t.messages p) p) t.subs i s s' at read l)

  pub kept_sent : (p i : ℕ) (s s' : Subscription) (hints : List (List Hint)) (places : List ((ℕ × ℕ) × ℕ)) (notes notes' : List (Option Note)) → ((q : ℕ) → noted q notes' ≡ cond (nat_eq q key.session) None (noted q notes))
      → position (is_on key) t.subs ≡ Some i → s ≡ get_or t.subs i s → IsLearnt (λ n. learnt_on key n (sent_on key (slice_index t.messages p) p s)) s'
      → IsKeptWith hints places notes t.subs → IsKeptWith hints places notes' (set t.subs i s')
  unfolding learnt_twice
  kept_sent p i s s' hints places notes notes' says at read l kept =
      let after = sent t key p in
      let m = slice_index t.messages p in
      let both = learnt_twice (is_on key) (learnt_on key) (sent_on key m p) (on_sent key m p) t.subs i s s' at read l in
      subst (IsKeptWith hints places notes') (sym both.same) (
        limits_changed after (is_on key) (learnt_on key l.seen) (λ _. refl) (limits_changed t (is_on key) (sent_on key m p) (λ _. refl) kept.0),
        hints_learnt after key l.seen hints (hints_sent t key p hints kept.1),
        places_learnt after.subs places key l.seen (places_sent t.subs places key m p kept.2),
        notes_learnt after.subs notes notes' key l.seen says (notes_sent t.subs notes key m p kept.3),
      )

-- ---- who is admitted stays so

first_still : (key : ConsumerKey) (n : Seen) (cs : List Consumer) → is_first key (first_changed (is_consumer key) (learnt_to n) cs) ≡ is_first key cs
first_still key n [] = refl
first_still key n (c ∷ cs) = elim (is_consumer key c) as (λ b. is_consumer key c ≡ b → is_first key (cond b (learnt_to n c ∷ cs) (c ∷ first_changed (is_consumer key) (learnt_to n) cs)) ≡ is_consumer key c) [
  | true ↦ λ _. refl
  | false ↦ λ _. refl
] refl

still_served : (mode : Mode) (key : ConsumerKey) (n : Seen) (s : Subscription) (slots : List ℕ) (Opens : ℕ → Type 0) (i : ℕ) → AdmitsBy mode key s slots Opens i → AdmitsBy mode key (learnt_on key n s) slots Opens i
still_served Exclusive key n s slots Opens i a = a
still_served Failover key n s slots Opens i a = (first_still key n s.consumers ∙ a.0, a.1)
still_served Shared key n s slots Opens i a = a
still_served KeyShared key n s slots Opens i a = a

more_permits : (n : Seen) (c : Consumer) → has_permit (Some c) ≡ true → has_permit (Some (learnt_to n c)) ≡ true
more_permits n c h = grind (arith, nat_tests)

still_permitted : (key : ConsumerKey) (n : Seen) (cs : List Consumer) (o : Option Consumer) → find (is_consumer key) cs ≡ o → has_permit o ≡ true → has_permit (find (is_consumer key) (first_changed (is_consumer key) (learnt_to n) cs)) ≡ true
still_permitted key n cs None is h = absurd (true≢false (sym h))
still_permitted key n cs (Some c) is h = ap has_permit (found_changed (is_consumer key) (learnt_to n) (λ _. refl) cs c is) ∙ more_permits n c h

still_admitted : (key : ConsumerKey) (n : Seen) (slots : List ℕ) (committed i : ℕ) (subs : List Subscription) (o : Option Subscription) → find (is_on key) subs ≡ o → AdmitsAt o key slots committed i
    → AdmitsAt (find (is_on key) (first_changed (is_on key) (learnt_on key n) subs)) key slots committed i
still_admitted key n slots committed i subs None is a = absurd a
still_admitted key n slots committed i subs (Some s) is a =
    let there : AdmitsAt (Some (learnt_on key n s)) key slots committed i = record {
      permit = still_permitted key n s.consumers (find (is_consumer key) s.consumers) refl a.permit;
      served = still_served s.mode key n s slots (IsOpenAt committed s.acked s.deliveries) i a.served;
    } in
    subst (λ (o : Option Subscription). AdmitsAt o key slots committed i) (sym (found_changed (is_on key) (learnt_on key n) (on_learnt key n key) subs s is)) there

pub learning_admits : LearningAdmits
learning_admits t key n committed i a = still_admitted key n t.slots committed i t.subs (find (is_on key) t.subs) refl a
