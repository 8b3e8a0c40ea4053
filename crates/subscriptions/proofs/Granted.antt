-- What a FLOW does, and how what is learnt of a consumer's permits goes with what else happens to it.
use Rattle.std.proofs.Common.{◌≡◌, ℕ, ◌+◌, ◌≤◌, Bool, true, false, cond, max, ◌||◌, Option, Some, None, Result, Ok, Err, List, [], ◌∷◌, get_or, set, refl, ap, sym, subst, ◌∙◌, arith}
use Rattle.std.specs.Prelude.{OnOk, OnErr, slice_index}
use Rattle.std.specs.List.{find, list_any, position}
use Rattle.std.proofs.lemmas.Bool.{true≢false}
use Rattle.holds.specs.declared.consumer.ConsumerKey.{ConsumerKey}
use Rattle.subscriptions.specs.Directory.{ArePlacesAmong}
use Rattle.subscriptions.specs.State.{Consumer, Subscription, Subscriptions}
use Rattle.subscriptions.specs.Steps.{first_changed, is_consumer, is_on, has_consumer, granted_to, is_past, learnt, learnt_on, learnt_to, Admits, AdmitsAt, sent, sent_on, sent_more, sent_before, times_at}
use Rattle.subscriptions.proofs.Numbered.{places_granted_to}
use Rattle.subscriptions.proofs.Places.{changes, finds, same_at}
use Rattle.subscriptions.proofs.Sound.{any_changed, any_found}
use Rattle.subscriptions.proofs.Standing.{on_learnt}
use Rattle.permits.specs.Ends.{Seen}
use Rattle.subscriptions.proofs.Learning.{found_changed, changed_twice}
use Rattle.subscriptions.proofs.Looking.{seen_both, unseen}

-- ---- the consumer at a place is granted permits, unless it would have too many

abbrev IsGranted : {T E : Type 0} → ℕ → Result T E → Consumer → Consumer → Type 0
IsGranted n r c d = OnOk r ((is_past n (Some c) ≡ false) × (d ≡ granted_to n c)) × OnErr r ((is_past n (Some c) ≡ true) × (d ≡ c))

module _ {T E : Type 0} (key : ConsumerKey) (n : ℕ) (cs : List Consumer) (i : ℕ) (c d : Consumer) where
  pub grants_ok : (r : Result T E) (now : List Consumer) → position (is_consumer key) cs ≡ Some i → c ≡ get_or cs i c → cs ≡ now → IsGranted n r c d
      → OnOk r ((is_past n (find (is_consumer key) now) ≡ false) × (set cs i d ≡ first_changed (is_consumer key) (granted_to n) now))
  grants_ok (Ok x) now at read is said = (
    ap (λ xs. is_past n (find (is_consumer key) xs)) (sym is) ∙ ap (is_past n) (finds (is_consumer key) cs i c at read) ∙ said.0.0,
    changes (is_consumer key) (granted_to n) cs i c d at read said.0.1 ∙ ap (first_changed (is_consumer key) (granted_to n)) is,
  )
  grants_ok (Err e) now at read is said = tt

  pub grants_err : (r : Result T E) (now : List Consumer) → position (is_consumer key) cs ≡ Some i → c ≡ get_or cs i c → cs ≡ now → IsGranted n r c d
      → OnErr r ((is_past n (find (is_consumer key) now) ≡ true) × (set cs i d ≡ now))
  grants_err (Ok x) now at read is said = tt
  grants_err (Err e) now at read is said = (
    ap (λ xs. is_past n (find (is_consumer key) xs)) (sym is) ∙ ap (is_past n) (finds (is_consumer key) cs i c at read) ∙ said.1.0,
    ap (set cs i) said.1.1 ∙ same_at (is_consumer key) cs i c read ∙ is,
  )

  pub places_granted_at : (r : Result T E) (places : List ((ℕ × ℕ) × ℕ)) → position (is_consumer key) cs ≡ Some i → c ≡ get_or cs i c → IsGranted n r c d → ArePlacesAmong cs places → ArePlacesAmong (set cs i d) places
  places_granted_at (Ok x) places at read said are =
      subst (λ (xs : List Consumer). ArePlacesAmong xs places) (sym (changes (is_consumer key) (granted_to n) cs i c d at read said.0.1)) (places_granted_to cs places key n are)
  places_granted_at (Err e) places at read said are =
      subst (λ (xs : List Consumer). ArePlacesAmong xs places) (sym (ap (set cs i) said.1.1 ∙ same_at (is_consumer key) cs i c read)) are

-- ---- the first that passes a test

module _ {X : Type 0} (test : X → Bool) where
  pub changed_alike : (f g : X → X) (xs : List X) → ((x : X) → find test xs ≡ Some x → f x ≡ g x) → first_changed test f xs ≡ first_changed test g xs
  changed_alike f g [] same = refl
  changed_alike f g (x ∷ xs) same =
      elim (test x) as (λ b. ((y : X) → cond b (Some x) (find test xs) ≡ Some y → f y ≡ g y) → cond b (f x ∷ xs) (x ∷ first_changed test f xs) ≡ cond b (g x ∷ xs) (x ∷ first_changed test g xs)) [
        | true ↦ λ same. ap (λ y. y ∷ xs) (same x refl)
        | false ↦ λ same. ap (λ ys. x ∷ ys) (changed_alike f g xs same)
      ] same

  pub unchanged : (f : X → X) (xs : List X) → ((x : X) → find test xs ≡ Some x → f x ≡ x) → first_changed test f xs ≡ xs
  unchanged f [] same = refl
  unchanged f (x ∷ xs) same =
      elim (test x) as (λ b. ((y : X) → cond b (Some x) (find test xs) ≡ Some y → f y ≡ y) → cond b (f x ∷ xs) (x ∷ first_changed test f xs) ≡ x ∷ xs) [
        | true ↦ λ same. ap (λ y. y ∷ xs) (same x refl)
        | false ↦ λ same. ap (λ ys. x ∷ ys) (unchanged f xs same)
      ] same

  pub found_any : (xs : List X) → list_any test xs ≡ true → (x : X) × (find test xs ≡ Some x) × (test x ≡ true)
  found_any [] any = absurd (true≢false (sym any))
  found_any (x ∷ xs) any =
      elim (test x) as (λ b. test x ≡ b → (b || list_any test xs) ≡ true → (y : X) × (cond b (Some x) (find test xs) ≡ Some y) × (test y ≡ true)) [
        | true ↦ λ t any. (x, refl, t)
        | false ↦ λ t any. found_any xs any
      ] refl any

abbrev with_consumers : Subscription → List Consumer → Subscription
with_consumers s cs = record s { consumers = cs }

abbrev with_subs : Subscriptions → List Subscription → Subscriptions
with_subs t subs = record t { subs = subs }

-- the consumer that is attached
pub attached_one : (t : Subscriptions) (key : ConsumerKey) → has_consumer t key ≡ true
    → (s : Subscription) × (find (is_on key) t.subs ≡ Some s) × (c : Consumer) × (find (is_consumer key) s.consumers ≡ Some c)
attached_one t key there =
    let on = found_any (is_on key) t.subs there in
    let one = found_any (is_consumer key) on.0.consumers on.2 in
    (on.0, on.1, one.0, one.1)

-- what was seen of a consumer's permits, nothing where it isn't attached
abbrev seen_by : Consumer → Seen
seen_by c = record { granted = c.granted; looks = c.looks }

abbrev seen_of : Option Consumer → Seen
seen_of None = unseen
seen_of (Some c) = seen_by c

abbrev seen_at : ConsumerKey → Option Subscription → Seen
seen_at key None = unseen
seen_at key (Some s) = seen_of (find (is_consumer key) s.consumers)

abbrev seen_in : Subscriptions → ConsumerKey → Seen
seen_in t key = seen_at key (find (is_on key) t.subs)

seen_one : (t : Subscriptions) (key : ConsumerKey) (s : Subscription) (c : Consumer) → find (is_on key) t.subs ≡ Some s → find (is_consumer key) s.consumers ≡ Some c → seen_in t key ≡ seen_by c
seen_one t key s c on one = ap (seen_at key) on ∙ ap seen_of one

-- ---- no more than is known

-- no more was granted than is known, and there was no look
record IsKnown (n known : Seen) : Type 0 where
  pub granted : n.granted ≤ known.granted
  pub looks : n.looks ≡ 0

to_known : (n : Seen) (c : Consumer) → IsKnown n (seen_by c) → learnt_to n c ≡ c
to_known n c low =
    let same : max c.granted n.granted ≡ c.granted = omega (arith, low.granted) in
    let none : c.looks + n.looks ≡ c.looks = omega (arith, low.looks) in
    λ i. record c { granted = same i; looks = none i }

on_known : (key : ConsumerKey) (n : Seen) (s : Subscription) → IsKnown n (seen_of (find (is_consumer key) s.consumers)) → learnt_on key n s ≡ s
on_known key n s low = ap (with_consumers s) (unchanged (is_consumer key) (learnt_to n) s.consumers (λ c is. to_known n c (subst (λ o. IsKnown n (seen_of o)) is low)))

learns_none : (t : Subscriptions) (key : ConsumerKey) (n : Seen) → IsKnown n (seen_in t key) → learnt t key n ≡ t
learns_none t key n low = ap (with_subs t) (unchanged (is_on key) (learnt_on key n) t.subs (λ s is. on_known key n s (subst (λ o. IsKnown n (seen_at key o)) is low)))

-- ---- one thing after another

learns_again : (a b : Seen) (c : Consumer) → learnt_to b (learnt_to a c) ≡ learnt_to (seen_both a b) c
learns_again a b c =
    let more : max (max c.granted a.granted) b.granted ≡ max c.granted (max a.granted b.granted) = omega arith in
    let looks : (c.looks + a.looks) + b.looks ≡ c.looks + (a.looks + b.looks) = omega arith in
    λ i. record c { granted = more i; looks = looks i }

on_again : (key : ConsumerKey) (a b : Seen) (s : Subscription) → learnt_on key b (learnt_on key a s) ≡ learnt_on key (seen_both a b) s
on_again key a b s =
    ap (with_consumers s) (sym (changed_twice (is_consumer key) (learnt_to b) (learnt_to a) (λ _. refl) s.consumers)
    ∙ changed_alike (is_consumer key) (λ c. learnt_to b (learnt_to a c)) (learnt_to (seen_both a b)) s.consumers (λ c _. learns_again a b c))

-- what is learnt twice is learnt at once
pub learnt_again : (t : Subscriptions) (key : ConsumerKey) (a b : Seen) → learnt (learnt t key a) key b ≡ learnt t key (seen_both a b)
learnt_again t key a b =
    ap (with_subs t) (sym (changed_twice (is_on key) (learnt_on key b) (learnt_on key a) (λ s. on_learnt key a key s) t.subs)
    ∙ changed_alike (is_on key) (λ s. learnt_on key b (learnt_on key a s)) (learnt_on key (seen_both a b)) t.subs (λ s _. on_again key a b s))

on_sent : (key : ConsumerKey) (m i : ℕ) (s : Subscription) → is_on key (sent_on key m i s) ≡ is_on key s
on_sent key m i s = any_changed (is_consumer key) (sent_more m) (is_consumer key) (λ _. refl) s.consumers

on_either : (key : ConsumerKey) (m i : ℕ) (n : Seen) (s : Subscription) → learnt_on key n (sent_on key m i s) ≡ sent_on key m i (learnt_on key n s)
on_either key m i n s =
    ap (λ (cs : List Consumer). with_consumers (sent_on key m i s) cs) (sym (changed_twice (is_consumer key) (learnt_to n) (sent_more m) (λ _. refl) s.consumers)
    ∙ changed_twice (is_consumer key) (sent_more m) (learnt_to n) (λ _. refl) s.consumers)

-- what is learnt behind a message might have been learnt before it
pub learnt_before : (t : Subscriptions) (key : ConsumerKey) (i : ℕ) (n : Seen) → learnt (sent t key i) key n ≡ sent (learnt t key n) key i
learnt_before t key i n =
    let m = slice_index t.messages i in
    ap (with_subs t) (sym (changed_twice (is_on key) (learnt_on key n) (sent_on key m i) (on_sent key m i) t.subs)
    ∙ changed_alike (is_on key) (λ s. learnt_on key n (sent_on key m i s)) (λ s. sent_on key m i (learnt_on key n s)) t.subs (λ s _. on_either key m i n s)
    ∙ changed_twice (is_on key) (sent_on key m i) (learnt_on key n) (λ s. on_learnt key n key s) t.subs)

-- of who was attached before a message as much was seen behind it
found_sent : (t : Subscriptions) (key : ConsumerKey) (i : ℕ) (s : Subscription) → find (is_on key) t.subs ≡ Some s → find (is_on key) (sent t key i).subs ≡ Some (sent_on key (slice_index t.messages i) i s)
found_sent t key i s is = let m = slice_index t.messages i in found_changed (is_on key) (sent_on key m i) (on_sent key m i) t.subs s is

seen_sent : (t : Subscriptions) (key : ConsumerKey) (i : ℕ) (s : Subscription) (c : Consumer) → find (is_on key) t.subs ≡ Some s → find (is_consumer key) s.consumers ≡ Some c → seen_in (sent t key i) key ≡ seen_by c
seen_sent t key i s c on one =
    ap (seen_at key) (found_sent t key i s on) ∙ ap seen_of (found_changed (is_consumer key) (sent_more (slice_index t.messages i)) (λ _. refl) s.consumers c one)

-- where nothing was learnt behind a message, nothing was before it
pub nothing_before : (t : Subscriptions) (key : ConsumerKey) (i : ℕ) (n : Seen) → has_consumer t key ≡ true → sent (learnt t key n) key i ≡ sent t key i → learnt t key n ≡ t
nothing_before t key i n there same =
    let at = attached_one t key there in
    let s = at.0 in
    let c = at.2 in
    let on = found_changed (is_on key) (learnt_on key n) (λ s. on_learnt key n key s) t.subs s at.1 in
    let one = found_changed (is_consumer key) (learnt_to n) (λ _. refl) s.consumers c at.3 in
    let after : seen_in (sent (learnt t key n) key i) key ≡ seen_by (learnt_to n c) = seen_sent (learnt t key n) key i (learnt_on key n s) (learnt_to n c) on one in
    let before : seen_in (sent t key i) key ≡ seen_by c = seen_sent t key i s c at.1 at.3 in
    let is : seen_by (learnt_to n c) ≡ seen_by c = sym after ∙ ap (λ (x : Subscriptions). seen_in x key) same ∙ before in
    let known : IsKnown n (seen_by c) = record { granted = omega (arith, ap (λ (x : Seen). x.granted) is); looks = omega (arith, ap (λ (x : Seen). x.looks) is) } in
    learns_none t key n (subst (IsKnown n) (sym (seen_one t key s c at.1 at.3)) known)

-- who is admitted is attached
pub admitted_there : (t : Subscriptions) (key : ConsumerKey) (committed i : ℕ) → Admits t key committed i → has_consumer t key ≡ true
admitted_there t key committed i a = there (find (is_on key) t.subs) refl a
  where
    there : (o : Option Subscription) → find (is_on key) t.subs ≡ o → AdmitsAt o key t.slots committed i → has_consumer t key ≡ true
    there None is a = absurd a
    there (Some s) is a = any_found (is_on key) t.subs s is

-- what is learnt changes no count of what was sent
pub before_learnt : (t : Subscriptions) (key : ConsumerKey) (n : Seen) (i : ℕ) → has_consumer t key ≡ true → sent_before (learnt t key n) key i ≡ sent_before t key i
before_learnt t key n i there =
    let at = attached_one t key there in
    ap (λ o. times_at o i) (found_changed (is_on key) (learnt_on key n) (λ s. on_learnt key n key s) t.subs at.0 at.1) ∙ sym (ap (λ o. times_at o i) at.1)
