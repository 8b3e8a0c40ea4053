-- What is learnt where a session's consumers are looked at, from a consumer to the subscriptions of a topic.
use Rattle.std.proofs.Common.{◌≡◌, inl, inr, ⊎_elim, ℕ, zero, suc, ◌+◌, ◌<◌, ◌≤◌, ◌^◌, Bool, true, false, cond, max, nat_eq, nat_lt, ◌&&◌, ◌||◌, Option, Some, None, List, [], ◌∷◌, length, take, get_or, set, refl, ap, sym, ◌∙◌, subst, arith, add-one}
use Rattle.std.proofs.lemmas.Bool.{true≢false}
use Rattle.std.proofs.lemmas.Bool.Decides.{nat_tests}
use Rattle.std.proofs.lemmas.List.{take_all}
use Rattle.std.proofs.lemmas.List.Elements.{length_all_zip}
use Rattle.std.specs.List.{AllByRecursion, AllZip, IsDistinct, list_any, find, position}
use Rattle.std.specs.Option.{option_map}
use Rattle.std.specs.Str.{bytes_eq}
use Rattle.holds.specs.Backlog.{IsOpenAt}
use Rattle.holds.specs.declared.consumer.ConsumerKey.{ConsumerKey}
use Rattle.subscriptions.specs.declared.hint.Hint.{Hint}
use Rattle.subscriptions.specs.declared.quiet.Note.{Note}
use Rattle.subscriptions.specs.Directory.{ArePlaces, ArePlacesAmong}
use Rattle.subscriptions.specs.Hints.{IsHint, AreHints, AreHintsOf, AreHintsOn}
use Rattle.subscriptions.specs.Quiet.{has_permit_of, has_permits, IsQuietOn, IsQuiet, noted, AreQuiet}
use Rattle.subscriptions.specs.Soundness.{IsWithinPermits, IsSoundSubscription, HasLimits}
use Rattle.subscriptions.specs.State.{Consumer, Subscription, Subscriptions}
use Rattle.subscriptions.specs.Steps.{is_consumer, is_named, is_on, IsLearnt, IsLooked, learnt_to, learnt_of, HaveLearnt, HaveLooked, HasLearntOn, HasLookedOn}
use Rattle.permits.specs.Ends.{Seen}
use Rattle.subscriptions.proofs.Noted.{none_noted, still_noted}
use Rattle.subscriptions.proofs.Standing.{behind, step}
use Rattle.subscriptions.proofs.Told.{zip_each}

-- ---- two lists, place by place

module _ {X : Type 0} (R : X → X → Type 0) where
  pub zip_all : (P Q : X → Type 0) → ((x y : X) → R x y → P x → Q y) → (xs ys : List X) → AllZip R xs ys → AllByRecursion P xs → AllByRecursion Q ys
  zip_all P Q to [] [] h all = tt
  zip_all P Q to [] (y ∷ ys) h all = absurd h
  zip_all P Q to (x ∷ xs) [] h all = absurd h
  zip_all P Q to (x ∷ xs) (y ∷ ys) h all = (to x y h.0 all.0, zip_all P Q to xs ys h.1 all.1)

  pub zip_same : ((x : X) → R x x) → (xs : List X) → AllZip R xs xs
  zip_same same [] = tt
  zip_same same (x ∷ xs) = (same x, zip_same same xs)

  -- the element at a place is read, changed and written back
  pub zip_set : (xs ys : List X) (i : ℕ) (y z : X) → AllZip R xs ys → y ≡ get_or ys i y → ((x : X) → R x y → R x z) → AllZip R xs (set ys i z)
  zip_set [] [] zero y z h read to = tt
  zip_set [] [] (suc i) y z h read to = tt
  zip_set [] (b ∷ ys) i y z h read to = absurd h
  zip_set (a ∷ xs) [] i y z h read to = absurd h
  zip_set (a ∷ xs) (b ∷ ys) zero y z h read to = (to a (subst (R a) (sym read) h.0), h.1)
  zip_set (a ∷ xs) (b ∷ ys) (suc i) y z h read to = (h.0, zip_set xs ys i y z h.1 read to)

  pub zip_any : (test : X → Bool) → ((x y : X) → R x y → test y ≡ test x) → (xs ys : List X) → AllZip R xs ys → list_any test ys ≡ list_any test xs
  zip_any test same [] [] h = refl
  zip_any test same [] (y ∷ ys) h = absurd h
  zip_any test same (x ∷ xs) [] h = absurd h
  zip_any test same (x ∷ xs) (y ∷ ys) h = λ i. same x y h.0 i || zip_any test same xs ys h.1 i

  pub zip_place : (test : X → Bool) → ((x y : X) → R x y → test y ≡ test x) → (xs ys : List X) → AllZip R xs ys → position test ys ≡ position test xs
  zip_place test same [] [] h = refl
  zip_place test same [] (y ∷ ys) h = absurd h
  zip_place test same (x ∷ xs) [] h = absurd h
  zip_place test same (x ∷ xs) (y ∷ ys) h = step test y ys ∙ (λ i. behind (same x y h.0 i) (zip_place test same xs ys h.1 i)) ∙ sym (step test x xs)

  pub zip_both : ((x y z : X) → R x y → R y z → R x z) → (xs ys zs : List X) → AllZip R xs ys → AllZip R ys zs → AllZip R xs zs
  zip_both to [] [] [] h k = tt
  zip_both to [] [] (z ∷ zs) h k = absurd k
  zip_both to [] (y ∷ ys) zs h k = absurd h
  zip_both to (x ∷ xs) [] zs h k = absurd h
  zip_both to (x ∷ xs) (y ∷ ys) [] h k = absurd k
  zip_both to (x ∷ xs) (y ∷ ys) (z ∷ zs) h k = (to x y z h.0 k.0, zip_both to xs ys zs h.1 k.1)

  -- what relates the first elements relates one more, which was read, changed and written back
  pub zip_one : (S : X → X → Type 0) → ((x y z : X) → R x y → S y z → S x z) → (xs ys : List X) (i : ℕ) (y z : X) → AllZip R xs ys → AllZip S (take i xs) (take i ys) → y ≡ get_or ys i y → S y z
      → AllZip S (take (suc i) xs) (take (suc i) (set ys i z))
  zip_one S both [] [] zero y z h all read is = tt
  zip_one S both [] [] (suc i) y z h all read is = tt
  zip_one S both [] (b ∷ ys) i y z h all read is = absurd h
  zip_one S both (a ∷ xs) [] i y z h all read is = absurd h
  zip_one S both (a ∷ xs) (b ∷ ys) zero y z h all read is = (both a b z h.0 (subst (λ (w : X). S w z) read is), tt)
  zip_one S both (a ∷ xs) (b ∷ ys) (suc i) y z h all read is = (all.0, zip_one S both xs ys i y z h.1 all.1 read is)

  pub zip_more : (S : X → X → Type 0) → ((x y z : X) → R x y → S y z → S x z) → (xs ys : List X) (i : ℕ) (y z : X) → AllZip R xs ys → AllZip S (take i xs) (take i ys) → y ≡ get_or ys i y → S y z
      → AllZip S (take (i + 1) xs) (take (i + 1) (set ys i z))
  zip_more S both xs ys i y z h all read is = subst (λ k. AllZip S (take k xs) (take k (set ys i z))) (sym (add-one i)) (zip_one S both xs ys i y z h all read is)

  -- and all of them behind the last one
  pub zip_of_all : (S : X → X → Type 0) (xs ys : List X) (i : ℕ) → AllZip R xs ys → length ys ≤ i → AllZip S (take i xs) (take i ys) → AllZip S xs ys
  zip_of_all S xs ys i h many all =
      let as_many : length xs ≡ length ys = length_all_zip R xs ys h in
      subst (λ (zs : List X). AllZip S zs ys) (take_all i xs (omega (arith, as_many, many))) (subst (λ (zs : List X). AllZip S (take i xs) zs) (take_all i ys many) all)

  pub zip_behind : (S : X → X → Type 0) → ((x y z : X) → R x y → S y z → S x z) → (xs ys zs : List X) → AllZip R xs ys → AllZip S ys zs → AllZip S xs zs
  zip_behind S to [] [] [] h k = tt
  zip_behind S to [] [] (z ∷ zs) h k = absurd k
  zip_behind S to [] (y ∷ ys) zs h k = absurd h
  zip_behind S to (x ∷ xs) [] zs h k = absurd h
  zip_behind S to (x ∷ xs) (y ∷ ys) [] h k = absurd k
  zip_behind S to (x ∷ xs) (y ∷ ys) (z ∷ zs) h k = (to x y z h.0 k.0, zip_behind S to xs ys zs h.1 k.1)

  -- what is read of the first that passes a test
  pub zip_found : {Y : Type 0} (read : X → Y) (test : X → Bool) → ((x y : X) → R x y → test y ≡ test x) → ((x y : X) → R x y → read y ≡ read x) → (xs ys : List X) → AllZip R xs ys
      → option_map read (find test ys) ≡ option_map read (find test xs)
  zip_found read test same to [] [] h = refl
  zip_found read test same to [] (y ∷ ys) h = absurd h
  zip_found read test same to (x ∷ xs) [] h = absurd h
  zip_found read test same to (x ∷ xs) (y ∷ ys) h =
      ap (λ b. option_map read (cond b (Some y) (find test ys))) (same x y h.0)
      ∙ elim (test x) as (λ b. option_map read (cond b (Some y) (find test ys)) ≡ option_map read (cond b (Some x) (find test xs))) [
        | true ↦ ap (λ v. Some v) (to x y h.0)
        | false ↦ zip_found read test same to xs ys h.1
      ]

-- ---- one consumer

abbrev Learns : ℕ → Consumer → Consumer → Type 0
Learns who c d = IsLearnt (λ n. learnt_of who n c) d

-- nothing was seen, or there was one look, which showed nothing
abbrev pub unseen : Seen
unseen = record { granted = 0; looks = 0 }

abbrev pub seen_once : Seen
seen_once = record { granted = 0; looks = 1 }

pub nothing_to : (c : Consumer) → c ≡ learnt_to unseen c
nothing_to c =
    let none : c.granted ≡ max c.granted 0 = omega arith in
    let never : c.looks ≡ c.looks + 0 = omega arith in
    λ i. record c { granted = none i; looks = never i }

nothing_more : (b : Bool) (c : Consumer) → c ≡ cond b (learnt_to unseen c) c
nothing_more true c = nothing_to c
nothing_more false c = refl

pub learns_nothing_of : (who : ℕ) (c : Consumer) → Learns who c c
learns_nothing_of who c = record { seen = unseen; bound = omega arith; same = nothing_more (nat_eq c.key.session who) c }

abbrev Looks : Type 0 → ℕ → Consumer → Consumer → Type 0
Looks exact who c d = IsLooked exact (λ n. learnt_of who n c) d

pub looks_itself : (exact : Type 0) (who : ℕ) (c d : Consumer) → nat_eq c.key.session who ≡ true → IsLooked exact (λ n. learnt_to n c) d → Looks exact who c d
looks_itself exact who c d its l = record {
  learnt = record { seen = l.learnt.seen; bound = l.learnt.bound; same = l.learnt.same ∙ sym (ap (λ b. cond b (learnt_to l.learnt.seen c) c) its) };
  once = l.once;
}

-- whether it is the session's
pub its_own : (session who : ℕ) → session ≡ who → nat_eq session who ≡ true
its_own session who is = grind (arith, nat_tests)

pub not_its_own : (session who : ℕ) → (session ≡ who → ⊥) → nat_eq session who ≡ false
not_its_own session who other = grind (arith, nat_tests)

-- for another session's consumer it needn't be looked
pub looks_past : (exact : Type 0) (who : ℕ) (c d : Consumer) → nat_eq c.key.session who ≡ false → d ≡ c → Looks exact who c d
looks_past exact who c d other same = record {
  learnt = record { seen = seen_once; bound = omega arith; same = same ∙ sym (ap (λ b. cond b (learnt_to seen_once c) c) other) };
  once = inr (omega arith);
}

abbrev within_session : Bool → Seen → Consumer → Consumer
within_session b n c = cond b (learnt_to n c) c

key_kept : (b : Bool) (n : Seen) (c : Consumer) → (within_session b n c).key ≡ c.key
key_kept true n c = refl
key_kept false n c = refl

pub key_learnt : (who : ℕ) (c d : Consumer) → Learns who c d → d.key ≡ c.key
key_learnt who c d l = ap (λ (x : Consumer). x.key) l.same ∙ key_kept (nat_eq c.key.session who) l.seen c

both_known : (a m n : ℕ) → max (max a m) n ≡ max a (max m n)
both_known a m n = omega arith

-- what was seen at first and then
abbrev pub seen_both : Seen → Seen → Seen
seen_both m n = record { granted = max m.granted n.granted; looks = m.looks + n.looks }

both_learnt : (b : Bool) (m n : Seen) (c : Consumer) → within_session b n (within_session b m c) ≡ within_session b (seen_both m n) c
both_learnt true m n c =
    let looks : (c.looks + m.looks) + n.looks ≡ c.looks + (m.looks + n.looks) = omega arith in
    λ i. record c { granted = both_known c.granted m.granted n.granted i; looks = looks i }
both_learnt false m n c = refl

pub learns_both : (who : ℕ) (c d e : Consumer) → Learns who c d → Learns who d e → Learns who c e
learns_both who c d e first second = record {
  seen = seen_both first.seen second.seen;
  bound = omega (arith, first.bound, second.bound);
  same = second.same
      ∙ ap (λ (k : ConsumerKey). within_session (nat_eq k.session who) second.seen d) (key_learnt who c d first)
      ∙ ap (within_session (nat_eq c.key.session who) second.seen) first.same
      ∙ both_learnt (nat_eq c.key.session who) first.seen second.seen c;
}

-- what was learnt before a look
pub looks_both : (exact : Type 0) (who : ℕ) (c d e : Consumer) → Learns who c d → Looks exact who d e → Looks exact who c e
unfolding learns_both
looks_both exact who c d e first second = record {
  learnt = learns_both who c d e first second.learnt;
  once = ⊎_elim (λ x. inl x) (λ more. inr (omega (arith, more))) second.once;
}

within_kept : (b : Bool) (n : Seen) (c : Consumer) → n.granted ≤ 2 ^ 62 → IsWithinPermits c → IsWithinPermits (within_session b n c)
within_kept true n c bound p = record { sent = omega (arith, p.sent); granted = omega (arith, p.granted, bound) }
within_kept false n c bound p = p

within_learnt : (who : ℕ) (c d : Consumer) → Learns who c d → IsWithinPermits c → IsWithinPermits d
within_learnt who c d l p = subst IsWithinPermits (sym l.same) (within_kept (nat_eq c.key.session who) l.seen c l.bound p)

not_its : (c who q : ℕ) → nat_eq q who ≡ false → nat_eq c who ≡ true → nat_eq c q ≡ false
not_its c who q other its = grind (arith, nat_tests)

permit_kept : (b : Bool) (q : ℕ) (n : Seen) (c : Consumer) → (b ≡ true → nat_eq c.key.session q ≡ false) → has_permit_of q (within_session b n c) ≡ has_permit_of q c
permit_kept true q n c other = ap (λ b. b && nat_lt c.sent (max c.granted n.granted)) (other refl) ∙ sym (ap (λ b. b && nat_lt c.sent c.granted) (other refl))
permit_kept false q n c other = refl

-- another session's permits stay
permit_elsewhere : (who q : ℕ) (c d : Consumer) → nat_eq q who ≡ false → Learns who c d → has_permit_of q d ≡ has_permit_of q c
permit_elsewhere who q c d other l = ap (has_permit_of q) l.same ∙ permit_kept (nat_eq c.key.session who) q l.seen c (not_its c.key.session who q other)

-- ---- a list of consumers

pub many_looked : (who : ℕ) (cs ds : List Consumer) → HaveLearnt who cs ds → length cs ≡ length ds
many_looked who cs ds have = length_all_zip (Learns who) cs ds have

pub have_nothing : (who : ℕ) (cs : List Consumer) → HaveLearnt who cs cs
have_nothing who cs = zip_same (Learns who) (learns_nothing_of who) cs

pub have_more : (who : ℕ) (cs ds : List Consumer) (i : ℕ) (d e : Consumer) → HaveLearnt who cs ds → d ≡ get_or ds i d → Learns who d e → HaveLearnt who cs (set ds i e)
have_more who cs ds i d e have read l = zip_set (Learns who) cs ds i d e have read (λ c first. learns_both who c d e first l)

pub looked_more : (exact : Type 0) (who : ℕ) (cs ds : List Consumer) (i : ℕ) (d e : Consumer) → HaveLearnt who cs ds → HaveLooked exact who (take i cs) (take i ds) → d ≡ get_or ds i d → Looks exact who d e
    → HaveLooked exact who (take (i + 1) cs) (take (i + 1) (set ds i e))
looked_more exact who cs ds i d e have all read is = zip_more (Learns who) (Looks exact who) (looks_both exact who) cs ds i d e have all read is

pub looked_all : (exact : Type 0) (who : ℕ) (cs ds : List Consumer) (i : ℕ) → HaveLearnt who cs ds → length ds ≤ i → HaveLooked exact who (take i cs) (take i ds) → HaveLooked exact who cs ds
looked_all exact who cs ds i have many all = zip_of_all (Learns who) (Looks exact who) cs ds i have many all

on_looked : (who : ℕ) (key : ConsumerKey) (cs ds : List Consumer) → HaveLearnt who cs ds → list_any (is_consumer key) ds ≡ list_any (is_consumer key) cs
on_looked who key cs ds have = zip_any (Learns who) (is_consumer key) (λ c d l. ap (λ (k : ConsumerKey). is_consumer key (record c { key = k })) (key_learnt who c d l)) cs ds have

pub places_looked_among : (who : ℕ) (cs ds : List Consumer) (places : List ((ℕ × ℕ) × ℕ)) → HaveLearnt who cs ds → ArePlacesAmong cs places → ArePlacesAmong ds places
places_looked_among who cs ds places have are = record {
  found = λ key. are.found key ∙ sym (zip_place (Learns who) (is_consumer key) (λ c d l. ap (λ (k : ConsumerKey). is_consumer key (record c { key = k })) (key_learnt who c d l)) cs ds have);
}

one_off : {X : Type 0} (test : X → Bool) (xs : List X) (i : ℕ) (x : X) → list_any test (take i xs) ≡ false → test x ≡ false → list_any test (take (suc i) (set xs i x)) ≡ false
one_off test [] zero x none off = refl
one_off test [] (suc i) x none off = refl
one_off test (y ∷ ys) zero x none off = ap (λ b. b || false) off
one_off test (y ∷ ys) (suc i) x none off = elim (test y) as (λ b. (b || list_any test (take i ys)) ≡ false → (b || list_any test (take (suc i) (set ys i x))) ≡ false) [
  | true ↦ λ h. h
  | false ↦ λ h. one_off test ys i x h off
] none

-- the first elements don't pass a test, and neither does one more
pub none_more : {X : Type 0} (test : X → Bool) (xs : List X) (i : ℕ) (x : X) → list_any test (take i xs) ≡ false → test x ≡ false → list_any test (take (i + 1) (set xs i x)) ≡ false
none_more test xs i x none off = ap (λ k. list_any test (take k (set xs i x))) (add-one i) ∙ one_off test xs i x none off

-- an element is read and written back as it was
pub same_set : {X : Type 0} (xs : List X) (i : ℕ) (x y : X) → x ≡ get_or xs i x → y ≡ x → set xs i y ≡ xs
same_set [] zero x y read same = refl
same_set [] (suc i) x y read same = refl
same_set (z ∷ zs) zero x y read same = ap (λ w. w ∷ zs) (same ∙ read)
same_set (z ∷ zs) (suc i) x y read same = ap (λ ws. z ∷ ws) (same_set zs i x y read same)

pub none_of_all : {X : Type 0} (test : X → Bool) (xs : List X) (i : ℕ) → length xs ≤ i → list_any test (take i xs) ≡ false → list_any test xs ≡ false
none_of_all test xs i all none = ap (list_any test) (sym (take_all i xs all)) ∙ none

or_true : (a : Bool) → (a || true) ≡ true
or_true true = refl
or_true false = refl

pub one_passes : {X : Type 0} (test : X → Bool) (xs : List X) (i : ℕ) (x : X) → i < length xs → test x ≡ true → list_any test (set xs i x) ≡ true
one_passes test [] i x low is = absurd (omega (arith, low))
one_passes test (y ∷ ys) zero x low is = ap (λ b. b || list_any test ys) is
one_passes test (y ∷ ys) (suc i) x low is = ap (λ b. test y || b) (one_passes test ys i x (omega (arith, low)) is) ∙ or_true (test y)

-- ---- a subscription

abbrev with_consumers : Subscription → List Consumer → Subscription
with_consumers s cs = record s { consumers = cs }

pub looked_at : (who : ℕ) (s : Subscription) (ds : List Consumer) → HaveLearnt who s.consumers ds → HasLearntOn who s (with_consumers s ds)
looked_at who s ds have = record { consumers = have; same = refl }

sound_with : (who : ℕ) (s : Subscription) (ds : List Consumer) → HaveLearnt who s.consumers ds → IsSoundSubscription s → IsSoundSubscription (with_consumers s ds)
sound_with who s ds have sound =
    let many : length s.consumers ≡ length ds = length_all_zip (Learns who) s.consumers ds have in record {
      few = omega (arith, many, sound.few);
      single = λ is. omega (arith, many, sound.single is);
      permits = zip_all (Learns who) IsWithinPermits IsWithinPermits (within_learnt who) s.consumers ds have sound.permits;
      seated = sound.seated ∙ sym (zip_each (Learns who) (λ (c : Consumer). c.key) (λ (c : Consumer). c.key) (key_learnt who) s.consumers ds have);
      ranges_apart = sound.ranges_apart;
      unacknowledged = sound.unacknowledged;
      held = λ i k h. on_looked who k s.consumers ds have ∙ sound.held i k h;
    }

pub sound_looked : (who : ℕ) (s s' : Subscription) → HasLearntOn who s s' → IsSoundSubscription s → IsSoundSubscription s'
sound_looked who s s' h sound = subst IsSoundSubscription (sym h.same) (sound_with who s s'.consumers h.consumers sound)

pub same_on : (who : ℕ) (s : Subscription) → HasLearntOn who s s
same_on who s = record { consumers = have_nothing who s.consumers; same = refl }

on_both : (who : ℕ) (s r u : Subscription) → HasLearntOn who s r → HasLearntOn who r u → HasLearntOn who s u
on_both who s r u first second = record {
  consumers = zip_both (Learns who) (learns_both who) s.consumers r.consumers u.consumers first.consumers second.consumers;
  same = second.same ∙ ap (λ (x : Subscription). with_consumers x u.consumers) first.same;
}

-- nobody of the session has a permit
pub none_served : (who committed : ℕ) (s : Subscription) (b : Bool) → b ≡ has_permits who s.consumers → b ≡ false → IsQuietOn who committed s
none_served who committed s b is off = λ permit. absurd (true≢false (sym permit ∙ sym is ∙ off))

-- one has, and something is open
pub one_served : (who committed : ℕ) (s s' : Subscription) (b : Bool) → (((i : ℕ) → IsOpenAt committed s.acked s.deliveries i → ⊥) → ⊥) → HasLearntOn who s s' → b ≡ has_permits who s'.consumers → b ≡ true
    → IsQuietOn who committed s' → ⊥
one_served who committed s s' b some h is on quiet =
    some (subst (λ (x : Subscription). (i : ℕ) → IsOpenAt committed x.acked x.deliveries i → ⊥) h.same (quiet (sym is ∙ on)))

pub nothing_served : (who committed : ℕ) (s s' : Subscription) → s' ≡ s → ((i : ℕ) → IsOpenAt committed s.acked s.deliveries i → ⊥) → IsQuietOn who committed s'
nothing_served who committed s s' same none = λ permit. subst (λ (x : Subscription). (i : ℕ) → IsOpenAt committed x.acked x.deliveries i → ⊥) (sym same) none

pub same_looked : (who : ℕ) (s s' : Subscription) → s' ≡ s → HasLearntOn who s s'
same_looked who s s' same = subst (HasLearntOn who s) (sym same) (same_on who s)

-- a session that isn't looked at stays quiet
quiet_with : (who q committed : ℕ) (s : Subscription) (ds : List Consumer) → nat_eq q who ≡ false → HaveLearnt who s.consumers ds → IsQuietOn q committed s → IsQuietOn q committed (with_consumers s ds)
quiet_with who q committed s ds other have quiet = λ permit.
    quiet (sym (zip_any (Learns who) (has_permit_of q) (λ c d l. permit_elsewhere who q c d other l) s.consumers ds have) ∙ permit)

quiet_looked : (who q committed : ℕ) (s s' : Subscription) → nat_eq q who ≡ false → HasLearntOn who s s' → IsQuietOn q committed s → IsQuietOn q committed s'
quiet_looked who q committed s s' other h quiet = subst (IsQuietOn q committed) (sym h.same) (quiet_with who q committed s s'.consumers other h.consumers quiet)

-- ---- the subscriptions of a topic

-- where something is open on each of the first subscriptions it was looked, and so it is on one more
looks_on_both : (exact : Type 0) (who committed : ℕ) (s r u : Subscription) → HasLearntOn who s r → HasLookedOn exact who committed r u → HasLookedOn exact who committed s u
looks_on_both exact who committed s r u first second =
    ⊎_elim
    (λ none. inl (subst (λ (x : Subscription). (i : ℕ) → IsOpenAt committed x.acked x.deliveries i → ⊥) first.same none))
    (λ have. inr (zip_behind (Learns who) (Looks exact who) (looks_both exact who) s.consumers r.consumers u.consumers first.consumers have))
    second

pub looked_more_on : (exact : Type 0) (who committed : ℕ) (subs subs' : List Subscription) (i : ℕ) (s s' : Subscription) → AllZip (HasLearntOn who) subs subs' → AllZip (HasLookedOn exact who committed) (take i subs) (take i subs')
    → s ≡ get_or subs' i s → HasLookedOn exact who committed s s' → AllZip (HasLookedOn exact who committed) (take (i + 1) subs) (take (i + 1) (set subs' i s'))
looked_more_on exact who committed subs subs' i s s' h all read is =
    zip_more (HasLearntOn who) (HasLookedOn exact who committed) (looks_on_both exact who committed) subs subs' i s s' h all read is

pub looked_all_on : (exact : Type 0) (who committed : ℕ) (subs subs' : List Subscription) (i : ℕ) → AllZip (HasLearntOn who) subs subs' → length subs' ≤ i → AllZip (HasLookedOn exact who committed) (take i subs) (take i subs')
    → AllZip (HasLookedOn exact who committed) subs subs'
looked_all_on exact who committed subs subs' i h many all = zip_of_all (HasLearntOn who) (HasLookedOn exact who committed) subs subs' i h many all

pub nothing_looked : (who : ℕ) (subs : List Subscription) → AllZip (HasLearntOn who) subs subs
nothing_looked who subs = zip_same (HasLearntOn who) (same_on who) subs

pub one_more_looked : (who : ℕ) (subs subs' : List Subscription) (i : ℕ) (s s' : Subscription) → AllZip (HasLearntOn who) subs subs' → s ≡ get_or subs' i s → HasLearntOn who s s' → AllZip (HasLearntOn who) subs (set subs' i s')
one_more_looked who subs subs' i s s' h read on = zip_set (HasLearntOn who) subs subs' i s s' h read (λ x first. on_both who x s s' first on)

pub as_many_looked : (who : ℕ) (subs subs' : List Subscription) → AllZip (HasLearntOn who) subs subs' → length subs ≡ length subs'
as_many_looked who subs subs' h = length_all_zip (HasLearntOn who) subs subs' h

-- what holds of the first elements holds of one more
one_holds : {X : Type 0} (P : X → Type 0) (xs : List X) (i : ℕ) (x : X) → AllByRecursion P (take i xs) → P x → AllByRecursion P (take (suc i) (set xs i x))
one_holds P [] zero x all is = tt
one_holds P [] (suc i) x all is = tt
one_holds P (y ∷ ys) zero x all is = (is, tt)
one_holds P (y ∷ ys) (suc i) x all is = (all.0, one_holds P ys i x all.1 is)

pub all_more : {X : Type 0} (P : X → Type 0) (xs : List X) (i : ℕ) (x : X) → AllByRecursion P (take i xs) → P x → AllByRecursion P (take (i + 1) (set xs i x))
all_more P xs i x all is = subst (λ k. AllByRecursion P (take k (set xs i x))) (sym (add-one i)) (one_holds P xs i x all is)

pub all_of_all : {X : Type 0} (P : X → Type 0) (xs : List X) (i : ℕ) → length xs ≤ i → AllByRecursion P (take i xs) → AllByRecursion P xs
all_of_all P xs i many all = subst (AllByRecursion P) (take_all i xs many) all

pub holds_at : {X : Type 0} (P : X → Type 0) (xs : List X) (i : ℕ) (x : X) → i < length xs → AllByRecursion P (set xs i x) → P x
holds_at P [] i x low all = absurd (omega (arith, low))
holds_at P (y ∷ ys) zero x low all = all.0
holds_at P (y ∷ ys) (suc i) x low all = holds_at P ys i x (omega (arith, low)) all.1

name_looked : (who : ℕ) (s s' : Subscription) → HasLearntOn who s s' → s'.name ≡ s.name
name_looked who s s' h = ap (λ (x : Subscription). x.name) h.same

pub named_looked : (who : ℕ) (name : List ℕ) (s s' : Subscription) → HasLearntOn who s s' → is_named name s' ≡ is_named name s
named_looked who name s s' h = ap (λ (n : List ℕ). bytes_eq n name) (name_looked who s s' h)

pub acked_looked : (who : ℕ) (s s' : Subscription) → HasLearntOn who s s' → s'.acked ≡ s.acked
acked_looked who s s' h = ap (λ (x : Subscription). x.acked) h.same

pub limits_looked : (who : ℕ) (t : Subscriptions) (subs : List Subscription) → AllZip (HasLearntOn who) t.subs subs → HasLimits t → HasLimits (record t { subs = subs })
limits_looked who t subs h l = record {
  names = subst (IsDistinct bytes_eq) (sym (zip_each (HasLearntOn who) (λ (s : Subscription). s.name) (λ (s : Subscription). s.name) (name_looked who) t.subs subs h)) l.names;
  subscriptions = omega (arith, length_all_zip (HasLearntOn who) t.subs subs h, l.subscriptions);
  changes = l.changes;
}

hint_on : (who : ℕ) (slots : List ℕ) (s s' : Subscription) (hint : Hint) → HasLearntOn who s s' → IsHint slots s hint → IsHint slots s' hint
hint_on who slots s s' hint h is = subst (λ (x : Subscription). IsHint slots x hint) (sym h.same) (record { known = is.known; passed = is.passed })

hints_on : (who : ℕ) (slots : List ℕ) (s s' : Subscription) (hints : List Hint) → HasLearntOn who s s' → AreHintsOn slots s hints → AreHintsOn slots s' hints
hints_on who slots s s' [] h all = tt
hints_on who slots s s' (hint ∷ hints) h all = (hint_on who slots s s' hint h all.0, hints_on who slots s s' hints h all.1)

hints_of : (who : ℕ) (slots : List ℕ) (subs subs' : List Subscription) (hints : List (List Hint)) → AllZip (HasLearntOn who) subs subs' → AreHintsOf slots subs hints → AreHintsOf slots subs' hints
hints_of who slots [] [] hints h all = all
hints_of who slots [] (y ∷ ys) hints h all = absurd h
hints_of who slots (x ∷ xs) [] hints h all = absurd h
hints_of who slots (x ∷ xs) (y ∷ ys) [] h all = all
hints_of who slots (x ∷ xs) (y ∷ ys) (hint ∷ hints) h all = (hints_on who slots x y hint h.0 all.0, hints_of who slots xs ys hints h.1 all.1)

pub hints_looked : (who : ℕ) (t : Subscriptions) (subs : List Subscription) (hints : List (List Hint)) → AllZip (HasLearntOn who) t.subs subs → AreHints t hints → AreHints (record t { subs = subs }) hints
hints_looked who t subs hints h are = record {
  places = are.places ∙ length_all_zip (HasLearntOn who) t.subs subs h;
  each_one = hints_of who t.slots t.subs subs hints h are.each_one;
}

on_is : (who : ℕ) (key : ConsumerKey) (s s' : Subscription) → HasLearntOn who s s' → is_on key s' ≡ is_on key s
on_is who key s s' h = on_looked who key s.consumers s'.consumers h.consumers

pub places_looked : (who : ℕ) (subs subs' : List Subscription) (places : List ((ℕ × ℕ) × ℕ)) → AllZip (HasLearntOn who) subs subs' → ArePlaces subs places → ArePlaces subs' places
places_looked who subs subs' places h are = record { found = λ key. are.found key ∙ sym (zip_place (HasLearntOn who) (is_on key) (on_is who key) subs subs' h) }

-- a session is looked at, and its note goes
pub notes_looked : (who : ℕ) (subs subs' : List Subscription) (notes notes' : List (Option Note)) → ((q : ℕ) → noted q notes' ≡ cond (nat_eq q who) None (noted q notes)) → AllZip (HasLearntOn who) subs subs'
    → AreQuiet subs notes → AreQuiet subs' notes'
notes_looked who subs subs' notes notes' says h are = record {
  quiet = λ q committed is.
      elim (nat_eq q who) as (λ b. nat_eq q who ≡ b → IsQuiet q committed subs') [
        | true ↦ λ its. absurd (none_noted (noted q notes) committed (nat_eq q who) its (sym (says q) ∙ is))
        | false ↦ λ other. zip_all (HasLearntOn who) (IsQuietOn q committed) (IsQuietOn q committed) (λ s s' on quiet. quiet_looked who q committed s s' other on quiet) subs subs' h
            (are.quiet q committed (still_noted (noted q notes) committed (nat_eq q who) other (sym (says q) ∙ is)))
      ] refl;
}
