-- Notes that a session's consumers have nothing to get, as a topic's subscriptions change.
use Rattle.std.proofs.Common.{◌≡◌, ℕ, zero, suc, ◌+◌, ◌%◌, Bool, true, false, nat_eq, nat_lt, cond, ◌||◌, ◌&&◌, List, [], ◌∷◌, ◌++◌, max, get_or, replicate, ◌∙◌, ap, sym, subst, refl, arith, Option, Some, None}
use Rattle.std.proofs.lemmas.Bool.{true≢false}
use Rattle.std.proofs.lemmas.Bool.Decides.{nat_tests}
use Rattle.std.specs.List.{AllByRecursion, list_any, find, remove}
use Rattle.holds.specs.Backlog.{IsOpenAt}
use Rattle.holds.specs.Deliveries.{same_key}
use Rattle.holds.specs.declared.consumer.ConsumerKey.{ConsumerKey}
use Rattle.holds.specs.declared.consumer.Consumer.{Consumer as Seat}
use Rattle.subscriptions.specs.declared.consumer.Mode.{Mode}
use Rattle.subscriptions.specs.declared.quiet.Note.{Note}
use Rattle.subscriptions.specs.Quiet.{has_permit_of, has_permits, IsQuietOn, IsQuiet, no_notes, noted_in, noted, AreQuiet}
use Rattle.subscriptions.specs.State.{Consumer, Subscription, Subscriptions}
use Rattle.subscriptions.specs.Steps.{first_changed, is_on, is_named, is_consumer, has_permit, granted_on, granted_to, learnt_on, learnt_to, acked_on, acked_through_on, sent_on, sent_more, attached_to, made, Admits, AdmitsAt}
use Rattle.subscriptions.proofs.Passed.{FreesNone, grants, learns, acks, acks_through, sends}
use Rattle.subscriptions.proofs.Sound.{all_changed, all_pushed, opens_of}
use Rattle.permits.specs.Ends.{Seen, Word}

-- ---- a session's permits

either : (a b c d : Bool) → (a ≡ true → b ≡ true) → (c ≡ true → d ≡ true) → (a || c) ≡ true → (b || d) ≡ true
either true b c d left right h = ap (λ x. x || d) (left refl)
either false true c d left right h = refl
either false false c d left right h = right h

-- where one is among the list behind a change, one was before
any_before : {X : Type 0} (q test : X → Bool) (f : X → X) → ((x : X) → test x ≡ true → q (f x) ≡ true → q x ≡ true) → (xs : List X) → list_any q (first_changed test f xs) ≡ true → list_any q xs ≡ true
any_before q test f to [] h = h
any_before q test f to (x ∷ xs) h = elim (test x) as (λ b. test x ≡ b → list_any q (cond b (f x ∷ xs) (x ∷ first_changed test f xs)) ≡ true → list_any q (x ∷ xs) ≡ true) [
  | true ↦ λ here. either (q (f x)) (q x) (list_any q xs) (list_any q xs) (to x here) (λ k. k)
  | false ↦ λ _. either (q x) (q x) (list_any q (first_changed test f xs)) (list_any q xs) (λ k. k) (any_before q test f to xs)
] refl h

fewer : (a : Bool) (sent granted n : ℕ) → (a && nat_lt (sent + n) granted) ≡ true → (a && nat_lt sent granted) ≡ true
fewer true sent granted n h = grind (arith, nat_tests)
fewer false sent granted n h = h

other_session : (c k : ConsumerKey) (who : ℕ) → same_key c k ≡ true → nat_eq who k.session ≡ false → nat_eq c.session who ≡ false
other_session c k who same other = grind (arith, nat_tests)

neither : (a b c : Bool) → a ≡ false → (a && b) ≡ true → (a && c) ≡ true
neither true b c off h = absurd (true≢false off)
neither false b c off h = h

without_permits : (who : ℕ) (cs : List Consumer) (key : ConsumerKey) (word : Word) → has_permits who (cs ++ record { key = key; granted = 0; sent = 0; word = word; looks = 0 } ∷ []) ≡ true → has_permits who cs ≡ true
without_permits who [] key word h = elim (nat_eq key.session who) as (λ b. ((b && false) || false) ≡ true → false ≡ true) [ true ↦ λ k. k | false ↦ λ k. k ] h
without_permits who (c ∷ cs) key word h =
    let it : Bool = nat_eq c.key.session who && nat_lt c.sent c.granted in
    either it it (has_permits who (cs ++ record { key = key; granted = 0; sent = 0; word = word; looks = 0 } ∷ [])) (has_permits who cs) (λ k. k) (without_permits who cs key word) h

its_session : (c k : ConsumerKey) → same_key c k ≡ true → nat_eq c.session k.session ≡ true
its_session c k same = grind (arith, nat_tests)

has_both : (a b c : Bool) → a ≡ true → b ≡ true → ((a && b) || c) ≡ true
has_both true true c x y = refl
has_both true false c x y = absurd (true≢false (sym y))
has_both false b c x y = absurd (true≢false (sym x))

or_right : (a b : Bool) → b ≡ true → (a || b) ≡ true
or_right true b h = refl
or_right false b h = h

-- a consumer with a permit is one of its session
permits_of : (key : ConsumerKey) (cs : List Consumer) → has_permit (find (is_consumer key) cs) ≡ true → has_permits key.session cs ≡ true
permits_of key [] h = h
permits_of key (c ∷ cs) h = elim (is_consumer key c) as (λ b. is_consumer key c ≡ b → has_permit (cond b (Some c) (find (is_consumer key) cs)) ≡ true → has_permits key.session (c ∷ cs) ≡ true) [
  | true ↦ λ here permit. has_both (nat_eq c.key.session key.session) (nat_lt c.sent c.granted) (has_permits key.session cs) (its_session c.key key here) permit
  | false ↦ λ _ permit. or_right (nat_eq c.key.session key.session && nat_lt c.sent c.granted) (has_permits key.session cs) (permits_of key cs permit)
] refl h

-- ---- what leaves a session quiet

abbrev LeavesQuiet : ℕ → (Subscription → Subscription) → Type 0
LeavesQuiet who f = (committed : ℕ) (s : Subscription) → IsQuietOn who committed s → IsQuietOn who committed (f s)

-- no position is freed, and no permit gained
leaves : (who : ℕ) (f : Subscription → Subscription) → FreesNone f → ((s : Subscription) → has_permits who (f s).consumers ≡ true → has_permits who s.consumers ≡ true) → LeavesQuiet who f
leaves who f frees permits committed s quiet = λ permit i at.
    let was = frees.opens s i at.is_unacked at.is_free in
    quiet (permits s permit) i (record { is_committed = at.is_committed; is_unacked = was.0; is_free = was.1 })

quiet_changed : (who committed : ℕ) (test : Subscription → Bool) (f : Subscription → Subscription) → LeavesQuiet who f → (subs : List Subscription) → IsQuiet who committed subs → IsQuiet who committed (first_changed test f subs)
quiet_changed who committed test f to subs all = all_changed test f (IsQuietOn who committed) subs (λ s _ quiet. to committed s quiet) all

notes_changed : (test : Subscription → Bool) (f : Subscription → Subscription) → ((who : ℕ) → LeavesQuiet who f) → (subs : List Subscription) (notes : List (Option Note)) → AreQuiet subs notes → AreQuiet (first_changed test f subs) notes
notes_changed test f to subs notes are = record { quiet = λ who committed is. quiet_changed who committed test f (to who) subs (are.quiet who committed is) }

pub notes_acknowledged : (subs : List Subscription) (notes : List (Option Note)) (key : ConsumerKey) (ps : List ℕ) → AreQuiet subs notes → AreQuiet (first_changed (is_on key) (acked_on ps) subs) notes
notes_acknowledged subs notes key ps are = notes_changed (is_on key) (acked_on ps) (λ who. leaves who (acked_on ps) (acks ps) (λ _ h. h)) subs notes are

pub notes_through : (subs : List Subscription) (notes : List (Option Note)) (key : ConsumerKey) (p : ℕ) → AreQuiet subs notes → AreQuiet (first_changed (is_on key) (acked_through_on p) subs) notes
notes_through subs notes key p are = notes_changed (is_on key) (acked_through_on p) (λ who. leaves who (acked_through_on p) (acks_through p) (λ _ h. h)) subs notes are

pub notes_sent : (subs : List Subscription) (notes : List (Option Note)) (key : ConsumerKey) (n i : ℕ) → AreQuiet subs notes → AreQuiet (first_changed (is_on key) (sent_on key n i) subs) notes
notes_sent subs notes key n i are = notes_changed (is_on key) (sent_on key n i)
    (λ who. leaves who (sent_on key n i) (sends key n i) (λ s. any_before (λ c. nat_eq c.key.session who && nat_lt c.sent c.granted) (is_consumer key) (sent_more n) (λ c _. fewer (nat_eq c.key.session who) c.sent c.granted n) s.consumers))
    subs notes are

-- a consumer is attached, without permits
joins : (mode : Mode) (seat : Seat) (word : Word) (who : ℕ) → LeavesQuiet who (attached_to mode seat word)
joins mode seat word who committed s quiet = λ permit. quiet (without_permits who s.consumers seat.key word permit)

pub notes_joined : (subs : List Subscription) (notes : List (Option Note)) (name : List ℕ) (mode : Mode) (seat : Seat) (word : Word) → AreQuiet subs notes → AreQuiet (first_changed (is_named name) (attached_to mode seat word) subs) notes
notes_joined subs notes name mode seat word are = notes_changed (is_named name) (attached_to mode seat word) (joins mode seat word) subs notes are

-- a subscription is made, with a consumer
pub notes_made : (subs : List Subscription) (notes : List (Option Note)) (name : List ℕ) (mode : Mode) (seat : Seat) (word : Word) (start : ℕ) → AreQuiet subs notes → AreQuiet (subs ++ attached_to mode seat word (made name mode start) ∷ []) notes
notes_made subs notes name mode seat word start are = record {
  quiet = λ who committed is. all_pushed (IsQuietOn who committed) subs (attached_to mode seat word (made name mode start)) (are.quiet who committed is)
      (joins mode seat word who committed (made name mode start) (λ permit. absurd (true≢false (sym permit))));
}

-- a subscription goes
all_but : {X : Type 0} (P : X → Type 0) (xs : List X) (i : ℕ) → AllByRecursion P xs → AllByRecursion P (remove xs i)
all_but P [] zero all = tt
all_but P [] (suc i) all = tt
all_but P (x ∷ xs) zero all = all.1
all_but P (x ∷ xs) (suc i) all = (all.0, all_but P xs i all.1)

pub notes_gone : (subs : List Subscription) (notes : List (Option Note)) (i : ℕ) → AreQuiet subs notes → AreQuiet (remove subs i) notes
notes_gone subs notes i are = record { quiet = λ who committed is. all_but (IsQuietOn who committed) subs i (are.quiet who committed is) }

-- ---- notes that go

pub none_noted : (o : Option ℕ) (committed : ℕ) (b : Bool) → b ≡ true → cond b None o ≡ Some committed → ⊥
none_noted o committed true h is = cc
none_noted o committed false h is = true≢false (sym h)

pub still_noted : (o : Option ℕ) (committed : ℕ) (b : Bool) → b ≡ false → cond b None o ≡ Some committed → o ≡ Some committed
still_noted o committed true h is = absurd (true≢false h)
still_noted o committed false h is = is

-- one session is granted permits, and its note goes
granted_elsewhere : (key : ConsumerKey) (permits who : ℕ) → nat_eq who key.session ≡ false → LeavesQuiet who (granted_on key permits)
granted_elsewhere key permits who other = leaves who (granted_on key permits) (grants key permits)
    (λ s. any_before (λ c. nat_eq c.key.session who && nat_lt c.sent c.granted) (is_consumer key) (granted_to permits)
    (λ c here. neither (nat_eq c.key.session who) (nat_lt c.sent (c.granted + permits)) (nat_lt c.sent c.granted) (other_session c.key key who here other)) s.consumers)

pub notes_granted : (subs : List Subscription) (notes notes' : List (Option Note)) (key : ConsumerKey) (permits : ℕ) → ((q : ℕ) → noted q notes' ≡ cond (nat_eq q key.session) None (noted q notes))
    → AreQuiet subs notes → AreQuiet (first_changed (is_on key) (granted_on key permits) subs) notes'
notes_granted subs notes notes' key permits says are = record {
  quiet = λ who committed is.
      elim (nat_eq who key.session) as (λ b. nat_eq who key.session ≡ b → IsQuiet who committed (first_changed (is_on key) (granted_on key permits) subs)) [
        | true ↦ λ its. absurd (none_noted (noted who notes) committed (nat_eq who key.session) its (sym (says who) ∙ is))
        | false ↦ λ other. quiet_changed who committed (is_on key) (granted_on key permits) (granted_elsewhere key permits who other) subs
            (are.quiet who committed (still_noted (noted who notes) committed (nat_eq who key.session) other (sym (says who) ∙ is)))
      ] refl;
}

-- one session learns of permits, and its note goes
learnt_elsewhere : (key : ConsumerKey) (n : Seen) (who : ℕ) → nat_eq who key.session ≡ false → LeavesQuiet who (learnt_on key n)
learnt_elsewhere key n who other = leaves who (learnt_on key n) (learns key n)
    (λ s. any_before (has_permit_of who) (is_consumer key) (learnt_to n)
    (λ c here. neither (nat_eq c.key.session who) (nat_lt c.sent (max c.granted n.granted)) (nat_lt c.sent c.granted) (other_session c.key key who here other)) s.consumers)

pub notes_learnt : (subs : List Subscription) (notes notes' : List (Option Note)) (key : ConsumerKey) (n : Seen) → ((q : ℕ) → noted q notes' ≡ cond (nat_eq q key.session) None (noted q notes))
    → AreQuiet subs notes → AreQuiet (first_changed (is_on key) (learnt_on key n) subs) notes'
notes_learnt subs notes notes' key n says are = record {
  quiet = λ who committed is.
      elim (nat_eq who key.session) as (λ b. nat_eq who key.session ≡ b → IsQuiet who committed (first_changed (is_on key) (learnt_on key n) subs)) [
        | true ↦ λ its. absurd (none_noted (noted who notes) committed (nat_eq who key.session) its (sym (says who) ∙ is))
        | false ↦ λ other. quiet_changed who committed (is_on key) (learnt_on key n) (learnt_elsewhere key n who other) subs
            (are.quiet who committed (still_noted (noted who notes) committed (nat_eq who key.session) other (sym (says who) ∙ is)))
      ] refl;
}

-- nothing is noted
none_in : (n i : ℕ) → get_or (replicate n (let none : Option Note = None in none)) i None ≡ None
none_in zero i = refl
none_in (suc n) zero = refl
none_in (suc n) (suc i) = none_in n i

pub notes_none : (subs : List Subscription) (notes : List (Option Note)) → notes ≡ no_notes → AreQuiet subs notes
notes_none subs notes none = record {
  quiet = λ who committed is. absurd (let never : None ≡ Some committed = sym (ap (noted_in who) (none_in 64 (who % 64))) ∙ sym (ap (noted who) none) ∙ is in cc);
}

-- ---- what is found quiet

found_one : {X : Type 0} (P : X → Type 0) (test : X → Bool) (xs : List X) (x : X) → find test xs ≡ Some x → AllByRecursion P xs → P x
found_one P test [] x is all = absurd (cc)
found_one P test (y ∷ xs) x is all = elim (test y) as (λ b. cond b (Some y) (find test xs) ≡ Some x → P x) [
  | true ↦ λ is. let same : y ≡ x = cc in subst P same all.0
  | false ↦ λ is. found_one P test xs x is all.1
] is

admits_at : (o : Option Subscription) (key : ConsumerKey) (slots : List ℕ) (committed i : ℕ) → ((s : Subscription) → o ≡ Some s → IsQuietOn key.session committed s) → AdmitsAt o key slots committed i → ⊥
admits_at None key slots committed i quiet a = a
admits_at (Some s) key slots committed i quiet a =
    quiet s refl (permits_of key s.consumers a.permit) i (opens_of s.mode key s slots (IsOpenAt committed s.acked s.deliveries) i a.served)

-- nothing is admitted to a quiet session's consumers
pub quiet_admits : (t : Subscriptions) (key : ConsumerKey) (committed i : ℕ) → IsQuiet key.session committed t.subs → Admits t key committed i → ⊥
quiet_admits t key committed i quiet a =
    admits_at (find (is_on key) t.subs) key t.slots committed i (λ s is. found_one (IsQuietOn key.session committed) (is_on key) t.subs s is quiet) a
