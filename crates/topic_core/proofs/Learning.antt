-- What is learnt of the permits of a topic's consumers.
use Rattle.std.proofs.Common.{◌≡◌, ◌⊎◌, ⊎_elim, ℕ, List, ◌<◌, Option, Some, None, Result, Err, refl, sym, ap, subst, ◌∙◌, arith}
use Rattle.commands.specs.declared.reply.Reply.TheVariants.{Message}
use Rattle.gated_log.specs.declared.read_error.ReadError.{ReadError}
use Rattle.gated_log.specs.declared.read_error.ReadError.TheVariants.{Device, NoMemory}
use Rattle.holds.specs.declared.consumer.ConsumerKey.{ConsumerKey}
use Rattle.ids.specs.Ids.{message_id_at}
use Rattle.managed_ledger.specs.Entries.{Ledger, entry_at}
use Rattle.std.specs.List.{find}
use Rattle.subscriptions.specs.Laws.{IsOpenFor}
use Rattle.subscriptions.specs.State.{Subscription, Subscriptions}
use Rattle.subscriptions.proofs.Limits.{picked}
use Rattle.subscriptions.specs.Steps as subscriptions
use Rattle.subscriptions.specs.Steps.{IsLearnt, IsLooked}
use Rattle.subscriptions.proofs.Granted.{learnt_again, learnt_before, nothing_before, admitted_there, before_learnt}
use Rattle.subscriptions.proofs.Learning.{learns_nothing, learning_admits}
use Rattle.subscriptions.proofs.Looking.{nothing_looked, seen_both}
use Rattle.topic_core.specs.declared.dispatch.AtHand.{AtHand}
use Rattle.topic_core.specs.declared.dispatch.Outgoing.{Outgoing}
use Rattle.topic_core.specs.State.{Topic, CountsStay}
use Rattle.topic_core.specs.Steps.{key_of, learnt, HasLearnt}
use Rattle.permits.specs.Ends.{Seen}
use Rattle.topic_core.specs.Dispatch.{Admits, sent, IsSent, DispatchStep, AtHandStep}

abbrev pub with_subs : Topic → Subscriptions → Topic
with_subs t subs = record t { subs = subs }

-- the topic is the old one but for its subscriptions
pub other_counts : (t old : Topic) (subs : Subscriptions) → t ≡ old → CountsStay old (with_subs t subs)
other_counts t old subs is = record { accepted = ap (λ (x : Topic). x.accepted) is; handed = ap (λ (x : Topic). x.handed) is }

pub still_same : (t old : Topic) (subs : Subscriptions) → t ≡ old → subs ≡ t.subs → with_subs t subs ≡ old
still_same t old subs is same = ap (with_subs t) same ∙ is

pub learnt_of : (t old : Topic) (who id : ℕ) (key : ConsumerKey) (subs : Subscriptions) → t ≡ old → key ≡ key_of who id → IsLearnt (subscriptions.learnt t.subs key) subs → IsLearnt (learnt old who id) (with_subs t subs)
learnt_of t old who id key subs is its l =
    subst (λ (x : Topic). IsLearnt (learnt x who id) (with_subs t subs)) is (record {
      seen = l.seen;
      bound = l.bound;
      same = ap (with_subs t) (l.same ∙ ap (λ (k : ConsumerKey). subscriptions.learnt t.subs k l.seen) its);
    })

looked_with : (exact : Type 0) (t : Topic) (who id : ℕ) (subs : Subscriptions) → IsLooked exact (subscriptions.learnt t.subs (key_of who id)) subs → IsLooked exact (learnt t who id) (with_subs t subs)
looked_with exact t who id subs l = record { learnt = record { seen = l.learnt.seen; bound = l.learnt.bound; same = ap (with_subs t) l.learnt.same }; once = l.once }

pub looks_of : (exact : Type 0) (t old : Topic) (who id : ℕ) (key : ConsumerKey) (subs : Subscriptions) → t ≡ old → key ≡ key_of who id → IsLooked exact (subscriptions.learnt t.subs key) subs
    → IsLooked exact (learnt old who id) (with_subs t subs)
looks_of exact t old who id key subs is its l =
    subst (λ (x : Topic). IsLooked exact (learnt x who id) (with_subs t subs)) is
    (looked_with exact t who id subs (subst (λ (k : ConsumerKey). IsLooked exact (subscriptions.learnt t.subs k) subs) its l))

pub looked_of : (t old : Topic) (who : ℕ) (subs : Subscriptions) → t ≡ old → subscriptions.HasLearnt who t.subs subs → HasLearnt who old (with_subs t subs)
looked_of t old who subs is l = subst (λ (x : Topic). HasLearnt who x (with_subs t subs)) is (record { subs = l; same = refl })

pub nothing_learnt : (t : Topic) (who id : ℕ) → IsLearnt (learnt t who id) t
nothing_learnt t who id = let l = learns_nothing t.subs (key_of who id) in record { seen = l.seen; bound = l.bound; same = ap (with_subs t) l.same }

pub none_looked : (t : Topic) (who : ℕ) → HasLearnt who t t
none_looked t who = record { subs = record { subs = nothing_looked who t.subs.subs; same = refl }; same = refl }

pub learnt_twice : (old t new : Topic) (who id : ℕ) → IsLearnt (learnt old who id) t → IsLearnt (learnt t who id) new → IsLearnt (learnt old who id) new
learnt_twice old t new who id a b = record {
  seen = seen_both a.seen b.seen;
  bound = omega (arith, a.bound, b.bound);
  same = b.same ∙ ap (λ (x : Topic). learnt x who id b.seen) a.same ∙ ap (with_subs old) (learnt_again old.subs (key_of who id) a.seen b.seen);
}

-- what the gauge learnt where a message was sent might have been learnt before it, and is nothing where nobody grants behind its back
abbrev pub IsGiven : Type 0 → Topic → ConsumerKey → ℕ → Topic → Type 0
IsGiven exact old key i new = (t : Topic) × IsLearnt (learnt old key.session key.id) t × (exact → t ≡ old) × (new ≡ sent t key i)

pub given : (exact : Type 0) (t old : Topic) (key : ConsumerKey) (i : ℕ) (subs : Subscriptions) → t ≡ old → Admits old key i
    → IsLearnt (subscriptions.learnt (subscriptions.sent t.subs key i) key) subs → (exact → subs ≡ subscriptions.sent t.subs key i) → IsGiven exact old key i (with_subs t subs)
given exact t old key i subs is admitted l same =
    let n = l.seen in
    let at : Admits t key i = subst (λ (x : Topic). Admits x key i) (sym is) admitted in
    let there = admitted_there t.subs key t.committed i at.admitted in (
      learnt t key.session key.id n,
      subst (λ (x : Topic). IsLearnt (learnt x key.session key.id) (learnt t key.session key.id n)) is (record { seen = n; bound = l.bound; same = refl }),
      (λ h. ap (with_subs t) (nothing_before t.subs key i n there (sym (learnt_before t.subs key i n) ∙ sym l.same ∙ same h)) ∙ is),
      ap (with_subs t) (l.same ∙ learnt_before t.subs key i n),
    )

-- what is sent of a topic that was learnt of
sent_of : (t new : Topic) (key : ConsumerKey) (i : ℕ) (n : Seen) (outgoing : Outgoing) → Admits t key i → outgoing.reply ≡ Message key.id (message_id_at t.per_ledger i) (subscriptions.sent_before t.subs key i)
    → entry_at t.ledger i ≡ Some outgoing.entry → new ≡ sent (learnt t key.session key.id n) key i → IsSent (learnt t key.session key.id n) key i outgoing new
sent_of t new key i n outgoing admitted reply entry is = record {
  admitted = record { works = admitted.works; admitted = learning_admits t.subs key n t.committed i admitted.admitted };
  reply = reply ∙ ap (λ times. Message key.id (message_id_at t.per_ledger i) times) (sym (before_learnt t.subs key n i (admitted_there t.subs key t.committed i admitted.admitted)));
  entry = entry;
  sent = is;
}

pub is_sent : (t x new : Topic) (key : ConsumerKey) (i : ℕ) (outgoing : Outgoing) → Admits t key i → outgoing.reply ≡ Message key.id (message_id_at t.per_ledger i) (subscriptions.sent_before t.subs key i)
    → entry_at t.ledger i ≡ Some outgoing.entry → IsLearnt (learnt t key.session key.id) x → new ≡ sent x key i → IsSent x key i outgoing new
is_sent t x new key i outgoing admitted reply entry l is =
    subst (λ (y : Topic). IsSent y key i outgoing new) (sym l.same)
    (sent_of t new key i l.seen outgoing admitted reply entry (is ∙ ap (λ (y : Topic). sent y key i) l.same))

-- a topic of which it was learnt and then sent
abbrev pub Found : Type 0 → Topic → ℕ → ℕ → (Topic → Type 0) → Type 0
Found exact old who id Holds = (t : Topic) × IsLearnt (learnt old who id) t × (exact → t ≡ old) × Holds t

found_at : (exact : Type 0) (old t new : Topic) (who id i : ℕ) (outgoing : Outgoing) → IsLearnt (learnt old who id) t → (exact → t ≡ old) → Admits t (key_of who id) i
    → outgoing.reply ≡ Message id (message_id_at t.per_ledger i) (subscriptions.sent_before t.subs (key_of who id) i) → entry_at t.ledger i ≡ Some outgoing.entry
    → IsGiven exact t (key_of who id) i new → Found exact old who id (λ x. (j : ℕ) × IsSent x (key_of who id) j outgoing new)
found_at exact old t new who id i outgoing l same admitted reply entry g =
    (g.0, learnt_twice old t g.0 who id l g.1, (λ h. g.2 h ∙ same h), (i, is_sent t g.0 new (key_of who id) i outgoing admitted reply entry g.1 g.3))

pub found_sent : (exact : Type 0) (old t new : Topic) (who id : ℕ) (key : ConsumerKey) (i : ℕ) (outgoing : Outgoing) → key ≡ key_of who id → IsLearnt (learnt old who id) t → (exact → t ≡ old) → Admits t (key_of who id) i
    → outgoing.reply ≡ Message key.id (message_id_at t.per_ledger i) (subscriptions.sent_before t.subs key i) → entry_at t.ledger i ≡ Some outgoing.entry
    → IsGiven exact t key i new → Found exact old who id (λ x. (j : ℕ) × IsSent x (key_of who id) j outgoing new)
found_sent exact old t new who id key i outgoing its l same admitted reply entry g =
    found_at exact old t new who id i outgoing l same admitted
    (subst (λ (k : ConsumerKey). outgoing.reply ≡ Message k.id (message_id_at t.per_ledger i) (subscriptions.sent_before t.subs k i)) its reply) entry
    (subst (λ (k : ConsumerKey). IsGiven exact t k i new) its g)

-- who is admitted gets a committed position
open_within : (o : Option Subscription) (committed i : ℕ) → IsOpenFor o committed i → i < committed
open_within None committed i h = absurd h
open_within (Some s) committed i h = h.is_committed

pub admitted_within : (t : Topic) (key : ConsumerKey) (i : ℕ) → Admits t key i → i < t.committed
admitted_within t key i a = open_within (find (subscriptions.is_on key) t.subs.subs) t.committed i (picked t.subs key t.committed i a.admitted)

-- a read that is refused leaves what was learnt
pub read_refused : (t : Topic) (who id : ℕ) (e : ReadError) → (e ≡ NoMemory) ⊎ (e ≡ Device) → DispatchStep t who id (Err e) t
read_refused t who id e is = ⊎_elim (λ n. subst (λ (x : ReadError). DispatchStep t who id (Err x) t) (sym n) refl) (λ d. subst (λ (x : ReadError). DispatchStep t who id (Err x) t) (sym d) refl) is

-- what is refused leaves what was learnt
pub refused_dispatch : (t : Topic) (who id : ℕ) (result : Result (Option Outgoing) ReadError) (e : ReadError) → result ≡ Err e → (e ≡ NoMemory) ⊎ (e ≡ Device) → DispatchStep t who id result t
refused_dispatch t who id result e is why = subst (λ (r : Result (Option Outgoing) ReadError). DispatchStep t who id r t) (sym is) (read_refused t who id e why)

-- the same without a read
at_hand_refused : (t : Topic) (key : ConsumerKey) (e : ReadError) → (e ≡ NoMemory) ⊎ (e ≡ Device) → AtHandStep t key (Err e) t
at_hand_refused t key e is = ⊎_elim (λ n. subst (λ (x : ReadError). AtHandStep t key (Err x) t) (sym n) refl) (λ d. subst (λ (x : ReadError). AtHandStep t key (Err x) t) (sym d) refl) is

pub refused_at_hand : (t new : Topic) (key : ConsumerKey) (result : Result AtHand ReadError) (e : ReadError) → result ≡ Err e → (e ≡ NoMemory) ⊎ (e ≡ Device) → new ≡ t → AtHandStep t key result new
refused_at_hand t new key result e is why same =
    subst (λ (x : Topic). AtHandStep t key result x) (sym same) (subst (λ (r : Result AtHand ReadError). AtHandStep t key r t) (sym is) (at_hand_refused t key e why))

-- the entry that a message has is the one that was found
pub whole_entry : (ledger : Ledger) (i : ℕ) (found given : List ℕ) → entry_at ledger i ≡ Some found → given ≡ found → entry_at ledger i ≡ Some given
whole_entry ledger i found given is same = is ∙ ap (λ (e : List ℕ). Some e) (sym same)

pub refused_give : (t new : Topic) (who id : ℕ) (result : Result (Option Outgoing) ReadError) → result ≡ Err NoMemory → new ≡ t → DispatchStep t who id result new
refused_give t new who id result is same = subst (λ (r : Result (Option Outgoing) ReadError). DispatchStep t who id r new) (sym is) same
