-- How many segments the stores of topics know of, as events go on.
use Rattle.std.proofs.Common.{◌≡◌, ◌≢◌, inl, ℕ, ◌<◌, Bool, true, false, Option, Some, None, Result, Ok, Err, List, length, slice_get, slice_set, refl, sym, ap, subst, ◌∙◌, arith}
use Rattle.std.specs.Prelude.{is_err, OnOk}
use Rattle.std.proofs.lemmas.List.{length-set}
use Rattle.disk.specs.Disk.{Disk, Image}
use Rattle.gated_log.specs.declared.refusal.Refusal.{Refusal}
use Rattle.managed_ledger.specs.Entries.{Ledger}
use Rattle.records.specs.Maps.{Kept}
use Rattle.topic_stores.specs.declared.batch.Batch.{Batch}
use Rattle.topic_stores.specs.declared.error.WriteError.{WriteError}
use Rattle.topic_stores.specs.declared.error.WriteError.TheVariants.{Device, NoMemory}
use Rattle.topic_stores.specs.declared.store.TopicStore.{Ghosts as StoreMembers}
use Rattle.topic_stores.specs.Views.{StoreView}
use Rattle.topic_stores.specs.Writing as stores
use Rattle.topic_stores.specs.Writing.{IsOneMoreAtMost}
use Rattle.topic_stores.proofs.Sizes.{still_known}
use Rattle.topic_core.specs.State.{Topic}
use Rattle.topic_core.specs.Flush.{has_no_flush}
use Rattle.topic_core.specs.Standing.{Phase, Before, Written, Lost, phase_after, resting}
use Rattle.session.specs.Broker.{topic_at, fresh}
use Rattle.catalog.specs.Catalogs.{per_ledger}
use Rattle.node.specs.Flights.{stage_of, phase_at, batch_of, IsUnderWay}
use Rattle.node.specs.State.{Resting}
use Rattle.node.specs.Lists.{at_map, get_at}
use Rattle.node.specs.Standing.{StillKnows, StillKnow, HeldKnows, known_in, known_by, known_of, phase_of_topic, phase_in, state_of, broker_of, Stands, Passed, Worked}
use Rattle.node.specs.Passing.{each_with, count_is}
use Rattle.node.specs.Runs.{Life}
use Rattle.node.specs.Driving.{HasSegments, TellsSegments, KnowsOn, segments_known, Holds}
use Rattle.node.proofs.Segments.{tells_segments}
use Rattle.node.specs.declared.flight.Flight.{Flight}
use Rattle.node.specs.declared.held.Held.{Held}
use Rattle.node.specs.declared.node.Node.{Node}
use Rattle.node.specs.declared.power.Machine.TheVariants as machine
use Rattle.node.specs.declared.topics.Topics.{Topics}
use Rattle.node.proofs.UnderWay.{works, no_other}

-- a store that works has met no failure
before_lost : Before ≡ Lost → ⊥
before_lost same = cc

written_lost : (base : ℕ) → Written base ≡ Lost → ⊥
written_lost base same = cc

-- nothing changed
pub knows_same : (old new : Phase) (known now : ℕ) → now ≡ known → StillKnows old new known now
knows_same old new known now same = record { stays = λ was is. same; since = λ is. inl same }

-- a store that works by now
works_now : (old : Phase) (known now : ℕ) → StillKnows old Before known now
works_now old known now = record { stays = λ was is. absurd (before_lost is); since = λ is. absurd (before_lost is) }

-- ---- one topic

-- a whole flush
flushed_knows : (old new : Bool) (known now : ℕ) → (old ≡ true → now ≡ known) → (old ≡ false → new ≡ true → IsOneMoreAtMost known now) → StillKnows (resting old) (resting new) known now
flushed_knows true new known now refused fails = knows_same (resting true) (resting new) known now (refused refl)
flushed_knows false true known now refused fails = record { stays = λ was is. absurd (before_lost was); since = λ is. fails refl refl }
flushed_knows false false known now refused fails = works_now Before known now

pub flush_knows : (old new : Topic) (flight : Option Flight) (known now : ℕ) → IsUnderWay old flight → (has_no_flush old ≡ true → now ≡ known) → (old.failed ≡ true → now ≡ known)
    → (old.failed ≡ false → new.failed ≡ true → IsOneMoreAtMost known now) → StillKnows (phase_at old.failed (stage_of flight)) (phase_at new.failed (stage_of flight)) known now
flush_knows old new None known now u idle refused fails = flushed_knows old.failed new.failed known now refused fails
flush_knows old new (Some flight) known now u idle refused fails =
    knows_same (phase_at old.failed (stage_of (Some flight))) (phase_at new.failed (stage_of (Some flight))) known now (idle (no_other old (batch_of flight) u))

-- the write of a batch
pub write_knows : (v w : StoreView) (batch : Batch) (written : Result ℕ WriteError) → stores.Remembers v batch written w → StillKnows Before (phase_after written) (length v.counts) (length w.counts)
write_knows v w batch (Ok base) x = record { stays = λ was is. absurd (before_lost was); since = λ is. absurd (written_lost base is) }
write_knows v w batch (Err NoMemory) x = works_now Before (length v.counts) (length w.counts)
write_knows v w batch (Err Device) x = record { stays = λ was is. absurd (before_lost was); since = λ is. still_known v.per_ledger (length batch.entries.items) v.counts w.counts x.counts }

-- an opening of a failed topic
reopened_knows : (old new : Bool) (known now : ℕ) → (old ≡ false → now ≡ known) → (old ≡ true → new ≡ false) → StillKnows (resting old) (resting new) known now
reopened_knows false new known now same again = knows_same (resting false) (resting new) known now (same refl)
reopened_knows true new known now same again = subst (λ (b : Bool). StillKnows Lost (resting b) known now) (sym (again refl)) (works_now Lost known now)

pub reopen_knows : (result : Result (Unit {0}) Refusal) (old new : Topic) (flight : Option Flight) (known now : ℕ) → IsUnderWay old flight → (old.failed ≡ false → now ≡ known) → (is_err result ≡ true → now ≡ known)
    → (old.failed ≡ true → OnOk result (new.failed ≡ false)) → StillKnows (phase_at old.failed (stage_of flight)) (phase_at new.failed (stage_of flight)) known now
reopen_knows result old new (Some flight) known now u same refused again =
    knows_same (phase_at old.failed (stage_of (Some flight))) (phase_at new.failed (stage_of (Some flight))) known now (same (works old (batch_of flight) u))
reopen_knows (Ok done) old new None known now u same refused again = reopened_knows old.failed new.failed known now same again
reopen_knows (Err why) old new None known now u same refused again = knows_same (phase_at old.failed (stage_of None)) (phase_at new.failed (stage_of None)) known now (refused refl)

has_there : (laid : ℕ → Image → List ℕ → Type 0) (phase : Phase) (number : ℕ) (files : Image) (known : ℕ) → phase ≢ Lost → TellsSegments laid number phase files known known → HasSegments laid number files known
has_there laid Before number files known lives told = told
has_there laid (Written base) number files known lives told = told
has_there laid Lost number files known lives told = absurd (lives refl)

-- ---- all of them

module _ {T S : Type 0} {store : StoreMembers T} where
  -- the topic of a number
  pub phase_is : (t : Topics T S store) (number : ℕ) (h : Held T store) → slice_get t.held.items number ≡ Some h → phase_of_topic t number ≡ phase_in h
  phase_is t number h at =
      let core : topic_at (broker_of t) number ≡ h.core = at_map (λ (x : Held T store). x.core) t.held.items number h (fresh (per_ledger t.catalog)) at in
      let stage = at_map (λ (x : Held T store). stage_of x.flight) t.held.items number h Resting at in
      (λ i. phase_at (core i).failed (stage i))

  pub known_is : (t : Topics T S store) (number : ℕ) (h : Held T store) → slice_get t.held.items number ≡ Some h → known_in (known_of t) number ≡ known_by h
  known_is t number h at = at_map (λ (x : Held T store). known_by x) t.held.items number h 0 at

  -- of a topic that is worked, and of the others
  module _ (t new : Topics T S store) (k : ℕ) (h next : Held T store) (was : slice_get t.held.items k ≡ Some h) (held : new.held.items ≡ slice_set t.held.items k next) (here : HeldKnows h next) where
    abbrev Known : ℕ → Held T store → Type 0
    Known number x = StillKnows (phase_of_topic t number) (phase_in x) (known_in (known_of t) number) (known_by x)

    known_here : Known k next
    known_here =
        subst (λ (p : Phase). StillKnows p (phase_in next) (known_in (known_of t) k) (known_by next)) (sym (phase_is t k h was))
        (subst (λ (n : ℕ). StillKnows (phase_in h) (phase_in next) n (known_by next)) (sym (known_is t k h was)) here)

    others_know : (number : ℕ) → number < length t.held.items → StillKnows (phase_of_topic t number) (phase_of_topic new number) (known_in (known_of t) number) (known_in (known_of new) number)
    others_know number low =
        let x = get_at new.held.items number (omega (arith, low, ap (λ (l : List (Held T store)). length l) held, length-set t.held.items k next)) in
        let known = each_with Known t.held.items new.held.items k next held known_here (λ j y differ is. knows_same (phase_of_topic t j) (phase_in y) (known_in (known_of t) j) (known_by y) (sym (known_is t j y is))) number x.0 x.1 in
        subst (λ (p : Phase). StillKnows (phase_of_topic t number) p (known_in (known_of t) number) (known_in (known_of new) number)) (sym (phase_is new number x.0 x.1))
        (subst (λ (n : ℕ). StillKnows (phase_of_topic t number) (phase_in x.0) (known_in (known_of t) number) n) (sym (known_is new number x.0 x.1)) known)

    pub work_knows : StillKnow t new
    work_knows = record { each = others_know }

  -- nothing changed
  pub know_same : (t new : Topics T S store) → ((number : ℕ) → number < length t.held.items → known_in (known_of new) number ≡ known_in (known_of t) number) → StillKnow t new
  know_same t new same = record { each = λ number low. knows_same (phase_of_topic t number) (phase_of_topic new number) (known_in (known_of t) number) (known_in (known_of new) number) (same number low) }

  module _ (disk : S → Disk) where
    -- a call of a port
    pub passes_know : (t new : Topics T S store) → Passed disk t new → StillKnow t new
    passes_know t new p = know_same t new (λ number low. ap (λ (ks : List ℕ). known_in ks number) p.known)

    pub worked_know : (names : List (List ℕ)) (t new : Topics T S store) → Worked disk names t new → StillKnow t new
    worked_know names t new w = know_same t new w.known

  -- ---- a machine

  module _ (disk : S → Disk) (laid : ℕ → Image → List ℕ → Type 0) (law : (s : T) (files : Image) (ledger : Ledger) (kept : Kept) → (store.view s).holds files ledger kept → laid (store.view s).topic files (store.view s).counts) where
    -- a store that works knows of those in its files
    node_there : (node : Node T S store) → Stands disk node → (number : ℕ) → number < length node.topics.held.items → phase_of_topic node.topics number ≢ Lost
        → HasSegments laid number (disk node.topics.shelf).seen (known_in (known_of node.topics) number)
    node_there node stands number low works =
        let t = node.topics in
        let d = disk t.shelf in
        let x = get_at t.held.items number low in
        let h = x.0 in
        let told = tells_segments store.stands laid (phase_in h) h.core (store.view h.stores) d (known_by h) number (λ files ledger kept holds. law h.stores files ledger kept holds) (t.numbered number h x.1).0 refl (stands.each number h x.1) in
        subst (λ (n : ℕ). HasSegments laid number d.seen n) (sym (known_is t number h x.1)) (has_there laid (phase_in h) number d.seen (known_by h) (λ lost. works (phase_is t number h x.1 ∙ lost)) told)

    pub up_knows : (node next : Node T S store) (old new : Life) → Holds disk (machine.Up node) old → Holds disk (machine.Up next) new → StillKnow node.topics next.topics
        → KnowsOn laid (disk node.topics.shelf).seen old.state new.state (segments_known (machine.Up node)) (segments_known (machine.Up next))
    up_knows node next old new holds now know =
        let files = (disk node.topics.shelf).seen in
        let known = segments_known (machine.Up node) in
        let after = segments_known (machine.Up next) in
        subst (λ (l : Life). KnowsOn laid files l.state new.state known after) (sym holds.1)
        (subst (λ (l : Life). KnowsOn laid files (state_of disk node) l.state known after) (sym now.1) (record {
          there = λ number low works. node_there node holds.0 number (omega (arith, low, count_is node.topics)) works;
          still = λ number low. know.each number (omega (arith, low, count_is node.topics));
        }))
