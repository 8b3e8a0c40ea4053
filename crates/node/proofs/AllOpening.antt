-- The topics of a node are opened, one after another.
use Rattle.std.proofs.Common.{◌≡◌, inr, ⊎_elim, ℕ, ◌+◌, ◌<◌, ◌≤◌, ◌^◌, Some, None, List, [], ◌∷◌, ◌++◌, map, length, slice_get, refl, sym, ap, subst, ◌∙◌, arith}
use Rattle.std.proofs.lemmas.List.{length-append, length-map}
use Rattle.std.proofs.lemmas.Option.{none-some}
use Rattle.disk.specs.Disk.{Disk, Image, Same, Leaves, Kept as Counted}
use Rattle.disk.specs.Moments.{starts, joins}
use Rattle.managed_ledger.specs.Entries.{Ledger, end_of}
use Rattle.records.specs.Floors.{HaveBelow}
use Rattle.records.specs.Maps.{Kept}
use Rattle.topic_stores.specs.declared.store.TopicStore.{Ghosts as StoreMembers}
use Rattle.topic_core.specs.Messages.{marks_of}
use Rattle.topic_core.specs.State.{Topic, opened}
use Rattle.topic_core.specs.Soundness.{IsSoundTopic}
use Rattle.catalog.specs.Names.{Names}
use Rattle.catalog.specs.Catalogs.{StandsFor as NamesStand, Holds as NamesHeld, OldCounts, remembered, per_ledger}
use Rattle.catalog.specs.Laws.{holds_stands}
use Rattle.gated_log.specs.declared.refusal.Refusal.{Refusal}
use Rattle.disk.specs.Contents.{Settled as SettledIn}
use Rattle.node.specs.declared.held.Held.{Held}
use Rattle.node.specs.declared.topics.Topics.{Topics}
use Rattle.node.specs.Numbers.{AreNumbered, IsNumbered}
use Rattle.session.specs.Broker.{fresh}
use Rattle.session.specs.Client.{Client}
use Rattle.node.specs.Flights.{stage_of}
use Rattle.node.proofs.Making.{parts}
use Rattle.node.specs.State.{Stage, Resting}
use Rattle.node.specs.Standing.{HeldStands, NamesLeft, TopicsStand, broker_of, view_in, phase_in}
use Rattle.node.specs.Opening.{IsOpened, AllStand, AreJustOpened, IsJustOpened, IsTopicFault, IsFirstFault}
use Rattle.node.specs.Passing.{standing_read}
use Rattle.node.specs.Lists.{get_push, get_map, get_at, at_each}
use Rattle.node.specs.Finding.{IsQuiet}
use Rattle.node.specs.Laws.{IsAtStart}
use Rattle.node.proofs.Sound.{fresh_sound}
use Rattle.node.proofs.Starting.{starts_sound, starts_quiet}

-- Those that were opened so far, as many as this number, stand on the device as it is now, which only read.
pub record Going {T : Type 0} {store : StoreMembers T} (per_ledger : ℕ) (first now : Disk) (held : List (Held T store)) (number : ℕ) : Type 0 where
  pub count : length held ≡ number
  pub numbered : AreNumbered per_ledger held
  pub each : first.honest → AllStand held now
  pub found : first.honest → AreJustOpened store.stands per_ledger first.seen held
  pub seen : first.honest → Same first.seen now.seen
  pub moments : first.honest → Leaves first.may_leave first now
  pub kept : Counted first now

pub going_first : {T : Type 0} {store : StoreMembers T} (per_ledger : ℕ) (d : Disk) (held : List (Held T store)) → held ≡ [] → Going {store = store} per_ledger d d held 0
going_first {store = store} per_ledger d held none = record {
  count = ap (λ (l : List (Held _ _)). length l) none;
  numbered = λ j h is. absurd (none-some h (ap (λ (l : List (Held _ _)). slice_get l j) (sym none) ∙ is));
  each = λ honest j h is. absurd (none-some h (ap (λ (l : List (Held _ _)). slice_get l j) (sym none) ∙ is));
  found = λ honest j h is. absurd (none-some h (ap (λ (l : List (Held _ _)). slice_get l j) (sym none) ∙ is));
  seen = λ honest. refl;
  moments = λ honest. starts d.may_leave d (λ c may. may);
  kept = record { faults = omega arith; honest = λ h. h; not_honest = λ h. h };
}

module _ {T : Type 0} {store : StoreMembers T} (per_ledger : ℕ) (first now next : Disk) (held : List (Held T store)) (number : ℕ) (g : Going {store = store} per_ledger first now held number)
    (seen : now.honest → Same now.seen next.seen) (moments : now.honest → Leaves now.may_leave now next) (kept : Counted now next) where
  -- one more
  pub going_more : (h : Held T store) (held' : List (Held T store)) → held' ≡ held ++ h ∷ [] → IsNumbered per_ledger number h → (now.honest → HeldStands h next) → (now.honest → store.stands number now.seen h.core.ledger h.core.kept) → end_of h.core.ledger ≤ 2 ^ 62
      → h.core ≡ opened per_ledger h.core.ledger (marks_of h.core.ledger) h.core.kept → h.flight ≡ None → Going {store = store} per_ledger first next held' (number + 1)
  going_more h held' items numbered stands found few is rests =
      let P : (ℕ → Held T store → Type 0) → Type 0 = λ Q. (j : ℕ) (x : Held T store) → slice_get held' j ≡ Some x → Q j x in
      let both : (Q : ℕ → Held T store → Type 0) → Q number h → ((j : ℕ) (x : Held T store) → slice_get held j ≡ Some x → Q j x) → P Q = λ Q here others j x at. ⊎_elim
      (λ last. subst (λ k. Q k x) (sym (last.0 ∙ g.count)) (subst (λ (y : Held T store). Q number y) (sym last.1) here))
      (λ other. others j x other.1)
      (get_push held h j x (ap (λ l. slice_get l j) (sym items) ∙ at)) in
      record {
        count = omega (arith, ap (λ (l : List (Held T store)). length l) items, length-append held (h ∷ []), g.count);
        numbered = both (λ j x. IsNumbered per_ledger j x) numbered g.numbered;
        each = λ honest. both (λ j x. HeldStands x next) (stands (g.kept.honest honest))
            (λ j x at. standing_read store.stands (phase_in x) x.core (view_in x) now next (record { seen = seen; any_moment = moments; kept = kept }) (g.each honest j x at));
        found = λ honest. both (λ j x. IsOpened store.stands per_ledger j first.seen x)
            (record { stands = subst (λ (i : Image). store.stands number i h.core.ledger h.core.kept) (g.seen honest) (found (g.kept.honest honest)); few = few; opened = is; rests = rests })
            (g.found honest);
        seen = λ honest. seen (g.kept.honest honest) ∙ g.seen honest;
        moments = λ honest. joins first.may_leave now.may_leave first.may_leave first now next (g.moments honest) (moments (g.kept.honest honest)) (λ c may. may) (g.moments honest).now;
        kept = record { faults = omega (arith, g.kept.faults, kept.faults); honest = λ h. kept.honest (g.kept.honest h); not_honest = λ h. g.kept.not_honest (kept.not_honest h) };
      }

-- a fault of the next one is the first fault
pub topic_fault : {T : Type 0} {store : StoreMembers T} (per_ledger : ℕ) (first now : Disk) (held : List (Held T store)) (number : ℕ) → Going {store = store} per_ledger first now held number → first.honest
    → (faulty : ℕ → Image → Refusal → Type 0) (count : ℕ) → number < count → (why : Refusal) → faulty number now.seen why → IsTopicFault store.stands faulty count first.seen why
topic_fault {store = store} per_ledger first now held number g honest faulty count low why fault = record {
  number = number;
  there = low;
  fault = subst (λ (i : Image). faulty number i why) (g.seen honest) fault;
  first = λ before less.
      let h = get_at held before (omega (arith, less, g.count)) in
      let o = g.found honest before h.0 h.1 in
      (h.0.core.ledger, h.0.core.kept, o.stands);
}

-- the files that they were opened from, and their number of entry ids, in other words
pub opens_at : {T : Type 0} {store : StoreMembers T} (files_stand : ℕ → Image → Ledger → Kept → Type 0) (n m : ℕ) (a b : Image) (held : List (Held T store)) → n ≡ m → a ≡ b → AreJustOpened files_stand n a held → AreJustOpened files_stand m b held
opens_at files_stand n m a b held is same opens = subst (λ k. AreJustOpened files_stand k b held) is (subst (λ (i : Image). AreJustOpened files_stand n i held) same opens)

-- ---- the whole node

module _ {T S : Type 0} {store : StoreMembers T} (disk : S → Disk) where
  -- it stands where its names and each topic do
  pub node_stands : (t : Topics T S store) → t.doubtful ≡ None → ((files : Image) → (disk t.shelf).may_leave files → ¬ OldCounts files) → SettledIn (NamesHeld t.catalog) (disk t.shelf) (remembered t.catalog)
      → AllStand t.held.items (disk t.shelf) → TopicsStand disk t
  node_stands t none newest settled all = record {
    honest = settled.honest;
    each = all;
    newest = newest;
    names = λ files may. subst (λ d. NamesLeft store.stands d (broker_of t) files) (sym none) (holds_stands t.catalog files (remembered t.catalog) (settled.left files may));
    settled = λ _. settled;
  }

-- and was just opened
module _ {T : Type 0} {store : StoreMembers T} (n : ℕ) (url : List ℕ) (names : Names) (held : List (Held T store)) (files : Image) (count : length held ≡ length names) (is : NamesStand n files names) (opens : AreJustOpened store.stands n files held)
    (below : (t : ℕ) (image : Image) (ledger : Ledger) (k : Kept) → store.stands t image ledger k → HaveBelow ledger.base k) where
  abbrev cores : List Topic
  cores = map (λ (h : Held T store). h.core) held

  -- each is sound, and owes nothing
  at_start : IsAtStart (parts n url names None cores)
  at_start = record {
    sound = λ number. at_each (λ (u : Topic). IsSoundTopic u) (λ (h : Held T store). h.core) held number (fresh n) (fresh_sound n (omega (arith, is.ledgers.0)))
        (λ j h at. let o = opens j h at in starts_sound n h.core o.opened (omega (arith, is.ledgers.0)) o.few h.matched.kept.durable (below j files h.core.ledger h.core.kept o.stands));
    quiet = λ number. at_each (λ (u : Topic). IsQuiet u) (λ (h : Held T store). h.core) held number (fresh n) (record { queues = refl; waiting = refl; sure = refl; counted = refl; trims = omega arith })
        (λ j h at. starts_quiet n h.core (opens j h at).opened);
  }

  pub just_opened : (sessions : List Client) (faults : ℕ) → sessions ≡ []
      → IsJustOpened store.stands files (record { broker = parts n url names None cores; stages = map (λ (h : Held T store). stage_of h.flight) held; sessions = sessions; used = 0; faults = faults })
  just_opened sessions faults none = record {
    names = is;
    formed = record {
      named = length-map held (λ (h : Held T store). h.core) ∙ count;
      ledgers = λ number. at_each (λ (u : Topic). u.per_ledger ≡ n) (λ (h : Held T store). h.core) held number (fresh n) refl (λ j h at. ap (λ (u : Topic). u.per_ledger) (opens j h at).opened);
    };
    sure = refl;
    topics = λ number topic at.
        let x = get_map (λ (h : Held T store). h.core) held number topic at in
        let o = opens number x.0 x.1 in
        subst (λ (u : Topic). store.stands number files u.ledger u.kept × (u ≡ opened n u.ledger (marks_of u.ledger) u.kept)) (sym x.2) (o.stands, o.opened);
    start = at_start;
    stages = λ number. at_each (λ (s : Stage). s ≡ Resting) (λ (h : Held T store). stage_of h.flight) held number Resting refl (λ j h at. ap (λ f. stage_of f) (opens j h at).rests);
    sessions = none;
    used = refl;
  }

  pub few_each : (number : ℕ) (t : Topic) → slice_get cores number ≡ Some t → end_of t.ledger ≤ 2 ^ 62
  few_each number topic at =
      let x = get_map (λ (h : Held T store). h.core) held number topic at in
      subst (λ (u : Topic). end_of u.ledger ≤ 2 ^ 62) (sym x.2) (opens number x.0 x.1).few

-- the first fault of the topics is one of the files before the catalog was opened too
pub fault_before : (files_stand : ℕ → Image → Ledger → Kept → Type 0) (faulty : ℕ → Image → Refusal → Type 0) (a b : Image) (per_ledger count : ℕ) (names : Names) (why : Refusal) → b ≡ a → ¬ OldCounts b → NamesStand per_ledger a names → length names ≡ count
    → IsTopicFault files_stand faulty count b why → IsFirstFault files_stand faulty a why
fault_before files_stand faulty a b per_ledger count names why same newest is many fault =
    inr (subst (λ (i : Image). ¬ OldCounts i) same newest, per_ledger, names, is, subst (λ (i : Image). IsTopicFault files_stand faulty (length names) i why) same (subst (λ k. IsTopicFault files_stand faulty k b why) (sym many) fault))
