-- Calls of a port, one after another.
use Rattle.std.proofs.Common.{◌≡◌, ◌≢◌, ℕ, ◌≤◌, inl, inr, ⊎_elim, false, Option, Some, None, List, [], ◌∷◌, ◌++◌, length, map, slice_get, slice_set, refl, sym, ap, subst, ◌∙◌, arith}
use Rattle.std.proofs.lemmas.List.{set-get_or, length-map, length-set}
use Rattle.std.specs.FinMap as map_of
use Rattle.std.proofs.lemmas.Option.{slice_get_within, get_or_from_slice_get, slice_get-get_or}
use Rattle.disk.specs.declared.file_id.FileId.TheVariants as file_id
use Rattle.disk.specs.declared.file_id.Folder.TheVariants.{One}
use Rattle.disk.specs.Disk.{Disk, Image, Same, Leaves, Kept as Counted}
use Rattle.disk.specs.Moments.{starts, joins, weaken}
use Rattle.disk.specs.Contents.{Settled as SettledIn}
use Rattle.gated_log.specs.declared.read_error.ReadError.{ReadError}
use Rattle.gated_log.specs.Headers.{HasOpenHeader}
use Rattle.gated_log.specs.declared.read_error.ReadError.TheVariants as read
use Rattle.managed_ledger.specs.Entries.{Ledger, whole, trimmed}
use Rattle.records.specs.Maps.{Kept}
use Rattle.topic_stores.specs.declared.store.TopicStore.{Ghosts as StoreMembers}
use Rattle.topic_stores.specs.Views.{StoreView, Settled}
use Rattle.topic_stores.specs.Writing.{StandsFor}
use Rattle.topic_core.specs.State.{Topic, Doubt, floor, floor_of, entries_in_doubt, changes_in_doubt}
use Rattle.topic_core.specs.Crashes.{IsLeft, longer, changed}
use Rattle.topic_core.specs.Standing.{Phase, Before, Written, Lost, Holds, Standing, GoesOn}
use Rattle.topic_core.proofs.Standings.{left_like, standing_goes_on}
use Rattle.node.specs.declared.held.Held.{Held}
use Rattle.node.specs.declared.topics.Topics.{Topics}
use Rattle.catalog.specs.declared.catalog.Catalog.{Catalog}
use Rattle.catalog.specs.Catalogs.{Own, StandsFor as NamesStand, Holds as NamesHeld, OldCounts, remembered, per_ledger, failed}
use Rattle.session.specs.Broker.{Broker, topic_at, with_topic, fresh}
use Rattle.node.specs.Naming.{IsFormed}
use Rattle.node.specs.State.{Stage, Resting, MayRefuse, MayRefuseOf, stage_in, over}
use Rattle.node.specs.Flights.{stage_of, phase_at}
use Rattle.node.specs.Standing.{StandsForBroker, NamesLeft, view_in, phase_in, HeldStands, known_by, known_of, broker_of, stages_of, TopicsStand, Passed, Passes, Refuses}
use Rattle.node.specs.Lists.{get_set, map_set, get_map, at_map, at_each}
use Rattle.node.specs.Brokers.{set_at}

same_floor : (old new : Topic) → GoesOn old new → floor new ≡ floor old
same_floor old new go = ap (λ (l : Ledger). floor_of l.base new.doubt) go.ledger ∙ ap (λ (o : Option Doubt). floor_of old.ledger.base o) go.doubt

-- what a crash leaves of a topic it left before the topic went on
left_before : (old new : Topic) → GoesOn old new → (l : Ledger) (k : Kept) → IsLeft new l k → IsLeft old l k
left_before old new go =
    left_like new.ledger old.ledger new.kept old.kept (entries_in_doubt new) (entries_in_doubt old) (changes_in_doubt new) (changes_in_doubt old) (floor new) (floor old)
    go.ledger go.durable go.entries go.changes (same_floor old new go)

-- what a call does to a device that it only reads
pub record OnlyReads (old new : Disk) : Type 0 where
  pub seen : old.honest → Same old.seen new.seen
  pub any_moment : old.honest → Leaves old.may_leave old new
  pub kept : Counted old new

-- a settled store stays so
settled_read : (v : StoreView) (old new : Disk) (ledger : Ledger) (kept : Kept) → OnlyReads old new → Settled v old ledger kept → Settled v new ledger kept
settled_read v old new ledger kept reads x = record {
  settled = record {
    honest = reads.kept.honest x.settled.honest;
    now = subst (λ (i : Image). v.holds i ledger kept) (sym (reads.seen x.settled.honest)) x.settled.now;
    left = λ c may. x.settled.left c ((reads.any_moment x.settled.honest).now c may);
  };
  steady = λ c may. subst (λ (i : Image). v.written c ≡ v.written i) (sym (reads.seen x.settled.honest)) (x.steady c ((reads.any_moment x.settled.honest).now c may));
}

-- and so do settled names
pub settled_names : (old new : Disk) (catalog : Catalog) → OnlyReads old new → SettledIn (NamesHeld catalog) old (remembered catalog) → SettledIn (NamesHeld catalog) new (remembered catalog)
settled_names old new catalog reads x = record {
  honest = reads.kept.honest x.honest;
  now = subst (λ (i : Image). NamesHeld catalog i (remembered catalog)) (sym (reads.seen x.honest)) x.now;
  left = λ c may. x.left c ((reads.any_moment x.honest).now c may);
}

holds_read : (phase : Phase) (t : Topic) (v : StoreView) (old new : Disk) → OnlyReads old new → Holds phase t v old → Holds phase t v new
holds_read Before t v old new reads x = settled_read v old new t.ledger t.kept reads x
holds_read (Written base) t v old new reads x = settled_read v old new (trimmed base (longer t)) (changed t) reads x
holds_read Lost t v old new reads x = tt

-- what was refused in between was refused from the first to the last
refused_of : (first second : Stage) (a b c d : ℕ) (why : ReadError) → second ≡ first → a ≤ b → c ≤ d → MayRefuseOf second b c why → MayRefuseOf first a d why
refused_of first second a b c d read.NoMemory same before after may = tt
refused_of first second a b c d read.Device same before after (inl failed) = inl (omega (arith, before, after, failed))
refused_of first second a b c d read.Device same before after (inr written) = inr (sym same ∙ written)
refused_of first second a b c d (read.Damaged file offset) same before after may = may

refused_within : (first second : List Stage) (a b c d number : ℕ) (why : ReadError) → second ≡ first → a ≤ b → c ≤ d → MayRefuse second b c number why → MayRefuse first a d number why
refused_within first second a b c d number why same before after may = refused_of (stage_in first number) (stage_in second number) a b c d why (ap (λ ss. stage_in ss number) same) before after may

module _ (stands : ℕ → Image → Ledger → Kept → Type 0) where
  -- a topic stands on a device that only read
  pub standing_read : (phase : Phase) (t : Topic) (v : StoreView) (old new : Disk) → OnlyReads old new → Standing stands phase t v old → Standing stands phase t v new
  standing_read phase t v old new reads h = record {
    matched = h.matched;
    honest = reads.kept.honest h.honest;
    counted = h.counted;
    marks = h.marks;
    acknowledged = h.acknowledged;
    left = λ c may. h.left c ((reads.any_moment h.honest).now c may);
    holds = holds_read phase t v old new reads h.holds;
  }

  -- and where it went on
  standing_on : (stage : Stage) (old new : Topic) (v : StoreView) (d : Disk) → GoesOn old new → Standing stands (phase_at old.failed stage) old v d → Standing stands (phase_at new.failed stage) new v d
  standing_on stage old new v d go h =
      subst (λ b. Standing stands (phase_at b stage) new v d) (sym go.failed) (standing_goes_on stands (phase_at old.failed stage) old new v d go h)

-- ---- one topic goes on, and the others stay

module _ {T : Type 0} {store : StoreMembers T} where
  -- a topic goes on beside the same store and flush
  held_on : (h next : Held T store) (d : Disk) → next.stores ≡ h.stores → next.flight ≡ h.flight → GoesOn h.core next.core → HeldStands h d → HeldStands next d
  held_on h next d stores flight go s =
      subst (λ (x : T). Standing store.stands (phase_in next) next.core (store.view x) d) (sym stores)
      (subst (λ f. Standing store.stands (phase_at next.core.failed (stage_of f)) next.core (view_in h) d) (sym flight)
      (standing_on store.stands (stage_of h.flight) h.core next.core (view_in h) d go s))

  -- what stands of each, with another one at a place
  pub each_with : (P : ℕ → Held T store → Type 0) (held held' : List (Held T store)) (number : ℕ) (next : Held T store) → held' ≡ slice_set held number next → P number next
      → ((j : ℕ) (x : Held T store) → j ≢ number → slice_get held j ≡ Some x → P j x) → (j : ℕ) (x : Held T store) → slice_get held' j ≡ Some x → P j x
  each_with P held held' number next same here others j x is = ⊎_elim
      (λ at. subst (λ (i : ℕ). P i x) (sym at.0) (subst (λ (y : Held T store). P number y) (sym at.1) here))
      (λ other. others j x other.0 other.1)
      (get_set held number j next x (ap (λ l. slice_get l j) (sym same) ∙ is))

pub count_is : {T S : Type 0} {store : StoreMembers T} (t : Topics T S store) → length (broker_of t).topics ≡ length t.held.items
count_is t = length-map t.held.items (λ h. h.core)

-- the names that a crash leaves are those of the broker where its catalog, its count of topics and the name in doubt are the same
pub names_as : (files_stand : ℕ → Image → Ledger → Kept → Type 0) (doubt : Option (List ℕ)) (b c : Broker) (files : Image) → c.per_ledger ≡ b.per_ledger → c.names ≡ b.names → length c.topics ≡ length b.topics
    → NamesLeft files_stand doubt b files → NamesLeft files_stand doubt c files
names_as files_stand None b c files ledgers names count is =
    subst (λ n. NamesStand n files c.names) (sym ledgers) (subst (λ (ns : List (List ℕ)). NamesStand b.per_ledger files ns) (sym names) is)
names_as files_stand (Some name) b c files ledgers names count is = ⊎_elim
    (λ without. inl (subst (λ n. NamesStand n files c.names) (sym ledgers) (subst (λ (ns : List (List ℕ)). NamesStand b.per_ledger files ns) (sym names) without)))
    (λ with'. inr (
      subst (λ n. NamesStand n files (c.names ++ name ∷ [])) (sym ledgers) (subst (λ (ns : List (List ℕ)). NamesStand b.per_ledger files (ns ++ name ∷ [])) (sym names) with'.0),
      subst (λ n. files_stand n files (whole []) map_of.empty) (sym count) with'.1,
    ))
    is

-- each topic has its name and its number of entry ids
pub formed_of : {T S : Type 0} {store : StoreMembers T} (t : Topics T S store) → IsFormed (broker_of t)
formed_of t = record {
  named = count_is t ∙ sym t.named;
  ledgers = λ number. at_each (λ (u : Topic). u.per_ledger ≡ per_ledger t.catalog) (λ h. h.core) t.held.items number (fresh (per_ledger t.catalog)) refl (λ j h is. (t.numbered j h is).1);
}

-- the list of topics of version 1 isn't the one of version 2
pub old_beside : ¬ Own (file_id.Catalog One)
old_beside own = absurd (cc)

-- whether a folder of version 1 counts is known by its list of topics alone
pub newest_moved : (a c : Image) → c (file_id.Catalog One) ≡ a (file_id.Catalog One) → ¬ OldCounts a → ¬ OldCounts c
newest_moved a c same absent counts = absent (subst (λ x. HasOpenHeader One x) same counts)

-- Files that stand for a broker stand for one of the same names, of whose topics a crash leaves what it leaves of that one's.
pub stands_before : (files_stand : ℕ → Image → Ledger → Kept → Type 0) (b c : Broker) (files : Image) → IsFormed c → c.per_ledger ≡ b.per_ledger → c.names ≡ b.names → c.doubtful ≡ b.doubtful
    → ((number : ℕ) (l : Ledger) (k : Kept) → IsLeft (topic_at b number) l k → IsLeft (topic_at c number) l k) → StandsForBroker files_stand b files → StandsForBroker files_stand c files
stands_before files_stand b c files formed ledgers names doubtful left s =
    let count : length c.topics ≡ length b.topics = formed.named ∙ ap (λ (l : List (List ℕ)). length l) names ∙ sym s.formed.named in
    record {
      formed = formed;
      newest = s.newest;
      names = subst (λ d. NamesLeft files_stand d c files) (sym doubtful) (names_as files_stand b.doubtful b c files ledgers names count s.names);
      topics = λ number topic is.
          let low = slice_get_within c.topics number topic is in
          let x = s.topics number (topic_at b number) (slice_get-get_or b.topics number (fresh b.per_ledger) (omega (arith, low, count))) in
          record {
            ledger = x.ledger;
            kept = x.kept;
            is_left = subst (λ (u : Topic). IsLeft u x.ledger x.kept) (get_or_from_slice_get c.topics number topic (fresh c.per_ledger) is) (left number x.ledger x.kept x.is_left);
            stands = x.stands;
          };
    }

module _ {T S : Type 0} {store : StoreMembers T} (disk : S → Disk) where
  -- whatever a crash now leaves stands for the broker
  pub stands_so : (t : Topics T S store) → TopicsStand disk t → (files : Image) → (disk t.shelf).may_leave files → StandsForBroker store.stands (broker_of t) files
  stands_so t standing files may = record {
    formed = formed_of t;
    newest = standing.newest files may;
    names = standing.names files may;
    topics = λ number topic is.
        let x = get_map (λ (h : Held T store). h.core) t.held.items number topic is in
        subst (λ (u : Topic). StandsFor (store.stands number) (IsLeft u) files) (sym x.2)
        (subst (λ n. StandsFor (store.stands n) (IsLeft x.0.core) files) (t.numbered number x.0 x.1).0 ((standing.each number x.0 x.1).left files may));
  }

  -- so it is at any moment of a call that leaves the device alone
  pub untouched : (t : Topics T S store) (shelf : S) → TopicsStand disk t → shelf ≡ t.shelf → Leaves (StandsForBroker store.stands (broker_of t)) (disk t.shelf) (disk shelf)
  untouched t shelf standing same =
      subst (λ (s : S). Leaves (StandsForBroker store.stands (broker_of t)) (disk t.shelf) (disk s)) (sym same) (starts (StandsForBroker store.stands (broker_of t)) (disk t.shelf) (stands_so t standing))

  passed_nothing : (t : Topics T S store) → TopicsStand disk t → Passed disk t t
  passed_nothing t standing = record {
    standing = standing;
    left = λ number l k is. is;
    any_moment = untouched t t.shelf standing refl;
    url = refl;
    catalog = refl;
    doubtful = refl;
    stages = refl;
    known = refl;
    faults = omega arith;
  }

  pub passes_nothing : (t : Topics T S store) → Passes disk t t
  passes_nothing t = (omega arith, passed_nothing t)

  -- files that stand behind it stood before it
  pub passed_before : (a b : Topics T S store) → Passed disk a b → (files : Image) → StandsForBroker store.stands (broker_of b) files → StandsForBroker store.stands (broker_of a) files
  passed_before a b p files s =
      stands_before store.stands (broker_of b) (broker_of a) files (formed_of a) (ap (λ (c : Catalog). per_ledger c) (sym p.catalog)) (ap (λ (c : Catalog). remembered c) (sym p.catalog)) (sym p.doubtful) p.left s

  passed_both : (a b c : Topics T S store) → Passed disk a b → Passed disk b c → Passed disk a c
  passed_both a b c p q =
      let P = StandsForBroker store.stands (broker_of a) in
      record {
        standing = q.standing;
        left = λ number l k is. p.left number l k (q.left number l k is);
        any_moment = joins P (StandsForBroker store.stands (broker_of b)) P (disk a.shelf) (disk b.shelf) (disk c.shelf) p.any_moment q.any_moment (λ i s. s) (passed_before a b p);
        url = q.url ∙ p.url;
        catalog = q.catalog ∙ p.catalog;
        doubtful = q.doubtful ∙ p.doubtful;
        stages = q.stages ∙ p.stages;
        known = q.known ∙ p.known;
        faults = omega (arith, p.faults, q.faults);
      }

  pub passes_both : (a b c : Topics T S store) → Passes disk a b → Passes disk b c → Passes disk a c
  passes_both a b c first second = (omega (arith, first.0, second.0), λ standing. let p = first.1 standing in passed_both a b c p (second.1 p.standing))

  pub refuses_within : (a b c d : Topics T S store) (number : ℕ) (why : ReadError) → Passes disk a b → Passes disk b c → Passes disk c d → Refuses disk b number why c → Refuses disk a number why d
  refuses_within a b c d number why first second third refused standing =
      let p = first.1 standing in
      let q = second.1 p.standing in
      let r = third.1 q.standing in
      refused_within (stages_of a) (stages_of b) (disk a.shelf).faults (disk b.shelf).faults (disk c.shelf).faults (disk d.shelf).faults number why p.stages p.faults r.faults (refused p.standing)

  module _ (t new : Topics T S store) (number : ℕ) (h next : Held T store) (was : slice_get t.held.items number ≡ Some h) (held : new.held.items ≡ slice_set t.held.items number next) (catalog : new.catalog ≡ t.catalog) (doubtful : new.doubtful ≡ t.doubtful) (url : new.url ≡ t.url)
      (stores : next.stores ≡ h.stores) (flight : next.flight ≡ h.flight) (go : GoesOn h.core next.core) where
    each_on : (d : Disk) → ((j : ℕ) (x : Held T store) → slice_get t.held.items j ≡ Some x → HeldStands x d) → (j : ℕ) (x : Held T store) → slice_get new.held.items j ≡ Some x → HeldStands x d
    each_on d each = each_with (λ j x. HeldStands x d) t.held.items new.held.items number next held (held_on h next d stores flight go (each number h was)) (λ j x differ is. each j x is)

    -- the broker with this topic changed
    changed_to : broker_of new ≡ with_topic (broker_of t) number next.core
    changed_to =
        let F : (c : Catalog) (u : List ℕ) (d : Option (List ℕ)) (l : List (Held T store)) → Broker = λ c u d l. record { per_ledger = per_ledger c; service_url = u; names = remembered c; doubtful = d; topics = map (λ (x : Held T store). x.core) l } in
        ap (λ c. F c new.url new.doubtful new.held.items) catalog ∙ ap (λ u. F t.catalog u new.doubtful new.held.items) url ∙ ap (λ d. F t.catalog t.url d new.held.items) doubtful ∙ ap (λ l. F t.catalog t.url t.doubtful l) held
        ∙ ap (λ ts. over (broker_of t) ts) (map_set (λ (x : Held T store). x.core) (λ (x : Held T store). x.core) t.held.items number next (λ j x differ is. refl))

    as_many : length (broker_of new).topics ≡ length (broker_of t).topics
    as_many = count_is new ∙ ap (λ (l : List (Held T store)). length l) held ∙ length-set t.held.items number next ∙ sym (count_is t)

    -- the same names
    names_then : (files : Image) → NamesLeft store.stands t.doubtful (broker_of t) files → NamesLeft store.stands new.doubtful (broker_of new) files
    names_then files is = subst (λ (d : Option (List ℕ)). NamesLeft store.stands d (broker_of new) files) (sym doubtful)
        (names_as store.stands t.doubtful (broker_of t) (broker_of new) files (ap (λ (c : Catalog). per_ledger c) catalog) (ap (λ (c : Catalog). remembered c) catalog) as_many is)

    settled_on : (d : Disk) → (failed t.catalog ≡ false → SettledIn (NamesHeld t.catalog) d (remembered t.catalog)) → failed new.catalog ≡ false → SettledIn (NamesHeld new.catalog) d (remembered new.catalog)
    settled_on d settled = subst (λ (c : Catalog). failed c ≡ false → SettledIn (NamesHeld c) d (remembered c)) (sym catalog) settled

    left_on : (j : ℕ) (l : Ledger) (k : Kept) → IsLeft (topic_at (broker_of new) j) l k → IsLeft (topic_at (broker_of t) j) l k
    left_on j l k is =
        let R : Topic → Topic → Type 0 = λ x y. (l : Ledger) (k : Kept) → IsLeft y l k → IsLeft x l k in
        let here : R (topic_at (broker_of t) number) next.core = subst (λ (u : Topic). R u next.core) (sym (at_map (λ (x : Held T store). x.core) t.held.items number h (fresh (per_ledger t.catalog)) was)) (left_before h.core next.core go) in
        set_at R (λ u l k left. left) (broker_of t).topics number j next.core (fresh (per_ledger t.catalog)) here l k (subst (λ (b : Broker). IsLeft (topic_at b j) l k) changed_to is)

    stages_on : stages_of new ≡ stages_of t
    stages_on =
        let stage : Held T store → Stage = λ y. stage_of y.flight in
        ap (λ l. map stage l) held ∙ map_set stage stage t.held.items number next (λ j x differ is. refl)
        ∙ ap (λ s. slice_set (map stage t.held.items) number s) (ap (λ f. stage_of f) flight ∙ sym (at_map stage t.held.items number h Resting was)) ∙ set-get_or (map stage t.held.items) number Resting

    known_on : known_of new ≡ known_of t
    known_on =
        let known : Held T store → ℕ = λ y. known_by y in
        ap (λ l. map known l) held ∙ map_set known known t.held.items number next (λ j x differ is. refl)
        ∙ ap (λ k. slice_set (map known t.held.items) number k) (ap (λ s. length (store.view s).counts) stores ∙ sym (at_map known t.held.items number h 0 was)) ∙ set-get_or (map known t.held.items) number 0

    no_fewer : length t.held.items ≤ length new.held.items
    no_fewer = omega (arith, ap (λ (l : List (Held T store)). length l) held, length-set t.held.items number next)

    -- only a topic goes on
    pub passes_core : new.shelf ≡ t.shelf → Passes disk t new
    passes_core shelf = (
      no_fewer,
      λ standing. record {
        standing = record {
          honest = subst (λ (s : S). (disk s).honest) (sym shelf) standing.honest;
          each = subst (λ (s : S). (j : ℕ) (x : Held T store) → slice_get new.held.items j ≡ Some x → HeldStands x (disk s)) (sym shelf) (each_on (disk t.shelf) standing.each);
          newest = subst (λ (s : S). (files : Image) → (disk s).may_leave files → ¬ OldCounts files) (sym shelf) standing.newest;
          names = subst (λ (s : S). (files : Image) → (disk s).may_leave files → NamesLeft store.stands new.doubtful (broker_of new) files) (sym shelf) (λ files may. names_then files (standing.names files may));
          settled = subst (λ (s : S). failed new.catalog ≡ false → SettledIn (NamesHeld new.catalog) (disk s) (remembered new.catalog)) (sym shelf) (settled_on (disk t.shelf) standing.settled);
        };
        left = left_on;
        any_moment = untouched t new.shelf standing shelf;
        url = url;
        catalog = catalog;
        doubtful = doubtful;
        stages = stages_on;
        known = known_on;
        faults = subst (λ (s : S). (disk t.shelf).faults ≤ (disk s).faults) (sym shelf) (omega arith);
      },
    )

    -- a topic goes on, and the device only reads
    pub passes_read : OnlyReads (disk t.shelf) (disk new.shelf) → Passes disk t new
    passes_read reads = (
      no_fewer,
      λ standing. record {
        standing = record {
          honest = reads.kept.honest standing.honest;
          each = each_on (disk new.shelf) (λ j x is. standing_read store.stands (phase_in x) x.core (view_in x) (disk t.shelf) (disk new.shelf) reads (standing.each j x is));
          newest = λ files may. standing.newest files ((reads.any_moment standing.honest).now files may);
          names = λ files may. names_then files (standing.names files ((reads.any_moment standing.honest).now files may));
          settled = settled_on (disk new.shelf) (λ works. settled_names (disk t.shelf) (disk new.shelf) t.catalog reads (standing.settled works));
        };
        left = left_on;
        any_moment = weaken (disk t.shelf).may_leave (StandsForBroker store.stands (broker_of t)) (disk t.shelf) (disk new.shelf) (reads.any_moment standing.honest) (stands_so t standing);
        url = url;
        catalog = catalog;
        doubtful = doubtful;
        stages = stages_on;
        known = known_on;
        faults = reads.kept.faults;
      },
    )
