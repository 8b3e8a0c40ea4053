-- A call of one topic of a node, and the other topics.
use Rattle.std.proofs.Common.{◌≡◌, ◌≢◌, inl, inr, ⊎_elim, ℕ, ◌<◌, Bool, true, false, List, ◌∙◌, ◌++◌, Some, None, Option, [], ◌∷◌, Result, Ok, Err, map, length, slice_get, slice_set, cond, nat_lt, ap, refl, sym, subst, arith}
use Rattle.std.proofs.lemmas.Bool.Decides.{nat_tests}
use Rattle.std.proofs.lemmas.List.{set-get_or, length-map, length-set, get_or-set_other}
use Rattle.std.specs.FinMap as map_of
use Rattle.disk.specs.Disk.{Disk, Image, Leaves, Undisturbed}
use Rattle.disk.specs.declared.file_id.FileId.{FileId}
use Rattle.disk.specs.declared.file_id.FileId.TheVariants as file_id
use Rattle.disk.specs.declared.file_id.Folder.TheVariants.{One}
use Rattle.disk.specs.Contents.{Settled}
use Rattle.disk.specs.Moments.{weaken}
use Rattle.disk.specs.Areas.{OfTopic, Agree, Within, apart}
use Rattle.managed_ledger.specs.Entries.{Ledger, trimmed, whole}
use Rattle.records.specs.Maps.{Kept}
use Rattle.topic_stores.specs.declared.store.TopicStore.{Ghosts as StoreMembers}
use Rattle.topic_stores.specs.declared.batch.Batch.{Batch}
use Rattle.topic_stores.specs.declared.error.WriteError.{WriteError}
use Rattle.topic_stores.specs.Views.{StoreView, AreLaws}
use Rattle.topic_stores.specs.Laws.{settled_stays}
use Rattle.topic_stores.specs.Writing.{StandsFor}
use Rattle.topic_core.specs.State.{Topic}
use Rattle.topic_core.specs.Crashes.{IsLeft}
use Rattle.topic_core.specs.Standing.{Phase, Before, Lost, Holds, Standing}
use Rattle.topic_core.specs.Standing as phases
use Rattle.topic_core.specs.Soundness.{HasFloor}
use Rattle.topic_core.specs.Flush.{IsTrimPoint, TakeStep, FinishStep, has_no_flush}
use Rattle.topic_core.proofs.Standings.{standing_handed_on, finish_standing}
use Rattle.topic_core.specs.Crashes.{longer, changed}
use Rattle.catalog.specs.declared.catalog.Catalog.{Catalog}
use Rattle.catalog.specs.Names.{Names}
use Rattle.catalog.specs.Catalogs.{Own, Holds as NamesHeld, OldCounts, remembered, failed}
use Rattle.catalog.specs.Laws.{own_file, holds_local}
use Rattle.session.specs.Broker.{Broker, topic_at, with_topic, fresh}
use Rattle.session.specs.Client.{Client}
use Rattle.node.specs.declared.held.Held.{Held}
use Rattle.node.specs.declared.topics.Topics.{Topics}
use Rattle.node.specs.declared.flight.Flight.{Flight}
use Rattle.node.specs.declared.flight.Flight.TheVariants as flight
use Rattle.node.specs.Flights.{stage_of, phase_at, IsUnderWay}
use Rattle.node.specs.Parts.{TakesPart, FinishesPart}
use Rattle.node.proofs.UnderWay.{works, fits, takes_before, untaken}
use Rattle.node.specs.State.{Stage, Resting, Taken, Written, stage_in, stage_after, place_in, over}
use Rattle.node.specs.Standing.{StandsForBroker, StandsForSome, NamesLeft, view_in, spot_of, phase_in, HeldStands, broker_of, TopicsStand}
use Rattle.node.specs.Passing.{each_with, count_is, untouched, names_as, newest_moved, formed_of}
use Rattle.node.specs.Naming.{IsFormed}
use Rattle.node.specs.Brokers.{set_at}
use Rattle.node.specs.Steps.{Spot, flushing, amid_work, Amid}
use Rattle.node.specs.declared.event.Event.TheVariants as asked
use Rattle.node.specs.declared.event.TopicEvent.{TopicEvent}
use Rattle.node.specs.declared.event.TopicEvent.TheVariants as on_topic
use Rattle.node.specs.Numbers.{IsNumbered, AreNumbered, StaysNumbered}
use Rattle.node.specs.Lists.{get_set, get_map, map_set, at_map, got_set, set_beyond}

-- a broker, as the one that there is
pub here : (stands : ℕ → Image → Ledger → Kept → Type 0) (b : Broker) (old new : Disk) → Leaves (StandsForBroker stands b) old new → Leaves (StandsForSome stands (λ broker. broker ≡ b)) old new
here stands b old new leaves = weaken _ _ old new leaves (λ files is. (b, refl, is))

-- ---- another topic

-- a call on other files leaves these alone
pub undisturbed_else : (area other : FileId → Type 0) (P : Image → Type 0) (old new : Disk) → new.honest → ((f : FileId) → other f → ¬ area f) → Within area P old new → Undisturbed other old new
undisturbed_else area other P old new honest differ w = record {
  honest = λ h. honest;
  seen = λ f own. w.seen f (differ f own);
  left = λ c may. let out = w.any_moment.now c may in (out.from, out.left, λ f own. out.elsewhere f (differ f own));
}

-- a call on the files of one topic leaves those of another alone
elsewhere : (number other : ℕ) (P : Image → Type 0) (old new : Disk) → other ≢ number → new.honest → Within (OfTopic number) P old new → Undisturbed (OfTopic other) old new
elsewhere number other P old new differ honest w = undisturbed_else (OfTopic number) (OfTopic other) P old new honest (λ f own. apart number other (λ e. differ (sym e)) f own) w

module _ (stands : ℕ → Image → Ledger → Kept → Type 0) (local : (t : ℕ) (a b : Image) (ledger : Ledger) (k : Kept) → Agree (OfTopic t) a b → stands t a ledger k → stands t b ledger k) where
  -- files that agree stand for the same
  pub same_files : (t : ℕ) (P : Ledger → Kept → Type 0) (a b : Image) → Agree (OfTopic t) a b → StandsFor (stands t) P a → StandsFor (stands t) P b
  same_files t P a b agree is = record { ledger = is.ledger; kept = is.kept; is_left = is.is_left; stands = local t a b is.ledger is.kept agree is.stands }

  holds_still : (phase : Phase) (t : Topic) (v : StoreView) → AreLaws stands v → (old new : Disk) → Undisturbed (OfTopic v.topic) old new → Holds phase t v old → Holds phase t v new
  holds_still Before t v laws old new u x = settled_stays stands v laws old new t.ledger t.kept u x
  holds_still (phases.Written base) t v laws old new u x = settled_stays stands v laws old new (trimmed base (longer t)) (changed t) u x
  holds_still Lost t v laws old new u x = tt

  -- a topic stands where its files are left alone
  pub standing_still : (phase : Phase) (t : Topic) (v : StoreView) → AreLaws stands v → (old new : Disk) → Undisturbed (OfTopic v.topic) old new → Standing stands phase t v old → Standing stands phase t v new
  standing_still phase t v laws old new u s = record {
    matched = s.matched;
    honest = u.honest s.honest;
    counted = s.counted;
    marks = s.marks;
    acknowledged = s.acknowledged;
    left = λ files may. let was = u.left files may in same_files v.topic (IsLeft t) was.0 files was.2 (s.left was.0 was.1);
    holds = holds_still phase t v laws old new u s.holds;
  }

-- ---- the broker with one topic changed

place_there : (length' number : ℕ) → number < length' → cond (nat_lt number length') (Some number) None ≡ Some number
place_there length' number low = ap (λ b. cond b (Some number) None) (let is : nat_lt number length' ≡ true = grind (arith, nat_tests) in is)

-- the number of a topic that is there
pub placed : (topics : List Topic) (number : ℕ) → number < length topics → place_in topics number ≡ Some number
placed topics number low = place_there (length topics) number low

-- a broker with the topic that it has
pub same_topic : (b : Broker) (number : ℕ) → with_topic b number (topic_at b number) ≡ b
same_topic b number = ap (λ (ts : List Topic). over b ts) (set-get_or b.topics number (fresh b.per_ledger))

-- ---- parts of a flush that write nothing

resting_isnt : (r : Result ℕ WriteError) → Resting ≡ Written r → ⊥
resting_isnt r is = cc

taken_isnt : (r : Result ℕ WriteError) → Taken ≡ Written r → ⊥
taken_isnt r is = cc

module _ {T : Type 0} {store : StoreMembers T} (laws : (s : T) → AreLaws store.stands (store.view s)) where
  take_as : (h next : Held T store) (d : Disk) (taken : Result (Option Batch) WriteError) → HasFloor h.core → next.stores ≡ h.stores → stage_of next.flight ≡ stage_after taken (stage_of h.flight) → TakeStep h.core taken next.core → HeldStands h d
      → Standing store.stands (phase_at next.core.failed (stage_after taken (stage_of h.flight))) next.core (view_in h) d
  take_as h next d (Ok None) floored stores stage step s = subst (λ (u : Topic). Standing store.stands (phase_at u.failed (stage_of h.flight)) u (view_in h) d) (sym step.2) s
  take_as h next d (Ok (Some batch)) floored stores stage step s = subst (λ (u : Topic). Standing store.stands Before u (view_in h) d) (sym step.2)
      (standing_handed_on store.stands h.core batch.trim (view_in h) d (laws h.stores) floored step.5 (subst (λ p. Standing store.stands p h.core (view_in h) d) (takes_before h.core h.flight h.under_way step.0 step.1) s))
  take_as h next d (Err why) floored stores stage step s = subst (λ (u : Topic). Standing store.stands (phase_at u.failed (stage_of h.flight)) u (view_in h) d) (sym (untaken h.core why next.core step)) s

  -- what stood beside the same store
  beside : (h next : Held T store) (d : Disk) (stage : Stage) → next.stores ≡ h.stores → stage_of next.flight ≡ stage → Standing store.stands (phase_at next.core.failed stage) next.core (view_in h) d → HeldStands next d
  beside h next d stage stores is s =
      subst (λ (x : T). Standing store.stands (phase_in next) next.core (store.view x) d) (sym stores) (subst (λ st. Standing store.stands (phase_at next.core.failed st) next.core (view_in h) d) (sym is) s)

  pub take_stands : (h next : Held T store) (d : Disk) (result : Result (Unit {0}) WriteError) → HasFloor h.core → next.stores ≡ h.stores → TakesPart h.core (stage_of h.flight) result next.core (stage_of next.flight) → HeldStands h d → HeldStands next d
  take_stands h next d result floored stores part s = beside h next d (stage_after part.taken (stage_of h.flight)) stores part.stage (take_as h next d part.taken floored stores part.stage part.step s)

  finish_as : (h : Held T store) (flight : Option Flight) (d : Disk) (written : Result ℕ WriteError) (result : Result ℕ WriteError) (u : Topic) → HasFloor h.core → h.flight ≡ flight → stage_of flight ≡ Written written → FinishStep h.core written result u → HeldStands h d
      → Standing store.stands (phase_at u.failed Resting) u (view_in h) d
  finish_as h None d written result u floored is at step s = absurd (resting_isnt written at)
  finish_as h (Some (flight.Taken batch)) d written result u floored is at step s = absurd (taken_isnt written at)
  finish_as h (Some (flight.Written batch ended)) d written result u floored is at step s =
      let is_for = subst (λ (f : Option Flight). IsUnderWay h.core f) is h.under_way in
      finish_standing store.stands h.core (works h.core batch is_for) (view_in h) d (laws h.stores) (fits h.core batch is_for) floored written result u step
      (subst (λ st. Standing store.stands (phase_at h.core.failed st) h.core (view_in h) d) (ap (λ f. stage_of f) is ∙ at) s)

  pub finish_stands : (h next : Held T store) (d : Disk) (result : Result ℕ WriteError) → HasFloor h.core → next.stores ≡ h.stores → FinishesPart h.core (stage_of h.flight) result next.core (stage_of next.flight) → HeldStands h d → HeldStands next d
  finish_stands h next d result floored stores part s = beside h next d Resting stores part.stage (finish_as h h.flight d part.written result next.core floored refl part.was part.step s)

-- ---- one topic in its list

module _ {T : Type 0} {store : StoreMembers T} (b : Broker) (items : List (Held T store)) (number : ℕ) (h next : Held T store) (was : slice_get items number ≡ Some h) where
  pub topic_was : topic_at (over b (map (λ (x : Held T store). x.core) items)) number ≡ h.core
  topic_was = at_map (λ (x : Held T store). x.core) items number h (fresh b.per_ledger) was

  pub stage_was : stage_in (map (λ (x : Held T store). stage_of x.flight) items) number ≡ stage_of h.flight
  stage_was = at_map (λ (x : Held T store). stage_of x.flight) items number h Resting was

  pub got_now : slice_get (slice_set items number next) number ≡ Some next
  got_now = got_set items number h next was

  pub topic_now : topic_at (over b (map (λ (x : Held T store). x.core) (slice_set items number next))) number ≡ next.core
  topic_now = at_map (λ (x : Held T store). x.core) (slice_set items number next) number next (fresh b.per_ledger) got_now

  pub stage_now : stage_in (map (λ (x : Held T store). stage_of x.flight) (slice_set items number next)) number ≡ stage_of next.flight
  stage_now = at_map (λ (x : Held T store). stage_of x.flight) (slice_set items number next) number next Resting got_now

  cores : map (λ (x : Held T store). x.core) (slice_set items number next) ≡ slice_set (map (λ (x : Held T store). x.core) items) number next.core
  cores = map_set (λ (x : Held T store). x.core) (λ (x : Held T store). x.core) items number next (λ j x differ is. refl)

  stages : map (λ (x : Held T store). stage_of x.flight) (slice_set items number next) ≡ slice_set (map (λ (x : Held T store). stage_of x.flight) items) number (stage_of next.flight)
  stages = map_set (λ (x : Held T store). stage_of x.flight) (λ (x : Held T store). stage_of x.flight) items number next (λ j x differ is. refl)

  pub becomes : over b (map (λ (x : Held T store). x.core) (slice_set items number next)) ≡ with_topic (over b (map (λ (x : Held T store). x.core) items)) number next.core
  becomes = ap (λ (ts : List Topic). over b ts) cores

  pub stage_else : (other : ℕ) → other ≢ number → stage_in (map (λ (x : Held T store). stage_of x.flight) (slice_set items number next)) other ≡ stage_in (map (λ (x : Held T store). stage_of x.flight) items) other
  stage_else other differ =
      ap (λ (l : List Stage). stage_in l other) stages ∙ get_or-set_other (map (λ (x : Held T store). stage_of x.flight) items) number other (stage_of next.flight) Resting differ

  -- the topic and its flush are as before
  pub unchanged : next.core ≡ h.core → stage_of next.flight ≡ stage_of h.flight
      → (over b (map (λ (x : Held T store). x.core) (slice_set items number next)) ≡ over b (map (λ (x : Held T store). x.core) items))
      × (map (λ (x : Held T store). stage_of x.flight) (slice_set items number next) ≡ map (λ (x : Held T store). stage_of x.flight) items)
  unchanged core stage = (
    becomes ∙ ap (λ x. with_topic (over b (map (λ (x : Held T store). x.core) items)) number x) (core ∙ sym topic_was) ∙ same_topic (over b (map (λ (x : Held T store). x.core) items)) number,
    stages ∙ ap (λ s. slice_set (map (λ (x : Held T store). stage_of x.flight) items) number s) (stage ∙ sym stage_was) ∙ set-get_or (map (λ (x : Held T store). stage_of x.flight) items) number Resting,
  )

  -- they keep their numbers
  pub keep_numbers : (per_ledger : ℕ) → AreNumbered per_ledger items → StaysNumbered h next → AreNumbered per_ledger (slice_set items number next)
  keep_numbers per_ledger numbered stays =
      each_with (λ j x. IsNumbered per_ledger j x) items (slice_set items number next) number next refl (stays.0 ∙ (numbered number h was).0, stays.1 ∙ (numbered number h was).1) (λ j x differ is. numbered j x is)

-- a topic that is as before
pub held_same : {T : Type 0} {store : StoreMembers T} (h next : Held T store) (d : Disk) → next.stores ≡ h.stores → next.core ≡ h.core → next.flight ≡ h.flight → HeldStands h d → HeldStands next d
held_same {store = store} h next d stores core flight s =
    subst (λ x. Standing store.stands (phase_in next) next.core (store.view x) d) (sym stores)
    (subst (λ f. Standing store.stands (phase_at next.core.failed (stage_of f)) next.core (view_in h) d) (sym flight)
    (subst (λ u. Standing store.stands (phase_at u.failed (stage_of h.flight)) u (view_in h) d) (sym core) s))

pub same_spot : {T : Type 0} {store : StoreMembers T} (h next : Held T store) (f f' : ℕ) → next.core ≡ h.core → next.flight ≡ h.flight → f' ≡ f → spot_of next f' ≡ spot_of h f
same_spot h next f f' core flight calm =
    let spot : Topic → Stage → ℕ → Spot = λ t stage faults. record { topic = t; stage = stage; faults = faults } in
    ap (λ t. spot t (stage_of next.flight) f') core ∙ ap (λ x. spot h.core (stage_of x) f') flight ∙ ap (λ n. spot h.core (stage_of h.flight) n) calm

-- a flush leaves the number of entry ids
flushing_ledgers : (fails nothing : Bool) (t : Topic) (limit : ℕ) → (flushing fails nothing t limit).per_ledger ≡ t.per_ledger
flushing_ledgers true nothing t limit = refl
flushing_ledgers false true t limit = refl
flushing_ledgers false false t limit = refl

amid_ledgers : (event : TopicEvent) (t : Topic) (limit : ℕ) → (amid_work event t limit).per_ledger ≡ t.per_ledger
amid_ledgers on_topic.Flush t limit = flushing_ledgers t.failed (has_no_flush t) t limit
amid_ledgers _ t limit = refl

-- a broker while an event of one topic goes on, as one of those that there may be
amid_some : (stands : ℕ → Image → Ledger → Kept → Type 0) (sessions : List Client) (b : Broker) (number : ℕ) (event : TopicEvent) (limit : ℕ) (old new : Disk) → IsTrimPoint (topic_at b number) limit
    → Leaves (StandsForBroker stands (with_topic b number (amid_work event (topic_at b number) limit))) old new → Leaves (StandsForSome stands (λ broker. Amid sessions b (asked.OnTopic number event) broker)) old new
amid_some stands sessions b number event limit old new point leaves = weaken _ _ old new leaves (λ files is. (with_topic b number (amid_work event (topic_at b number) limit), (limit, point, refl), is))

-- a broker of which one topic changes
formed_changed : (b : Broker) (number : ℕ) (u : Topic) → u.per_ledger ≡ b.per_ledger → IsFormed b → IsFormed (with_topic b number u)
formed_changed b number u ledgers formed = record {
  named = length-set b.topics number u ∙ formed.named;
  ledgers = λ j. set_at (λ x y. x.per_ledger ≡ b.per_ledger → y.per_ledger ≡ b.per_ledger) (λ t is. is) b.topics number j u (fresh b.per_ledger) (λ _. ledgers) (formed.ledgers j);
}

-- ---- the names

-- a call on the files of a topic leaves the catalog's alone
pub names_alone : (number : ℕ) (P : Image → Type 0) (old new : Disk) → new.honest → Within (OfTopic number) P old new → Undisturbed Own old new
names_alone number P old new honest w = undisturbed_else (OfTopic number) Own P old new honest (λ f own. subst (λ x. ¬ OfTopic number x) (sym own) (λ no. no)) w

pub settled_still : (catalog : Catalog) (names : Names) (old new : Disk) → Undisturbed Own old new → Settled (NamesHeld catalog) old names → Settled (NamesHeld catalog) new names
settled_still catalog names old new u x = record {
  honest = u.honest x.honest;
  now = holds_local catalog old.seen new.seen names u.seen x.now;
  left = λ c may. let d = u.left c may in holds_local catalog d.0 c names d.2 (x.left d.0 d.1);
}

module _ (stands : ℕ → Image → Ledger → Kept → Type 0) (local : (t : ℕ) (a b : Image) (ledger : Ledger) (k : Kept) → Agree (OfTopic t) a b → stands t a ledger k → stands t b ledger k) where
  pub names_moved : (doubt : Option (List ℕ)) (b : Broker) (a c : Image) → Agree Own a c → Agree (OfTopic (length b.topics)) a c → NamesLeft stands doubt b a → NamesLeft stands doubt b c
  names_moved None b a c same next is = own_file b.per_ledger a c b.names same is
  names_moved (Some name) b a c same next is = ⊎_elim
      (λ without. inl (own_file b.per_ledger a c b.names same without))
      (λ more. inr (own_file b.per_ledger a c (b.names ++ name ∷ []) same more.0, local (length b.topics) a c (whole []) map_of.empty next more.1))
      is

module _ {T S : Type 0} {store : StoreMembers T} where
  pub there : (t : Topics T S store) (number : ℕ) → number < length t.held.items → place_in (broker_of t).topics number ≡ Some number
  there t number low = placed (broker_of t).topics number (omega (arith, count_is t, low))

  -- as the store numbers its files
  pub of_number : (t : Topics T S store) (number : ℕ) (h : Held T store) → slice_get t.held.items number ≡ Some h → (P : ℕ → Type 0) → P (view_in h).topic → P number
  of_number t number h was P is = subst P (t.numbered number h was).0 is

  pub of_number_within : (t : Topics T S store) (number : ℕ) (h : Held T store) → slice_get t.held.items number ≡ Some h → (P : Ledger → Kept → Type 0) (d0 d1 : Disk)
      → Within (OfTopic (view_in h).topic) (StandsFor (store.stands (view_in h).topic) P) d0 d1 → Within (OfTopic number) (StandsFor (store.stands number) P) d0 d1
  of_number_within t number h was P d0 d1 w = of_number t number h was (λ i. Within (OfTopic i) (StandsFor (store.stands i) P) d0 d1) w

  -- with another topic in the list there are as many, so the names are left as before
  pub names_beside : (t : Topics T S store) (number : ℕ) (next : Held T store) (files : Image) → NamesLeft store.stands t.doubtful (broker_of t) files
      → NamesLeft store.stands t.doubtful (over (broker_of t) (map (λ (x : Held T store). x.core) (slice_set t.held.items number next))) files
  names_beside t number next files is =
      names_as store.stands t.doubtful (broker_of t) (over (broker_of t) (map (λ (x : Held T store). x.core) (slice_set t.held.items number next))) files refl refl
      (length-map (slice_set t.held.items number next) (λ (x : Held T store). x.core) ∙ length-set t.held.items number next ∙ sym (count_is t)) is

  -- an event of a topic that isn't there
  pub beyond_leaves : (disk : S → Disk) (t : Topics T S store) (number : ℕ) → ¬ (number < length t.held.items) → (sessions : List Client) (event : TopicEvent) → TopicsStand disk t
      → Leaves (StandsForSome store.stands (λ broker. Amid sessions (broker_of t) (asked.OnTopic number event) broker)) (disk t.shelf) (disk t.shelf)
  beyond_leaves disk t number high sessions event s =
      let topic = topic_at (broker_of t) number in
      amid_some store.stands sessions (broker_of t) number event topic.ledger.base (disk t.shelf) (disk t.shelf) (inl refl)
      (subst (λ (ts : List Topic). Leaves (StandsForBroker store.stands (over (broker_of t) ts)) (disk t.shelf) (disk t.shelf))
      (sym (set_beyond (broker_of t).topics number (amid_work event topic topic.ledger.base) (λ low. high (omega (arith, low, count_is t))))) (untouched disk t t.shelf s refl))

  module _ (disk : S → Disk) (laws : (s : T) → AreLaws store.stands (store.view s)) (local : (k : ℕ) (a b : Image) (ledger : Ledger) (kept : Kept) → Agree (OfTopic k) a b → store.stands k a ledger kept → store.stands k b ledger kept)
      (t : Topics T S store) (number : ℕ) (low : number < length t.held.items) (h next : Held T store) (was : slice_get t.held.items number ≡ Some h) where
    -- Each topic stands behind a call that worked on the files of this one.
    pub stand_then : (P : Image → Type 0) (d : Disk) → Within (OfTopic number) P (disk t.shelf) d → HeldStands next d → TopicsStand disk t → (j : ℕ) (x : Held T store) → slice_get (slice_set t.held.items number next) j ≡ Some x → HeldStands x d
    stand_then P d w stands s =
        each_with (λ j x. HeldStands x d) t.held.items (slice_set t.held.items number next) number next refl stands
        (λ j x differ is. standing_still store.stands local (phase_in x) x.core (view_in x) (laws x.stores) (disk t.shelf) d
        (subst (λ k. Undisturbed (OfTopic k) (disk t.shelf) d) (sym (t.numbered j x is).0) (elsewhere number j P (disk t.shelf) d differ stands.honest w)) (s.each j x is))

    next_differs : (count : ℕ) → count ≡ length t.held.items → count ≢ number
    next_differs count is same = omega (arith, is, same, low)

    -- and the names are left as before
    moved : (a c : Image) → Agree (λ f. ¬ OfTopic number f) a c → NamesLeft store.stands t.doubtful (broker_of t) a → NamesLeft store.stands t.doubtful (broker_of t) c
    moved a c same is = names_moved store.stands local t.doubtful (broker_of t) a c
        (λ f own. same f (subst (λ x. ¬ OfTopic number x) (sym own) (λ no. no)))
        (λ f own. same f (apart number (length (broker_of t).topics) (λ e. next_differs (length (broker_of t).topics) (count_is t) (sym e)) f own)) is

    pub names_then : (P : Image → Type 0) (d : Disk) → Within (OfTopic number) P (disk t.shelf) d → TopicsStand disk t → (files : Image) → d.may_leave files
        → NamesLeft store.stands t.doubtful (over (broker_of t) (map (λ (x : Held T store). x.core) (slice_set t.held.items number next))) files
    names_then P d w s files may =
        let out = w.any_moment.now files may in
        names_beside t number next files (moved out.from files out.elsewhere (s.names out.from out.left))

    -- and no folder of version 1 counts
    pub newest_then : (P : Image → Type 0) (d : Disk) → Within (OfTopic number) P (disk t.shelf) d → TopicsStand disk t → (files : Image) → d.may_leave files → ¬ OldCounts files
    newest_then P d w s files may =
        let out = w.any_moment.now files may in
        newest_moved out.from files (out.elsewhere (file_id.Catalog One) (λ no. no)) (s.newest out.from out.left)

    pub settled_then : (P : Image → Type 0) (d : Disk) → Within (OfTopic number) P (disk t.shelf) d → d.honest → TopicsStand disk t → failed t.catalog ≡ false → Settled (NamesHeld t.catalog) d (remembered t.catalog)
    settled_then P d w honest s works = settled_still t.catalog (remembered t.catalog) (disk t.shelf) d (names_alone number P (disk t.shelf) d honest w) (s.settled works)

    -- A crash at any moment leaves of each topic what it left before, and of this one what the call says.
    pub leaves_then : (amid : Topic) → amid.per_ledger ≡ h.core.per_ledger → (d : Disk) → Within (OfTopic number) (StandsFor (store.stands number) (IsLeft amid)) (disk t.shelf) d → TopicsStand disk t
        → Leaves (StandsForBroker store.stands (with_topic (broker_of t) number amid)) (disk t.shelf) d
    leaves_then amid ledgers d w s = weaken _ _ (disk t.shelf) d w.any_moment (λ files out. record {
      formed = formed_changed (broker_of t) number amid (ledgers ∙ (t.numbered number h was).1) (formed_of t);
      newest = newest_moved out.from files (out.elsewhere (file_id.Catalog One) (λ no. no)) (s.newest out.from out.left);
      names = names_as store.stands t.doubtful (broker_of t) (with_topic (broker_of t) number amid) files refl refl (length-set (broker_of t).topics number amid) (moved out.from files out.elsewhere (s.names out.from out.left));
      topics = λ j topic is. ⊎_elim
          (λ at. subst (λ (i : ℕ). StandsFor (store.stands i) (IsLeft topic) files) (sym at.0) (subst (λ (u : Topic). StandsFor (store.stands number) (IsLeft u) files) (sym at.1) out.own))
          (λ other.
          let x = get_map (λ (y : Held T store). y.core) t.held.items j topic other.1 in
          let own = subst (λ k. StandsFor (store.stands k) (IsLeft x.0.core) out.from) (t.numbered j x.0 x.1).0 ((s.each j x.0 x.1).left out.from out.left) in
          same_files store.stands local j (IsLeft topic) out.from files (λ f own. out.elsewhere f (apart number j (λ e. other.0 (sym e)) f own))
          (subst (λ (u : Topic). StandsFor (store.stands j) (IsLeft u) out.from) (sym x.2) own))
          (get_set (map (λ (y : Held T store). y.core) t.held.items) number j amid topic is);
    })

    -- while an event of the topic goes on
    pub work_leaves : (sessions : List Client) (event : TopicEvent) (d : Disk)
        → (limit : ℕ) × IsTrimPoint h.core limit × Within (OfTopic (view_in h).topic) (StandsFor (store.stands (view_in h).topic) (IsLeft (amid_work event h.core limit))) (disk t.shelf) d → TopicsStand disk t
        → Leaves (StandsForSome store.stands (λ broker. Amid sessions (broker_of t) (asked.OnTopic number event) broker)) (disk t.shelf) d
    work_leaves sessions event d w s =
        let limit = w.0 in
        let at = sym (topic_was (broker_of t) t.held.items number h next was) in
        amid_some store.stands sessions (broker_of t) number event limit (disk t.shelf) d (subst (λ (x : Topic). IsTrimPoint x limit) at w.1)
        (subst (λ (x : Topic). Leaves (StandsForBroker store.stands (with_topic (broker_of t) number (amid_work event x limit))) (disk t.shelf) d) at
        (leaves_then (amid_work event h.core limit) (amid_ledgers event h.core limit) d (of_number_within t number h was (IsLeft (amid_work event h.core limit)) (disk t.shelf) d w.2) s))
