-- A node that was opened.
use Rattle.std.proofs.Common.{◌≡◌, ◌⊎◌, inl, inr, ⊎_elim, slice_get, arith, ℕ, suc, ◌<◌, ◌≤◌, ◌^◌, true, Option, Some, None, Result, Ok, Err, List, [], ◌∷◌, ◌++◌, length, refl, sym, ap, subst, ◌∙◌}
use Rattle.std.proofs.lemmas.Bool.{cases_lt}
use Rattle.std.proofs.lemmas.List.{length-append}
use Rattle.std.specs.Prelude.{IfErr, OnOk, IsErrOf}
use Rattle.std.specs.FinMap as map
use Rattle.disk.specs.Disk.{Disk, Image, Leaves, Failed, Kept as Counted}
use Rattle.gated_log.specs.declared.refusal.Refusal.{Refusal}
use Rattle.gated_log.specs.declared.refusal.Refusal.TheVariants as refusal
use Rattle.managed_ledger.specs.Entries.{Ledger, end_of, whole}
use Rattle.records.specs.Floors.{HaveBelow}
use Rattle.records.specs.Maps.{Kept}
use Rattle.topic_stores.specs.declared.store.TopicStore.{Ghosts as StoreMembers}
use Rattle.topic_stores.specs.Views.{StoreView, Settled, AreLaws}
use Rattle.topic_stores.specs.Writing.{StandsFor}
use Rattle.subscriptions.specs.Marks.{no_marks}
use Rattle.topic_core.specs.Messages.{marks_of}
use Rattle.topic_core.specs.State.{Topic, opened}
use Rattle.topic_core.specs.Crashes.{IsLeft, IsShorter, TopicCrash, reopened}
use Rattle.topic_core.specs.Standing.{Before, resting, Match, Standing}
use Rattle.topic_core.proofs.Standings.{reopened_standing}
use Rattle.catalog.specs.Names.{Names}
use Rattle.catalog.specs.Catalogs.{StandsFor as NamesStand, OldCounts}
use Rattle.catalog.specs.Folded.{IsFault, IsNewestFault as CatalogFault}
use Rattle.catalog.specs.Laws.{one_list, no_fault}
use Rattle.session.specs.Broker.{Broker, fresh, topic_at, sure, made, Settles}
use Rattle.node.specs.State.{State, verdict_for}
use Rattle.std.proofs.lemmas.Option.{slice_get-get_or}
use Rattle.std.proofs.lemmas.List.{get_or_past}
use Rattle.node.specs.Flights.{stage_of, phase_at}
use Rattle.node.specs.Standing.{StandsForBroker, NamesLeft, AtRest, HeldStands, phase_in}
use Rattle.node.specs.declared.held.Held.{Held}
use Rattle.node.specs.Opening.{ReopenTells, TellsOn, IsJustOpened, IsFirstFault}
use Rattle.node.specs.Runs.{StateCrash}
use Rattle.node.specs.declared.event.TopicEvent.{TopicEvent}
use Rattle.node.specs.declared.event.TopicEvent.TheVariants as on_topic
use Rattle.node.specs.declared.event.Verdict.{Verdict}
use Rattle.node.specs.declared.event.Verdict.TheVariants as verdict

-- what a crash left, found again
pub left_as : (was t : Topic) (ledger : Ledger) (kept : Kept) → t.ledger ≡ ledger → t.kept ≡ kept → IsLeft was ledger kept → IsLeft was t.ledger t.kept
left_as was t ledger kept same same_kept left = subst (λ (l : Ledger). IsLeft was l t.kept) (sym same) (subst (λ (k : Kept). IsLeft was ledger k) (sym same_kept) left)

-- a topic over a store that was just opened
module _ (stands : ℕ → Image → Ledger → Kept → Type 0) (n : ℕ) (t : Topic) (v : StoreView) (as_opened : t ≡ opened n t.ledger (marks_of t.ledger) v.kept) where
  is_kept : t.kept ≡ v.kept
  is_kept = ap (λ (x : Topic). x.kept) as_opened

  pub opened_standing : (d : Disk) → AreLaws stands v → ((t : ℕ) (files : Image) (ledger : Ledger) (k : Kept) → stands t files ledger k → HaveBelow ledger.base k) → Settled v d t.ledger v.kept → Match Before t v
      → Standing stands (resting t.failed) t v d
  opened_standing d laws below hold matched =
      subst (λ b. Standing stands (resting b) t v d) (sym (ap (λ (x : Topic). x.failed) as_opened))
      (reopened_standing stands (opened n (whole []) no_marks map.empty) t v d t.ledger v.kept laws as_opened matched (below v.topic d.seen t.ledger v.kept (laws.stands d.seen t.ledger v.kept hold.settled.now)) hold)

-- a topic of a node, at rest over its store
pub rests_so : {T : Type 0} {store : StoreMembers T} (h : Held T store) (core : Topic) (stores : T) (d : Disk) → (h.core ≡ core) × (h.stores ≡ stores) × (h.flight ≡ None) → Standing store.stands (resting core.failed) core (store.view stores) d → HeldStands h d
rests_so {store = store} h core stores d is s =
    subst (λ x. Standing store.stands (phase_in h) h.core (store.view x) d) (sym is.1)
    (subst (λ f. Standing store.stands (phase_at h.core.failed (stage_of f)) h.core (store.view stores) d) (sym is.2)
    (subst (λ u. Standing store.stands (resting u.failed) u (store.view stores) d) (sym is.0) s))

-- ---- files that stand for what a crash leaves of a broker

-- what the names that stand in them make of it
pub record Found (stands : ℕ → Image → Ledger → Kept → Type 0) (doubt : Option (List ℕ)) (b : Broker) (files : Image) (n : ℕ) (names : Names) : Type 0 where
  pub per_ledger : n ≡ b.per_ledger
  pub settled : Broker
  pub settles : Settles doubt b settled
  pub names_are : names ≡ settled.names
  pub count : length settled.topics ≡ length names
  pub more : length b.topics ≤ length names
  pub topics : (number : ℕ) → number < length names → StandsFor (stands number) (IsLeft (topic_at b number)) files

module _ (stands : ℕ → Image → Ledger → Kept → Type 0) (b : Broker) (files : Image) (s : StandsForBroker stands b files) (n : ℕ) (names : Names) (is : NamesStand n files names) where
  known : (number : ℕ) → number < length b.topics → StandsFor (stands number) (IsLeft (topic_at b number)) files
  known number low = s.topics number (topic_at b number) (slice_get-get_or b.topics number (fresh b.per_ledger) low)

  -- a topic that isn't there yet is a fresh one
  fresh_left : (number : ℕ) → length b.topics ≤ number → IsLeft (topic_at b number) (whole []) map.empty
  fresh_left number high = subst (λ (t : Topic). IsLeft t (whole []) map.empty) (sym (get_or_past b.topics number (fresh b.per_ledger) high)) (inl (refl, refl))

  as_before : (doubt : Option (List ℕ)) (settled : Broker) → Settles doubt b settled → settled.names ≡ b.names → length settled.topics ≡ length b.topics → NamesStand b.per_ledger files b.names → Found stands doubt b files n names
  as_before doubt settled settles same count stand =
      let one = one_list n b.per_ledger files names b.names is stand in
      let many : length names ≡ length b.topics = ap (λ (l : Names). length l) one.1 ∙ sym s.formed.named in
      record {
        per_ledger = one.0;
        settled = settled;
        settles = settles;
        names_are = one.1 ∙ sym same;
        count = count ∙ sym many;
        more = omega (arith, many);
        topics = λ number low. known number (omega (arith, low, many));
      }

  topic_found : (number : ℕ) → number < length names → (number < length b.topics) ⊎ (length b.topics ≤ number) → length names ≡ suc (length b.topics) → stands (length b.topics) files (whole []) map.empty → StandsFor (stands number) (IsLeft (topic_at b number)) files
  topic_found number low (inl old) many new = known number old
  topic_found number low (inr high) many new =
      let at : length b.topics ≡ number = omega (arith, low, high, many) in
      record { ledger = whole []; kept = map.empty; is_left = fresh_left number high; stands = subst (λ k. stands k files (whole []) map.empty) at new }

  one_more : (name : List ℕ) → NamesStand b.per_ledger files (b.names ++ name ∷ []) → stands (length b.topics) files (whole []) map.empty → Found stands (Some name) b files n names
  one_more name stand new =
      let one = one_list n b.per_ledger files names (b.names ++ name ∷ []) is stand in
      let many : length names ≡ suc (length b.topics) = omega (arith, ap (λ (l : Names). length l) one.1, length-append b.names (name ∷ []), s.formed.named) in
      record {
        per_ledger = one.0;
        settled = made (sure b) name;
        settles = inr refl;
        names_are = one.1;
        count = omega (arith, length-append b.topics (fresh b.per_ledger ∷ []), many);
        more = omega (arith, many);
        topics = λ number low. topic_found number low (cases_lt number (length b.topics)) many new;
      }

  found_in : (doubt : Option (List ℕ)) → NamesLeft stands doubt b files → Found stands doubt b files n names
  found_in None left = as_before None b refl refl refl left
  found_in (Some name) left = ⊎_elim
      (λ without. as_before (Some name) (sure b) (inl refl) refl refl without)
      (λ more. one_more name more.0 more.1)
      left

  pub found : Found stands b.doubtful b files n names
  found = found_in b.doubtful s.names

pub no_names_fault : (stands : ℕ → Image → Ledger → Kept → Type 0) (doubt : Option (List ℕ)) (b : Broker) (files : Image) (why : Refusal) → NamesLeft stands doubt b files → ¬ IsFault files why
no_names_fault stands None b files why left = no_fault b.per_ledger files b.names why left
no_names_fault stands (Some name) b files why left = λ fault. ⊎_elim (λ without. no_fault b.per_ledger files b.names why without fault) (λ more. no_fault b.per_ledger files (b.names ++ name ∷ []) why more.0 fault) left

-- nor does a folder of version 1 count
pub no_list_fault : (stands : ℕ → Image → Ledger → Kept → Type 0) (doubt : Option (List ℕ)) (b : Broker) (files : Image) (why : Refusal) → ¬ OldCounts files → NamesLeft stands doubt b files → ¬ CatalogFault files why
no_list_fault stands doubt b files why newest left = λ fault. ⊎_elim (λ old. newest old.0) (λ list. no_names_fault stands doubt b files why left list.1) fault

-- such files have no fault
pub no_first_fault : (stands : ℕ → Image → Ledger → Kept → Type 0) (faulty : ℕ → Image → Refusal → Type 0) → ((t : ℕ) (files : Image) (ledger : Ledger) (k : Kept) (refusal : Refusal) → stands t files ledger k → ¬ faulty t files refusal)
    → (b : Broker) (files : Image) → StandsForBroker stands b files → (why : Refusal) → ¬ IsFirstFault stands faulty files why
no_first_fault stands faulty sound b files s why = λ fault. ⊎_elim
    (λ catalog. no_list_fault stands b.doubtful b files why s.newest s.names catalog)
    (λ topic.
    let t = topic.4 in
    let f = (found stands b files s topic.1 topic.2 topic.3).topics t.number t.there in
    sound t.number files f.ledger f.kept why f.stands t.fault)
    fault

-- What a crash leaves of a node is what is opened again.
module _ (stands : ℕ → Image → Ledger → Kept → Type 0) (one : (t : ℕ) (files : Image) (one other : Ledger) (k j : Kept) → end_of one ≤ 2 ^ 62 → stands t files one k → stands t files other j → (one ≡ other) × (k ≡ j))
    (old new : State) (files : Image) (s : StandsForBroker stands old.broker files) (opening : IsJustOpened stands files new)
    (few : (number : ℕ) (t : Topic) → slice_get new.broker.topics number ≡ Some t → end_of t.ledger ≤ 2 ^ 62) where
  abbrev f : Found stands old.broker.doubtful old.broker files new.broker.per_ledger new.broker.names
  f = found stands old.broker files s new.broker.per_ledger new.broker.names opening.names

  many : length new.broker.topics ≡ length new.broker.names
  many = opening.formed.named

  crash_there : (number : ℕ) → number < length new.broker.topics → TopicCrash (topic_at old.broker number) (topic_at new.broker number)
  crash_there number low =
      let t = topic_at new.broker number in
      let was = topic_at old.broker number in
      let is = slice_get-get_or new.broker.topics number (fresh new.broker.per_ledger) low in
      let here = opening.topics number t is in
      let x = f.topics number (omega (arith, low, many)) in
      let same = one number files t.ledger x.ledger t.kept x.kept (few number t is) here.0 x.stands in
      record {
        left = left_as was t x.ledger x.kept same.0 same.1 x.is_left;
        again = here.1 ∙ ap (λ m. opened m t.ledger (marks_of t.ledger) t.kept) (f.per_ledger ∙ sym (s.formed.ledgers number));
      }

  crash_beyond : (number : ℕ) → length new.broker.topics ≤ number → TopicCrash (topic_at old.broker number) (topic_at new.broker number)
  crash_beyond number high =
      let was = get_or_past old.broker.topics number (fresh old.broker.per_ledger) (omega (arith, high, many, f.more)) in
      let now = get_or_past new.broker.topics number (fresh new.broker.per_ledger) high in
      subst (λ (t : Topic). TopicCrash t (topic_at new.broker number)) (sym was)
      (subst (λ (t : Topic). TopicCrash (fresh old.broker.per_ledger) t) (sym (now ∙ ap (λ m. fresh m) f.per_ledger)) (record { left = inl (refl, refl); again = refl }))

  pub state_crash : new.broker.service_url ≡ old.broker.service_url → old.faults ≤ new.faults → StateCrash old new
  state_crash url faults = record {
    per_ledger = f.per_ledger;
    service_url = url;
    settled = f.settled;
    settles = f.settles;
    names = f.names_are;
    sure = opening.sure;
    count = many ∙ sym f.count;
    each = λ number. ⊎_elim (crash_there number) (crash_beyond number) (cases_lt number (length new.broker.topics));
    stages = opening.stages;
    sessions = opening.sessions;
    used = opening.used;
    faults = faults;
  }

-- a refused opening leaves the device as it was, and is no fault of files that stand for something
pub refused_rests : (stands : ℕ → Image → Ledger → Kept → Type 0) (faulty : ℕ → Image → Refusal → Type 0) → ((t : ℕ) (files : Image) (ledger : Ledger) (k : Kept) (refusal : Refusal) → stands t files ledger k → ¬ faulty t files refusal)
    → (old : State) (before after : Disk) (why : Refusal) → AtRest stands old before → before.may_leave before.seen → Leaves before.may_leave before after → Counted before after
    → (why ≡ refusal.NoMemory) ⊎ ((why ≡ refusal.Device) ⊎ IsFirstFault stands faulty before.seen why) → (why ≡ refusal.Device → Failed before after)
    → AtRest stands old after × ((why ≡ refusal.NoMemory) ⊎ ((why ≡ refusal.Device) × Failed before after))
refused_rests stands faulty sound old before after why rest lawful leaves kept refused cause = (
  record { honest = kept.honest rest.honest; left = λ files may. rest.left files (leaves.now files may); faults = omega (arith, rest.faults, kept.faults) },
  ⊎_elim (λ memory. inl memory) (λ other. ⊎_elim (λ device. inr (device, cause device))
      (λ fault. absurd (no_first_fault stands faulty sound old.broker before.seen (rest.left before.seen lawful) why fault)) other) refused,
)

-- ---- a topic again

module _ (stands : ℕ → Image → Ledger → Kept → Type 0) (faulty : ℕ → Image → Refusal → Type 0) (number : ℕ) (old new : Topic) (before after : Disk) where
  pub unknown_tells : ReopenTells stands faulty number old new before after verdict.Unknown
  unknown_tells = record { cause = λ is. absurd cc; found = λ honest fails is. absurd cc; refused = λ honest why is. absurd cc }

  pub reopen_tells : (result : Result (Unit {0}) Refusal) → (IsErrOf result refusal.Device → Failed before after)
      → (before.honest → old.failed ≡ true → OnOk result (stands number before.seen new.ledger new.kept × (new ≡ reopened old new.ledger (marks_of new.ledger) new.kept)))
      → (before.honest → IfErr result (λ e. (e ≡ refusal.NoMemory) ⊎ ((e ≡ refusal.Device) ⊎ (faulty number before.seen e ⊎ IsShorter stands number old before.seen e))))
      → ReopenTells stands faulty number old new before after (verdict_for result)
  reopen_tells (Ok done) cause found refused = record {
    cause = λ is. absurd cc;
    found = λ honest fails is. found honest fails;
    refused = λ honest why is. absurd cc;
  }
  reopen_tells (Err e) cause found refused = record {
    cause = λ is. cause (let same : e ≡ refusal.Device = cc in ap (λ r. Err r) same);
    found = λ honest fails is. absurd cc;
    refused = λ honest why is.
        let same : e ≡ why = cc in
        subst (λ (r : Refusal). (r ≡ refusal.NoMemory) ⊎ ((r ≡ refusal.Device) ⊎ (faulty number before.seen r ⊎ IsShorter stands number old before.seen r))) same (refused honest);
  }

-- an event of a topic that isn't there tells nothing of an opening
pub unknown_on : (stands : ℕ → Image → Ledger → Kept → Type 0) (faulty : ℕ → Image → Refusal → Type 0) (event : TopicEvent) (number : ℕ) (old new : Topic) (before after : Disk) → TellsOn stands faulty event number old new before after verdict.Unknown
unknown_on stands faulty on_topic.Reopen number old new before after = unknown_tells stands faulty number old new before after
unknown_on stands faulty _ number old new before after = tt

-- said of the topics of two brokers
pub tells_at : (stands : ℕ → Image → Ledger → Kept → Type 0) (faulty : ℕ → Image → Refusal → Type 0) (event : TopicEvent) (number : ℕ) (t u was now : Topic) → was ≡ t → now ≡ u → (before after : Disk) (told : Verdict)
    → TellsOn stands faulty event number t u before after told → TellsOn stands faulty event number was now before after told
tells_at stands faulty event number t u was now is is_now before after told tells =
    subst (λ x. TellsOn stands faulty event number x now before after told) (sym is) (subst (λ x. TellsOn stands faulty event number t x before after told) (sym is_now) tells)
