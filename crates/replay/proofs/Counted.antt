-- How many segment files are told of a topic, by the state that its machine holds.
use Rattle.std.proofs.Common.{◌≡◌, ◌<◌, ◌∙◌, ℕ, Bool, true, false, List, length, Some, None, refl, sym, ap, subst, arith}
use Rattle.std.specs.Prelude.{cond, nat_lt}
use Rattle.std.proofs.lemmas.Bool.Decides.{nat_tests}
use Rattle.std.proofs.lemmas.List.{length-map}
use Rattle.disk.specs.Disk.{Disk, Image}
use Rattle.catalog.specs.Catalogs.{per_ledger}
use Rattle.topic_stores.specs.declared.store.TopicStore.{Ghosts as StoreMembers}
use Rattle.topic_core.specs.State.{Topic}
use Rattle.topic_core.specs.Standing.{Phase}
use Rattle.session.specs.Broker.{fresh, topic_at}
use Rattle.node.specs.State.{State, Stage, Resting, stage_at, place_in}
use Rattle.node.specs.Flights.{stage_of, phase_at}
use Rattle.node.specs.Lists.{at_map, get_at}
use Rattle.node.specs.Standing.{state_of, phase_in, known_by, known_in, known_of}
use Rattle.node.specs.Runs.{Life}
use Rattle.node.specs.Driving.{StatusIn, StatusOf, TellsSegments, SegmentsAt, SegmentsTold, Holds, phase_of, segments_known, shelf_in}
use Rattle.node.specs.declared.held.Held.{Held}
use Rattle.node.specs.declared.node.Node.{Node}
use Rattle.node.specs.declared.power.Machine.{Machine}
use Rattle.node.specs.declared.power.Machine.TheVariants as machine
use Rattle.node.specs.declared.status.TopicStatus.{TopicStatus}

-- a topic that is told is there
is_there : (state : State) (number count : ℕ) (status : TopicStatus) (there : Bool) → nat_lt number count ≡ there → StatusIn (cond there (Some number) None) state (Some status) → number < count
is_there state number count status true is told = grind (arith, nat_tests)
is_there state number count status false is told = absurd (let no : ⊥ = cc in no)

module _ {T S : Type 0} {store : StoreMembers T} (disk : S → Disk) (laid : ℕ → Image → List ℕ → Type 0) (number : ℕ) (status : TopicStatus) where
  node_counts : (node : Node T S store) → StatusIn (place_in (state_of disk node).broker.topics number) (state_of disk node) (Some status)
      → SegmentsAt laid number node.topics.held.items (disk node.topics.shelf).seen (Some status)
      → TellsSegments laid number (phase_of (state_of disk node) number) (disk node.topics.shelf).seen (segments_known (machine.Up node) number) status.segments
  node_counts node told segments =
      let held = node.topics.held.items in
      let state = state_of disk node in
      let there : number < length state.broker.topics = is_there state number (length state.broker.topics) status (nat_lt number (length state.broker.topics)) refl told in
      let long : length state.broker.topics ≡ length held = length-map held (λ (x : Held T store). x.core) in
      let h = get_at held number (omega (arith, there, long)) in
      let core : topic_at state.broker number ≡ h.0.core = at_map (λ (x : Held T store). x.core) held number h.0 (fresh (per_ledger node.topics.catalog)) h.1 in
      let stage : stage_at state number ≡ stage_of h.0.flight = at_map (λ (x : Held T store). stage_of x.flight) held number h.0 Resting h.1 in
      let phase : phase_in h.0 ≡ phase_of state number = ap (λ (t : Topic). phase_at t.failed (stage_of h.0.flight)) (sym core) ∙ ap (λ (s : Stage). phase_at (topic_at state.broker number).failed s) (sym stage) in
      let known : known_in (known_of node.topics) number ≡ known_by h.0 = at_map (λ (x : Held T store). known_by x) held number h.0 0 h.1 in
      subst (λ (p : Phase). TellsSegments laid number p (disk node.topics.shelf).seen (segments_known (machine.Up node) number) status.segments) phase
      (subst (λ (n : ℕ). TellsSegments laid number (phase_in h.0) (disk node.topics.shelf).seen n status.segments) (sym known) (segments h.0 h.1))

  pub machine_counts : (m : Machine T S store) (life : Life) → Holds disk m life → StatusOf life.up life.state number (Some status) → SegmentsTold disk laid m number (Some status)
      → TellsSegments laid number (phase_of life.state number) (disk (shelf_in m)).seen (segments_known m number) status.segments
  machine_counts (machine.Up node) life holds told segments =
      let counts = node_counts node (subst (λ (l : Life). StatusOf l.up l.state number (Some status)) holds.1 told) segments in
      subst (λ (l : Life). TellsSegments laid number (phase_of l.state number) (disk node.topics.shelf).seen (segments_known (machine.Up node) number) status.segments) (sym holds.1) counts
  machine_counts (machine.Down site) life holds told segments =
      let none : Some status ≡ None = subst (λ (up : Bool). StatusOf up life.state number (Some status)) holds.1 told in
      absurd (let no : ⊥ = cc in no)
