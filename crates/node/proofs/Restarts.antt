-- The power is cut, and comes again.
use Rattle.std.proofs.Common.{◌≡◌, ◌⊎◌, inl, ⊎_elim, ℕ, ◌≤◌, refl, subst, sym, Bool, false, [], arith}
use Rattle.disk.specs.Disk.{Disk, Image, Same, Advances, Leaves, Stays, Kept, Failed}
use Rattle.disk.specs.Moments.{starts, call, joins, weaken}
use Rattle.managed_ledger.specs.Entries.{Ledger}
use Rattle.records.specs.Maps.{Kept as Cursors}
use Rattle.topic_stores.specs.declared.store.TopicStore.{Ghosts as StoreMembers}
use Rattle.gated_log.specs.declared.refusal.Refusal.{Refusal}
use Rattle.gated_log.specs.declared.refusal.Refusal.TheVariants as refusal
use Rattle.node.specs.State.{State}
use Rattle.node.specs.Standing.{StandsForBroker, StandsForSome, AtRest, Stands, state_of}
use Rattle.node.specs.Passing.{OnlyReads, stands_so}
use Rattle.node.specs.Runs.{Life, OpeningStep}
use Rattle.node.specs.Cuts.{AmidEvent}
use Rattle.node.specs.Driving.{Holds, disk_in}
use Rattle.node.specs.declared.node.Node.{Node}
use Rattle.node.specs.declared.site.Site.{Site}
use Rattle.node.specs.declared.event.Event.{Event}
use Rattle.node.specs.declared.event.Output.{Output}
use Rattle.node.specs.declared.event.Verdict.TheVariants as verdict
use Rattle.node.specs.declared.power.Machine.{Machine}
use Rattle.node.specs.declared.power.Machine.TheVariants as machine

-- a node that stays down
abbrev pub down : State → Disk → Life
down old disk = record { up = false; state = record old { faults = disk.faults } }

pub refused_opening : (old : State) (before disk : Disk) (why : Refusal) (output : Output) → old.faults ≤ before.faults → old.faults ≤ disk.faults
    → (why ≡ refusal.NoMemory) ⊎ ((why ≡ refusal.Device) × Failed before disk) → output ≡ record { bytes = []; result = verdict.Refused why } → OpeningStep old output (down old disk)
refused_opening old before disk why output was more cause is =
    let out : Refusal → Output = λ r. record { bytes = []; result = verdict.Refused r } in
    let P : Output → Type 0 = λ o. OpeningStep old o (down old disk) in
    let Q : Refusal → Type 0 = λ r. OpeningStep old (out r) (down old disk) in
    subst P (sym is) (⊎_elim
    (λ memory. subst Q (sym memory) (refl, record { down = refl; state = refl; faults = more }))
    (λ device. subst Q (sym device.0) (refl, (record { down = refl; state = refl; faults = more }, omega (arith, was, device.1))))
    cause)

-- a device that has failed more often is the device of the same files
pub rests_later : (stands : ℕ → Image → Ledger → Cursors → Type 0) (old : State) (disk : Disk) → AtRest stands old disk → AtRest stands (record old { faults = disk.faults }) disk
rests_later stands old disk r = record { honest = r.honest; left = r.left; faults = omega arith }

-- a device in which nothing changed
pub armed : (old new : Disk) → Stays old new → OnlyReads old new
armed old new stays = record {
  seen = λ h. stays.seen;
  any_moment = λ h. record { later = omega (arith, stays.moment); now = stays.nothing_else; since = λ t c le left. inl (stays.nothing_since t c left) };
  kept = record { faults = omega (arith, stays.faults); honest = stays.honest; not_honest = stays.not_honest };
}

-- what a crash leaves is left by the next one
pub after_crash : (stands : ℕ → Image → Ledger → Cursors → Type 0) (s : State) (old new : Disk) → AtRest stands s old → Advances Same old new → Kept old new → AtRest stands s new
after_crash stands s old new r time kept = record {
  honest = kept.honest r.honest;
  left = λ c may. let was = time.crash c may in subst (λ (i : Image). StandsForBroker stands s.broker i) (sym was.2) (r.left was.0 was.1);
  faults = omega (arith, r.faults, kept.faults);
}

-- at each moment of a crash and of the opening after it
module _ (stands : ℕ → Image → Ledger → Cursors → Type 0) (s : State) where
  abbrev Left : Image → Type 0
  Left files = StandsForBroker stands s.broker files

  pub start_leaves : (old new : Disk) → AtRest stands s old → Leaves old.may_leave old new → Leaves Left old new
  start_leaves old new r leaves = weaken old.may_leave Left old new leaves r.left

  pub crash_leaves : (old mid new : Disk) → AtRest stands s old → Advances Same old mid → Leaves Left mid new → Leaves Left old new
  crash_leaves old mid new r time leaves =
      joins Left Left Left old mid new (call Left Same old mid time (λ c was. subst Left (sym was.2) (r.left was.0 was.1))) leaves (λ c left. left) (λ c left. left)

-- a node that is down leaves the device alone
down_leaves : (stands : ℕ → Image → Ledger → Cursors → Type 0) (life : Life) (event : Event) (d : Disk) → AtRest stands life.state d → life.up ≡ false
    → Leaves (StandsForSome stands (λ broker. AmidEvent life.up life.state event broker)) d d
down_leaves stands life event d r down =
    subst (λ (up : Bool). Leaves (StandsForSome stands (λ broker. AmidEvent up life.state event broker)) d d) (sym down)
    (starts (StandsForSome stands (λ broker. broker ≡ life.state.broker)) d (λ files may. (life.state.broker, refl, r.left files may)))

module _ {T S : Type 0} {store : StoreMembers T} (disk : S → Disk) where
  -- what a crash leaves of a node that works
  pub node_rests : (n : Node T S store) → Stands disk n → AtRest store.stands (state_of disk n) (disk n.topics.shelf)
  node_rests n s = record { honest = s.honest; left = stands_so disk n.topics s; faults = omega arith }

  pub is_down : (m : Machine T S store) (site : Site S) (life : Life) → m ≡ machine.Down site → Holds disk m life → life.up ≡ false
  is_down (machine.Up node) site life is holds = absurd (let no : machine.Up node ≡ machine.Down site = is in cc)
  is_down (machine.Down here) site life is holds = holds.1

  pub down_leaves_so : (m : Machine T S store) (site : Site S) (life : Life) (event : Event) → m ≡ machine.Down site → Holds disk m life
      → Leaves (StandsForSome store.stands (λ broker. AmidEvent life.up life.state event broker)) (disk_in disk m) (disk_in disk m)
  down_leaves_so (machine.Up node) site life event is holds = absurd (let no : machine.Up node ≡ machine.Down site = is in cc)
  down_leaves_so (machine.Down here) site life event is holds = down_leaves store.stands life event (disk here.shelf) holds.0 holds.1
