-- From a cut of the power to the opening after it.
use Rattle.std.specs.Prelude.{◌≡◌, ◌≤◌, ℕ, ◌+◌, true, false, List, [], ◌∷◌, ◌++◌}
use Rattle.disk.specs.Disk.{Image}
use Rattle.gated_log.specs.declared.refusal.Refusal.{Refusal}
use Rattle.managed_ledger.specs.Entries.{Ledger}
use Rattle.records.specs.Maps.{Kept}
use Rattle.session.specs.Broker.{Broker}
use Rattle.node.specs.State.{State}
use Rattle.node.specs.Standing.{StandsForBroker}
use Rattle.node.specs.Opening.{IsJustOpened, IsFirstFault}
use Rattle.node.specs.Runs.{Life, StateCrash, AllowedRun}
use Rattle.node.specs.Cuts.{Turn, AllowedLife, CutLife, uncut}
use Rattle.node.specs.Driving.{StandsAmidst}
use Rattle.node.specs.declared.event.Happening.{Happening}
use Rattle.node.specs.declared.event.Happening.TheVariants as happening
use Rattle.node.specs.declared.event.Output.{Output}
use Rattle.node.specs.declared.event.Verdict.TheVariants as verdict

-- The node was opened and a front of these happenings was worked; then the power is cut, and the node is opened with this state. Behind
-- that front this is a turn of an allowed life, however often the device has failed since.
pub record Resumes (first : State) (happenings : List Happening) (opened : State) : Type 0 where
  pub worked : List Happening
  pub rest : List Happening
  pub front : happening.Crash ∷ happenings ≡ worked ++ rest
  pub outputs : List Output
  pub failures : ℕ
  pub life : (faults : ℕ) → failures ≤ faults
      → CutLife (record { up = false; state = first }) worked outputs (record { bytes = []; result = verdict.Done }) (record { up = true; state = record opened { faults = faults } })

-- What a cut of the power left is opened: over files that stand for what a crash leaves of a broker a node that has what they stand
-- for is what a crash leaves of it, and no fault stands in them. So it is where the power is cut at any moment of a drive.
pub record CutsAreOpened (files_stand : ℕ → Image → Ledger → Kept → Type 0) (faulty : ℕ → Image → Refusal → Type 0) : Type 0 where
  pub opened : (old new : State) (files : Image) → StandsForBroker files_stand old.broker files → IsJustOpened files_stand files new
      → new.broker.service_url ≡ old.broker.service_url → old.faults ≤ new.faults → StateCrash old new
  pub sound : (broker : Broker) (files : Image) (why : Refusal) → StandsForBroker files_stand broker files → ¬ IsFirstFault files_stand faulty files why
  pub any_moment : (first : State) (happenings : List Happening) (files : Image) (opened : State) → StandsAmidst files_stand first happenings files → IsJustOpened files_stand files opened
      → opened.broker.service_url ≡ first.broker.service_url → Resumes first happenings opened

-- of a device that had failed so many times more
abbrev pub failed_before : ℕ → Life → Life
failed_before n life = record life { state = record life.state { faults = life.state.faults + n } }

-- Lives go on: one without cuts within events is one, and so is one behind another, and one whose device had failed more often before.
pub record LivesGoOn : Type 0 where
  pub without : (old : Life) (happenings : List Happening) (outputs : List Output) (new : Life) → AllowedRun old happenings outputs new → AllowedLife old (uncut happenings) outputs new
  pub behind : (old : Life) (turns later : List Turn) (outputs others : List Output) (between new : Life) → AllowedLife old turns outputs between → AllowedLife between later others new
      → AllowedLife old (turns ++ later) (outputs ++ others) new
  pub later : (n : ℕ) (old : Life) (turns : List Turn) (outputs : List Output) (new : Life) → AllowedLife old turns outputs new → AllowedLife (failed_before n old) turns outputs (failed_before n new)
