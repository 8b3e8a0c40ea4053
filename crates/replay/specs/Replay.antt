-- What a replay reads and writes.
use Rattle.std.specs.Prelude.{◌≡◌, ℕ, ◌+◌, Bool, true, false, List, [], ◌∷◌, ◌++◌, length, take, slice_get, codes, ◌⊎◌, Option, Some, None, Result, Ok, Err, IfOk}
use Rattle.std.specs.List.{flat_map}
use Rattle.std.specs.Io.KnownBytes.{Appends, Keeps}
use Rattle.disk.specs.Areas.{served}
use Rattle.disk.specs.Disk.{Image}
use Rattle.disk.specs.declared.crash_shelf.CrashForm.{CrashForm}
use Rattle.disk.specs.declared.crash_shelf.Fuse.{Fuse}
use Rattle.disk.specs.declared.crash_shelf.Fuse.TheVariants as fuse
use Rattle.disk.specs.Laid.{Laid, after_arm}
use Rattle.disk_mem.specs.declared.shelf.MemShelf.{MemShelf}
use Rattle.disk_mem.specs.Device.{disk_of, laid, LeftAs}
use Rattle.managed_ledger.specs.Laid.{IsLaidOut}
use Rattle.cursor_store.specs.Cursors.{StandsFor as SubscriptionsStand}
use Rattle.topic_stores.specs.Views.{lay}
use Rattle.node.specs.State.{State, fresh_broker}
use Rattle.node.specs.Runs.{Life, OpeningStep, HappeningStep}
use Rattle.node.specs.Driving.{Cut, StatusIn, TellsSegments, KnowsOn, phase_of}
use Rattle.node.specs.declared.status.TopicStatus.{TopicStatus}
use Rattle.node.specs.declared.event.Output.{Output}
use Rattle.node.specs.declared.event.Event.{Event}
use Rattle.node.specs.declared.event.Happening.TheVariants as happening
use Rattle.script.specs.declared.line.Line.{Line}
use Rattle.script.specs.declared.script.Script.{Script}
use Rattle.script.specs.declared.output.Outcome.TheVariants.{Done, Refused}
use Rattle.script.specs.declared.output.StorageRefusal.TheVariants as refusal
use Rattle.script.specs.Script.{IsScript, IsFirstBad}
use Rattle.script.specs.Output.{output_line}
use Rattle.admin.specs.Status.{lines_of}
use Rattle.replay.specs.Event.{task_of, outcome_of}
use Rattle.replay.specs.declared.event.Task.{Task}
use Rattle.replay.specs.declared.event.Task.TheVariants as task
use Rattle.replay.specs.declared.fault.ProgramFault.{ProgramFault}
use Rattle.replay.specs.declared.fault.ProgramFault.TheVariants.{Device, NoMemory, ScriptLine}

-- the printed line of an output
abbrev pub printed_output : ℕ → Output → List ℕ
printed_output number output = output_line number output.bytes (outcome_of output.result)

-- the machine of a replay at one moment: what it lived through to, its device, and of how many segments the store of each topic knows
pub record Moment : Type 0 where
  pub life : Life
  pub device : MemShelf
  pub known : ℕ → ℕ

-- the segments of a topic, from where its slots say that its ledger begins on, have so many entries each, by the files alone
abbrev pub segments_laid : ℕ → Image → List ℕ → Type 0
segments_laid number = lay IsLaidOut SubscriptionsStand (served number)

-- An event of the node, and its output is printed. What the stores know of their segments goes on.
pub record Happens (number : ℕ) (old : Moment) (event : Event) (text : List ℕ) (new : Moment) : Type 0 where
  pub output : Output
  pub step : HappeningStep old.life (happening.Event event) output new.life
  pub known : old.life.up ≡ true → KnowsOn segments_laid (disk_of old.device).seen old.life.state new.life.state old.known new.known
  pub printed : text ≡ printed_output number output

-- these fuses are laid now, and nothing else has changed: not the life, and not what a crash makes of the files
pub record Armed (fuses : Laid) (old new : Moment) : Type 0 where
  pub life : new.life ≡ old.life
  pub known : new.known ≡ old.known
  pub files : (form : CrashForm) (after : MemShelf) → LeftAs form new.device after → LeftAs form old.device after
  pub laid : laid new.device ≡ fuses

-- a fuse is laid beside the others, or memory is refused for it, and none is
abbrev pub Arms : ℕ → Moment → Fuse → List ℕ → Moment → Type 0
Arms number old fuse text new =
    (Armed (after_arm fuse (laid old.device)) old new × (text ≡ output_line number [] Done))
    ⊎ (Armed (laid old.device) old new × (text ≡ output_line number [] (Refused refusal.NoMemory)))

-- the power is cut, in the form that was ordered last, and comes back, and the output of the opening is printed
pub record Restarts (number : ℕ) (old : Moment) (text : List ℕ) (new : Moment) : Type 0 where
  pub output : Output
  pub step : HappeningStep old.life (happening.Crash) output new.life
  pub cut : Cut disk_of laid LeftAs old.device output.result new.device
  pub printed : text ≡ printed_output number output

-- the form is ordered, and the power is cut; or memory is refused for the order, and the machine goes on
abbrev pub Cuts : ℕ → Moment → CrashForm → List ℕ → Moment → Type 0
Cuts number old form text new =
    ((ordered : Moment) × Armed (after_arm (fuse.CrashAs form) (laid old.device)) old ordered × Restarts number ordered text new)
    ⊎ (Armed (laid old.device) old new × (text ≡ output_line number [] (Refused refusal.NoMemory)))

-- a topic is told with as many segment files as it has from there on; where its store met a failure of the device, with as many as it knows of
abbrev pub IsCounted : State → Image → (ℕ → ℕ) → ℕ → TopicStatus → Type 0
IsCounted state files known number status = TellsSegments segments_laid number (phase_of state number) files (known number) status.segments

-- what is told of the topics: one status for each, in the order of their numbers
pub record AreTold (state : State) (files : Image) (known : ℕ → ℕ) (told : List TopicStatus) : Type 0 where
  pub all : length told ≡ length state.broker.topics
  pub each : (number : ℕ) (status : TopicStatus) → slice_get told number ≡ Some status → StatusIn (Some number) state (Some status)
  pub segments : (number : ℕ) (status : TopicStatus) → slice_get told number ≡ Some status → IsCounted state files known number status

-- the status lines of each topic, one after another; a node that is down has none
abbrev pub StatusOf : Bool → State → Image → (ℕ → ℕ) → List ℕ → Type 0
StatusOf true state files known text = (told : List TopicStatus) × AreTold state files known told × (text ≡ flat_map lines_of told)
StatusOf false state files known text = text ≡ []

pub record Tells (old : Moment) (text : List ℕ) (new : Moment) : Type 0 where
  pub same : new ≡ old
  pub printed : StatusOf old.life.up old.life.state (disk_of old.device).seen old.known text

abbrev pub TaskStep : ℕ → Moment → Task → List ℕ → Moment → Type 0
TaskStep number old (task.Event event) text new = Happens number old event text new
TaskStep number old (task.Arm fuse) text new = Arms number old fuse text new
TaskStep number old (task.Crash form) text new = Cuts number old form text new
TaskStep number old task.Status text new = Tells old text new

-- one line of a script is worked, and prints this
abbrev pub LineStep : ℕ → Moment → Line → List ℕ → Moment → Type 0
LineStep number old line text new = TaskStep number old (task_of line) text new

-- lines are worked, one after another, of which the first has this number, and print this
abbrev pub Prints : ℕ → Moment → List Line → List ℕ → Moment → Type 0
Prints number old [] text new = (text ≡ []) × (new ≡ old)
Prints number old (line ∷ lines) text new =
    (first : List ℕ) × (rest : List ℕ) × (between : Moment) × LineStep number old line first between × Prints (number + 1) between lines rest new × (text ≡ first ++ rest)

-- A script is begun: the files of a broker without topics are made, which clients find by the URL of replays, and a node is opened
-- over them.
pub record Begins (per_ledger : ℕ) (text : List ℕ) (new : Moment) : Type 0 where
  pub made : State
  pub broker : made.broker ≡ fresh_broker per_ledger (codes "pulsar://replay")
  pub output : Output
  pub opening : OpeningStep made output new.life
  pub printed : text ≡ printed_output 1 output

-- the lines of a script are worked: its first one, and then the others
pub record Plays (per_ledger : ℕ) (lines : List Line) (text : List ℕ) : Type 0 where
  pub begun : Moment
  pub first : List ℕ
  pub begins : Begins per_ledger first begun
  pub rest : List ℕ
  pub last : Moment
  pub prints : Prints 2 begun lines rest last
  pub printed : text ≡ first ++ rest

abbrev pub IsFront : List ℕ → List ℕ → Type 0
IsFront front whole = (rest : List ℕ) × (whole ≡ front ++ rest)

-- the device failed, or memory was refused
abbrev pub IsOutage : ProgramFault → Type 0
IsOutage Device = Unit {0}
IsOutage NoMemory = Unit {0}
IsOutage (ScriptLine k) = ⊥

-- a text was written, or a front of it where the device failed; without memory nothing of it is
abbrev pub Writes : {X : Type 0} → List ℕ → Option (List ℕ) → Option (List ℕ) → Result X ProgramFault → Type 0
Writes text old new (Ok _) = Appends old new text
Writes text old new (Err Device) = (front : List ℕ) × IsFront front text × Appends old new front
Writes text old new (Err NoMemory) = Keeps old new
Writes text old new (Err (ScriptLine k)) = ⊥

-- lines were worked in order, or the first of them, and a front of what they print was written
abbrev pub WorksFront : ℕ → Moment → List Line → Option (List ℕ) → Option (List ℕ) → Type 0
WorksFront number old lines before after =
    (worked : ℕ) × (text : List ℕ) × (new : Moment) × Prints number old (take worked lines) text new
    × (front : List ℕ) × IsFront front text × Appends before after front

abbrev pub WorksLines : {X : Type 0} → ℕ → Moment → List Line → Option (List ℕ) → Option (List ℕ) → Result X ProgramFault → Type 0
WorksLines number old lines before after (Ok _) = (text : List ℕ) × (new : Moment) × Prints number old lines text new × Appends before after text
WorksLines number old lines before after (Err Device) = WorksFront number old lines before after
WorksLines number old lines before after (Err NoMemory) = WorksFront number old lines before after
WorksLines number old lines before after (Err (ScriptLine k)) = ⊥

-- where no memory was refused
abbrev pub IfRemembered : {X : Type 0} → Result X ProgramFault → Type 0 → Type 0
IfRemembered (Ok _) P = P
IfRemembered (Err Device) P = P
IfRemembered (Err NoMemory) P = Unit {0}
IfRemembered (Err (ScriptLine k)) P = P

-- The task of a line was worked, and what it prints written; where that went well the replay lives on. Where memory was refused
-- nothing was written.
pub record WorksTask {R : Type 0} (lives : R → Moment → Type 0) (number : ℕ) (old : Moment) (task : Task) (before after : Option (List ℕ)) (result : Result R ProgramFault) : Type 0 where
  pub text : List ℕ
  pub new : Moment
  pub step : IfRemembered result (TaskStep number old task text new)
  pub writes : Writes text before after result
  pub goes_on : IfOk result (λ replay. lives replay new)

-- the first line was worked and written, or a front of it; or it couldn't be worked
abbrev pub Begun : {R : Type 0} → (R → Moment → Type 0) → ℕ → Option (List ℕ) → Option (List ℕ) → Result R ProgramFault → Type 0
Begun lives per_ledger before after (Ok replay) = (text : List ℕ) × (begun : Moment) × Begins per_ledger text begun × lives replay begun × Appends before after text
Begun lives per_ledger before after (Err Device) = Keeps before after ⊎ ((text : List ℕ) × (begun : Moment) × Begins per_ledger text begun × (front : List ℕ) × IsFront front text × Appends before after front)
Begun lives per_ledger before after (Err NoMemory) = Keeps before after
Begun lives per_ledger before after (Err (ScriptLine k)) = ⊥

-- the script was worked to its end, and all that its lines print was written
abbrev pub ReplaysAll : List ℕ → Option (List ℕ) → Option (List ℕ) → Type 0
ReplaysAll bytes old new =
    (script : Script) × IsScript bytes script × (text : List ℕ) × Plays script.per_ledger script.lines text × Appends old new text

-- the first lines of the script were worked, and a front of what they print was written
abbrev pub ReplaysFront : List ℕ → Option (List ℕ) → Option (List ℕ) → Type 0
ReplaysFront bytes old new =
    (script : Script) × IsScript bytes script × (worked : ℕ) × (text : List ℕ) × Plays script.per_ledger (take worked script.lines) text
    × (front : List ℕ) × IsFront front text × Appends old new front

-- what a replay of these bytes writes, by how it ends
abbrev pub Replays : {X : Type 0} → List ℕ → Option (List ℕ) → Option (List ℕ) → Result X ProgramFault → Type 0
Replays bytes old new (Ok _) = ReplaysAll bytes old new
Replays bytes old new (Err (ScriptLine k)) = IsFirstBad bytes k × Keeps old new
Replays bytes old new (Err Device) = Keeps old new ⊎ ReplaysFront bytes old new
Replays bytes old new (Err NoMemory) = Keeps old new ⊎ ReplaysFront bytes old new

-- the bytes are all that a reader had left, where that is known
abbrev pub IsAllOf : Option (List ℕ) → List ℕ → Type 0
IsAllOf None bytes = Unit {0}
IsAllOf (Some left) bytes = bytes ≡ left
