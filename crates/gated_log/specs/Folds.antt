-- What an opening finds in a file whose bodies must have a form.
use Rattle.std.specs.Prelude.{◌≡◌, ◌⊎◌, ℕ, ◌+◌, ◌≤◌, ◌^◌, List, [], ◌∷◌, ◌++◌, length}
use Rattle.disk.specs.declared.file_id.FileId.{FileId}
use Rattle.gated_log.specs.declared.refusal.Refusal.{Refusal}
use Rattle.gated_log.specs.declared.refusal.Refusal.TheVariants.{Device, NotInitialised, Version, Damaged, NoMemory, TooLarge}
use Rattle.disk.specs.declared.file_id.Folder.{Folder}
use Rattle.disk.specs.Areas.{folder_of}
use Rattle.gated_log.specs.declared.label.Label.{Label}
use Rattle.gated_log.specs.Labels.{IsLabel, header_size}
use Rattle.gated_log.specs.Batches.{Bodies, sized, batches, opened, AllFit}
use Rattle.gated_log.specs.Headers.{HasOpenHeader, IsHeaderDamaged, IsOtherVersion, IsOpen}

-- a log: the label in its header, and its bodies
pub record Link : Type 0 where
  pub label : Label
  pub bodies : Bodies

-- a log without bodies
abbrev pub begun : Label → Link
begun label = record { label = label; bodies = [] }

-- with a body more
abbrev pub grown : Link → List ℕ → Link
grown log body = record { label = log.label; bodies = log.bodies ++ body ∷ [] }

-- its file, whose header has sixteen bytes or more, isn't longer than a file may be
abbrev pub FitsFile : Link → Type 0
FitsFile log = 16 + length (batches log.bodies) ≤ 2 ^ 62

-- which logs may stand here
abbrev pub Form : Type 1
Form = Link → Type 0

-- any log
abbrev pub any : Form
any log = Unit {0}

-- those that may follow these logs
abbrev pub behind : (List Link → Type 0) → List Link → Form
behind form before log = form (before ++ log ∷ [])

-- a whole batch with this body, without its gate, and the next gate behind it
pub record IsBatch (body bytes : List ℕ) : Type 0 where
  pub gate : ℕ
  pub rest : List ℕ
  pub fits : length body ≤ 33554432
  pub bytes_are : bytes ≡ sized body ++ gate ∷ rest

-- Behind whole batches of the form a gate is open at this offset, and behind it stands no whole batch that may follow them.
pub record IsBatchFault (folder : Folder) (form : Form) (offset : ℕ) (file : List ℕ) : Type 0 where
  pub log : Link
  pub rest : List ℕ
  pub in_range : IsLabel folder log.label
  pub fit : AllFit log.bodies
  pub formed : form log
  pub bytes : file ≡ opened folder log.label log.bodies ++ 1 ∷ rest
  pub offset_is : offset ≡ length (opened folder log.label log.bodies)
  pub none_follows : (body : List ℕ) → form (grown log body) → ¬ IsBatch body rest

-- the header's label isn't of the form
pub record IsLabelFault (folder : Folder) (form : Form) (file : List ℕ) : Type 0 where
  pub label : Label
  pub long : header_size folder + 1 ≤ length file
  pub is_open : IsOpen folder label file
  pub bad : ¬ form (begun label)

-- Why the file is refused: the first thing in it that no log of the form has.
abbrev pub IsFault : Form → FileId → List ℕ → Refusal → Type 0
IsFault form file bytes NotInitialised = ¬ HasOpenHeader (folder_of file) bytes
IsFault form file bytes Version = IsOtherVersion (folder_of file) bytes
IsFault form file bytes (Damaged of offset) = (of ≡ file) × (((IsHeaderDamaged (folder_of file) bytes ⊎ IsLabelFault (folder_of file) form bytes) × (offset ≡ 0)) ⊎ IsBatchFault (folder_of file) form offset bytes)
IsFault form file bytes Device = ⊥
IsFault form file bytes NoMemory = ⊥
IsFault form file bytes TooLarge = ⊥
