-- What the header of a slot is.
use Rattle.std.specs.Prelude.{◌≡◌, ◌⊎◌, ℕ, ◌+◌, ◌<◌, ◌≤◌, ◌^◌, List, length}
use Rattle.disk.specs.declared.file_id.Folder.{Folder}
use Rattle.gated_log.specs.declared.label.Label.{Label}
use Rattle.gated_log.specs.Labels.{header_size}
use Rattle.gated_log.specs.Headers.{HasOpenHeader, IsHeaderDamaged, IsOtherVersion, IsOpen, number_in}
use Rattle.two_slot.specs.declared.slot_header.SlotHeader.{SlotHeader}
use Rattle.two_slot.specs.declared.slot_header.SlotHeader.TheVariants.{CutShort, Closed, Open, Faulty}
use Rattle.two_slot.specs.declared.slot_header.HeaderFault.{HeaderFault}
use Rattle.two_slot.specs.declared.slot_header.HeaderFault.TheVariants.{Damage, Version}

-- an open header of this version has the last generation, 2^64 - 1, which is for none
pub record HasLastGeneration (folder : Folder) (file : List ℕ) : Type 0 where
  pub label : Label
  pub last : label.number + 1 ≡ 2 ^ 64
  pub long : header_size folder + 1 ≤ length file
  pub is_open : IsOpen folder label file

-- an open header is refused; what its generation is comes after its version
abbrev pub IsFaulty : Folder → List ℕ → HeaderFault → Type 0
IsFaulty folder file Damage = IsHeaderDamaged folder file ⊎ HasLastGeneration folder file
IsFaulty folder file Version = IsOtherVersion folder file

abbrev pub IsSlotHeader : Folder → List ℕ → SlotHeader → Type 0
IsSlotHeader folder file CutShort = length file < header_size folder
IsSlotHeader folder file Closed = (¬ HasOpenHeader folder file) × (header_size folder ≤ length file)
IsSlotHeader folder file (Open label) = (header_size folder + 1 ≤ length file) × IsOpen folder label file × (label.number + 1 < 2 ^ 64)
IsSlotHeader folder file (Faulty generation fault) = (generation ≡ number_in file) × IsFaulty folder file fault
