-- Which slot counts, by the headers of both.
use Rattle.std.specs.Prelude.{ℕ, nat_lt, if◌then◌else◌, Option, None, Some}
use Rattle.disk.specs.declared.file_id.CursorSlot.TheVariants.{Zero, One}
use Rattle.gated_log.specs.declared.label.Label.{Label}
use Rattle.gated_log.specs.declared.start.Start.{Start}
use Rattle.gated_log.specs.Starts.{untrimmed}
use Rattle.two_slot.specs.declared.choice.Choice.{Choice}
use Rattle.two_slot.specs.declared.choice.Choice.TheVariants.{Refuse, Read, ReadZero}
use Rattle.two_slot.specs.declared.slot_header.SlotHeader.{SlotHeader}
use Rattle.two_slot.specs.declared.slot_header.SlotHeader.TheVariants.{CutShort, Closed, Open, Faulty}
use Rattle.two_slot.specs.declared.slot_header.HeaderFault.TheVariants.{Damage}
use Rattle.two_slot.specs.declared.spare.Spare.{Spare}
use Rattle.two_slot.specs.declared.spare.Spare.TheVariants.{Short, Shut, Lower}

-- Slot 0 is open with this label: the greater generation counts, and of one generation slot 0, behind which that is damage of
-- slot 1.
abbrev pub if_open : Label → SlotHeader → Choice
if_open label CutShort = Read Zero Short
if_open label Closed = Read Zero Shut
if_open label (Open other) =
    if nat_lt other.number label.number then Read Zero Lower
    else if nat_lt label.number other.number then Read One Lower
    else ReadZero Damage
if_open label (Faulty other fault) =
    if nat_lt label.number other then Refuse One fault
    else ReadZero fault

-- Slot 0 is closed: slot 1 counts, where it is open. That none is open is damage of slot 0.
abbrev pub if_closed : Spare → SlotHeader → Choice
if_closed spare CutShort = Refuse Zero Damage
if_closed spare Closed = Refuse Zero Damage
if_closed spare (Open other) = Read One spare
if_closed spare (Faulty other fault) = Refuse One fault

-- what the headers of slot 0 and slot 1 say
abbrev pub choice : SlotHeader → SlotHeader → Choice
choice CutShort one = if_closed Short one
choice Closed one = if_closed Shut one
choice (Open label) one = if_open label one
choice (Faulty generation fault) one = Refuse Zero fault

-- ---- where the ledger begins

-- the generation of an open header, whatever else it says
abbrev pub generation_in : SlotHeader → Option ℕ
generation_in CutShort = None
generation_in Closed = None
generation_in (Open label) = Some label.number
generation_in (Faulty generation fault) = Some generation

-- as a header says that isn't refused
abbrev pub start_in : SlotHeader → Start
start_in CutShort = untrimmed
start_in Closed = untrimmed
start_in (Open label) = label.start
start_in (Faulty generation fault) = untrimmed

abbrev pub start_beside : Option ℕ → Option ℕ → SlotHeader → SlotHeader → Start
start_beside generation None of_zero of_one = start_in of_zero
start_beside None (Some other) of_zero of_one = start_in of_one
start_beside (Some generation) (Some other) of_zero of_one = if nat_lt generation other then start_in of_one else start_in of_zero

-- as that header says which is open with the greater generation; of one generation that of slot 0
abbrev pub start_by : SlotHeader → SlotHeader → Start
start_by zero one = start_beside (generation_in zero) (generation_in one) zero one
