-- What cursor records mean: a map from the name of a subscription to the set of its acknowledged positions.
use Rattle.std.specs.Prelude.{◌≡◌, ℕ, ◌+◌, ◌<◌, ◌≤◌, ◌^◌, true, List, [], ◌∷◌, Option, Some, None}
use Rattle.std.specs.Option.{is_some}
use Rattle.std.specs.FinSet as set
use Rattle.std.specs.FinMap as map
use Rattle.cursor.specs.Positions.{Positions, below, between}
use Rattle.records.specs.declared.record.Record.{Record}
use Rattle.records.specs.declared.record.Record.TheVariants.{Made, Removed, Acknowledged, AcknowledgedThrough, AcknowledgedRange}
use Rattle.records.specs.Names.{is_subscription_name}
use Rattle.records.specs.Maps.{Kept}

-- the subscription that a record is of
abbrev pub name_of : Record → List ℕ
name_of (Made name start) = name
name_of (Removed name) = name
name_of (Acknowledged name position) = name
name_of (AcknowledgedThrough name position) = name
name_of (AcknowledgedRange name first last) = name

-- the set of a name changes so, where the name is there
abbrev pub changed_at : Option Positions → Kept → List ℕ → (Positions → Positions) → Kept
changed_at None kept name change = kept
changed_at (Some acked) kept name change = map.insert kept name (change acked)

abbrev pub changed : Kept → List ℕ → (Positions → Positions) → Kept
changed kept name change = changed_at (map.get kept name) kept name change

-- what a record makes of the set of its subscription, where that stays; of a range both ends are acknowledged
abbrev pub acknowledged : Record → Positions → Positions
acknowledged (Made name start) acked = acked
acknowledged (Removed name) acked = acked
acknowledged (Acknowledged name position) acked = set.insert acked position
acknowledged (AcknowledgedThrough name position) acked = set.union acked (below (position + 1))
acknowledged (AcknowledgedRange name first last) acked = set.union acked (between first (last + 1))

-- what a record makes of the map
abbrev pub after : Record → Kept → Kept
after (Made name start) kept = map.insert kept name (below start)
after (Removed name) kept = map.remove kept name
after (Acknowledged name position) kept = changed kept name (acknowledged (Acknowledged name position))
after (AcknowledgedThrough name position) kept = changed kept name (acknowledged (AcknowledgedThrough name position))
after (AcknowledgedRange name first last) kept = changed kept name (acknowledged (AcknowledgedRange name first last))

-- what records make of it, the first one first
abbrev pub after_all : List Record → Kept → Kept
after_all [] kept = kept
after_all (record' ∷ records) kept = after_all records (after record' kept)

-- the name is there
abbrev pub IsThere : Kept → List ℕ → Type 0
IsThere kept name = is_some (map.get kept name) ≡ true

-- a name that is made: not there yet, and the 64th at most
pub record IsNew (kept : Kept) (name : List ℕ) : Type 0 where
  pub not_there : map.get kept name ≡ None
  pub few : map.len kept < 64

-- a record at its place, beside a ledger of so many entries and what is kept before it
abbrev pub IsPlaced : ℕ → Kept → Record → Type 0
IsPlaced entries kept (Made name start) = IsNew kept name × (start ≤ entries)
IsPlaced entries kept (Removed name) = IsThere kept name
IsPlaced entries kept (Acknowledged name position) = IsThere kept name × (position < entries)
IsPlaced entries kept (AcknowledgedThrough name position) = IsThere kept name × (position < entries)
IsPlaced entries kept (AcknowledgedRange name first last) = IsThere kept name × (first ≤ last) × (last < entries)

-- no position of a record is past 2^62, and its range isn't empty
abbrev pub HasPositions : Record → Type 0
HasPositions (Made name start) = start ≤ 2 ^ 62
HasPositions (Removed name) = Unit {0}
HasPositions (Acknowledged name position) = position < 2 ^ 62
HasPositions (AcknowledgedThrough name position) = position < 2 ^ 62
HasPositions (AcknowledgedRange name first last) = (first ≤ last) × (last < 2 ^ 62)

-- a record of its form there: its name is one, and it is at its place
pub record IsFormed (entries : ℕ) (kept : Kept) (record' : Record) : Type 0 where
  pub name_is : is_subscription_name (name_of record') ≡ true
  pub placed : IsPlaced entries kept record'

-- records of their form, each at its place
abbrev pub AreFormed : ℕ → Kept → List Record → Type 0
AreFormed entries kept [] = Unit {0}
AreFormed entries kept (record' ∷ records) = IsFormed entries kept record' × AreFormed entries (after record' kept) records
