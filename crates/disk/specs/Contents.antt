-- What a value that keeps something in files, and the device, hold together: of any content.
use Rattle.std.proofs.Common.{◌≡◌, ◌⊎◌, sym, true≢false, Result, Ok, Err, OnOk, IsErr, IsErrAnd}
use Rattle.disk.specs.declared.file_id.FileId.{FileId}
use Rattle.disk.specs.Disk.{Disk, Image}
use Rattle.disk.specs.Areas.{Within}

-- It works, with this content: what reads give holds it, and so does whatever a crash now leaves.
pub record Settled {C : Type 0} (holds : Image → C → Type 0) (disk : Disk) (content : C) : Type 0 where
  pub honest : disk.honest
  pub now : holds disk.seen content
  pub left : (c : Image) → disk.may_leave c → holds c content

-- It works so, and what was written is the same in all of these images.
pub record Steady {C B : Type 0} (holds : Image → C → Type 0) (written : Image → B) (disk : Disk) (content : C) : Type 0 where
  pub settled : Settled holds disk content
  pub steady : (c : Image) → disk.may_leave c → written c ≡ written disk.seen

-- an image stands for the old content or for the new one
abbrev pub BeforeOrAfter : {C : Type 0} → (Image → C → Type 0) → C → C → Image → Type 0
BeforeOrAfter stands old new image = stands image old ⊎ stands image new

-- A call failed: it remembers the old content, in what reads give and in whatever a crash now leaves, and a crash leaves the old
-- content or the new one.
pub record InDoubt {C : Type 0} (remembered : Image → C) (stands : Image → C → Type 0) (disk : Disk) (old new : C) : Type 0 where
  pub honest : disk.honest
  pub now : remembered disk.seen ≡ old
  pub same : (c : Image) → disk.may_leave c → remembered c ≡ old
  pub left : (c : Image) → disk.may_leave c → BeforeOrAfter stands old new c

-- What an append promises where the value worked with the old content: at `Ok` it works with the new one; an error leaves it in
-- doubt; and a crash at any moment of the call leaves one of the two, and the files outside the area as they were.
pub record Appends {T E C : Type 0} (result : Result T E) (works : Disk → C → Type 0) (remembered : Image → C) (area : FileId → Type 0) (stands : Image → C → Type 0) (before after : Disk) (old new : C) : Type 0 where
  pub added : OnOk result (works after new)
  pub in_doubt : IsErr result → InDoubt remembered stands after old new
  pub within : Within area (BeforeOrAfter stands old new) before after

-- what it remembers stays, and what it holds
pub record StaysSo {C : Type 0} (holds holds' : Image → C → Type 0) (remembered remembered' : Image → C) : Type 0 where
  pub holds_still : (c : Image) (content : C) → holds c content → holds' c content
  pub same : (c : Image) → remembered' c ≡ remembered c

-- it went well
pub at_ok : {T E C : Type 0} {x : T} {works : Disk → C → Type 0} {remembered : Image → C} {area : FileId → Type 0} {stands : Image → C → Type 0} {before after : Disk} {old new : C}
    → works after new → Within area (BeforeOrAfter stands old new) before after → Appends {T = T} {E = E} (Ok x) works remembered area stands before after old new
at_ok works within = record { added = works; in_doubt = λ no. absurd (true≢false (sym no)); within = within }

-- it failed
pub at_err : {T E C : Type 0} {works : Disk → C → Type 0} {remembered : Image → C} {area : FileId → Type 0} {stands : Image → C → Type 0} {before after : Disk} {old new : C} (result : Result T E) (Q : E → Type 0)
    → IsErrAnd result Q → InDoubt remembered stands after old new → Within area (BeforeOrAfter stands old new) before after → Appends result works remembered area stands before after old new
at_err (Ok x) Q is doubt within = absurd is
at_err (Err e) Q is doubt within = record { added = tt; in_doubt = λ _. doubt; within = within }
