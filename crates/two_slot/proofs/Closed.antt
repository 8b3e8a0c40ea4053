-- The header of the slot that doesn't count is closed.
use Rattle.std.proofs.Common.{◌≡◌, ◌≢◌, inl, inr, ℕ, ◌≤◌, ◌<◌, List, [], ◌∷◌, ◌++◌, length, get_or, drop, refl, sym, ◌∙◌, ap, subst, arith}
use Rattle.std.proofs.lemmas.Bool.{cases_eq}
use Rattle.disk.specs.declared.file_id.FileId.{FileId}
use Rattle.disk.specs.Disk.{Disk, Image, Changes, Overwritten, Torn, Leaves, After, Undisturbed}
use Rattle.disk.specs.Moments.{weaken}
use Rattle.disk.specs.declared.file_id.Folder.{Folder}
use Rattle.disk.specs.declared.file_id.Folder.TheVariants.{One, Two}
use Rattle.disk.specs.Areas.{Within, folder_of}
use Rattle.gated_log.specs.Labels.{header, header_size}
use Rattle.gated_log.specs.Headers.{HasOpenHeader, IsShut}
use Rattle.gated_log.specs.Torn.{torn_behind, written_behind, torn_gate}
use Rattle.two_slot.specs.declared.spare.Spare.{Spare}
use Rattle.two_slot.specs.declared.spare.Spare.TheVariants.{Short, Shut, Lower}
use Rattle.two_slot.specs.Slots.{Yields, IsLower}
use Rattle.two_slot.specs.TwoSlots.{IsSpare}
use Rattle.two_slot.specs.Closing.{closing}

not_open : (folder : Folder) (gate : ℕ) (rest file : List ℕ) → gate ≢ 1 → file ≡ gate ∷ rest → ¬ HasOpenHeader folder file
not_open folder gate rest file closed is = λ is_open. closed (ap (λ (l : List ℕ). get_or l 0 0) (sym is ∙ is_open.bytes))

-- a long file without an open header begins with a closed gate
shut_of : (folder : Folder) (file : List ℕ) → ¬ HasOpenHeader folder file → header_size folder ≤ length file → IsShut file
shut_of One [] none long = absurd (omega (arith, long))
shut_of Two [] none long = absurd (omega (arith, long))
shut_of folder (gate ∷ rest) none long = record {
  gate = gate;
  rest = rest;
  closed = λ is. none (record { rest = rest; bytes = ap (λ (g : ℕ). g ∷ rest) is; whole = long });
  bytes = refl;
}

-- a slot with fewer bytes than a header stays so where its first byte is written
short_torn : (folder : Folder) (g : ℕ) (old new : List ℕ) → length old < header_size folder → Torn 0 1 old new → Yields folder g new
short_torn One g old new short torn = inl (λ is_open. omega (arith, short, torn.no_longer, is_open.whole))
short_torn Two g old new short torn = inl (λ is_open. omega (arith, short, torn.no_longer, is_open.whole))

-- a byte behind a closed gate
shut_torn : (folder : Folder) (g : ℕ) (old new : List ℕ) → IsShut old → Torn 1 1 old new → Yields folder g new
shut_torn folder g old new is torn =
    inl (not_open folder is.gate (drop 1 new) new is.closed (torn_behind [] is.rest is.gate 0 refl 1 new (subst (λ (f : List ℕ). Torn 1 1 f new) is.bytes torn)))

-- the gate of a lower generation
lower_torn : (folder : Folder) (g : ℕ) (old new : List ℕ) → IsLower folder g old → Torn 0 1 old new → Yields folder g new
lower_torn folder g old new low torn =
    let rest = drop 1 (header folder 1 low.earlier) ++ low.is_open.rest in
    let bytes = torn_gate [] rest 1 0 refl new (subst (λ (f : List ℕ). Torn 0 1 f new) low.is_open.bytes torn) in
    elim (cases_eq (get_or new 0 0) 1) [
      | inl is ↦ inr (record {
        earlier = low.earlier;
        less = low.less;
        long = omega (arith, low.long, torn.no_shorter);
        is_open = record { rest = low.is_open.rest; in_range = low.is_open.in_range; bytes = bytes ∙ ap (λ (b : ℕ). b ∷ rest) is };
      })
      | inr closed ↦ inl (not_open folder (get_or new 0 0) rest new closed bytes)
    ]

torn : (folder : Folder) (spare : Spare) (g : ℕ) (old new : List ℕ) → IsSpare folder spare g old → Torn (closing spare).0 1 old new → Yields folder g new
torn folder Short g old new is cut = short_torn folder g old new is cut
torn folder Shut g old new is cut = shut_torn folder g old new (shut_of folder old is.0 is.1) cut
torn folder Lower g old new is cut = lower_torn folder g old new is cut

-- what is written is closed
pub shut : (folder : Folder) (spare : Spare) (g : ℕ) (old new : List ℕ) → IsSpare folder spare g old → Overwritten (closing spare).0 ((closing spare).1 ∷ []) old new → IsShut new
shut folder Short g old new is over = record { gate = 0; rest = drop 1 old; closed = λ e. cc; bytes = over }
shut folder Lower g old new is over = record { gate = 0; rest = drop 1 old; closed = λ e. cc; bytes = over }
shut folder Shut g old new is over =
    let was = shut_of folder old is.0 is.1 in
    record {
      gate = was.gate;
      rest = 0x50 ∷ drop 2 (was.gate ∷ was.rest);
      closed = was.closed;
      bytes = written_behind [] was.rest was.gate 0 refl (0x50 ∷ []) new (subst (λ (f : List ℕ). Overwritten 1 (0x50 ∷ []) f new) was.bytes over);
    }

-- and the byte stands in the file, or at its end
pub there : (folder : Folder) (spare : Spare) (g : ℕ) (old : List ℕ) → IsSpare folder spare g old → (closing spare).0 ≤ length old
there folder Short g old is = omega arith
there One Shut g old is = omega (arith, is.1)
there Two Shut g old is = omega (arith, is.1)
there folder Lower g old is = omega arith

pub closed_within : (file : FileId) (spare : Spare) (g at : ℕ) (d0 d1 : Disk) → at ≡ (closing spare).0 → ((c : Image) → d0.may_leave c → IsSpare (folder_of file) spare g (c file)) → Undisturbed (λ f. f ≢ file) d0 d1
    → Leaves (After d0 (Changes file (Torn at 1))) d0 d1 → Within (λ f. f ≡ file) (λ c. Yields (folder_of file) g (c file)) d0 d1
closed_within file spare g at d0 d1 place left calm leaves = record {
  seen = calm.seen;
  any_moment = weaken _ _ d0 d1 leaves (λ c after. record {
    from = after.0;
    left = after.1;
    elsewhere = after.2.elsewhere;
    own = torn (folder_of file) spare g (after.0 file) (c file) (left after.0 after.1) (subst (λ (n : ℕ). Torn n 1 (after.0 file) (c file)) place after.2.there);
  });
}

pub closed_alone : (file : FileId) (at : ℕ) (d0 d1 : Disk) → Undisturbed (λ f. f ≢ file) d0 d1 → Leaves (After d0 (Changes file (Torn at 1))) d0 d1 → Within (λ f. f ≡ file) (λ c. Unit {0}) d0 d1
closed_alone file at d0 d1 calm leaves = record {
  seen = calm.seen;
  any_moment = weaken _ _ d0 d1 leaves (λ c after. record { from = after.0; left = after.1; elsewhere = after.2.elsewhere; own = tt });
}
