-- A store looks at its own slots alone, and these tell one thing.
use Rattle.std.proofs.Common.{◌≡◌, ℕ, ◌≤◌, ◌^◌, subst, sym, ap, ◌∙◌}
use Rattle.disk.specs.declared.file_id.TopicId.{TopicId}
use Rattle.disk.specs.Disk.{Disk, Image}
use Rattle.disk.specs.Areas.{Agree}
use Rattle.gated_log.specs.Batches.{Bodies}
use Rattle.two_slot.specs.Slots.{SlotsOf}
use Rattle.two_slot.specs.Local.{stands_local_lem as slots_local, holds_local_lem as slots_hold_local, content_local_lem, holds_stand as slots_stand}
use Rattle.two_slot.specs.TwoSlots.{Holds as SlotsHold, start_of as slots_start}
use Rattle.gated_log.specs.Content.{held_content}
use Rattle.disk.specs.Contents.{Settled, Steady}
use Rattle.two_slot.specs.One.{slots_one}
use Rattle.records.specs.Maps.{Kept}
use Rattle.gated_log.specs.declared.start.Start.{Start}
use Rattle.cursor_store.specs.declared.told.Told.{Told}
use Rattle.cursor_store.specs.declared.cursor_store.CursorStore.{CursorStore}
use Rattle.cursor_store.specs.Items.{FitsLedger, untold, told_of}
use Rattle.cursor_store.specs.ItemBytes.{MeansItems}
use Rattle.cursor_store.specs.ItemMeaning.{items_mean_one, items_mean_longer}
use Rattle.cursor_store.specs.Fitting.{told_fits, fits_longer}
use Rattle.cursor_store.specs.Cursors.{Holds, StandsFor, topic_of, written, start_of, content}

pub holds_stand : (store : CursorStore) (entries : ℕ) (start : Start) (image : Image) (kept : Kept) → Holds store entries start image kept → StandsFor (topic_of store) entries start image kept
holds_stand store entries start image kept holds =
    record { said = slots_start store.slots; bodies = holds.bodies; stands = slots_stand store.slots image holds.bodies holds.slots; fits = holds.fits; means = holds.means }

pub holds_start : (store : CursorStore) (entries : ℕ) (start : Start) (image : Image) (kept : Kept) → Holds store entries start image kept → start_of store ≡ start
holds_start store entries start image kept holds = ap (λ (t : Told). t.start) holds.same

pub holds_content : (store : CursorStore) (entries : ℕ) (start : Start) (image : Image) (kept : Kept) → Holds store entries start image kept → content store ≡ kept
holds_content store entries start image kept holds = ap (λ (t : Told). t.kept) holds.same

pub stands_one : (topic : TopicId) (entries : ℕ) (start start' : Start) (image : Image) (one other : Kept) → entries ≤ 2 ^ 62 → StandsFor topic entries start image one → StandsFor topic entries start' image other → (start ≡ start') × (one ≡ other)
stands_one topic entries start start' image one other low is is' =
    let same = slots_one topic image is.said is'.said is.bodies is'.bodies is.stands is'.stands in
    let means = subst (λ (s : Start). MeansItems topic.folder entries (untold s) is.bodies (told_of start' other)) (sym same.0)
    (subst (λ (b : Bodies). MeansItems topic.folder entries (untold is'.said) b (told_of start' other)) (sym same.1) is'.means) in
    let told = items_mean_one topic.folder entries (untold is.said) is.bodies (told_of start one) (told_of start' other) low is.means means in
    (ap (λ (t : Told). t.start) told, ap (λ (t : Told). t.kept) told)

-- what they tell fits the ledger
pub stands_fits : (topic : TopicId) (entries : ℕ) (start : Start) (image : Image) (kept : Kept) → StandsFor topic entries start image kept → FitsLedger entries (told_of start kept)
stands_fits topic entries start image kept is = told_fits topic.folder entries (untold is.said) is.bodies (told_of start kept) is.means is.fits

pub holds_fits : (store : CursorStore) (entries : ℕ) (start : Start) (image : Image) (kept : Kept) → Holds store entries start image kept → FitsLedger entries (told_of start kept)
holds_fits store entries start image kept holds = told_fits (topic_of store).folder entries (untold (slots_start store.slots)) holds.bodies (told_of start kept) holds.means holds.fits

pub stands_longer : (topic : TopicId) (entries more : ℕ) (start : Start) (image : Image) (kept : Kept) → entries ≤ more → StandsFor topic entries start image kept → StandsFor topic more start image kept
stands_longer topic entries more start image kept low is = record {
  said = is.said;
  bodies = is.bodies;
  stands = is.stands;
  fits = fits_longer entries more is.said low is.fits;
  means = items_mean_longer topic.folder entries more (untold is.said) is.bodies (told_of start kept) low is.means;
}

pub holds_longer : (store : CursorStore) (entries more : ℕ) (start : Start) (image : Image) (kept : Kept) → entries ≤ more → Holds store entries start image kept → Holds store more start image kept
holds_longer store entries more start image kept low holds = record {
  bodies = holds.bodies;
  slots = holds.slots;
  fits = fits_longer entries more (slots_start store.slots) low holds.fits;
  means = items_mean_longer (topic_of store).folder entries more (untold (slots_start store.slots)) holds.bodies (told_of start kept) low holds.means;
  same = holds.same;
}

pub stands_local : (topic : TopicId) (entries : ℕ) (start : Start) (a b : Image) (kept : Kept) → Agree (SlotsOf topic) a b → StandsFor topic entries start a kept → StandsFor topic entries start b kept
stands_local topic entries start a b kept same is = record { said = is.said; bodies = is.bodies; stands = slots_local topic a b is.said is.bodies same is.stands; fits = is.fits; means = is.means }

pub holds_local : (store : CursorStore) (entries : ℕ) (start : Start) (a b : Image) (kept : Kept) → Agree (SlotsOf (topic_of store)) a b → Holds store entries start a kept → Holds store entries start b kept
holds_local store entries start a b kept same holds = record { bodies = holds.bodies; slots = slots_hold_local store.slots a b holds.bodies same holds.slots; fits = holds.fits; means = holds.means; same = holds.same }

pub written_local : (store : CursorStore) (a b : Image) → Agree (SlotsOf (topic_of store)) a b → written store b ≡ written store a
written_local store a b same = content_local_lem store.slots a b same

-- ---- over a device

-- all that the store holds, in one list of bodies
pub record InBodies (store : CursorStore) (entries : ℕ) (disk : Disk) (told : Told) (bodies : Bodies) : Type 0 where
  pub slots : Settled (SlotsHold store.slots) disk bodies
  pub fits : FitsLedger entries (untold (slots_start store.slots))
  pub means : MeansItems (topic_of store).folder entries (untold (slots_start store.slots)) bodies told
  pub same : store.told ≡ told

slots_hold : (store : CursorStore) (entries : ℕ) (start : Start) (image : Image) (kept : Kept) (holds : Holds store entries start image kept) (bodies : Bodies) → written store image ≡ bodies → SlotsHold store.slots image bodies
slots_hold store entries start image kept holds bodies is =
    subst (λ (b : Bodies). SlotsHold store.slots image b) (sym (held_content store.slots.log image holds.bodies holds.slots.log) ∙ is) holds.slots

pub in_bodies : (store : CursorStore) (entries : ℕ) (start : Start) (disk : Disk) (kept : Kept) (s : Steady (Holds store entries start) (written store) disk kept) → InBodies store entries disk (told_of start kept) s.settled.now.bodies
in_bodies store entries start disk kept s =
    let there = held_content store.slots.log disk.seen s.settled.now.bodies s.settled.now.slots.log in
    record {
      slots = record {
        honest = s.settled.honest;
        now = s.settled.now.slots;
        left = λ c may. slots_hold store entries start c kept (s.settled.left c may) s.settled.now.bodies (s.steady c may ∙ there);
      };
      fits = s.settled.now.fits;
      means = s.settled.now.means;
      same = s.settled.now.same;
    }

pub settled_in : (store : CursorStore) (entries : ℕ) (start : Start) (disk : Disk) (kept : Kept) (bodies : Bodies) → InBodies store entries disk (told_of start kept) bodies → Steady (Holds store entries start) (written store) disk kept
settled_in store entries start disk kept bodies is = record {
  settled = record {
    honest = is.slots.honest;
    now = record { bodies = bodies; slots = is.slots.now; fits = is.fits; means = is.means; same = is.same };
    left = λ c may. record { bodies = bodies; slots = is.slots.left c may; fits = is.fits; means = is.means; same = is.same };
  };
  steady = λ c may. held_content store.slots.log c bodies (is.slots.left c may).log ∙ sym (held_content store.slots.log disk.seen bodies is.slots.now.log);
}
