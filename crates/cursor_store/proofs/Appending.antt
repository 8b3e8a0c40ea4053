-- A body more.
use Rattle.std.proofs.Common.{◌≡◌, ⊎_elim, inl, inr, ℕ, List, [], ◌∷◌, ◌++◌, sym, ◌∙◌, ap, subst}
use Rattle.disk.specs.Disk.{Disk, Image}
use Rattle.disk.specs.Areas.{Within, weaken_within}
use Rattle.gated_log.specs.Batches.{Bodies}
use Rattle.disk.specs.Contents.{Settled, Steady, InDoubt, BeforeOrAfter}
use Rattle.two_slot.specs.declared.slots_id.SlotsId.{SlotsId}
use Rattle.two_slot.specs.declared.two_slot.TwoSlot.{TwoSlot}
use Rattle.two_slot.specs.Slots.{SlotsOf, Stands}
use Rattle.two_slot.specs.TwoSlots.{Holds as SlotsHold, content as slots_content, start_of as slots_start, slots_id, generation_of}
use Rattle.gated_log.specs.Content.{held_content}
use Rattle.records.specs.declared.record.Record.{Record}
use Rattle.records.specs.Maps.{Kept}
use Rattle.records.specs.Records.{after_all}
use Rattle.gated_log.specs.declared.start.Start.{Start}
use Rattle.cursor_store.specs.declared.told.Told.{Told}
use Rattle.cursor_store.specs.declared.cursor_store.CursorStore.{CursorStore}
use Rattle.cursor_store.specs.Items.{FitsLedger, untold, told_of}
use Rattle.cursor_store.specs.ItemBytes.{IsItemsBody, MeansItems}
use Rattle.cursor_store.specs.ItemMeaning.{items_mean_more}
use Rattle.cursor_store.specs.Cursors.{Holds, StandsFor, written, topic_of, replaces_in}
use Rattle.cursor_store.specs.Laws.{InBodies, settled_in}

-- what the slots stand for, with the start that they say now
abbrev pub Said : TwoSlot → Image → Bodies → Type 0
Said slots image bodies = Stands slots.topic image (slots_start slots) bodies

-- slots of the same name say the same start, in a folder of the same version
fits_so : (old new : TwoSlot) (entries : ℕ) → slots_id new ≡ slots_id old → FitsLedger entries (untold (slots_start old)) → FitsLedger entries (untold (slots_start new))
fits_so old new entries same fits = subst (λ (id : SlotsId). FitsLedger entries (untold id.start)) (sym same) fits

means_so : (old new : TwoSlot) (entries : ℕ) (bodies : Bodies) (told : Told) → slots_id new ≡ slots_id old → MeansItems old.topic.folder entries (untold (slots_start old)) bodies told → MeansItems new.topic.folder entries (untold (slots_start new)) bodies told
means_so old new entries bodies told same means = subst (λ (id : SlotsId). MeansItems id.topic.folder entries (untold id.start) bodies told) (sym same) means

pub added : (old new : CursorStore) (entries : ℕ) (d0 d1 : Disk) (start : Start) (kept kept' : Kept) (body : List ℕ) (bodies : Bodies) → slots_id new.slots ≡ slots_id old.slots → new.told ≡ told_of start kept'
    → IsItemsBody (topic_of old).folder entries (told_of start kept) body (told_of start kept') → InBodies old entries d0 (told_of start kept) bodies → Settled (SlotsHold new.slots) d1 (bodies ++ body ∷ []) → Steady (Holds new entries start) (written new) d1 kept'
added old new entries d0 d1 start kept kept' body bodies ids told says is grown =
    let means = items_mean_more (topic_of old).folder entries (untold (slots_start old.slots)) bodies (told_of start kept) body (told_of start kept') is.means says in
    settled_in new entries start d1 kept' (bodies ++ body ∷ []) (record {
      slots = grown;
      fits = fits_so old.slots new.slots entries ids is.fits;
      means = means_so old.slots new.slots entries (bodies ++ body ∷ []) (told_of start kept') ids means;
      same = told;
    })

-- what is kept is swapped for what records make of it
pub swapped : (old : Told) (start : Start) (before kept : Kept) (records : List Record) → old ≡ told_of start before → kept ≡ after_all records old.kept → told_of old.start kept ≡ told_of start (after_all records before)
swapped old start before kept records same is = λ i. told_of (same i).start ((is ∙ ap (λ (t : Told). after_all records t.kept) same) i)

-- the bodies of a crash image, as what they tell
either : (old : CursorStore) (entries : ℕ) (c : Image) (d0 : Disk) (start : Start) (kept kept' : Kept) (body : List ℕ) (bodies : Bodies) → IsItemsBody (topic_of old).folder entries (told_of start kept) body (told_of start kept')
    → InBodies old entries d0 (told_of start kept) bodies → BeforeOrAfter (Said old.slots) bodies (bodies ++ body ∷ []) c → BeforeOrAfter (StandsFor (topic_of old) entries start) kept kept' c
either old entries c d0 start kept kept' body bodies says is which =
    let said = slots_start old.slots in
    let means = items_mean_more (topic_of old).folder entries (untold said) bodies (told_of start kept) body (told_of start kept') is.means says in
    ⊎_elim
    (λ stands. inl (record { said = said; bodies = bodies; stands = stands; fits = is.fits; means = is.means }))
    (λ stands. inr (record { said = said; bodies = bodies ++ body ∷ []; stands = stands; fits = is.fits; means = means }))
    which

-- records more
pub in_doubt : (old : CursorStore) (new : TwoSlot) (entries : ℕ) (d0 d1 : Disk) (start : Start) (kept kept' : Kept) (body : List ℕ) (bodies : Bodies) → IsItemsBody (topic_of old).folder entries (told_of start kept) body (told_of start kept')
    → InBodies old entries d0 (told_of start kept) bodies → InDoubt (slots_content new) (Said old.slots) d1 bodies (bodies ++ body ∷ []) → InDoubt (λ c. old.told.kept) (StandsFor (topic_of old) entries start) d1 kept kept'
in_doubt old new entries d0 d1 start kept kept' body bodies says is doubt = record {
  honest = doubt.honest;
  now = ap (λ (t : Told). t.kept) is.same;
  same = λ c may. ap (λ (t : Told). t.kept) is.same;
  left = λ c may. either old entries c d0 start kept kept' body bodies says is (doubt.left c may);
}

pub within : (old : CursorStore) (entries : ℕ) (d0 d1 : Disk) (start : Start) (kept kept' : Kept) (body : List ℕ) (bodies : Bodies) → IsItemsBody (topic_of old).folder entries (told_of start kept) body (told_of start kept')
    → InBodies old entries d0 (told_of start kept) bodies → Within (SlotsOf (topic_of old)) (BeforeOrAfter (Said old.slots) bodies (bodies ++ body ∷ [])) d0 d1
    → Within (SlotsOf (topic_of old)) (BeforeOrAfter (StandsFor (topic_of old) entries start) kept kept') d0 d1
within old entries d0 d1 start kept kept' body bodies says is w =
    weaken_within (SlotsOf (topic_of old)) _ _ d0 d1 (λ c which. either old entries c d0 start kept kept' body bodies says is which) w

-- a body more is written
pub one_more : (old new : TwoSlot) (d0 d1 : Disk) (bodies : Bodies) (body : List ℕ) → Settled (SlotsHold old) d0 bodies → Settled (SlotsHold new) d1 (bodies ++ body ∷ []) → slots_content new d1.seen ≡ slots_content old d0.seen ++ body ∷ []
one_more old new d0 d1 bodies body held grown =
    held_content new.log d1.seen (bodies ++ body ∷ []) grown.now.log ∙ ap (λ (b : Bodies). b ++ body ∷ []) (sym (held_content old.log d0.seen bodies held.now.log))

-- and no generation is taken
pub left_so : (old new : TwoSlot) → slots_id new ≡ slots_id old → replaces_in new.topic.folder (generation_of new) ≡ replaces_in old.topic.folder (generation_of old)
left_so old new same = ap (λ (id : SlotsId). replaces_in id.topic.folder id.generation) same
