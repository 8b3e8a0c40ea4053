-- What is kept is written anew, and records behind it.
use Rattle.std.proofs.Common.{◌≡◌, ◌⊎◌, ⊎_elim, inl, inr, ℕ, ◌+◌, ◌<◌, ◌≤◌, ◌^◌, Bool, true, false, ◌&&◌, nat_le, nat_lt, min, Option, Some, None, Result, refl, sym, ◌∙◌, ap, subst, arith}
use Rattle.std.specs.Prelude.{is_some, if◌then◌else◌}
use Rattle.std.proofs.lemmas.Bool.Decides.{nat_tests}
use Rattle.disk.specs.declared.file_id.Folder.{Folder}
use Rattle.disk.specs.declared.file_id.Folder.TheVariants.{One, Two}
use Rattle.disk.specs.declared.file_id.TopicId.{TopicId}
use Rattle.disk.specs.Disk.{Disk, Image}
use Rattle.disk.specs.Areas.{Within, stays_within, both_within, weaken_within}
use Rattle.disk.specs.Contents.{Settled, Steady, InDoubt, Appends, BeforeOrAfter}
use Rattle.gated_log.specs.declared.prepared_log.PreparedLog.{PreparedLog}
use Rattle.gated_log.specs.Batches.{Bodies}
use Rattle.two_slot.specs.declared.two_slot.TwoSlot.{TwoSlot}
use Rattle.two_slot.specs.Slots.{SlotsOf, Stands}
use Rattle.two_slot.specs.TwoSlots.{Holds as SlotsHold, content as slots_content, start_of as slots_start, generation_of}
use Rattle.records.specs.Maps.{Kept}
use Rattle.gated_log.specs.declared.start.Start.{Start}
use Rattle.cursor_store.specs.declared.told.Told.{Told}
use Rattle.cursor_store.specs.Items.{FitsLedger, untold, told_of}
use Rattle.cursor_store.specs.ItemBytes.{MeansItems, Means}
use Rattle.cursor_store.specs.Fitting.{first_fits}
use Rattle.cursor_store.specs.declared.cursor_store.CursorStore.{CursorStore}
use Rattle.cursor_store.specs.Cursors.{Holds, StandsFor, written, topic_of, counted, replaces_in, replaces_left, can_replace, is_due}
use Rattle.cursor_store.specs.Behind.{is_due_at, counted_on, IsNextBase}
use Rattle.gated_log.specs.Content.{held_content}
use Rattle.cursor_store.specs.Laws.{InBodies, settled_in, holds_stand, holds_fits}
use Rattle.cursor_store.specs.Replaced.{HasReplaced}
use Rattle.cursor_store.specs.Snapshots.{IsSnapshot, IsSnapshotIf}

-- a snapshot that was prepared is of what is told
snapshot_there : (due : Bool) (told : Told) (log : PreparedLog) → IsSnapshotIf due told (Some log) → (entries : ℕ) → FitsLedger entries told → IsSnapshot entries log told
snapshot_there true told log is entries fits = is entries fits
snapshot_there false told log is entries fits = absurd is

pub snapshot_of : (due : Bool) (store : CursorStore) (log : PreparedLog) (entries : ℕ) (start : Start) (disk : Disk) (kept : Kept) → IsSnapshotIf due store.told (Some log) → (s : Steady (Holds store entries start) (written store) disk kept) → IsSnapshot entries log (told_of start kept)
snapshot_of due store log entries start disk kept is s =
    let held = s.settled.now in
    subst (λ (t : Told). IsSnapshot entries log t) held.same
    (snapshot_there due store.told log is entries (subst (λ (t : Told). FitsLedger entries t) (sym held.same) (holds_fits store entries start disk.seen kept held)))

-- What a replace writes in a folder of version 2: behind a header that says this start, bodies that tell it and what is kept from nothing.
pub record IsAnew (topic : TopicId) (entries : ℕ) (start : Start) (kept : Kept) (anew : Bodies) : Type 0 where
  pub two : topic.folder ≡ Two
  pub fits : FitsLedger entries (untold start)
  pub means : MeansItems Two entries (untold start) anew (told_of start kept)

pub anew_of : (topic : TopicId) (entries : ℕ) (start : Start) (kept : Kept) (log : PreparedLog) → topic.folder ≡ Two → FitsLedger entries (told_of start kept) → (snapshot : IsSnapshot entries log (told_of start kept)) → IsAnew topic entries start kept snapshot.bodies
anew_of topic entries start kept log two fits snapshot = record { two = two; fits = first_fits entries (told_of start kept) fits; means = snapshot.means }

pub means_in : (folder : Folder) (entries : ℕ) (start said : Start) (kept : Kept) (anew : Bodies) → folder ≡ Two → said ≡ start → MeansItems Two entries (untold start) anew (told_of start kept) → MeansItems folder entries (untold said) anew (told_of start kept)
means_in folder entries start said kept anew two same means =
    subst (λ (f : Folder). MeansItems f entries (untold said) anew (told_of start kept)) (sym two) (subst (λ (s : Start). MeansItems Two entries (untold s) anew (told_of start kept)) (sym same) means)

-- slots that stand for a start and bodies
abbrev pub StandsBy : TopicId → Image → Start × Bodies → Type 0
StandsBy topic image now = Stands topic image now.0 now.1

pub anew_stands : (topic : TopicId) (entries : ℕ) (start said : Start) (image : Image) (kept : Kept) (anew : Bodies) → IsAnew topic entries start kept anew → said ≡ start → Stands topic image said anew → StandsFor topic entries start image kept
anew_stands topic entries start said image kept anew is same stands = record {
  said = start;
  bodies = anew;
  stands = subst (λ (s : Start). Stands topic image s anew) same stands;
  fits = is.fits;
  means = means_in topic.folder entries start start kept anew is.two refl is.means;
}

-- the bodies of a crash image, as what they tell
either : (old : CursorStore) (entries : ℕ) (from start said : Start) (c : Image) (d0 : Disk) (kept : Kept) (bodies anew : Bodies) → InBodies old entries d0 (told_of from kept) bodies → IsAnew (topic_of old) entries start kept anew → said ≡ start
    → BeforeOrAfter (StandsBy (topic_of old)) (slots_start old.slots, bodies) (said, anew) c → StandsFor (topic_of old) entries from c kept ⊎ StandsFor (topic_of old) entries start c kept
either old entries from start said c d0 kept bodies anew is next same which =
    ⊎_elim
    (λ stands. inl (record { said = slots_start old.slots; bodies = bodies; stands = stands; fits = is.fits; means = is.means }))
    (λ stands. inr (anew_stands (topic_of old) entries start said c kept anew next same stands))
    which

-- what is kept stays
pub anew_within : (old : CursorStore) (entries : ℕ) (start said : Start) (d0 d1 : Disk) (kept : Kept) (bodies anew : Bodies) → InBodies old entries d0 (told_of start kept) bodies → IsAnew (topic_of old) entries start kept anew → said ≡ start
    → Within (SlotsOf (topic_of old)) (BeforeOrAfter (StandsBy (topic_of old)) (slots_start old.slots, bodies) (said, anew)) d0 d1 → Within (SlotsOf (topic_of old)) (BeforeOrAfter (StandsFor (topic_of old) entries start) kept kept) d0 d1
anew_within old entries start said d0 d1 kept bodies anew is next same w =
    weaken_within (SlotsOf (topic_of old)) _ _ d0 d1 (λ c which. either old entries start start said c d0 kept bodies anew is next same which) w

pub anew_doubt : (old : CursorStore) (remembered : Image → Start × Bodies) (entries : ℕ) (start said : Start) (d0 d1 : Disk) (kept : Kept) (bodies anew : Bodies) → InBodies old entries d0 (told_of start kept) bodies → IsAnew (topic_of old) entries start kept anew
    → said ≡ start → InDoubt remembered (StandsBy (topic_of old)) d1 (slots_start old.slots, bodies) (said, anew) → InDoubt (λ c. old.told.kept) (StandsFor (topic_of old) entries start) d1 kept kept
anew_doubt old remembered entries start said d0 d1 kept bodies anew is next same doubt = record {
  honest = doubt.honest;
  now = ap (λ (t : Told). t.kept) is.same;
  same = λ c may. ap (λ (t : Told). t.kept) is.same;
  left = λ c may. either old entries start start said c d0 kept bodies anew is next same (doubt.left c may);
}

-- the start moves
pub trim_within : (old : CursorStore) (entries : ℕ) (from start said : Start) (d0 d1 : Disk) (kept : Kept) (bodies anew : Bodies) → InBodies old entries d0 (told_of from kept) bodies → IsAnew (topic_of old) entries start kept anew → said ≡ start
    → Within (SlotsOf (topic_of old)) (BeforeOrAfter (StandsBy (topic_of old)) (slots_start old.slots, bodies) (said, anew)) d0 d1
    → Within (SlotsOf (topic_of old)) (BeforeOrAfter (λ image s. StandsFor (topic_of old) entries s image kept) from start) d0 d1
trim_within old entries from start said d0 d1 kept bodies anew is next same w =
    weaken_within (SlotsOf (topic_of old)) _ _ d0 d1 (λ c which. either old entries from start said c d0 kept bodies anew is next same which) w

pub trim_doubt : (old : CursorStore) (remembered : Image → Start × Bodies) (entries : ℕ) (from start said : Start) (d0 d1 : Disk) (kept : Kept) (bodies anew : Bodies) → InBodies old entries d0 (told_of from kept) bodies → IsAnew (topic_of old) entries start kept anew
    → said ≡ start → InDoubt remembered (StandsBy (topic_of old)) d1 (slots_start old.slots, bodies) (said, anew) → InDoubt (λ c. old.told.start) (λ image s. StandsFor (topic_of old) entries s image kept) d1 from start
trim_doubt old remembered entries from start said d0 d1 kept bodies anew is next same doubt = record {
  honest = doubt.honest;
  now = ap (λ (t : Told). t.start) is.same;
  same = λ c may. ap (λ (t : Told). t.start) is.same;
  left = λ c may. either old entries from start said c d0 kept bodies anew is next same (doubt.left c may);
}

pub anew_settled : (new : CursorStore) (topic : TopicId) (entries : ℕ) (start said : Start) (d1 : Disk) (kept : Kept) (anew : Bodies) → topic_of new ≡ topic → new.told ≡ told_of start kept → IsAnew topic entries start kept anew → said ≡ start
    → (slots_start new.slots ≡ said) × Settled (SlotsHold new.slots) d1 anew → Steady (Holds new entries start) (written new) d1 kept
anew_settled new topic entries start said d1 kept anew topics told is same held = settled_in new entries start d1 kept anew (record {
  slots = held.1;
  fits = subst (λ (s : Start). FitsLedger entries (untold s)) (sym (held.0 ∙ same)) is.fits;
  means = means_in (topic_of new).folder entries start (slots_start new.slots) kept anew (ap (λ (t : TopicId). t.folder) topics ∙ is.two) (held.0 ∙ same) is.means;
  same = told;
})

-- nothing was asked of the device
pub stays_so : (store : CursorStore) (entries : ℕ) (start : Start) (d : Disk) (kept : Kept) → Steady (Holds store entries start) (written store) d kept → Within (SlotsOf (topic_of store)) (BeforeOrAfter (StandsFor (topic_of store) entries start) kept kept) d d
stays_so store entries start d kept s = stays_within (SlotsOf (topic_of store)) _ d (λ c may. inl (holds_stand store entries start c kept (s.settled.left c may)))

-- ---- and records behind it

once : {A : Type 0} → (A ⊎ A) → A
once (inl x) = x
once (inr x) = x

pub first_within : (t : TopicId) (entries : ℕ) (start : Start) (d0 d1 : Disk) (kept next : Kept) → Within (SlotsOf t) (BeforeOrAfter (StandsFor t entries start) kept kept) d0 d1 → Within (SlotsOf t) (BeforeOrAfter (StandsFor t entries start) kept next) d0 d1
first_within t entries start d0 d1 kept next w = weaken_within (SlotsOf t) _ _ d0 d1 (λ c which. inl (once which)) w

pub first_doubt : (remembered : Image → Kept) (t : TopicId) (entries : ℕ) (start : Start) (d : Disk) (kept next : Kept) → InDoubt remembered (StandsFor t entries start) d kept kept → InDoubt remembered (StandsFor t entries start) d kept next
first_doubt remembered t entries start d kept next doubt = record { honest = doubt.honest; now = doubt.now; same = doubt.same; left = λ c may. inl (once (doubt.left c may)) }

behind : {T E : Type 0} {result : Result T E} {works : Disk → Kept → Type 0} {remembered : Image → Kept} (t : TopicId) (entries : ℕ) (start : Start) (d0 d1 d2 : Disk) (kept next : Kept)
    → Within (SlotsOf t) (BeforeOrAfter (StandsFor t entries start) kept kept) d0 d1 → Appends result works remembered (SlotsOf t) (StandsFor t entries start) d1 d2 kept next
    → Appends result works remembered (SlotsOf t) (StandsFor t entries start) d0 d2 kept next
behind t entries start d0 d1 d2 kept next w appended = record {
  added = appended.added;
  in_doubt = appended.in_doubt;
  within = both_within (SlotsOf t) _ _ (BeforeOrAfter (StandsFor t entries start) kept next) d0 d1 d2 (λ c which. inl (once which)) (λ c which. which) w appended.within;
}

pub both : {T E : Type 0} {result : Result T E} {works : Disk → Kept → Type 0} {remembered : Image → Kept} (t t' : TopicId) (entries : ℕ) (start : Start) (d0 d1 d2 : Disk) (kept next : Kept) → t' ≡ t
    → Within (SlotsOf t) (BeforeOrAfter (StandsFor t entries start) kept kept) d0 d1 → Appends result works remembered (SlotsOf t') (StandsFor t' entries start) d1 d2 kept next
    → Appends result works remembered (SlotsOf t) (StandsFor t entries start) d0 d2 kept next
both {result = result} {works = works} {remembered = remembered} t t' entries start d0 d1 d2 kept next same w appended =
    behind t entries start d0 d1 d2 kept next w (subst (λ (n : TopicId). Appends result works remembered (SlotsOf n) (StandsFor n entries start) d1 d2 kept next) same appended)

-- ---- the count

pub counted_so : (due : Bool) (old mid : CursorStore) (is more records : ℕ) → HasReplaced due old mid → is ≡ min 4096 (counted mid + more) → more ≡ records → is ≡ counted_on due (counted old) records
counted_so true old mid is more records replaced says same = says ∙ ap (λ (n : ℕ). min 4096 n) (let none = replaced.count in omega (arith, none, same))
counted_so false old mid is more records replaced says same = says ∙ (λ i. min 4096 (counted (replaced i) + same i))

-- ---- whether one is due

-- a replace is left: the folder is of version 2, and there is a generation
pub left_means : (folder : Folder) (g : ℕ) → 0 < replaces_in folder g → (folder ≡ Two) × (g + 2 < 2 ^ 64)
left_means One g some = absurd (omega (arith, some))
left_means Two g some = (refl, omega (arith, some))

pub can_means : (folder : Folder) (g : ℕ) → nat_lt 0 (replaces_in folder g) ≡ true → (folder ≡ Two) × (g + 2 < 2 ^ 64)
can_means folder g can = left_means folder g (grind (arith, nat_tests))

pub not_due : (appended : ℕ) (can : Bool) → appended < 4096 → false ≡ is_due_at appended can
not_due appended can few = let t : nat_le 4096 appended ≡ false = grind (arith, nat_tests) in ap (λ (b : Bool). b && can) (sym t)

pub due_is : (appended : ℕ) (can : Bool) → 4096 ≤ appended → can ≡ is_due_at appended can
due_is appended can many = let t : nat_le 4096 appended ≡ true = grind (arith, nat_tests) in ap (λ (b : Bool). b && can) (sym t)

and_true : (a b : Bool) → (a && b) ≡ true → b ≡ true
and_true true b is = is
and_true false b is = cc

pub due_can : (count : ℕ) (can : Bool) → is_due_at count can ≡ true → can ≡ true
due_can count can is = and_true (nat_le 4096 count) can is

-- where none was prepared, none is due
pub none_due : (due : Bool) (old : CursorStore) → IsSnapshotIf due old.told None → HasReplaced due old old
none_due true old is = absurd is
none_due false old is = refl

-- and where one was, it is
pub one_due : (due : Bool) (told : Told) (log : PreparedLog) → IsSnapshotIf due told (Some log) → due ≡ true
one_due true told log is = refl
one_due false told log is = absurd is

pub some_due : (due : Bool) (told : Told) (found : Option PreparedLog) → IsSnapshotIf due told found → is_some found ≡ due
some_due true told None is = absurd is
some_due true told (Some log) is = refl
some_due false told None is = refl
some_due false told (Some log) is = absurd is

-- so that there is a generation for it
pub one_can : (old : CursorStore) (log : PreparedLog) (can : Bool) → IsSnapshotIf (is_due old) old.told (Some log) → can ≡ can_replace old → can ≡ false → ⊥
one_can old log can is says cannot = let e : true ≡ false = sym (due_can (counted old) (can_replace old) (one_due (is_due old) old.told log is)) ∙ sym says ∙ cannot in cc

pub next_one : (due : Bool) (old new : CursorStore) (log : PreparedLog) → IsSnapshotIf due old.told (Some log) → generation_of new.slots ≡ generation_of old.slots + 1 → counted new ≡ 0 → HasReplaced due old new
next_one true old new log is generation count = record { generation = generation; count = count }
next_one false old new log is generation count = absurd is

-- ---- how many are left

one_fewer : (folder : Folder) (g h : ℕ) → 0 < replaces_in folder g → h ≡ g + 1 → replaces_in folder h + 1 ≡ replaces_in folder g
one_fewer One g h some next = absurd (omega (arith, some))
one_fewer Two g h some next = omega (arith, some, next)

left_by : (due : Bool) (old mid : CursorStore) (left : ℕ) → (due ≡ true → can_replace old ≡ true) → HasReplaced due old mid → topic_of mid ≡ topic_of old → left ≡ replaces_left mid → (if due then left + 1 else left) ≡ replaces_left old
left_by true old mid left can replaced topic same =
    let some : nat_lt 0 (replaces_left old) ≡ true = can refl in
    let fewer = one_fewer (topic_of old).folder (generation_of old.slots) (generation_of mid.slots) (grind (arith, nat_tests)) replaced.generation in
    ap (λ (n : ℕ). n + 1) (same ∙ ap (λ (t : TopicId). replaces_in t.folder (generation_of mid.slots)) topic) ∙ fewer
left_by false old mid left can replaced topic same = same ∙ ap (λ (s : CursorStore). replaces_left s) replaced

pub left_then : (old mid : CursorStore) (left : ℕ) → HasReplaced (is_due old) old mid → topic_of mid ≡ topic_of old → left ≡ replaces_left mid → (if is_due old then left + 1 else left) ≡ replaces_left old
left_then old mid left replaced topic same = left_by (is_due old) old mid left (due_can (counted old) (can_replace old)) replaced topic same

-- ---- what is written

-- where none was prepared, what was there
pub none_based : (due : Bool) (old : CursorStore) (entries : ℕ) (told : Told) (bodies : Bodies) → IsSnapshotIf due old.told None → IsNextBase due (topic_of old).folder entries told bodies bodies
none_based true old entries told bodies is = absurd is
none_based false old entries told bodies is = refl

-- and where one was, the snapshot
pub one_based : (due : Bool) (topic : TopicId) (was : Told) (new : TwoSlot) (log : PreparedLog) (entries : ℕ) (d : Disk) (start : Start) (kept : Kept) (bodies anew : Bodies) → IsSnapshotIf due was (Some log) → IsAnew topic entries start kept anew
    → Settled (SlotsHold new) d anew → IsNextBase due topic.folder entries (told_of start kept) bodies (slots_content new d.seen)
one_based false topic was new log entries d start kept bodies anew is next held = absurd is
one_based true topic was new log entries d start kept bodies anew is next held =
    subst (λ (b : Bodies). MeansItems topic.folder entries (untold start) b (told_of start kept)) (sym (held_content new.log d.seen anew held.now.log)) (means_in topic.folder entries start start kept anew next.two refl next.means)

pub anew_there : (new : TwoSlot) (topic : TopicId) (entries : ℕ) (d : Disk) (start : Start) (kept : Kept) (anew : Bodies) → IsAnew topic entries start kept anew → Settled (SlotsHold new) d anew → Means entries start (slots_content new d.seen) kept
anew_there new topic entries d start kept anew next held =
    subst (λ (b : Bodies). MeansItems Two entries (untold start) b (told_of start kept)) (sym (held_content new.log d.seen anew held.now.log)) next.means
