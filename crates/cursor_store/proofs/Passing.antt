-- How the front of a slot is read without the ledger.
use Rattle.std.proofs.Common.{◌≡◌, ◌⊎◌, ⊎_elim, inl, ℕ, ◌<◌, ◌≤◌, ◌^◌, List, [], ◌∷◌, ◌++◌, Option, Some, None, length, refl, sym, ◌∙◌, ap, subst, arith, length-append}
use Rattle.disk.specs.declared.file_id.TopicId.{TopicId}
use Rattle.disk.specs.declared.file_id.CursorSlot.{CursorSlot}
use Rattle.disk.specs.declared.file_id.CursorSlot.TheVariants.{Zero as Slot0, One as Slot1}
use Rattle.disk.specs.declared.file_id.Folder.{Folder}
use Rattle.disk.specs.declared.file_id.Folder.TheVariants.{One, Two}
use Rattle.disk.specs.Areas.{folder_of}
use Rattle.disk.specs.declared.file_id.FileId.{FileId}
use Rattle.disk.specs.declared.file_id.FileId.TheVariants.{Catalog, Segment, Slot}
use Rattle.disk.specs.Disk.{Disk, Image, Synced, Leaves, Kept}
use Rattle.disk.specs.Moments.{joins, starts}
use Rattle.disk.specs.Contents.{Steady}
use Rattle.gated_log.specs.declared.head.LogHead.{LogHead}
use Rattle.gated_log.specs.declared.log_id.LogId.{LogId}
use Rattle.gated_log.specs.declared.reader.LogReader.{LogReader}
use Rattle.gated_log.specs.declared.refusal.Refusal.{Refusal}
use Rattle.gated_log.specs.declared.refusal.Refusal.TheVariants.{NoMemory, Device}
use Rattle.gated_log.specs.declared.label.Label.{Label}
use Rattle.gated_log.specs.declared.start.Start.{Start}
use Rattle.gated_log.specs.Labels.{IsLabel}
use Rattle.gated_log.specs.Batches.{Bodies, sized, opened, AllFit, IsLog}
use Rattle.gated_log.specs.Head.{IsHead, head_file}
use Rattle.gated_log.specs.One.{opened_push, sized_one, HasGoodHeader, good_header}
use Rattle.gated_log.specs.Reading.{HasRead, IsNext, IsDamagedBehind, IsHeaderRefusal, reader_id}
use Rattle.two_slot.specs.declared.heads.SlotHeads.{SlotHeads}
use Rattle.two_slot.specs.Slots.{SlotsOf}
use Rattle.two_slot.specs.Counting.{IsCounting, BeginsBy}
use Rattle.two_slot.specs.Heads.{HaveHeads, heads_topic, head_in}
use Rattle.gated_log.specs.Starts.{untrimmed}
use Rattle.cursor_store.specs.declared.told.Told.{Told}
use Rattle.cursor_store.specs.declared.heads.StoreHeads.{StoreHeads}
use Rattle.cursor_store.specs.declared.cursor_store.CursorStore.{CursorStore}
use Rattle.cursor_store.specs.Cursors.{Holds, topic_of, start_of, content, written}
use Rattle.cursor_store.specs.Laws.{holds_stand}
use Rattle.cursor_store.specs.Items.{untold}
use Rattle.cursor_store.specs.ItemBytes.{IsItemsBody, MeansItems}
use Rattle.cursor_store.specs.ItemMeaning.{items_mean_more}
use Rattle.cursor_store.specs.Fronts.{HasFront, BeginsIn, FrontBegins, BeginsOf, Begins, NoneFollows, IsNextWhole, HasHeads, AreSynced, topic_of_heads, start_of_heads}
use Rattle.cursor_store.specs.FrontLaws.{begins_stands, one_start}

-- ---- the next body

-- a closed gate
none_at_end : (folder : Folder) (label : Label) (bodies : Bodies) (file : List ℕ) → IsLog folder label bodies file → NoneFollows folder label bodies file
none_at_end folder label bodies file is = record { gate = is.gate; rest = is.rest; bytes = is.bytes; none = λ body one. absurd (is.closed one) }

-- an open gate with no whole batch behind it
none_behind : (reader : LogReader) (image : Image) (bodies : Bodies) (refusal : Refusal) → IsDamagedBehind reader image bodies refusal → NoneFollows (folder_of (reader_id reader).file) (reader_id reader).label bodies (image (reader_id reader).file)
none_behind reader image bodies refusal is = record {
  gate = 1;
  rest = is.rest;
  bytes = is.bytes;
  none = λ body one whole. is.not_whole (length body) (record { body = body; gate = whole.gate; rest = whole.rest; size_is = refl; fits = whole.fits; bytes_are = whole.bytes_are });
}

pub none_damaged : (reader : LogReader) (image : Image) (bodies : Bodies) (refusal : Refusal) → (¬ (refusal ≡ NoMemory) × ¬ (refusal ≡ Device)) → ((refusal ≡ NoMemory) ⊎ ((refusal ≡ Device) ⊎ IsDamagedBehind reader image bodies refusal))
    → NoneFollows (folder_of (reader_id reader).file) (reader_id reader).label bodies (image (reader_id reader).file)
none_damaged reader image bodies refusal not told =
    ⊎_elim (λ none. absurd (not.0 none)) (λ other. ⊎_elim (λ device. absurd (not.1 device)) (λ is. none_behind reader image bodies refusal is) other) told

pub next_one : (old new : LogReader) (image : Image) (bodies : Bodies) (found : Option (List ℕ)) → IsNext old new image bodies found → IsNextWhole old new image bodies found
next_one old new image bodies None is = none_at_end (folder_of (reader_id old).file) (reader_id old).label bodies (image (reader_id old).file) is.0
next_one old new image bodies (Some body) is = is

-- ---- from body to body

pub record Passing (head : LogHead) (first now : Disk) (reader : LogReader) (told : Told) : Type 0 where
  pub kept : Kept first now
  pub file_is : (reader_id reader).file ≡ head.file
  pub seen : first.honest → now.seen ≡ first.seen
  pub any_moment : first.honest → Leaves first.may_leave first now
  pub read : first.honest → IsHead head first.seen → (bodies : Bodies) × HasRead reader first.seen bodies × MeansItems One (2 ^ 62) (untold untrimmed) bodies told

pub leaves_on : (first mid new : Disk) → Leaves first.may_leave first mid → Leaves mid.may_leave mid new → Leaves first.may_leave first new
leaves_on first mid new one other = joins first.may_leave mid.may_leave first.may_leave first mid new one other (λ image left. left) (λ image left. one.now image left)

kept_on : (first mid new : Disk) → Kept first mid → Kept mid new → Kept first new
kept_on first mid new one other = record {
  faults = omega (arith, one.faults, other.faults);
  honest = λ h. other.honest (one.honest h);
  not_honest = λ h. one.not_honest (other.not_honest h);
}

pub passes_first : (head : LogHead) (disk : Disk) (reader : LogReader) (told : Told) → (reader_id reader).file ≡ head.file → told ≡ untold untrimmed → ((image : Image) → IsHead head image → HasRead reader image []) → Passing head disk disk reader told
passes_first head disk reader told file nothing read = record {
  kept = record { faults = omega arith; honest = λ h. h; not_honest = λ h. h };
  file_is = file;
  seen = λ h. refl;
  any_moment = λ h. starts disk.may_leave disk (λ c left. left);
  read = λ h is. ([], read disk.seen is, nothing);
}

-- what was asked of the device since
pub record Asked (first now : Disk) : Type 0 where
  pub kept : Kept first now
  pub seen : first.honest → now.seen ≡ first.seen
  pub any_moment : first.honest → Leaves first.may_leave first now

pub asked_more : (head : LogHead) (first mid new : Disk) (reader : LogReader) (told : Told) → Passing head first mid reader told → Kept mid new → (mid.honest → new.seen ≡ mid.seen) → (mid.honest → Leaves mid.may_leave mid new) → Asked first new
asked_more head first mid new reader told so kept same leaves = record {
  kept = kept_on first mid new so.kept kept;
  seen = λ h. same (so.kept.honest h) ∙ so.seen h;
  any_moment = λ h. leaves_on first mid new (so.any_moment h) (leaves (so.kept.honest h));
}

pub passes_more : (head : LogHead) (first mid new : Disk) (old reader : LogReader) (told next : Told) (body : List ℕ) → Passing head first mid old told → Asked first new → reader_id reader ≡ reader_id old
    → ((bodies : Bodies) → mid.honest → HasRead old mid.seen bodies → HasRead reader mid.seen (bodies ++ body ∷ [])) → IsItemsBody One (2 ^ 62) told body next → Passing head first new reader next
passes_more head first mid new old reader told next body so asked same more is = record {
  kept = asked.kept;
  file_is = ap (λ (i : LogId). i.file) same ∙ so.file_is;
  seen = asked.seen;
  any_moment = asked.any_moment;
  read = λ h has.
      let was = so.read h has in
      let here = subst (λ (i : Image). HasRead reader i (was.0 ++ body ∷ [])) (so.seen h) (more was.0 (so.kept.honest h) (subst (λ (i : Image). HasRead old i was.0) (sym (so.seen h)) was.1)) in
      (was.0 ++ body ∷ [], here, items_mean_more One (2 ^ 62) (untold untrimmed) was.0 told body next was.2 is);
}

-- ---- the front that was read

-- of version 1 are the file's header and what it says
one_label : (label : Label) (folder : Folder) → folder ≡ One → IsLabel folder label → IsLabel One label
one_label label folder one is = subst (λ (f : Folder). IsLabel f label) one is

one_means : (label : Label) (folder : Folder) (bodies : Bodies) (told : Told) → folder ≡ One → IsLabel folder label → MeansItems One (2 ^ 62) (untold untrimmed) bodies told → MeansItems One (2 ^ 62) (untold label.start) bodies told
one_means label folder bodies told one is means = subst (λ (s : Start). MeansItems One (2 ^ 62) (untold s) bodies told) (sym (one_start label (one_label label folder one is))) means

-- no body follows
front_ends : (reader : LogReader) (image : Image) (bodies : Bodies) (told : Told) → folder_of (reader_id reader).file ≡ One → HasRead reader image bodies → MeansItems One (2 ^ 62) (untold untrimmed) bodies told
    → NoneFollows (folder_of (reader_id reader).file) (reader_id reader).label bodies (image (reader_id reader).file) → HasFront (image (reader_id reader).file) told
front_ends reader image bodies told one read means none = record {
  label = (reader_id reader).label;
  bodies = bodies;
  gate = none.gate;
  rest = none.rest;
  in_range = one_label (reader_id reader).label (folder_of (reader_id reader).file) one read.in_range;
  fit = read.fit;
  bytes = subst (λ (f : Folder). image (reader_id reader).file ≡ opened f (reader_id reader).label bodies ++ none.gate ∷ none.rest) one none.bytes;
  means = one_means (reader_id reader).label (folder_of (reader_id reader).file) bodies told one read.in_range means;
  longest = λ body next gate formed. none.none body gate;
}

last_fits : (bs : Bodies) (b : List ℕ) → AllFit (bs ++ b ∷ []) → length b ≤ 33554432
last_fits [] b fit = fit.0
last_fits (c ∷ bs) b fit = last_fits bs b fit.1

-- behind what a reader has read stands a byte
record Goes (rest : List ℕ) : Type 0 where
  gate : ℕ
  more : List ℕ
  is : rest ≡ gate ∷ more

byte_there : (rest : List ℕ) → 0 < length rest → Goes rest
byte_there [] some = absurd (omega (arith, some))
byte_there (gate ∷ more) some = record { gate = gate; more = more; is = refl }

byte_behind : (reader : LogReader) (image : Image) (bodies : Bodies) → (read : HasRead reader image bodies) → Goes read.rest
byte_behind reader image bodies read =
    byte_there read.rest (let l = length-append (opened (folder_of reader.id.file) reader.id.label bodies) read.rest in let b = ap (λ (k : List ℕ). length k) read.bytes in omega (arith, l, b, read.at_is, read.size_is, reader.before_end))

-- the body that follows isn't of its form
front_bad : (old reader : LogReader) (image : Image) (bodies : Bodies) (told : Told) (body : List ℕ) → folder_of (reader_id old).file ≡ One → HasRead old image bodies → MeansItems One (2 ^ 62) (untold untrimmed) bodies told → reader_id reader ≡ reader_id old
    → HasRead reader image (bodies ++ body ∷ []) → ((next : Told) → ¬ IsItemsBody One (2 ^ 62) told body next) → HasFront (image (reader_id old).file) told
front_bad old reader image bodies told body one read means same more bad =
    let there = byte_behind reader image (bodies ++ body ∷ []) more in
    let label = (reader_id old).label in
    let folder = folder_of (reader_id old).file in
    let bytes : image (reader_id old).file ≡ opened One label (bodies ++ body ∷ []) ++ more.rest =
    subst (λ (f : Folder). image (reader_id old).file ≡ opened f label (bodies ++ body ∷ []) ++ more.rest) one
    (subst (λ (i : LogId). image i.file ≡ opened (folder_of i.file) i.label (bodies ++ body ∷ []) ++ more.rest) same more.bytes) in
    record {
      label = label;
      bodies = bodies;
      gate = 1;
      rest = sized body ++ more.rest;
      in_range = one_label label folder one read.in_range;
      fit = read.fit;
      bytes = bytes ∙ opened_push One label bodies body more.rest;
      means = one_means label folder bodies told one read.in_range means;
      longest = λ other next gate formed whole.
          let is : other ≡ body = sym (sized_one body other more.rest (whole.gate ∷ whole.rest) (last_fits bodies body more.fit) whole.fits whole.bytes_are).0 in
          bad next (subst (λ (b : List ℕ). IsItemsBody One (2 ^ 62) told b next) is formed);
    }

-- ---- what it says

at_file : (head : LogHead) (first : Disk) (reader : LogReader) (told : Told) → (reader_id reader).file ≡ head.file → HasFront (first.seen (reader_id reader).file) told → BeginsIn (first.seen head.file) told.start
at_file head first reader told file front = inl (told, subst (λ (f : FileId). HasFront (first.seen f) told) file front, refl)

pub says_end : (head : LogHead) (first mid : Disk) (reader : LogReader) (told : Told) → folder_of head.file ≡ One → (so : Passing head first mid reader told) → (h : first.honest) (is : IsHead head first.seen)
    → ((bodies : Bodies) → mid.honest → HasRead reader mid.seen bodies → NoneFollows (folder_of (reader_id reader).file) (reader_id reader).label bodies (mid.seen (reader_id reader).file)) → BeginsIn (first.seen head.file) told.start
says_end head first mid reader told one so h is none =
    let was = so.read h is in
    let there = subst (λ (i : Image). HasRead reader i was.0) (sym (so.seen h)) was.1 in
    let ends = subst (λ (i : Image). NoneFollows (folder_of (reader_id reader).file) (reader_id reader).label was.0 (i (reader_id reader).file)) (so.seen h) (none was.0 (so.kept.honest h) there) in
    at_file head first reader told so.file_is (front_ends reader first.seen was.0 told (ap (λ (f : FileId). folder_of f) so.file_is ∙ one) was.1 was.2 ends)

pub says_bad : (head : LogHead) (first mid : Disk) (old reader : LogReader) (told : Told) (body : List ℕ) → folder_of head.file ≡ One → (so : Passing head first mid old told) → (h : first.honest) (is : IsHead head first.seen) → reader_id reader ≡ reader_id old
    → ((bodies : Bodies) → mid.honest → HasRead old mid.seen bodies → HasRead reader mid.seen (bodies ++ body ∷ [])) → ((next : Told) → ¬ IsItemsBody One (2 ^ 62) told body next) → BeginsIn (first.seen head.file) told.start
says_bad head first mid old reader told body one so h is same more bad =
    let was = so.read h is in
    let there = subst (λ (i : Image). HasRead old i was.0) (sym (so.seen h)) was.1 in
    let longer = subst (λ (i : Image). HasRead reader i (was.0 ++ body ∷ [])) (so.seen h) (more was.0 (so.kept.honest h) there) in
    at_file head first old told so.file_is (front_bad old reader first.seen was.0 told body (ap (λ (f : FileId). folder_of f) so.file_is ∙ one) was.1 was.2 same longer bad)

-- a header that is refused has no front
pub says_none : (file : FileId) (bytes : List ℕ) (refusal : Refusal) → folder_of file ≡ One → IsHeaderRefusal file bytes refusal → (told : Told) → ¬ HasFront bytes told
says_none file bytes refusal one is told = λ front.
    let good = subst (λ (f : Folder). HasGoodHeader f bytes) (sym one) (good_header One front.label front.gate front.bodies front.rest bytes front.bytes) in
    ⊎_elim (λ none. none.1 good.is_open) (λ other. ⊎_elim (λ version. good.this_version version.1) (λ damaged. good.not_damaged damaged.1) other) is

-- ---- the heads that were read

-- which slot they say is read
abbrev pub Counts : SlotHeads → Option CursorSlot → Type 0
Counts slots slot = (image : Image) → IsHead (head_in slots Slot0) image → IsHead (head_in slots Slot1) image → IsCounting (heads_topic slots) image slot

-- where the slots of version 1 say, or the header of version 2
begins_front : (topic : TopicId) (image : Image) (start : Start) → topic.folder ≡ One → FrontBegins topic image start → Begins topic image start
begins_front topic image start one is = subst (λ (f : Folder). BeginsOf f topic image start) (sym one) is

pub begins_header : (topic : TopicId) (image : Image) (start : Start) → topic.folder ≡ Two → BeginsBy topic image start → Begins topic image start
begins_header topic image start two is = subst (λ (f : Folder). BeginsOf f topic image start) (sym two) is

-- none is read
pub begun_none : (slots : SlotHeads) (image : Image) (found : Option CursorSlot) → (heads_topic slots).folder ≡ One → found ≡ None → Counts slots found → IsHead (head_in slots Slot0) image → IsHead (head_in slots Slot1) image → Begins (heads_topic slots) image untrimmed
begun_none slots image found one none counts zero other =
    begins_front (heads_topic slots) image untrimmed one (record { slot = None; is_counting = subst (λ (s : Option CursorSlot). IsCounting (heads_topic slots) image s) none (counts image zero other); begins = refl })

-- one is
slot_head : (slots : SlotHeads) (image : Image) (slot : CursorSlot) → IsHead (head_in slots Slot0) image → IsHead (head_in slots Slot1) image → IsHead (head_in slots slot) image
slot_head slots image Slot0 zero one = zero
slot_head slots image Slot1 zero one = one

pub head_there : (slots : SlotHeads) (image : Image) (slot : CursorSlot) (head : LogHead) → head ≡ head_in slots slot → IsHead (head_in slots Slot0) image → IsHead (head_in slots Slot1) image → IsHead head image
head_there slots image slot head is zero one = subst (λ (h : LogHead). IsHead h image) (sym is) (slot_head slots image slot zero one)

pub begun_some : (slots : SlotHeads) (image : Image) (slot : CursorSlot) (head : LogHead) (found : Option CursorSlot) (start : Start) → (heads_topic slots).folder ≡ One → found ≡ Some slot → Counts slots found
    → head_file head ≡ Slot (heads_topic slots) slot → BeginsIn (image (head_file head)) start → IsHead (head_in slots Slot0) image → IsHead (head_in slots Slot1) image → Begins (heads_topic slots) image start
begun_some slots image slot head found start one some counts file says zero other =
    begins_front (heads_topic slots) image start one (record {
      slot = Some slot;
      is_counting = subst (λ (s : Option CursorSlot). IsCounting (heads_topic slots) image s) some (counts image zero other);
      begins = subst (λ (f : FileId). BeginsIn (image f) start) file says;
    })

-- the file of a slot is of its topic's folder
pub head_folder : (topic : TopicId) (slot : CursorSlot) (file : FileId) → topic.folder ≡ One → file ≡ Slot topic slot → folder_of file ≡ One
head_folder topic slot file one is = ap (λ (f : FileId). folder_of f) is ∙ one

-- the heads, and where they say
pub begun_heads : (heads : StoreHeads) (mid new : Disk) → HaveHeads heads.slots mid → Begins (heads_topic heads.slots) mid.seen heads.start → new.seen ≡ mid.seen → HasHeads heads new.seen
begun_heads heads mid new are begins same = subst (λ (i : Image). HasHeads heads i) (sym same) (record { zero = are.zero.is; one = are.one.is; begins = begins })

-- the slots were synced
slot_synced : (slots : SlotHeads) (disk : Disk) (slot : CursorSlot) → HaveHeads slots disk → Synced (Slot slots.topic slot) disk
slot_synced slots disk Slot0 are = subst (λ (f : FileId). Synced f disk) slots.zero_is are.zero.synced
slot_synced slots disk Slot1 are = subst (λ (f : FileId). Synced f disk) slots.one_is are.one.synced

file_synced : (slots : SlotHeads) (disk : Disk) (f : FileId) → HaveHeads slots disk → SlotsOf slots.topic f → Synced f disk
file_synced slots disk (Catalog folder) are own = absurd own
file_synced slots disk (Segment of number) are own = absurd own
file_synced slots disk (Slot of slot) are own = subst (λ (t : TopicId). Synced (Slot t slot) disk) (sym own) (slot_synced slots disk slot are)

pub slots_synced : (slots : SlotHeads) (topic : TopicId) (disk : Disk) → heads_topic slots ≡ topic → HaveHeads slots disk → AreSynced (SlotsOf topic) disk
slots_synced slots topic disk same are = λ c may f own. file_synced slots disk f are (subst (λ (t : TopicId). SlotsOf t f) (sym same) own) c may

pub still_synced : (area : FileId → Type 0) (mid new : Disk) → new.seen ≡ mid.seen → Leaves mid.may_leave mid new → AreSynced area mid → AreSynced area new
still_synced area mid new same leaves synced = λ c may f own. synced c (leaves.now c may) f own ∙ sym (ap (λ (i : Image). i f) same)

-- a store that was opened from them begins where they say
pub start_said : (store : CursorStore) (heads : StoreHeads) (entries : ℕ) (d0 d1 : Disk) → entries ≤ 2 ^ 62 → HasHeads heads d0.seen → topic_of store ≡ topic_of_heads heads → d1.seen ≡ d0.seen
    → Steady (Holds store entries (start_of store)) (written store) d1 (content store) → start_of store ≡ start_of_heads heads
start_said store heads entries d0 d1 few has topic same s =
    let stands = holds_stand store entries (start_of store) d1.seen (content store) s.settled.now in
    let begins = subst (λ (t : TopicId). Begins t d1.seen heads.start) (sym topic) (subst (λ (i : Image). Begins (topic_of_heads heads) i heads.start) (sym same) has.begins) in
    sym (begins_stands (topic_of store) entries (start_of store) heads.start d1.seen (content store) few stands begins)
