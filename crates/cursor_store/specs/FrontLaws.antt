-- The slots of a topic say one thing, and where they stand for something, the same.
use Rattle.std.proofs.Common.{◌≡◌, ⊎_elim, inl, inr, ℕ, ◌≤◌, ◌^◌, List, [], ◌∷◌, ◌++◌, Option, Some, None, length, refl, sym, ◌∙◌, ap, subst, arith, append_assoc}
use Rattle.disk.specs.declared.file_id.TopicId.{TopicId}
use Rattle.disk.specs.declared.file_id.CursorSlot.{CursorSlot}
use Rattle.disk.specs.declared.file_id.CursorSlot.TheVariants.{Zero, One}
use Rattle.disk.specs.declared.file_id.FileId.TheVariants.{Slot}
use Rattle.disk.specs.declared.file_id.FileId.{FileId}
use Rattle.disk.specs.Disk.{Disk, Image}
use Rattle.disk.specs.declared.file_id.Folder.{Folder}
use Rattle.disk.specs.declared.file_id.Folder.TheVariants as version
use Rattle.disk.specs.Areas.{Agree, folder_of}
use Rattle.gated_log.specs.declared.head.LogHead.{LogHead}
use Rattle.gated_log.specs.declared.label.Label.{Label}
use Rattle.gated_log.specs.Labels.{IsLabel}
use Rattle.gated_log.specs.Batches.{Bodies, sized, batches, AllFit, IsLog}
use Rattle.gated_log.specs.Head.{IsHead}
use Rattle.gated_log.specs.Headers.{IsAtHeader, number_in}
use Rattle.gated_log.specs.One.{GoesOn, goes_on, compare_opened}
use Rattle.two_slot.specs.Slots.{SlotsOf}
use Rattle.two_slot.specs.Heads.{HaveHeads}
use Rattle.two_slot.specs.Counting.{BeginsBy, counting_one, counting_stands, counting_local, begins_by_one, begins_by_stands, begins_by_local}
use Rattle.records.specs.Maps.{Kept}
use Rattle.gated_log.specs.declared.start.Start.{Start}
use Rattle.gated_log.specs.Starts.{untrimmed}
use Rattle.cursor_store.specs.declared.told.Told.{Told}
use Rattle.cursor_store.specs.declared.item.Item.{Item}
use Rattle.cursor_store.specs.declared.item.Item.TheVariants.{Change, Trim}
use Rattle.cursor_store.specs.declared.heads.StoreHeads.{StoreHeads}
use Rattle.cursor_store.specs.Items.{AreItems, untold, told_of, told_after, all_told}
use Rattle.cursor_store.specs.ItemBytes.{IsItemsBody, MeansItems}
use Rattle.cursor_store.specs.ItemMeaning.{items_mean_one, items_mean_longer}
use Rattle.cursor_store.specs.Cursors.{StandsFor}
use Rattle.cursor_store.specs.Fronts.{HasFront, BeginsIn, BeginsAt, FrontBegins, BeginsOf, Begins, HasHeads, AreSynced, topic_of_heads, start_of_heads}

-- ---- one front

head_same : (x y : ℕ) (xs ys : List ℕ) → x ∷ xs ≡ y ∷ ys → x ≡ y
head_same x y xs ys same = cc

tail_same : (x y : ℕ) (xs ys : List ℕ) → x ∷ xs ≡ y ∷ ys → xs ≡ ys
tail_same x y xs ys same = cc

fit_there : (bs : Bodies) (b : List ℕ) (ds : Bodies) → AllFit (bs ++ b ∷ ds) → length b ≤ 33554432
fit_there [] b ds fit = fit.0
fit_there (c ∷ bs) b ds fit = fit_there bs b ds fit.1

-- a body among others
record Among (old : Told) (bodies : Bodies) (body : List ℕ) : Type 0 where
  told : Told
  means : MeansItems version.One (2 ^ 62) old bodies told
  next : Told
  is : IsItemsBody version.One (2 ^ 62) told body next

among : (old : Told) (bodies : Bodies) (body : List ℕ) (more : Bodies) (end : Told) → MeansItems version.One (2 ^ 62) old (bodies ++ body ∷ more) end → Among old bodies body
among old [] body more end is = record { told = old; means = refl; next = is.0; is = is.1 }
among old (b ∷ bodies) body more end is =
    let rest = among is.0 bodies body more end is.2 in
    record { told = rest.told; means = (is.0, is.1, rest.means); next = rest.next; is = rest.is }

low : 2 ^ 62 ≤ 2 ^ 62
low = omega arith

-- a header of version 1 says no start
pub one_start : (label : Label) → IsLabel version.One label → label.start ≡ untrimmed
one_start label is = ap (λ (l : Label). l.start) is.1

one_means : (label : Label) (bodies : Bodies) (told : Told) → IsLabel version.One label → MeansItems version.One (2 ^ 62) (untold label.start) bodies told → MeansItems version.One (2 ^ 62) (untold untrimmed) bodies told
one_means label bodies told is means = subst (λ (s : Start). MeansItems version.One (2 ^ 62) (untold s) bodies told) (one_start label is) means

-- none is longer than another
no_further : (file : List ℕ) (a b : Told) (one : HasFront file a) (other : HasFront file b) → GoesOn one.bodies other.bodies (one.gate ∷ one.rest) (other.gate ∷ other.rest) → ⊥
no_further file a b one other on =
    let next = goes_on on.more (other.gate ∷ other.rest) (record { gate = other.gate; rest = other.rest; is = refl }) in
    let bytes : one.gate ∷ one.rest ≡ 1 ∷ (sized on.body ++ next.gate ∷ next.rest) =
    on.bytes_are ∙ append_assoc (1 ∷ sized on.body) (batches on.more) (other.gate ∷ other.rest) ∙ ap (λ (l : List ℕ). 1 ∷ (sized on.body ++ l)) next.is in
    let further = one_means other.label other.bodies b other.in_range other.means in
    let parts = among (untold untrimmed) one.bodies on.body on.more b (subst (λ (l : Bodies). MeansItems version.One (2 ^ 62) (untold untrimmed) l b) on.bodies_are further) in
    let same : parts.told ≡ a = items_mean_one version.One (2 ^ 62) (untold untrimmed) one.bodies parts.told a low parts.means (one_means one.label one.bodies a one.in_range one.means) in
    one.longest on.body parts.next (head_same one.gate 1 one.rest (sized on.body ++ next.gate ∷ next.rest) bytes)
    (subst (λ (t : Told). IsItemsBody version.One (2 ^ 62) t on.body parts.next) same parts.is)
    (record {
      gate = next.gate;
      rest = next.rest;
      fits = fit_there one.bodies on.body on.more (subst (λ (l : Bodies). AllFit l) on.bodies_are other.fit);
      bytes_are = tail_same one.gate 1 one.rest (sized on.body ++ next.gate ∷ next.rest) bytes;
    })

front_one : (file : List ℕ) (a b : Told) → HasFront file a → HasFront file b → a ≡ b
front_one file a b one other =
    let both = compare_opened version.One one.label other.label one.bodies other.bodies (one.gate ∷ one.rest) (other.gate ∷ other.rest) one.in_range other.in_range one.fit other.fit (sym one.bytes ∙ other.bytes) in
    let ones = one_means one.label one.bodies a one.in_range one.means in
    let others = one_means other.label other.bodies b other.in_range other.means in
    ⊎_elim
    (λ same. items_mean_one version.One (2 ^ 62) (untold untrimmed) other.bodies a b low (subst (λ (l : Bodies). MeansItems version.One (2 ^ 62) (untold untrimmed) l a) same.0 ones) others)
    (λ on. absurd (⊎_elim (no_further file a b one other) (no_further file b a other one) on))
    both.1

begins_in_one : (file : List ℕ) (one other : Start) → BeginsIn file one → BeginsIn file other → one ≡ other
begins_in_one file one other (inl is) (inl is') = is.2 ∙ ap (λ (t : Told). t.start) (front_one file is.0 is'.0 is.1 is'.1) ∙ sym is'.2
begins_in_one file one other (inl is) (inr is') = absurd (is'.0 is.0 is.1)
begins_in_one file one other (inr is) (inl is') = absurd (is.0 is'.0 is'.1)
begins_in_one file one other (inr is) (inr is') = is.1 ∙ sym is'.1

begins_at_one : (slot : Option CursorSlot) (topic : TopicId) (image : Image) (one other : Start) → BeginsAt slot topic image one → BeginsAt slot topic image other → one ≡ other
begins_at_one None topic image one other is is' = is ∙ sym is'
begins_at_one (Some slot) topic image one other is is' = begins_in_one (image (Slot topic slot)) one other is is'

front_begins_one : (topic : TopicId) (image : Image) (one other : Start) → FrontBegins topic image one → FrontBegins topic image other → one ≡ other
front_begins_one topic image one other is is' =
    begins_at_one is'.slot topic image one other (subst (λ (s : Option CursorSlot). BeginsAt s topic image one) (counting_one topic image is.slot is'.slot is.is_counting is'.is_counting) is.begins) is'.begins

begins_of_one : (folder : Folder) (topic : TopicId) (image : Image) (one other : Start) → BeginsOf folder topic image one → BeginsOf folder topic image other → one ≡ other
begins_of_one version.One topic image one other is is' = front_begins_one topic image one other is is'
begins_of_one version.Two topic image one other is is' = begins_by_one topic image one other is is'

pub begins_one : (topic : TopicId) (image : Image) (one other : Start) → Begins topic image one → Begins topic image other → one ≡ other
begins_one topic image one other is is' = begins_of_one topic.folder topic image one other is is'

-- ---- where they stand for something

front_there : (entries : ℕ) (label : Label) (bodies : Bodies) (file : List ℕ) (told : Told) → entries ≤ 2 ^ 62 → IsLog version.One label bodies file → MeansItems version.One entries (untold label.start) bodies told → HasFront file told
front_there entries label bodies file told few is means = record {
  label = label;
  bodies = bodies;
  gate = is.gate;
  rest = is.rest;
  in_range = is.in_range;
  fit = is.fit;
  bytes = is.bytes;
  means = items_mean_longer version.One entries (2 ^ 62) (untold label.start) bodies told few means;
  longest = λ body next one formed. absurd (is.closed one);
}

front_stands : (topic : TopicId) (entries : ℕ) (start said : Start) (image : Image) (kept : Kept) → topic.folder ≡ version.One → entries ≤ 2 ^ 62 → StandsFor topic entries start image kept → FrontBegins topic image said → said ≡ start
front_stands topic entries start said image kept one few is begins =
    let slot = is.stands.slot in
    let label = is.stands.label in
    let file = image (Slot topic slot) in
    let at : BeginsIn file said = subst (λ (s : Option CursorSlot). BeginsAt s topic image said) (counting_stands topic image is.said is.bodies begins.slot is.stands begins.is_counting) begins.begins in
    let log : IsLog version.One label is.bodies file = subst (λ (f : Folder). IsLog f label is.bodies file) one is.stands.counts.is in
    let means : MeansItems version.One entries (untold label.start) is.bodies (told_of start kept) = subst (λ (s : Start). MeansItems version.One entries (untold s) is.bodies (told_of start kept)) (sym is.stands.starts)
    (subst (λ (f : Folder). MeansItems f entries (untold is.said) is.bodies (told_of start kept)) one is.means) in
    begins_in_one file said start at (inl (told_of start kept, front_there entries label is.bodies file (told_of start kept) few log means, refl))

-- in version 2 no body changes the start
items_keep : (entries : ℕ) (told : Told) (items : List Item) → AreItems version.Two entries told items → (all_told items told).start ≡ told.start
items_keep entries told [] formed = refl
items_keep entries told (Change change ∷ items) formed = items_keep entries (told_after (Change change) told) items formed.1
items_keep entries told (Trim start ∷ items) formed = absurd formed.0

pub bodies_keep : (entries : ℕ) (old : Told) (bodies : Bodies) (told : Told) → MeansItems version.Two entries old bodies told → told.start ≡ old.start
bodies_keep entries old [] told is = ap (λ (t : Told). t.start) is
bodies_keep entries old (body ∷ bodies) told is =
    bodies_keep entries is.0 bodies told is.2 ∙ ap (λ (t : Told). t.start) is.1.new_is ∙ items_keep entries old is.1.items is.1.formed

header_stands : (topic : TopicId) (entries : ℕ) (start said : Start) (image : Image) (kept : Kept) → topic.folder ≡ version.Two → StandsFor topic entries start image kept → BeginsBy topic image said → said ≡ start
header_stands topic entries start said image kept two is begins =
    begins_by_stands topic image is.said said is.bodies is.stands begins
    ∙ sym (bodies_keep entries (untold is.said) is.bodies (told_of start kept) (subst (λ (f : Folder). MeansItems f entries (untold is.said) is.bodies (told_of start kept)) two is.means))

begins_of_stands : (folder : Folder) (topic : TopicId) (entries : ℕ) (start said : Start) (image : Image) (kept : Kept) → topic.folder ≡ folder → entries ≤ 2 ^ 62 → StandsFor topic entries start image kept → BeginsOf folder topic image said → said ≡ start
begins_of_stands version.One topic entries start said image kept is few stands begins = front_stands topic entries start said image kept is few stands begins
begins_of_stands version.Two topic entries start said image kept is few stands begins = header_stands topic entries start said image kept is stands begins

pub begins_stands : (topic : TopicId) (entries : ℕ) (start said : Start) (image : Image) (kept : Kept) → entries ≤ 2 ^ 62 → StandsFor topic entries start image kept → Begins topic image said → said ≡ start
begins_stands topic entries start said image kept few is begins = begins_of_stands topic.folder topic entries start said image kept refl few is begins

-- ---- they look at their own files alone

begins_at_local : (slot : Option CursorSlot) (topic : TopicId) (a b : Image) (start : Start) → Agree (SlotsOf topic) a b → BeginsAt slot topic a start → BeginsAt slot topic b start
begins_at_local None topic a b start same is = is
begins_at_local (Some slot) topic a b start same is = subst (λ (l : List ℕ). BeginsIn l start) (sym (same (Slot topic slot) refl)) is

begins_of_local : (folder : Folder) (topic : TopicId) (a b : Image) (start : Start) → Agree (SlotsOf topic) a b → BeginsOf folder topic a start → BeginsOf folder topic b start
begins_of_local version.One topic a b start same is =
    record { slot = is.slot; is_counting = counting_local topic a b is.slot same is.is_counting; begins = begins_at_local is.slot topic a b start same is.begins }
begins_of_local version.Two topic a b start same is = begins_by_local topic a b start same is

pub begins_local : (topic : TopicId) (a b : Image) (start : Start) → Agree (SlotsOf topic) a b → Begins topic a start → Begins topic b start
begins_local topic a b start same is = begins_of_local topic.folder topic a b start same is

-- ---- so do the heads

head_local : (head : LogHead) (a b : Image) → b head.file ≡ a head.file → IsHead head a → IsHead head b
head_local head a b same is = record {
  size_is = is.size_is ∙ ap (λ (l : List ℕ). length l) (sym same);
  header_is = subst (λ (l : List ℕ). IsAtHeader (folder_of head.file) l head.header) (sym same) is.header_is;
  number_is = λ long. is.number_is long ∙ ap (λ (l : List ℕ). number_in l) (sym same);
}

own : (topic : TopicId) (slot : CursorSlot) (file : FileId) → file ≡ Slot topic slot → SlotsOf topic file
own topic slot file is = subst (λ (f : FileId). SlotsOf topic f) (sym is) refl

pub heads_begin : (heads : StoreHeads) (image : Image) → HasHeads heads image → Begins (topic_of_heads heads) image (start_of_heads heads)
heads_begin heads image has = has.begins

pub heads_local : (heads : StoreHeads) (a b : Image) → Agree (SlotsOf (topic_of_heads heads)) a b → HasHeads heads a → HasHeads heads b
heads_local heads a b same has = record {
  zero = head_local heads.slots.zero a b (same heads.slots.zero.file (own heads.slots.topic Zero heads.slots.zero.file heads.slots.zero_is)) has.zero;
  one = head_local heads.slots.one a b (same heads.slots.one.file (own heads.slots.topic One heads.slots.one.file heads.slots.one_is)) has.one;
  begins = begins_local heads.slots.topic a b heads.start same has.begins;
}

-- heads of slots that are synced
pub have_heads : (heads : StoreHeads) (disk : Disk) → HasHeads heads disk.seen → AreSynced (SlotsOf (topic_of_heads heads)) disk → HaveHeads heads.slots disk
have_heads heads disk has synced = record {
  zero = record { is = has.zero; synced = λ c may. synced c may heads.slots.zero.file (own heads.slots.topic Zero heads.slots.zero.file heads.slots.zero_is) };
  one = record { is = has.one; synced = λ c may. synced c may heads.slots.one.file (own heads.slots.topic One heads.slots.one.file heads.slots.one_is) };
}
