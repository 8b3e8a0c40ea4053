-- Whether two file ids are one.
use Rattle.std.specs.Prelude.{◌≡◌, ◌≢◌, ◌⊎◌, ◌==◌, Bool, true, false, ◌&&◌}
use Rattle.std.proofs.Common.{inl, inr, refl, sym, ◌∙◌, ap, subst, arith}
use Rattle.std.proofs.lemmas.Bool.{eqb-true, eq-eqb}
use Rattle.disk.specs.declared.file_id.CursorSlot.{CursorSlot}
use Rattle.disk.specs.declared.file_id.CursorSlot.TheVariants.{Zero, One}
use Rattle.disk.specs.declared.file_id.Folder.{Folder}
use Rattle.disk.specs.declared.file_id.Folder.TheVariants as folder
use Rattle.disk.specs.declared.file_id.TopicId.{TopicId}
use Rattle.disk.specs.declared.file_id.FileId.{FileId}
use Rattle.disk.specs.declared.file_id.FileId.TheVariants.{Catalog, Segment, Slot}
use Rattle.disk.specs.contracts.file_id.FileIdPartialEq.TheImpl as file_eq
use Rattle.disk.specs.contracts.file_id.FolderPartialEq.TheImpl as folder_eq
use Rattle.disk.specs.contracts.file_id.TopicIdPartialEq.TheImpl as topic_eq

abbrev pub same_slot : CursorSlot → CursorSlot → Bool
same_slot Zero Zero = true
same_slot One One = true
same_slot _ _ = false

abbrev pub same_folder : Folder → Folder → Bool
same_folder folder.One folder.One = true
same_folder folder.Two folder.Two = true
same_folder _ _ = false

abbrev pub same_topic : TopicId → TopicId → Bool
same_topic topic topic' = same_folder topic.folder topic'.folder && (topic.number == topic'.number)

-- what `==` answers, by the parts
abbrev pub same_parts : FileId → FileId → Bool
same_parts (Catalog v) (Catalog v') = same_folder v v'
same_parts (Segment topic number) (Segment topic' number') = same_topic topic topic' && (number == number')
same_parts (Slot topic slot) (Slot topic' slot') = same_topic topic topic' && same_slot slot slot'
same_parts _ _ = false

-- what `==` answers
abbrev pub same_file : FileId → FileId → Bool
same_file = (file_eq.ghosts).eq

-- what `==` of folders and of topics answers
abbrev eq_folder : Folder → Folder → Bool
eq_folder = (folder_eq.ghosts).eq

abbrev eq_topic : TopicId → TopicId → Bool
eq_topic = (topic_eq.ghosts).eq

folder_by_parts : (v v' : Folder) → eq_folder v v' ≡ same_folder v v'
folder_by_parts folder.One folder.One = refl
folder_by_parts folder.One folder.Two = refl
folder_by_parts folder.Two folder.One = refl
folder_by_parts folder.Two folder.Two = refl

topic_by_parts : (t t' : TopicId) → eq_topic t t' ≡ same_topic t t'
topic_by_parts t t' = ap (λ (b : Bool). b && (t.number == t'.number)) (folder_by_parts t.folder t'.folder)

by_parts : (f g : FileId) → same_file f g ≡ same_parts f g
by_parts (Catalog v) (Catalog v') = folder_by_parts v v'
by_parts (Catalog v) (Segment t n) = refl
by_parts (Catalog v) (Slot t s) = refl
by_parts (Segment t n) (Catalog v) = refl
by_parts (Segment t n) (Segment t' n') = ap (λ (b : Bool). b && (n == n')) (topic_by_parts t t')
by_parts (Segment t n) (Slot t' s) = refl
by_parts (Slot t s) (Catalog v) = refl
by_parts (Slot t s) (Segment t' n) = refl
by_parts (Slot t Zero) (Slot t' Zero) = ap (λ (b : Bool). b && true) (topic_by_parts t t')
by_parts (Slot t Zero) (Slot t' One) = ap (λ (b : Bool). b && false) (topic_by_parts t t')
by_parts (Slot t One) (Slot t' Zero) = ap (λ (b : Bool). b && false) (topic_by_parts t t')
by_parts (Slot t One) (Slot t' One) = ap (λ (b : Bool). b && true) (topic_by_parts t t')

same_slot_refl : (s : CursorSlot) → same_slot s s ≡ true
same_slot_refl Zero = refl
same_slot_refl One = refl

same_slot_is : (s s' : CursorSlot) → same_slot s s' ≡ true → s ≡ s'
same_slot_is Zero Zero is = refl
same_slot_is One One is = refl
same_slot_is Zero One is = absurd (cc)
same_slot_is One Zero is = absurd (cc)

same_folder_refl : (v : Folder) → same_folder v v ≡ true
same_folder_refl folder.One = refl
same_folder_refl folder.Two = refl

same_folder_is : (v v' : Folder) → same_folder v v' ≡ true → v ≡ v'
same_folder_is folder.One folder.One is = refl
same_folder_is folder.Two folder.Two is = refl
same_folder_is folder.One folder.Two is = absurd (cc)
same_folder_is folder.Two folder.One is = absurd (cc)

same_topic_refl : (t : TopicId) → same_topic t t ≡ true
same_topic_refl t = grind (arith, same_folder_refl t.folder, eq-eqb t.number t.number refl)

same_parts_refl : (f : FileId) → same_parts f f ≡ true
same_parts_refl (Catalog v) = same_folder_refl v
same_parts_refl (Segment t n) = grind (arith, same_topic_refl t, eq-eqb n n refl)
same_parts_refl (Slot t s) = grind (arith, same_topic_refl t, same_slot_refl s)

both_true : (a b : Bool) → (a && b) ≡ true → (a ≡ true) × (b ≡ true)
both_true true true is = (refl, refl)
both_true true false is = absurd (cc)
both_true false b is = absurd (cc)

same_topic_is : (t t' : TopicId) → same_topic t t' ≡ true → t ≡ t'
same_topic_is t t' is =
    let parts = both_true (same_folder t.folder t'.folder) (t.number == t'.number) is in
    let folders = same_folder_is t.folder t'.folder parts.0 in
    let numbers = eqb-true t.number t'.number parts.1 in
    (λ i. record { folder = folders i; number = numbers i })

same_parts_is : (f g : FileId) → same_parts f g ≡ true → f ≡ g
same_parts_is (Catalog v) (Catalog v') is = ap Catalog (same_folder_is v v' is)
same_parts_is (Segment t n) (Segment t' n') is =
    let parts = both_true (same_topic t t') (n == n') is in
    let topics = same_topic_is t t' parts.0 in
    let numbers = eqb-true n n' parts.1 in
    (λ i. Segment (topics i) (numbers i))
same_parts_is (Slot t s) (Slot t' s') is =
    let parts = both_true (same_topic t t') (same_slot s s') is in
    let topics = same_topic_is t t' parts.0 in
    let slots = same_slot_is s s' parts.1 in
    (λ i. Slot (topics i) (slots i))
same_parts_is (Catalog v) (Segment t n) is = absurd (cc)
same_parts_is (Catalog v) (Slot t s) is = absurd (cc)
same_parts_is (Segment t n) (Catalog v) is = absurd (cc)
same_parts_is (Segment t n) (Slot t' s) is = absurd (cc)
same_parts_is (Slot t s) (Catalog v) is = absurd (cc)
same_parts_is (Slot t s) (Segment t' n) is = absurd (cc)

pub same_file_refl : (f : FileId) → same_file f f ≡ true
same_file_refl f = by_parts f f ∙ same_parts_refl f

pub same_file_is : (f g : FileId) → same_file f g ≡ true → f ≡ g
same_file_is f g is = same_parts_is f g (sym (by_parts f g) ∙ is)

pub other_file : (f g : FileId) → g ≢ f → same_file f g ≡ false
other_file f g differ = by_test (same_file f g) (λ is. differ (sym (same_file_is f g is)))
  where
    by_test : (b : Bool) → (b ≡ true → ⊥) → b ≡ false
    by_test true never = absurd (never refl)
    by_test false never = refl

-- a file is this one or another
pub this_or_other : (file f : FileId) → (file ≡ f) ⊎ (f ≢ file)
this_or_other file f = by_test (same_file file f) refl
  where
    hits : same_file file file ≡ false → ⊥
    hits miss = let hit = same_file_refl file in cc

    by_test : (b : Bool) → same_file file f ≡ b → (file ≡ f) ⊎ (f ≢ file)
    by_test true is = inl (same_file_is file f is)
    by_test false is = inr (λ same. hits (subst (λ (g : FileId). same_file file g ≡ false) same is))
