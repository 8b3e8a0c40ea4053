-- The slot that doesn't count is closed, written anew and opened, and then counts.
use Rattle.std.proofs.Common.{◌≡◌, ◌≢◌, ◌⊎◌, inl, inr, ⊎_elim, ℕ, ◌+◌, ◌<◌, ◌^◌, List, false, refl, sym, ◌∙◌, ap, subst, arith}
use Rattle.disk.specs.declared.file_id.TopicId.{TopicId}
use Rattle.disk.specs.declared.file_id.CursorSlot.{CursorSlot}
use Rattle.disk.specs.declared.file_id.CursorSlot.TheVariants.{Zero, One}
use Rattle.disk.specs.declared.file_id.FileId.{FileId}
use Rattle.disk.specs.declared.file_id.FileId.TheVariants.{Slot}
use Rattle.disk.specs.Disk.{Disk, Image, Lawful}
use Rattle.disk.specs.declared.file_id.Folder.{Folder}
use Rattle.disk.specs.Areas.{Within, folder_of, both_within, weaken_within, widen_within}
use Rattle.disk.specs.Contents.{Settled, InDoubt, BeforeOrAfter}
use Rattle.gated_log.specs.declared.label.Label.{Label}
use Rattle.gated_log.specs.declared.start.Start.{Start}
use Rattle.gated_log.specs.Batches.{Bodies, IsLog}
use Rattle.gated_log.specs.Content.{held_content}
use Rattle.gated_log.specs.Headers.{HasOpenHeader}
use Rattle.gated_log.specs.Local.{content_local_lem}
use Rattle.gated_log.specs.declared.log_id.LogId.{LogId}
use Rattle.gated_log.specs.Logs.{LogHolds, log_id, log_content}
use Rattle.two_slot.specs.declared.spare.Spare.{Spare}
use Rattle.two_slot.specs.declared.spare.Spare.TheVariants.{Lower}
use Rattle.two_slot.specs.declared.two_slot.TwoSlot.{TwoSlot}
use Rattle.two_slot.specs.One.{log_open, log_long}
use Rattle.two_slot.specs.Slots.{SlotsOf, other_of, IsLower, Yields, Stands}
use Rattle.two_slot.specs.TwoSlots.{Holds, IsSpare, generation_of, label_of, start_of}
use Rattle.two_slot.proofs.Appending.{apart}

other_twice : (slot : CursorSlot) → other_of (other_of slot) ≡ slot
other_twice Zero = refl
other_twice One = refl

-- a log yields to the next generation
lower_of : (folder : Folder) (n : Label) (bodies : Bodies) (file : List ℕ) → IsLog folder n bodies file → IsLower folder (n.number + 1) file
lower_of folder n bodies file is = record { earlier = n; less = omega arith; long = log_long folder n bodies file is; is_open = log_open folder n bodies file is }

-- the slots of a topic stand for a start and bodies
abbrev pub StandsBy : TopicId → Image → Start × Bodies → Type 0
StandsBy topic image now = Stands topic image now.0 now.1

-- with the next generation, and this start
abbrev pub next_label : TwoSlot → Start → Label
next_label slots start = record { number = generation_of slots + 1; start = start }

-- by the log's own name
pub labelled : (slots : TwoSlot) (start : Start) (id : LogId) → id ≡ log_id slots.log → ◌≡◌ {A = Label} (record { number = id.label.number + 1; start = start }) (next_label slots start)
labelled slots start id is = ap (λ (i : LogId). record { number = i.label.number + 1; start = start }) is

module _ (slots : TwoSlot) (old new : Bodies) (start : Start) (small : generation_of slots + 2 < 2 ^ 64) (d0 : Disk) (s : Settled (Holds slots) d0 old) where
  abbrev topic : TopicId
  topic = slots.topic

  abbrev folder : Folder
  folder = slots.topic.folder

  abbrev g : ℕ
  g = generation_of slots

  abbrev label : Label
  label = label_of slots

  abbrev next : Label
  next = next_label slots start

  abbrev before : Start × Bodies
  before = (start_of slots, old)

  abbrev after : Start × Bodies
  after = (start, new)

  abbrev own : FileId
  own = Slot topic slots.counts

  abbrev target : FileId
  target = Slot topic (other_of slots.counts)

  own_away : own ≢ target
  own_away same = apart topic slots.counts (sym same)

  -- the log that counts, in whatever a crash left before
  own_log : (from : Image) → d0.may_leave from → IsLog folder label old (from own)
  own_log from left = subst (λ (file : FileId). IsLog (folder_of file) label old (from file)) slots.is_slot (s.left from left).log.is

  abbrev Target : Image → Type 0
  Target c = Yields folder g (c target) ⊎ IsLog folder next new (c target)

  either : (c from : Image) → d0.may_leave from → c own ≡ from own → Target c → BeforeOrAfter (StandsBy topic) before after c
  either c from left same (inl yields) = inl (record {
    slot = slots.counts;
    label = label;
    starts = refl;
    counts = record { in_range = s.now.in_range; is = subst (λ (l : List ℕ). IsLog folder label old l) (sym same) (own_log from left); yields = yields };
  })
  either c from left same (inr is) = inr (record {
    slot = other_of slots.counts;
    label = next;
    starts = refl;
    counts = record {
      in_range = omega (arith, small);
      is = is;
      yields = inr (subst (λ (k : CursorSlot). IsLower folder (g + 1) (c (Slot topic k))) (sym (other_twice slots.counts))
          (subst (λ (l : List ℕ). IsLower folder (g + 1) l) (sym same) (lower_of folder label old (from own) (own_log from left))));
    };
  })

  is_slot : (f : FileId) → f ≡ target → SlotsOf topic f
  is_slot f is = subst (λ (file : FileId). SlotsOf topic file) (sym is) refl

  pub all_within : (d : Disk) → Within (λ f. f ≡ target) Target d0 d → Within (SlotsOf topic) (BeforeOrAfter (StandsBy topic) before after) d0 d
  all_within d w = widen_within _ (SlotsOf topic) Target (BeforeOrAfter (StandsBy topic) before after) d0 d is_slot (λ c out. either c out.from out.left (out.elsewhere own own_away) out.own) w

  -- while it is closed, and while it is written
  pub closing_within : (d1 : Disk) → Within (λ f. f ≡ target) (λ c. Yields folder g (c target)) d0 d1 → Within (λ f. f ≡ target) Target d0 d1
  closing_within d1 w = weaken_within (λ f. f ≡ target) (λ c. Yields folder g (c target)) Target d0 d1 (λ c yields. inl yields) w

  pub written_within : (d1 d2 : Disk) → Within (λ f. f ≡ target) (λ c. Yields folder g (c target)) d0 d1 → Within (λ f. f ≡ target) (λ c. (¬ HasOpenHeader folder (c target)) ⊎ IsLog folder next new (c target)) d1 d2
      → Within (λ f. f ≡ target) Target d0 d2
  written_within d1 d2 w v = both_within (λ f. f ≡ target) (λ c. Yields folder g (c target)) (λ c. (¬ HasOpenHeader folder (c target)) ⊎ IsLog folder next new (c target)) Target d0 d1 d2 (λ c y. inl y)
      (λ c which. ⊎_elim (λ none. inl (inl none)) (λ is. inr is) which) w v

  -- after a failure the old bodies are remembered
  pub doubt : (d : Disk) → d.honest → Lawful d → Within (λ f. f ≡ target) Target d0 d → InDoubt (λ image. (start_of slots, log_content slots.log image)) (StandsBy topic) d before after
  doubt d honest law w = record { honest = honest; now = beside d.seen law.leaves_seen; same = beside; left = λ c may. let out = w.any_moment.now c may in either c out.from out.left (out.elsewhere own own_away) out.own }
    where
      same : (c : Image) → d.may_leave c → log_content slots.log c ≡ old
      same c may =
          let out = w.any_moment.now c may in
          content_local_lem slots.log out.from c (λ f is. out.elsewhere f (λ it. own_away (sym slots.is_slot ∙ sym is ∙ it))) ∙ held_content slots.log out.from old (s.left out.from out.left).log

      beside : (c : Image) → d.may_leave c → ◌≡◌ {A = Start × Bodies} (start_of slots, log_content slots.log c) before
      beside c may = ap (λ (b : Bodies). (start_of slots, b)) (same c may)

  -- at the end the other slot counts
  pub replaced : (made : TwoSlot) (d : Disk) → made.topic ≡ topic → made.counts ≡ other_of slots.counts → made.spare ≡ Lower → made.failed ≡ false → generation_of made ≡ g + 1
      → Within (λ f. f ≡ target) (λ c. Unit {0}) d0 d → Settled (LogHolds made.log) d new → Settled (Holds made) d new
  replaced made d topics counts spares works generation w held =
      let range : generation_of made + 1 < 2 ^ 64 = omega (arith, small, generation) in
      let there = Slot made.topic (other_of made.counts) in
      let other : there ≡ own = (λ i. Slot (topics i) (other_of (counts i))) ∙ ap (λ (k : CursorSlot). Slot topic k) (other_twice slots.counts) in
      let spare : (c : Image) (was : List ℕ) → IsLog folder label old was → c own ≡ was → IsSpare made.topic.folder made.spare (generation_of made) (c there) = λ c was log same.
      let lower : IsLower folder (g + 1) (c there) = subst (λ (l : List ℕ). IsLower folder (g + 1) l) (sym (ap c other ∙ same)) (lower_of folder label old was log) in
      subst (λ (t : TopicId). IsSpare t.folder made.spare (generation_of made) (c there)) (sym topics)
      (subst (λ (k : Spare). IsSpare folder k (generation_of made) (c there)) (sym spares) (subst (λ (n : ℕ). IsLower folder n (c there)) (sym generation) lower)) in
      record {
        honest = held.honest;
        now = record { works = works; log = held.now; in_range = range; spare = spare d.seen (d0.seen own) own_now (w.seen own own_away) };
        left = λ c may.
            let out = w.any_moment.now c may in
            record { works = works; log = held.left c may; in_range = range; spare = spare c (out.from own) (own_log out.from out.left) (out.elsewhere own own_away) };
      }
    where
      own_now : IsLog folder label old (d0.seen own)
      own_now = subst (λ (file : FileId). IsLog (folder_of file) label old (d0.seen file)) slots.is_slot s.now.log.is

-- work on one slot
pub slot_alone : (topic : TopicId) (slot : CursorSlot) (d0 d1 : Disk) → Within (λ f. f ≡ Slot topic slot) (λ c. Unit {0}) d0 d1 → Within (SlotsOf topic) (λ c. Unit {0}) d0 d1
slot_alone topic slot d0 d1 w = widen_within (λ f. f ≡ Slot topic slot) (SlotsOf topic) (λ c. Unit {0}) (λ c. Unit {0}) d0 d1 (λ f is. subst (λ (file : FileId). SlotsOf topic file) (sym is) refl) (λ c out. tt) w

pub both_alone : (topic : TopicId) (slot : CursorSlot) (d0 d1 d2 : Disk) → Within (λ f. f ≡ Slot topic slot) (λ c. Unit {0}) d0 d1 → Within (λ f. f ≡ Slot topic slot) (λ c. Unit {0}) d1 d2 → Within (SlotsOf topic) (λ c. Unit {0}) d0 d2
both_alone topic slot d0 d1 d2 first second = slot_alone topic slot d0 d2 (both_within (λ f. f ≡ Slot topic slot) (λ c. Unit {0}) (λ c. Unit {0}) (λ c. Unit {0}) d0 d1 d2 (λ c p. p) (λ c p. p) first second)

-- the slot by its name
pub closing_at : (slots : TwoSlot) (slot : CursorSlot) (d0 d1 : Disk) → slot ≡ other_of slots.counts → Within (λ f. f ≡ Slot slots.topic slot) (λ c. Yields slots.topic.folder (generation_of slots) (c (Slot slots.topic slot))) d0 d1
    → Within (λ f. f ≡ Slot slots.topic (other_of slots.counts)) (λ c. Yields slots.topic.folder (generation_of slots) (c (Slot slots.topic (other_of slots.counts)))) d0 d1
closing_at slots slot d0 d1 is w = subst (λ (k : CursorSlot). Within (λ f. f ≡ Slot slots.topic k) (λ c. Yields slots.topic.folder (generation_of slots) (c (Slot slots.topic k))) d0 d1) is w

abbrev IsWriting : TwoSlot → CursorSlot → Label → Bodies → Disk → Disk → Type 0
IsWriting slots k l new d1 d2 =
    Within (λ f. f ≡ Slot slots.topic k) (λ c. (¬ HasOpenHeader slots.topic.folder (c (Slot slots.topic k))) ⊎ IsLog slots.topic.folder l new (c (Slot slots.topic k))) d1 d2

pub writing_at : (slots : TwoSlot) (slot : CursorSlot) (label : Label) (start : Start) (new : Bodies) (d1 d2 : Disk) → slot ≡ other_of slots.counts → label ≡ next_label slots start
    → Within (λ f. f ≡ Slot slots.topic slot) (λ c. (¬ HasOpenHeader slots.topic.folder (c (Slot slots.topic slot))) ⊎ IsLog slots.topic.folder label new (c (Slot slots.topic slot))) d1 d2
    → Within (λ f. f ≡ Slot slots.topic (other_of slots.counts)) (λ c. (¬ HasOpenHeader slots.topic.folder (c (Slot slots.topic (other_of slots.counts)))) ⊎ IsLog slots.topic.folder (next_label slots start) new (c (Slot slots.topic (other_of slots.counts)))) d1 d2
writing_at slots slot label start new d1 d2 is labels w =
    subst (λ (l : Label). IsWriting slots (other_of slots.counts) l new d1 d2) labels (subst (λ (k : CursorSlot). IsWriting slots k label new d1 d2) is w)

-- what stands there before
pub spare_at : (slots : TwoSlot) (slot : CursorSlot) (c : Image) (bodies : Bodies) → slot ≡ other_of slots.counts → Holds slots c bodies → IsSpare slots.topic.folder slots.spare (generation_of slots) (c (Slot slots.topic slot))
spare_at slots slot c bodies is holds = subst (λ (k : CursorSlot). IsSpare slots.topic.folder slots.spare (generation_of slots) (c (Slot slots.topic k))) (sym is) holds.spare
