-- What holds of a store of a topic at any time.
use Rattle.std.proofs.Common.{◌≡◌, inl, inr, ⊎_elim, ℕ, ◌+◌, ◌≤◌, ◌^◌, max, List, Bool, false, ◌||◌, sym, ap, subst, ◌∙◌, arith}
use Rattle.disk.specs.declared.file_id.TopicId.{TopicId}
use Rattle.disk.specs.declared.file_id.FileId.{FileId}
use Rattle.disk.specs.declared.file_id.FileId.TheVariants.{Catalog, Segment, Slot}
use Rattle.disk.specs.Disk.{Disk, Image, Undisturbed}
use Rattle.disk.specs.Areas.{Agree, FilesOf, OfTopic, served}
use Rattle.journal.specs.Chains.{SegmentsOf}
use Rattle.two_slot.specs.Slots.{SlotsOf}
use Rattle.gated_log.specs.declared.refusal.Refusal.{Refusal}
use Rattle.gated_log.specs.Batches.{Bodies}
use Rattle.gated_log.specs.declared.start.Start.{Start}
use Rattle.managed_ledger.specs.Entries.{Ledger, end_of, trimmed}
use Rattle.managed_ledger.specs.Points.{Begins}
use Rattle.managed_ledger.specs.Shape.{total}
use Rattle.records.specs.Floors.{HaveBelow}
use Rattle.cursor_store.specs.Items.{FitsLedger, told_of}
use Rattle.records.specs.Maps.{Kept}
use Rattle.topic_stores.specs.Views.{StoreView, EntryView, SubView, BothHold, SlotsTell, Settled, AreLaws, entry_view, sub_view, both, stand, FaultThere, FaultFrom, fault, lay}

-- a store stays settled where the files of its topic are left alone
pub settled_stays : (stands : ℕ → Image → Ledger → Kept → Type 0) (v : StoreView) → AreLaws stands v → (old new : Disk) (ledger : Ledger) (kept : Kept) → Undisturbed (OfTopic v.topic) old new → Settled v old ledger kept → Settled v new ledger kept
settled_stays stands v laws old new ledger kept u x = record {
  settled = record {
    honest = u.honest x.settled.honest;
    now = laws.local old.seen new.seen ledger kept u.seen x.settled.now;
    left = λ c may. let d = u.left c may in laws.local d.0 c ledger kept d.2 (x.settled.left d.0 d.1);
  };
  steady = λ c may. let d = u.left c may in
      laws.written_local d.0 c ledger kept d.2 (x.settled.left d.0 d.1) ∙ x.steady d.0 d.1 ∙ sym (laws.written_local old.seen new.seen ledger kept u.seen x.settled.now);
}

-- ---- a topic of a folder that is served

pub is_served : (t : TopicId) (n : ℕ) → t ≡ served n → t ≡ served t.number
is_served t n is = is ∙ ap served (sym (ap (λ (id : TopicId). id.number) is))

pub still_served : (t t' : TopicId) → t' ≡ t → t ≡ served t.number → t' ≡ served t'.number
still_served t t' same is = is_served t' t.number (same ∙ is)

-- ---- two stores, each with files of its own

-- segments and slots are files of their topic, and no file is both
pub segment_own : (t : TopicId) (f : FileId) → SegmentsOf t f → FilesOf t f
segment_own t (Catalog folder) h = h
segment_own t (Segment of n) h = h
segment_own t (Slot of s) h = absurd h

pub slot_own : (t : TopicId) (f : FileId) → SlotsOf t f → FilesOf t f
slot_own t (Catalog folder) h = h
slot_own t (Segment of n) h = absurd h
slot_own t (Slot of s) h = h

pub are_apart : (t : TopicId) (f : FileId) → SegmentsOf t f → SlotsOf t f → ⊥
are_apart t (Catalog folder) h k = h
are_apart t (Segment of n) h k = k
are_apart t (Slot of s) h k = h

-- what a store of entries promises
pub record EntryLaws (files_stand : TopicId → Start → Image → Ledger → Type 0) (area : TopicId → FileId → Type 0) (e : EntryView) : Type 0 where
  pub works : (c : Image) (l : Ledger) → e.holds c l → e.failed ≡ false
  pub counts : (c : Image) (l : Ledger) → e.holds c l → e.start.base + total e.counts ≡ end_of l
  pub stands : (c : Image) (l : Ledger) → e.holds c l → files_stand e.topic e.start c l
  pub behind : (c : Image) (l : Ledger) (start : Start) → e.holds c l → Begins e.start e.counts start → files_stand e.topic start c (trimmed start.base l)
  pub based : (t : TopicId) (start : Start) (c : Image) (l : Ledger) → files_stand t start c l → l.base ≡ start.base
  pub few : (t : TopicId) (start : Start) (c : Image) (l : Ledger) → files_stand t start c l → end_of l ≤ 2 ^ 62
  pub own : (f : FileId) → area e.topic f → SegmentsOf e.topic f
  pub local : (a b : Image) (l : Ledger) → Agree (area e.topic) a b → e.holds a l → e.holds b l

-- what a store of subscriptions promises
pub record SubLaws (files_stand : TopicId → ℕ → Start → Image → Kept → Type 0) (area : TopicId → FileId → Type 0) (s : SubView) : Type 0 where
  pub works : (n : ℕ) (said : Start) (c : Image) (k : Kept) → s.holds n said c k → s.failed ≡ false
  pub content : (n : ℕ) (said : Start) (c : Image) (k : Kept) → s.holds n said c k → s.kept ≡ k
  pub stands : (n : ℕ) (said : Start) (c : Image) (k : Kept) → s.holds n said c k → files_stand s.topic n said c k
  pub longer : (n m : ℕ) (said : Start) (c : Image) (k : Kept) → n ≤ m → s.holds n said c k → s.holds m said c k
  pub later : (t : TopicId) (n m : ℕ) (said : Start) (c : Image) (k : Kept) → n ≤ m → files_stand t n said c k → files_stand t m said c k
  pub fits : (t : TopicId) (n : ℕ) (said : Start) (c : Image) (k : Kept) → files_stand t n said c k → FitsLedger n (told_of said k)
  pub own : (f : FileId) → area s.topic f → SlotsOf s.topic f
  pub local : (n : ℕ) (said : Start) (a b : Image) (k : Kept) → Agree (area s.topic) a b → s.holds n said a k → s.holds n said b k
  pub written_local : (a b : Image) → Agree (area s.topic) a b → s.written b ≡ s.written a

-- each of one store, by the laws of its trait
pub entry_laws : {E : Type 0} (topic_of : E → TopicId) (start_of : E → Start) (counts : E → List ℕ) (per_ledger : E → ℕ) (failed : E → Bool) (holds : E → Image → Ledger → Type 0) (files_stand : TopicId → Start → Image → Ledger → Type 0) (area : TopicId → FileId → Type 0)
    → ((store : E) (c : Image) (l : Ledger) → holds store c l → failed store ≡ false) → ((store : E) (c : Image) (l : Ledger) → holds store c l → (start_of store).base + total (counts store) ≡ end_of l)
    → ((store : E) (c : Image) (l : Ledger) → holds store c l → files_stand (topic_of store) (start_of store) c l)
    → ((store : E) (c : Image) (l : Ledger) (start : Start) → holds store c l → Begins (start_of store) (counts store) start → files_stand (topic_of store) start c (trimmed start.base l))
    → ((t : TopicId) (start : Start) (c : Image) (l : Ledger) → files_stand t start c l → l.base ≡ start.base) → ((t : TopicId) (start : Start) (c : Image) (l : Ledger) → files_stand t start c l → end_of l ≤ 2 ^ 62)
    → ((t : TopicId) (f : FileId) → area t f → SegmentsOf t f) → ((store : E) (a b : Image) (l : Ledger) → Agree (area (topic_of store)) a b → holds store a l → holds store b l)
    → (store : E) → EntryLaws files_stand area (entry_view topic_of start_of counts per_ledger failed holds store)
entry_laws topic_of start_of counts per_ledger failed holds files_stand area works is_count stands behind based few own local store = record {
  works = λ c l x. works store c l x;
  counts = λ c l x. is_count store c l x;
  stands = λ c l x. stands store c l x;
  behind = λ c l start x begins. behind store c l start x begins;
  based = based;
  few = few;
  own = λ f a. own (topic_of store) f a;
  local = λ a b l same x. local store a b l same x;
}

pub sub_laws : {C : Type 0} (topic_of : C → TopicId) (start_of : C → Start) (content : C → Kept) (failed : C → Bool) (holds : C → ℕ → Start → Image → Kept → Type 0) (written : C → Image → Bodies) (files_stand : TopicId → ℕ → Start → Image → Kept → Type 0) (area : TopicId → FileId → Type 0)
    → ((store : C) (n : ℕ) (said : Start) (c : Image) (k : Kept) → holds store n said c k → failed store ≡ false) → ((store : C) (n : ℕ) (said : Start) (c : Image) (k : Kept) → holds store n said c k → content store ≡ k)
    → ((store : C) (n : ℕ) (said : Start) (c : Image) (k : Kept) → holds store n said c k → files_stand (topic_of store) n said c k) → ((store : C) (n m : ℕ) (said : Start) (c : Image) (k : Kept) → n ≤ m → holds store n said c k → holds store m said c k)
    → ((t : TopicId) (n m : ℕ) (said : Start) (c : Image) (k : Kept) → n ≤ m → files_stand t n said c k → files_stand t m said c k) → ((t : TopicId) (n : ℕ) (said : Start) (c : Image) (k : Kept) → files_stand t n said c k → FitsLedger n (told_of said k))
    → ((t : TopicId) (f : FileId) → area t f → SlotsOf t f) → ((store : C) (n : ℕ) (said : Start) (a b : Image) (k : Kept) → Agree (area (topic_of store)) a b → holds store n said a k → holds store n said b k)
    → ((store : C) (a b : Image) → Agree (area (topic_of store)) a b → written store b ≡ written store a)
    → (store : C) → SubLaws files_stand area (sub_view topic_of start_of content failed holds written store)
sub_laws topic_of start_of content failed holds written files_stand area works is_content stands longer later fits own local written_local store = record {
  works = λ n said c k x. works store n said c k x;
  content = λ n said c k x. is_content store n said c k x;
  stands = λ n said c k x. stands store n said c k x;
  longer = λ n m said c k low x. longer store n m said c k low x;
  later = later;
  fits = fits;
  own = λ f a. own (topic_of store) f a;
  local = λ n said a b k same x. local store n said a b k same x;
  written_local = λ a b same. written_local store a b same;
}

none_failed : (a b : Bool) → a ≡ false → b ≡ false → (a || b) ≡ false
none_failed a b x y = ap (λ (z : Bool). z || b) x ∙ y

module _ (es : TopicId → Start → Image → Ledger → Type 0) (ss : TopicId → ℕ → Start → Image → Kept → Type 0) (ea ca : TopicId → FileId → Type 0) (e : EntryView) (s : SubView) (el : EntryLaws es ea e) (sl : SubLaws ss ca s) where
  slot_of_topic : s.topic ≡ e.topic → (f : FileId) → ca s.topic f → FilesOf e.topic f
  slot_of_topic one_topic f a = subst (λ t. FilesOf t f) one_topic (slot_own s.topic f (sl.own f a))

  pub both_stand : (c : Image) (l : Ledger) (k : Kept) → BothHold e s c l k → stand es ss e.topic c l k
  both_stand c l k x = (
    s.start,
    subst (λ (start : Start). es e.topic start c l) x.one_start (el.stands c l x.entries),
    subst (λ t. ss t (end_of l) s.start c k) x.one_topic (sl.stands (end_of l) s.start c k x.subscriptions),
  )

  -- and of the topic of its number in a folder that is served
  both_stand_served : (c : Image) (l : Ledger) (k : Kept) → BothHold e s c l k → stand es ss (served e.topic.number) c l k
  both_stand_served c l k x = subst (λ (t : TopicId). stand es ss t c l k) x.is_served (both_stand c l k x)

  of_topic : e.topic ≡ served e.topic.number → (f : FileId) → FilesOf e.topic f → OfTopic e.topic.number f
  of_topic is f own = subst (λ (t : TopicId). FilesOf t f) is own

  pub both_laws : AreLaws (λ (t : ℕ). stand es ss (served t)) (both e s)
  both_laws = record {
    works = λ c l k x. none_failed e.failed s.failed (el.works c l x.entries) (sl.works (end_of l) s.start c k x.subscriptions);
    begins = λ c l k x. sym (el.based e.topic e.start c l (el.stands c l x.entries) ∙ ap (λ (start : Start). start.base) x.one_start);
    counts = λ c l k x. el.counts c l x.entries;
    remembers = λ c l k x. sl.content (end_of l) s.start c k x.subscriptions;
    stands = both_stand_served;
    local = λ a b l k same x. record {
      one_topic = x.one_topic;
      is_served = x.is_served;
      one_start = x.one_start;
      entries = el.local a b l (λ f own. same f (of_topic x.is_served f (segment_own e.topic f (el.own f own)))) x.entries;
      subscriptions = sl.local (end_of l) s.start a b k (λ f own. same f (of_topic x.is_served f (slot_of_topic x.one_topic f own))) x.subscriptions;
    };
    written_local = λ a b l k same x. sl.written_local a b (λ f own. same f (of_topic x.is_served f (slot_of_topic x.one_topic f own)));
  }

  pub hold_lay : (laid : TopicId → ℕ → Image → List ℕ → Type 0) → ((c : Image) (l : Ledger) → e.holds c l → laid e.topic e.start.first c e.counts) → (c : Image) (l : Ledger) (k : Kept) → BothHold e s c l k → lay laid ss (served e.topic.number) c e.counts
  unfolding both_stand
  hold_lay laid law c l k x =
      let is = both_stand c l k x in
      let there : lay laid ss e.topic c e.counts = (
        s.start,
        record { entries = end_of l; few = el.few e.topic s.start c l is.1; kept = k; stand = is.2 },
        subst (λ (start : Start). laid e.topic start.first c e.counts) x.one_start (law c l x.entries),
      ) in
      subst (λ (t : TopicId). lay laid ss t c e.counts) x.is_served there

-- ---- files of a topic alone

module _ (ea ca : TopicId → FileId → Type 0) (segments : (t : TopicId) (f : FileId) → ea t f → SegmentsOf t f) (slots : (t : TopicId) (f : FileId) → ca t f → SlotsOf t f)
    (ss : TopicId → ℕ → Start → Image → Kept → Type 0) (slots_local : (t : TopicId) (n : ℕ) (said : Start) (a b : Image) (k : Kept) → Agree (ca t) a b → ss t n said a k → ss t n said b k) where
  segments_agree : (t : TopicId) (a b : Image) → Agree (FilesOf t) a b → Agree (ea t) a b
  segments_agree t a b same f own = same f (segment_own t f (segments t f own))

  slots_agree : (t : TopicId) (a b : Image) → Agree (FilesOf t) a b → Agree (ca t) a b
  slots_agree t a b same f own = same f (slot_own t f (slots t f own))

  pub stand_local : (es : TopicId → Start → Image → Ledger → Type 0) → ((t : TopicId) (start : Start) (a b : Image) (l : Ledger) → Agree (ea t) a b → es t start a l → es t start b l)
      → (t : TopicId) (a b : Image) (l : Ledger) (k : Kept) → Agree (FilesOf t) a b → stand es ss t a l k → stand es ss t b l k
  stand_local es local t a b l k same x = (x.0, local t x.0 a b l (segments_agree t a b same) x.1, slots_local t (end_of l) x.0 a b k (slots_agree t a b same) x.2)

  pub lay_local : (laid : TopicId → ℕ → Image → List ℕ → Type 0) → ((t : TopicId) (first : ℕ) (a b : Image) (counts : List ℕ) → Agree (ea t) a b → laid t first a counts → laid t first b counts)
      → (t : TopicId) (a b : Image) (counts : List ℕ) → Agree (FilesOf t) a b → lay laid ss t a counts → lay laid ss t b counts
  lay_local laid local t a b counts same x =
      let told = x.1 in
      (x.0, record { entries = told.entries; few = told.few; kept = told.kept; stand = slots_local t told.entries x.0 a b told.kept (slots_agree t a b same) told.stand }, local t x.0.first a b counts (segments_agree t a b same) x.2)

-- ---- what files stand for

module _ (es : TopicId → Start → Image → Ledger → Type 0) (ss : TopicId → ℕ → Start → Image → Kept → Type 0)
    (one_ledger : (t : TopicId) (start : Start) (c : Image) (one other : Ledger) → es t start c one → es t start c other → one ≡ other)
    (based : (t : TopicId) (start : Start) (c : Image) (l : Ledger) → es t start c l → l.base ≡ start.base)
    (few : (t : TopicId) (start : Start) (c : Image) (l : Ledger) → es t start c l → end_of l ≤ 2 ^ 62)
    (one_told : (t : TopicId) (n : ℕ) (said said' : Start) (c : Image) (k j : Kept) → n ≤ 2 ^ 62 → ss t n said c k → ss t n said' c j → (said ≡ said') × (k ≡ j))
    (later : (t : TopicId) (n m : ℕ) (said : Start) (c : Image) (k : Kept) → n ≤ m → ss t n said c k → ss t m said c k)
    (fits : (t : TopicId) (n : ℕ) (said : Start) (c : Image) (k : Kept) → ss t n said c k → FitsLedger n (told_of said k)) where
  -- slots tell one thing, beside whatever ledgers
  told_one : (t : TopicId) (n m : ℕ) (said said' : Start) (c : Image) (k j : Kept) → n ≤ 2 ^ 62 → m ≤ 2 ^ 62 → ss t n said c k → ss t m said' c j → (said ≡ said') × (k ≡ j)
  told_one t n m said said' c k j low low' a b =
      one_told t (max n m) said said' c k j (omega (arith, low, low')) (later t n (max n m) said c k (omega arith) a) (later t m (max n m) said' c j (omega arith) b)

  pub stand_one : (t : TopicId) (c : Image) (one other : Ledger) (k j : Kept) → stand es ss t c one k → stand es ss t c other j → (one ≡ other) × (k ≡ j)
  stand_one t c one other k j a b =
      let low = few t a.0 c one a.1 in
      let low' = few t b.0 c other b.1 in
      let same = told_one t (end_of one) (end_of other) a.0 b.0 c k j low low' a.2 b.2 in
      (one_ledger t a.0 c one other a.1 (subst (λ (said : Start). es t said c other) (sym same.0) b.1), same.1)

  -- each subscription has all positions below the first one that is there
  pub stand_below : (t : TopicId) (c : Image) (l : Ledger) (k : Kept) → stand es ss t c l k → HaveBelow l.base k
  stand_below t c l k is = subst (λ (b : ℕ). HaveBelow b k) (sym (based t is.0 c l is.1)) (fits t (end_of l) is.0 c k is.2).begins.acknowledged

  tell_one : (t : TopicId) (c : Image) (said said' : Start) → SlotsTell ss t c said → SlotsTell ss t c said' → said ≡ said'
  tell_one t c said said' a b = (told_one t a.entries b.entries said said' c a.kept b.kept a.few b.few a.stand b.stand).0

  pub lay_one : (el : TopicId → ℕ → Image → List ℕ → Type 0) → ((t : TopicId) (first : ℕ) (c : Image) (one other : List ℕ) → el t first c one → el t first c other → one ≡ other)
      → (t : TopicId) (c : Image) (one other : List ℕ) → lay el ss t c one → lay el ss t c other → one ≡ other
  lay_one el laid_one t c one other a b =
      laid_one t a.0.first c one other a.2 (subst (λ (said : Start). el t said.first c other) (sym (tell_one t c a.0 b.0 a.1 b.1)) b.2)

-- ---- faults

module _ (begins : TopicId → Image → Start → Type 0) (es : TopicId → Start → Image → Ledger → Type 0) (ef : TopicId → Start → Image → Refusal → Type 0) (sf : TopicId → ℕ → Image → Refusal → Type 0)
    (one_ledger : (t : TopicId) (start : Start) (c : Image) (one other : Ledger) → es t start c one → es t start c other → one ≡ other)
    (no_fault : (t : TopicId) (start : Start) (c : Image) (l : Ledger) (e : Refusal) → es t start c l → ¬ ef t start c e) where
  one_there : ((t : TopicId) (start : Start) (c : Image) (one other : Refusal) → ef t start c one → ef t start c other → one ≡ other) → ((t : TopicId) (n : ℕ) (c : Image) (one other : Refusal) → sf t n c one → sf t n c other → one ≡ other)
      → (t : TopicId) (start : Start) (c : Image) (one other : Refusal) → FaultThere es ef sf t start c one → FaultThere es ef sf t start c other → one ≡ other
  one_there segments_one slots_one t start c one other (inl is) (inl is') = segments_one t start c one other is is'
  one_there segments_one slots_one t start c one other (inl is) (inr is') = absurd (no_fault t start c is'.0 one is'.1 is)
  one_there segments_one slots_one t start c one other (inr is) (inl is') = absurd (no_fault t start c is.0 other is.1 is')
  one_there segments_one slots_one t start c one other (inr is) (inr is') =
      slots_one t (end_of is'.0) c one other (subst (λ (l : Ledger). sf t (end_of l) c one) (one_ledger t start c is.0 is'.0 is.1 is'.1) is.2) is'.2

  one_fault : ((t : TopicId) (start : Start) (c : Image) (one other : Refusal) → ef t start c one → ef t start c other → one ≡ other) → ((t : TopicId) (n : ℕ) (c : Image) (one other : Refusal) → sf t n c one → sf t n c other → one ≡ other)
      → (t : TopicId) (start : Start) (c : Image) (one other : Refusal) → FaultFrom es ef sf t start c one → FaultFrom es ef sf t start c other → one ≡ other
  one_fault segments_one slots_one t start c one other (inl is) (inl is') = is.1 ∙ sym is'.1
  one_fault segments_one slots_one t start c one other (inl is) (inr is') = absurd (is.0 is'.0)
  one_fault segments_one slots_one t start c one other (inr is) (inl is') = absurd (is'.0 is.0)
  one_fault segments_one slots_one t start c one other (inr is) (inr is') = one_there segments_one slots_one t start c one other is.1 is'.1

  -- files have one first fault
  pub fault_one : ((t : TopicId) (start : Start) (c : Image) (one other : Refusal) → ef t start c one → ef t start c other → one ≡ other) → ((t : TopicId) (n : ℕ) (c : Image) (one other : Refusal) → sf t n c one → sf t n c other → one ≡ other)
      → ((t : TopicId) (c : Image) (one other : Start) → begins t c one → begins t c other → one ≡ other)
      → (t : TopicId) (c : Image) (one other : Refusal) → fault begins es ef sf t c one → fault begins es ef sf t c other → one ≡ other
  fault_one segments_one slots_one begins_one t c one other is is' =
      one_fault segments_one slots_one t is'.0 c one other (subst (λ (said : Start). FaultFrom es ef sf t said c one) (begins_one t c is.0 is'.0 is.1 is'.1) is.2) is'.2

  -- where they stand for something they have none
  pub stand_sound : (ss : TopicId → ℕ → Start → Image → Kept → Type 0) → ((t : TopicId) (n : ℕ) (said : Start) (c : Image) (k : Kept) (e : Refusal) → ss t n said c k → ¬ sf t n c e)
      → ((t : TopicId) (n : ℕ) (said : Start) (c : Image) (k : Kept) → ss t n said c k → FitsLedger n (told_of said k))
      → ((t : TopicId) (start : Start) (c : Image) (l : Ledger) → es t start c l → end_of l ≤ 2 ^ 62)
      → ((t : TopicId) (n : ℕ) (start said : Start) (c : Image) (k : Kept) → n ≤ 2 ^ 62 → ss t n start c k → begins t c said → said ≡ start)
      → (t : TopicId) (c : Image) (l : Ledger) (k : Kept) (e : Refusal) → stand es ss t c l k → ¬ fault begins es ef sf t c e
  stand_sound ss no_slot_fault fits few begins_stands t c l k e is = λ bad.
      let said = begins_stands t (end_of l) is.0 bad.0 c k (few t is.0 c l is.1) is.2 bad.1 in
      let begins = (fits t (end_of l) is.0 c k is.2).begins in
      ⊎_elim (λ out. out.0 (omega (arith, begins.within, few t is.0 c l is.1), begins.in_range))
      (λ there. ⊎_elim (λ segments. no_fault t is.0 c l e is.1 segments)
      (λ slots. no_slot_fault t (end_of slots.0) is.0 c k e (subst (λ (m : Ledger). ss t (end_of m) is.0 c k) (one_ledger t is.0 c l slots.0 is.1 slots.1) is.2) slots.2) there.1)
      (subst (λ (s : Start). FaultFrom es ef sf t s c e) said bad.2)
