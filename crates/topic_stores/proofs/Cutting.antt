-- A trim of both stores, from its parts: the slots say where the ledger begins, then the segments before it are cut.
use Rattle.std.proofs.Common.{◌≡◌, inl, inr, ⊎_elim, ℕ, ◌≤◌, sym, subst, ◌∙◌}
use Rattle.disk.specs.declared.file_id.TopicId.{TopicId}
use Rattle.disk.specs.declared.file_id.FileId.{FileId}
use Rattle.disk.specs.Disk.{Disk, Image}
use Rattle.disk.specs.Areas.{FilesOf, served, Within, widen_within, both_within}
use Rattle.disk.specs.Contents as contents
use Rattle.disk.specs.Contents.{Steady, BeforeOrAfter}
use Rattle.gated_log.specs.declared.start.Start.{Start}
use Rattle.managed_ledger.specs.Entries.{Ledger, end_of, trimmed}
use Rattle.managed_ledger.specs.Points.{Begins}
use Rattle.managed_ledger.specs.Trims.{end_trimmed}
use Rattle.records.specs.Maps.{Kept}
use Rattle.topic_stores.specs.Views.{EntryView, SubView, Settled, both, stand}
use Rattle.topic_stores.specs.Laws.{EntryLaws, SubLaws, segment_own, slot_own}
use Rattle.topic_stores.proofs.Trimming.{begins_within}
use Rattle.topic_stores.proofs.Writing.{segments_there, slots_there, settled_both}

module _ (es : TopicId → Start → Image → Ledger → Type 0) (ss : TopicId → ℕ → Start → Image → Kept → Type 0) (ea ca : TopicId → FileId → Type 0) (e : EntryView) (s : SubView) (el : EntryLaws es ea e) (sl : SubLaws ss ca s)
    (ledger : Ledger) (kept : Kept) (start : Start) where
  abbrev n : ℕ
  n = end_of ledger

  abbrev Either : Image → Type 0
  Either = BeforeOrAfter (λ c l. stand es ss e.topic c l kept) ledger (trimmed start.base ledger)

  abbrev SlotsLeft : Image → Type 0
  SlotsLeft = BeforeOrAfter (λ c said. ss s.topic n said c kept) s.start start

  abbrev SegmentsLeft : Image → Type 0
  SegmentsLeft c = es e.topic start c (trimmed start.base ledger)

  module _ (begins : Begins e.start e.counts start) where
    pub there : (c : Image) → e.holds c ledger → start.base ≤ n
    there c holds = begins_within e.start start e.counts n (el.counts c ledger holds) begins

    behind_there : (c : Image) → start.base ≤ n → es e.topic start c (trimmed start.base ledger) → ss e.topic n start c kept → stand es ss e.topic c (trimmed start.base ledger) kept
    behind_there c low segments slots = (start, segments, subst (λ (m : ℕ). ss e.topic m start c kept) (sym (end_trimmed ledger start.base low)) slots)

    -- the slots say so, or that failed
    pub within_slots : (was is : Disk) → Settled (both e s) was ledger kept → Within (ca s.topic) SlotsLeft was is → Within (FilesOf e.topic) Either was is
    within_slots was is x w =
        let one = x.settled.now.one_topic in
        widen_within (ca s.topic) (FilesOf e.topic) SlotsLeft Either was is (λ f a. subst (λ t. FilesOf t f) one (slot_own s.topic f (sl.own f a))) (λ c out.
        let h = x.settled.left out.from out.left in
        let holds = segments_there es ss ea ca e s el sl SlotsLeft was ledger c out one h.entries in
        ⊎_elim
        (λ old. inl (s.start, subst (λ (begin : Start). es e.topic begin c ledger) h.one_start (el.stands c ledger holds), subst (λ t. ss t n s.start c kept) one old))
        (λ new. inr (behind_there c (there c holds) (el.behind c ledger start holds begins) (subst (λ t. ss t n start c kept) one new))) out.own) w

  -- the segments are cut, or that failed, once the slots say so
  module _ (s' : SubView) (sl' : SubLaws ss ca s') where
    pub within_cut : (mid is : Disk) → s'.topic ≡ e.topic → s'.start ≡ start → start.base ≤ n → Steady (s'.holds n s'.start) s'.written mid kept → Within (ea e.topic) SegmentsLeft mid is → Within (FilesOf e.topic) Either mid is
    within_cut mid is one said low y w = widen_within (ea e.topic) (FilesOf e.topic) SegmentsLeft Either mid is (λ f a. segment_own e.topic f (el.own f a)) (λ c out.
        let k = slots_there es ss ea ca e s' el sl' SegmentsLeft mid n kept c out one (y.settled.left out.from out.left) in
        inr (start, out.own, subst (λ (m : ℕ). ss e.topic m start c kept) (sym (end_trimmed ledger start.base low)) (subst (λ (begin : Start). ss e.topic n begin c kept) said k))) w

    -- both are settled then
    pub cut_settled : (e' : EntryView) (is : Disk) → s'.topic ≡ e'.topic → e'.topic ≡ served e'.topic.number → s'.start ≡ start → e'.start ≡ start → start.base ≤ n
        → contents.Settled e'.holds is (trimmed start.base ledger) → Steady (s'.holds n s'.start) s'.written is kept → Settled (both e' s') is (trimmed start.base ledger) kept
    cut_settled e' is one there said begin low x y =
        settled_both e' s' is (trimmed start.base ledger) kept one there (begin ∙ sym said) x
        (subst (λ (m : ℕ). Steady (s'.holds m s'.start) s'.written is kept) (sym (end_trimmed ledger start.base low)) y)

  pub both_trimmed : (was mid is : Disk) → Within (FilesOf e.topic) Either was mid → Within (FilesOf e.topic) Either mid is → Within (FilesOf e.topic) Either was is
  both_trimmed was mid is first second = both_within (FilesOf e.topic) Either Either Either was mid is (λ c x. x) (λ c x. x) first second
