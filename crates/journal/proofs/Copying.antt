-- Segments are copied to another topic, one after another.
use Rattle.std.proofs.Common.{◌≡◌, ◌≢◌, inl, inr, ℕ, zero, suc, ◌+◌, ◌<◌, ◌≤◌, List, [], ◌∷◌, length, refl, sym, ◌∙◌, ap, subst, arith, Some}
use Rattle.std.specs.Prelude.{Option, None}
use Rattle.std.specs.List.{slice_get}
use Rattle.std.proofs.lemmas.Bool.{cases_lt}
use Rattle.disk.specs.declared.file_id.TopicId.{TopicId}
use Rattle.disk.specs.declared.file_id.FileId.{FileId}
use Rattle.disk.specs.declared.file_id.FileId.TheVariants.{Catalog, Segment, Slot}
use Rattle.disk.specs.Disk.{Disk, Image, Synced}
use Rattle.disk.specs.Areas.{Agree, Within}
use Rattle.gated_log.specs.declared.log.GatedLog.{GatedLog}
use Rattle.gated_log.specs.declared.log_id.LogId.{LogId}
use Rattle.gated_log.specs.declared.label.Label.{Label}
use Rattle.gated_log.specs.Batches.{Bodies, IsLog}
use Rattle.gated_log.specs.Local.{holds_local_lem}
use Rattle.gated_log.specs.Logs.{LogHolds, log_id}
use Rattle.journal.specs.Chains.{Link, Chain, Stands, ClosedStand, SegmentsOf, batches_of, closed_batches_of}
use Rattle.journal.specs.Copies.{AreSynced}
use Rattle.journal.specs.Files.{segment_topic}
use Rattle.journal.specs.Journals.{LogAt, ClosedHold}
use Rattle.journal.specs.Links.{other_segment}

of_some : TopicId → Option TopicId → TopicId
of_some topic None = topic
of_some topic (Some other) = other

own_topic : (topic : TopicId) (f : FileId) → SegmentsOf topic f → segment_topic f ≡ Some topic
own_topic topic (Catalog folder) own = absurd own
own_topic topic (Segment of number) own = ap Some own
own_topic topic (Slot of slot) own = absurd own

one_topic : (one other : TopicId) → Some one ≡ Some other → one ≡ other
unfolding of_some
one_topic one other is = ap (of_some one) is

pub own_segment : (topic : TopicId) (number : ℕ) (f : FileId) → f ≡ Segment topic number → SegmentsOf topic f
own_segment topic number f is = subst (λ (x : FileId). SegmentsOf topic x) (sym is) refl

-- a log of one topic is no segment of another one
pub apart_file : (log : GatedLog) (own topic : TopicId) (number : ℕ) → segment_topic (log_id log).file ≡ Some own → own ≢ topic → (log_id log).file ≢ Segment topic number
apart_file log own topic number its differ is = differ (one_topic own topic (sym its ∙ ap segment_topic is))

-- and holds what it held while those are written
pub holds_apart : (log : GatedLog) (own topic : TopicId) (a b : Image) (batches : Bodies) → segment_topic (log_id log).file ≡ Some own → own ≢ topic → Agree (λ f. ¬ SegmentsOf topic f) a b → LogHolds log a batches → LogHolds log b batches
holds_apart log own topic a b batches its differ same holds =
    holds_local_lem log a b batches (λ f is. same f (λ other. differ (one_topic own topic (sym its ∙ ap segment_topic (sym is) ∙ own_topic topic f other)))) holds

-- the log of a closed segment
pub closed_at : (topic : TopicId) (from : ℕ) (image : Image) (logs : List GatedLog) (links : List Link) (k : ℕ) (log : GatedLog) (link : Link) → ClosedHold topic from image logs links → slice_get logs k ≡ Some log → slice_get links k ≡ Some link
    → LogAt log (record { file = Segment topic (from + k); label = link.label }) image (closed_batches_of link)
closed_at topic from image [] links k log link hold there is = cc
closed_at topic from image (l ∷ logs) [] k log link hold there is = absurd hold
closed_at topic from image (l ∷ logs) (m ∷ links) zero log link hold there is =
    let same : l ≡ log = cc in
    let this : m ≡ link = cc in
    let here : from ≡ from + 0 = omega arith in
    subst (λ (n : ℕ). LogAt log (record { file = Segment topic n; label = link.label }) image (closed_batches_of link)) here
    (subst (λ (g : GatedLog). LogAt g (record { file = Segment topic from; label = link.label }) image (closed_batches_of link)) same
    (subst (λ (n : Link). LogAt l (record { file = Segment topic from; label = n.label }) image (closed_batches_of n)) this hold.0))
closed_at topic from image (l ∷ logs) (m ∷ links) (suc k) log link hold there is =
    let on : from + 1 + k ≡ from + suc k = omega arith in
    subst (λ (n : ℕ). LogAt log (record { file = Segment topic n; label = link.label }) image (closed_batches_of link)) on (closed_at topic (from + 1) image logs links k log link hold.1 there is)

-- a copy of a log has its label
pub copied_label : (log : GatedLog) (file : FileId) (label : Label) (image : Image) (batches : Bodies) (topic : TopicId) (bytes : List ℕ) → LogAt log (record { file = file; label = label }) image batches → IsLog topic.folder (log_id log).label batches bytes
    → IsLog topic.folder label batches bytes
copied_label log file label image batches topic bytes at is = subst (λ (i : LogId). IsLog topic.folder i.label batches bytes) at.id_is is

-- the first of these segments are copied
pub record Copied (topic : TopicId) (first : ℕ) (links : List Link) (place : ℕ) (d : Disk) : Type 0 where
  pub stand : (k : ℕ) (link : Link) → k < place → slice_get links k ≡ Some link → IsLog topic.folder link.label (closed_batches_of link) (d.seen (Segment topic (first + k)))
  pub synced : (k : ℕ) → k < place → Synced (Segment topic (first + k)) d

pub none_copied : (topic : TopicId) (first : ℕ) (links : List Link) (d : Disk) → Copied topic first links 0 d
none_copied topic first links d = record { stand = λ k link few there. absurd (omega (arith, few)); synced = λ k few. absurd (omega (arith, few)) }

-- while a later one is written they stay so
still_copied : (topic : TopicId) (first : ℕ) (links : List Link) (place : ℕ) (d1 d2 : Disk) → Copied topic first links place d1 → Within (λ f. f ≡ Segment topic (first + place)) (λ c. Unit {0}) d1 d2 → Copied topic first links place d2
still_copied topic first links place d1 d2 is w = record {
  stand = λ k link few there. subst (λ (b : List ℕ). IsLog topic.folder link.label (closed_batches_of link) b) (sym (w.seen (Segment topic (first + k)) (earlier k few))) (is.stand k link few there);
  synced = λ k few c may.
      let out = w.any_moment.now c may in
      out.elsewhere (Segment topic (first + k)) (earlier k few) ∙ is.synced k few out.from out.left ∙ sym (w.seen (Segment topic (first + k)) (earlier k few));
}
  where
    earlier : (k : ℕ) → k < place → Segment topic (first + k) ≢ Segment topic (first + place)
    earlier k few = other_segment topic (first + k) (first + place) (λ e. absurd (omega (arith, few, e)))

-- one more
pub copied_more : (topic : TopicId) (first : ℕ) (links : List Link) (place : ℕ) (d1 d2 : Disk) → Copied topic first links place d1 → Within (λ f. f ≡ Segment topic (first + place)) (λ c. Unit {0}) d1 d2
    → ((link : Link) → slice_get links place ≡ Some link → IsLog topic.folder link.label (closed_batches_of link) (d2.seen (Segment topic (first + place)))) → Synced (Segment topic (first + place)) d2 → Copied topic first links (place + 1) d2
copied_more topic first links place d1 d2 is w here synced_here = record { stand = stand; synced = synced }
  where
    still : Copied topic first links place d2
    still = still_copied topic first links place d1 d2 is w

    last : (k : ℕ) → k < place + 1 → place ≤ k → place ≡ k
    last k few many = omega (arith, few, many)

    stand : (k : ℕ) (link : Link) → k < place + 1 → slice_get links k ≡ Some link → IsLog topic.folder link.label (closed_batches_of link) (d2.seen (Segment topic (first + k)))
    stand k link few there = elim (cases_lt k place) [
      | inl lt ↦ still.stand k link lt there
      | inr ge ↦ subst (λ (n : ℕ). (link : Link) → slice_get links n ≡ Some link → IsLog topic.folder link.label (closed_batches_of link) (d2.seen (Segment topic (first + n)))) (last k few ge) here link there
    ]

    synced : (k : ℕ) → k < place + 1 → Synced (Segment topic (first + k)) d2
    synced k few = elim (cases_lt k place) [ inl lt ↦ still.synced k lt | inr ge ↦ subst (λ (n : ℕ). Synced (Segment topic (first + n)) d2) (last k few ge) synced_here ]

all_stand : (topic : TopicId) (first : ℕ) (image : Image) (links : List Link) → ((k : ℕ) (link : Link) → k < length links → slice_get links k ≡ Some link → IsLog topic.folder link.label (closed_batches_of link) (image (Segment topic (first + k))))
    → ClosedStand topic first image links
all_stand topic first image [] each = tt
all_stand topic first image (link ∷ links) each =
    let here : first + 0 ≡ first = omega arith in (
      subst (λ (n : ℕ). IsLog topic.folder link.label (closed_batches_of link) (image (Segment topic n))) here (each 0 link (omega arith) refl),
      all_stand topic (first + 1) image links (λ k other few there. subst (λ (n : ℕ). IsLog topic.folder other.label (closed_batches_of other) (image (Segment topic n))) (next k) (each (suc k) other (omega (arith, few)) there)),
    )
  where
    next : (k : ℕ) → first + suc k ≡ first + 1 + k
    next k = omega arith

-- all of them, and the last one
module _ (topic : TopicId) (first place number : ℕ) (chain : Chain) (d1 d2 : Disk) (number_is : number ≡ first + place) (all : place ≡ length chain.closed) (is : Copied topic first chain.closed place d1)
    (w : Within (λ f. f ≡ Segment topic number) (λ c. Unit {0}) d1 d2) where
  still : Copied topic first chain.closed place d2
  still = still_copied topic first chain.closed place d1 d2 is (subst (λ (n : ℕ). Within (λ f. f ≡ Segment topic n) (λ c. Unit {0}) d1 d2) number_is w)

  pub all_copied : IsLog topic.folder chain.last.label (batches_of chain.last) (d2.seen (Segment topic number)) → Stands topic first d2.seen chain
  all_copied last = record {
    closed = all_stand topic first d2.seen chain.closed (λ k link few there. still.stand k link (omega (arith, few, all)) there);
    last = subst (λ (n : ℕ). IsLog topic.folder chain.last.label (batches_of chain.last) (d2.seen (Segment topic (first + n)))) all
        (subst (λ (n : ℕ). IsLog topic.folder chain.last.label (batches_of chain.last) (d2.seen (Segment topic n))) number_is last);
  }

  pub all_synced : Synced (Segment topic number) d2 → AreSynced topic first chain d2
  all_synced last k few = elim (cases_lt k place) [
    | inl lt ↦ still.synced k lt
    | inr ge ↦ subst (λ (n : ℕ). Synced (Segment topic (first + n)) d2) (same ge) (subst (λ (n : ℕ). Synced (Segment topic n) d2) number_is last)
  ]
    where
      same : place ≤ k → place ≡ k
      same ge = omega (arith, ge, few, all)
