-- What a drop of its first segments leaves of a journal.
use Rattle.std.proofs.Common.{◌≡◌, ⊎_elim, ℕ, zero, suc, ◌+◌, ◌-◌, ◌<◌, ◌≤◌, false, List, [], ◌∷◌, length, take, drop, refl, sym, ◌∙◌, ap, subst, arith, length-drop, Result, Ok, Err, OnOk}
use Rattle.std.proofs.lemmas.Bool.{cases_lt}
use Rattle.disk.specs.declared.file_id.TopicId.{TopicId}
use Rattle.disk.specs.declared.file_id.FileId.{FileId}
use Rattle.disk.specs.declared.file_id.FileId.TheVariants.{Segment}
use Rattle.disk.specs.Disk.{Disk, Image, Changes, Same, Synced}
use Rattle.disk.specs.Areas.{Agree, Within, both_within, widen_within}
use Rattle.gated_log.specs.declared.log.GatedLog.{GatedLog}
use Rattle.gated_log.specs.Batches.{IsLog}
use Rattle.journal.specs.declared.journal.Journal.{Journal}
use Rattle.journal.specs.Chains.{Link, Chain, Stands, ClosedStand, SegmentsOf, batches_of, closed_batches_of, behind}
use Rattle.journal.specs.Drops.{Dropped, IsEmpty, AreEmpty}
use Rattle.journal.specs.Journals.{Holds, LogAt, Settled, ClosedHold}
use Rattle.journal.specs.Links.{other_segment, log_local, closed_length, holds_as, holds_stands, stands_behind}

not_dropped : (topic : TopicId) (from to k : ℕ) → to ≤ k → ¬ Dropped topic from to (Segment topic k)
not_dropped topic from to k later is = other_segment topic k is.0 (λ e. absurd (omega (arith, later, is.2, e))) is.3

dropped_own : (topic : TopicId) (from to : ℕ) (f : FileId) → Dropped topic from to f → SegmentsOf topic f
dropped_own topic from to f is = subst (λ (x : FileId). SegmentsOf topic x) (sym is.3) refl

-- what two clauses say of a good answer
pub on_ok_both : {T E : Type 0} (result : Result T E) (P Q R : Type 0) → OnOk result P → OnOk result Q → (P → Q → R) → OnOk result R
on_ok_both (Ok x) P Q R p q both = both p q
on_ok_both (Err e) P Q R p q both = tt

-- a file that is cut to 0 and synced
pub emptied : (file : FileId) (before cut : Image) (disk : Disk) → Changes file (λ was is. is ≡ take 0 was) before cut → Same cut disk.seen → Synced file disk → IsEmpty file disk
emptied file before cut disk changes same synced =
    let none : disk.seen file ≡ [] = ap (λ (i : Image). i file) same ∙ changes.there in
    record { now = none; left = λ c may. synced c may ∙ none }

-- one segment more is dropped
pub goes_on : (topic : TopicId) (from to number : ℕ) (d0 d1 d2 : Disk) → from ≤ number → number < to → Within (Dropped topic from to) (λ c. Unit {0}) d0 d1 → Within (λ f. f ≡ Segment topic number) (λ c. Unit {0}) d1 d2
    → Within (Dropped topic from to) (λ c. Unit {0}) d0 d2
goes_on topic from to number d0 d1 d2 low high first second =
    both_within (Dropped topic from to) (λ c. Unit {0}) (λ c. Unit {0}) (λ c. Unit {0}) d0 d1 d2 (λ c p. p) (λ c p. p) first
    (widen_within (λ f. f ≡ Segment topic number) (Dropped topic from to) (λ c. Unit {0}) (λ c. Unit {0}) d1 d2 (λ f is. (number, low, high, is)) (λ c out. tt) second)

still_empty : (area : FileId → Type 0) (f : FileId) (d1 d2 : Disk) → ¬ area f → Within area (λ c. Unit {0}) d1 d2 → IsEmpty f d1 → IsEmpty f d2
still_empty area f d1 d2 other w is = record {
  now = w.seen f other ∙ is.now;
  left = λ c may. let out = w.any_moment.now c may in out.elsewhere f other ∙ is.left out.from out.left;
}

pub empties_more : (topic : TopicId) (from number : ℕ) (d1 d2 : Disk) → AreEmpty topic from number d1 → Within (λ f. f ≡ Segment topic number) (λ c. Unit {0}) d1 d2 → IsEmpty (Segment topic number) d2 → AreEmpty topic from (number + 1) d2
empties_more topic from number d1 d2 before w here f is =
    ⊎_elim (λ lt. earlier lt) (λ ge. subst (λ (x : FileId). IsEmpty x d2) (sym (is.3 ∙ ap (λ (k : ℕ). Segment topic k) (same ge))) here) (cases_lt is.0 number)
  where
    same : number ≤ is.0 → is.0 ≡ number
    same ge = omega (arith, ge, is.2)

    earlier : is.0 < number → IsEmpty f d2
    earlier lt =
        still_empty (λ (x : FileId). x ≡ Segment topic number) f d1 d2 (λ e. other_segment topic is.0 number (λ k. absurd (omega (arith, lt, k))) (sym is.3 ∙ e)) w (before f (is.0, is.1, lt, is.3))

-- the chain behind them stands at each moment
closed_apart : (topic : TopicId) (from to low : ℕ) (a b : Image) (links : List Link) → to ≤ low → Agree (λ f. ¬ Dropped topic from to f) a b → ClosedStand topic low a links → ClosedStand topic low b links
closed_apart topic from to low a b [] later same stand = tt
closed_apart topic from to low a b (link ∷ links) later same stand = (
  subst (λ (bytes : List ℕ). IsLog topic.folder link.label (closed_batches_of link) bytes) (sym (same (Segment topic low) (not_dropped topic from to low later))) stand.0,
  closed_apart topic from to (low + 1) a b links (omega (arith, later)) same stand.1,
)

stands_apart : (topic : TopicId) (from to : ℕ) (a b : Image) (chain : Chain) → Agree (λ f. ¬ Dropped topic from to f) a b → Stands topic to a chain → Stands topic to b chain
stands_apart topic from to a b chain same is = record {
  closed = closed_apart topic from to to a b chain.closed (omega arith) same is.closed;
  last = subst (λ (bytes : List ℕ). IsLog topic.folder chain.last.label (batches_of chain.last) bytes)
      (sym (same (Segment topic (to + length chain.closed)) (not_dropped topic from to (to + length chain.closed) (omega arith)))) is.last;
}

-- the logs behind them hold what they held
hold_behind : (topic : TopicId) (from n : ℕ) (image : Image) (logs : List GatedLog) (links : List Link) → ClosedHold topic from image logs links → ClosedHold topic (from + n) image (drop n logs) (drop n links)
hold_behind topic from zero image logs links hold =
    let none : from ≡ from + 0 = omega arith in
    subst (λ (k : ℕ). ClosedHold topic k image logs links) none hold
hold_behind topic from (suc n) image [] [] hold = tt
hold_behind topic from (suc n) image [] (link ∷ links) hold = absurd hold
hold_behind topic from (suc n) image (log ∷ logs) [] hold = absurd hold
hold_behind topic from (suc n) image (log ∷ logs) (link ∷ links) hold =
    let on : from + 1 + n ≡ from + suc n = omega arith in
    subst (λ (k : ℕ). ClosedHold topic k image (drop n logs) (drop n links)) on (hold_behind topic (from + 1) n image logs links hold.1)

hold_apart : (topic : TopicId) (from to low : ℕ) (a b : Image) (logs : List GatedLog) (links : List Link) → to ≤ low → Agree (λ f. ¬ Dropped topic from to f) a b → ClosedHold topic low a logs links → ClosedHold topic low b logs links
hold_apart topic from to low a b [] [] later same hold = tt
hold_apart topic from to low a b [] (link ∷ links) later same hold = absurd hold
hold_apart topic from to low a b (log ∷ logs) [] later same hold = absurd hold
hold_apart topic from to low a b (log ∷ logs) (link ∷ links) later same hold = (
  log_local log topic low link.label a b (closed_batches_of link) (same (Segment topic low) (not_dropped topic from to low later)) hold.0,
  hold_apart topic from to (low + 1) a b logs links (omega (arith, later)) same hold.1,
)

module _ (journal : Journal) (to : ℕ) (chain : Chain) (low : journal.first ≤ to) (high : to ≤ journal.first + length journal.closed.items) (d0 d1 : Disk) (s : Settled journal d0 chain)
    (calm : Within (Dropped journal.topic journal.first to) (λ c. Unit {0}) d0 d1) where
  abbrev topic : TopicId
  topic = journal.topic

  abbrev from : ℕ
  from = journal.first

  abbrev logs : List GatedLog
  logs = journal.closed.items

  abbrev count : ℕ
  count = to - from

  at : from + count ≡ to
  at = omega (arith, low)

  stands : (c : Image) → d0.may_leave c → Stands topic to c (behind count chain)
  stands c may =
      let holds = s.left c may in
      let few : count ≤ length chain.closed = omega (arith, low, high, closed_length topic from c logs chain.closed holds.closed) in
      subst (λ (k : ℕ). Stands topic k c (behind count chain)) at (stands_behind topic from count c chain few (holds_stands journal c chain holds))

  pub dropped_within : Within (SegmentsOf topic) (λ c. Stands topic to c (behind count chain)) d0 d1
  dropped_within =
      widen_within (Dropped topic from to) (SegmentsOf topic) (λ c. Unit {0}) (λ c. Stands topic to c (behind count chain)) d0 d1 (dropped_own topic from to)
      (λ c out. stands_apart topic from to out.from c (behind count chain) out.elsewhere (stands out.from out.left)) calm

  pub dropped_settled : (new : Journal) → d1.honest → new.failed ≡ false → new.topic ≡ topic → new.first ≡ to → new.closed.items ≡ drop count logs → new.last ≡ journal.last → Settled new d1 (behind count chain)
  dropped_settled new honest works topic_is first_is logs_are last_is = record {
    honest = honest;
    now = built d0.seen d1.seen calm.seen s.now;
    left = λ c may. let out = calm.any_moment.now c may in built out.from c out.elsewhere (s.left out.from out.left);
  }
    where
      many : from + length logs ≡ to + length (drop count logs)
      many = omega (arith, low, high, length-drop count logs)

      built : (a b : Image) → Agree (λ f. ¬ Dropped topic from to f) a b → Holds journal a chain → Holds new b (behind count chain)
      built a b same holds =
          let closed = hold_apart topic from to to a b (drop count logs) (drop count chain.closed) (omega arith) same
          (subst (λ (k : ℕ). ClosedHold topic k a (drop count logs) (drop count chain.closed)) at (hold_behind topic from count a logs chain.closed holds.closed)) in
          let last = log_local journal.last topic (from + length logs) chain.last.label a b (batches_of chain.last) (same (Segment topic (from + length logs)) (not_dropped topic from to (from + length logs) high)) holds.last in
          holds_as new topic to (drop count logs) b (behind count chain) works topic_is first_is logs_are closed
          (subst (λ (l : GatedLog). LogAt l (record { file = Segment topic (to + length (drop count logs)); label = chain.last.label }) b (batches_of chain.last)) (sym last_is)
          (subst (λ (k : ℕ). LogAt journal.last (record { file = Segment topic k; label = chain.last.label }) b (batches_of chain.last)) many last))
