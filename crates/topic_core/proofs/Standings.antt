-- The three parts of a flush, and how a topic stands on its device after each.
use Rattle.std.proofs.Common.{◌≡◌, inl, inr, ⊎_elim, ℕ, ◌+◌, ◌≤◌, ◌^◌, max, min, Bool, true, false, ◌||◌, ◌&&◌, not, nat_eq, None, is_some, Result, Ok, Err, List, length, take, refl, sym, ap, subst, ◌∙◌, arith}
use Rattle.std.proofs.lemmas.Bool.{true≢false, false≢true, eqb-true}
use Rattle.std.proofs.lemmas.Bool.Decides.{nat_tests}
use Rattle.std.proofs.lemmas.List.{take_all, length-take-le}
use Rattle.disk.specs.Disk.{Disk, Image}
use Rattle.disk.specs.Disk.{Kept as Counted}
use Rattle.disk.specs.Areas.{OfTopic, Within, stays_within, weaken_within}
use Rattle.topic_stores.specs.declared.batch.Batch.{Batch}
use Rattle.topic_stores.specs.declared.error.WriteError.{WriteError}
use Rattle.topic_stores.specs.declared.error.WriteError.TheVariants.{Device, NoMemory}
use Rattle.topic_stores.specs.Views.{StoreView, Settled, AreLaws}
use Rattle.topic_stores.specs.Writing as stores
use Rattle.topic_stores.specs.Writing.{StandsFor}
use Rattle.topic_stores.proofs.Sizes.{still_known}
use Rattle.managed_ledger.specs.Entries.{Entries, Ledger, end_of, lengthened, trimmed}
use Rattle.managed_ledger.specs.Trims.{end_lengthened, lengthened_none}
use Rattle.records.specs.Floors.{HaveBelow, StartFrom}
use Rattle.records.specs.declared.record.Record.{Record}
use Rattle.records.specs.Maps.{Kept}
use Rattle.records.specs.Records.{AreFormed, after_all}
use Rattle.holds.specs.declared.consumer.ConsumerKey.{ConsumerKey}
use Rattle.subscriptions.specs.Marks.{marks_in}
use Rattle.subscriptions.specs.Laws.{IsKept}
use Rattle.subscriptions.proofs.Durable.{are_kept, formed_take, formed_longer}
use Rattle.topic_core.specs.Messages.{marks_of}
use Rattle.topic_core.proofs.Slotted.{marks_none}
use Rattle.topic_core.specs.State.{Topic, floor, floor_of, entries_of, changes_of, entries_in_doubt, changes_in_doubt}
use Rattle.topic_core.specs.Soundness.{IsSound, HasFloor, IsAcknowledged, IsSoundTopic}
use Rattle.topic_core.specs.Flush.{IsTrimPoint, IsFlush, has_no_flush, handed_on, finished, taken_back, failed, flushed, TakeStep, FinishStep, FlushStep, FlushIn}
use Rattle.topic_core.specs.Crashes.{IsLeft, reopened, longer, changed}
use Rattle.topic_core.specs.Laws.{FlushesKeep, TopicsGoOn}
use Rattle.subscriptions.specs.State.{Subscriptions}
use Rattle.subscriptions.specs.Steps as subscriptions
use Rattle.subscriptions.specs.Steps.{IsLearnt}
use Rattle.topic_core.specs.Steps.{key_of, learnt, HasLearnt, left}
use Rattle.topic_core.specs.Dispatch.{sent}
use Rattle.topic_core.proofs.Floors.{trimmed_at, trimmed_same, starts_lower, have_lower, same_acknowledged, handed_on_acknowledged, taken_back_acknowledged, failed_acknowledged, point_rises, trimmed_end, finished_acknowledged, finished_marks, reopened_acknowledged, left_end}
use Rattle.topic_core.proofs.Keeps.{Stays, kept-finished, finished-sound, handed_on-sound, step-keeps, grant-keeps, look-keeps, dispatch-keeps, collect-keeps, leave-keeps}
use Rattle.topic_core.specs.Standing.{Phase, Before, Written, Lost, phase_after, phase_then, resting, IsFor, Match, Holds, Standing, GoesOn}
use Rattle.permits.specs.Ends.{Seen}
use Rattle.topic_core.proofs.Flushing.{ends, begun, finished-handed_on, taken_back-handed_on, and_first, and_second}

-- all that waits is handed on
all-entries : (t : Topic) (limit : ℕ) → entries_in_doubt (handed_on t limit) ≡ t.waiting
all-entries t limit = take_all (length t.waiting) t.waiting (omega arith)

all-changes : (t : Topic) (limit : ℕ) → changes_in_doubt (handed_on t limit) ≡ t.subs.changes
all-changes t limit = take_all (length t.subs.changes) t.subs.changes (omega arith)

or_second : (a b : Bool) → b ≡ true → (a || b) ≡ true
or_second true b h = refl
or_second false b h = h

-- ---- what a crash leaves, of parts that are the same

pub left_like : (l l' : Ledger) (k k' : Kept) (e e' : Entries) (c c' : List Record) (p p' : ℕ) → l ≡ l' → k ≡ k' → e ≡ e' → c ≡ c' → p ≡ p' → (x : Ledger) (y : Kept) → stores.IsLeft l k e c p x y → stores.IsLeft l' k' e' c' p' x y
left_like l l' k k' e e' c c' p p' el ek ee ec ep x y is =
    subst (λ (n : ℕ). stores.IsLeft l' k' e' c' n x y) ep
    (subst (λ (z : List Record). stores.IsLeft l' k' e' z p x y) ec (subst (λ (z : Entries). stores.IsLeft l' k' z c p x y) ee (subst (λ z. stores.IsLeft l' z e c p x y) ek (subst (λ (z : Ledger). stores.IsLeft z k e c p x y) el is))))

pub stands_like : (files_stand : Image → Ledger → Kept → Type 0) (P Q : Ledger → Kept → Type 0) (files : Image) → ((l : Ledger) (k : Kept) → P l k → Q l k) → StandsFor files_stand P files → StandsFor files_stand Q files
stands_like files_stand P Q files to x = record { ledger = x.ledger; kept = x.kept; is_left = to x.ledger x.kept x.is_left; stands = x.stands }

-- ---- a batch is a copy of what is handed on

same_number : (n m : ℕ) → n ≡ m → nat_eq n m ≡ true
same_number n m is = grind (arith, nat_tests)

pub taken_for : (t : Topic) (batch : Batch) → IsSound t → t.failed ≡ false → batch.entries.items ≡ t.waiting → batch.changes.items ≡ t.subs.changes → IsTrimPoint t batch.trim → IsFor (handed_on t batch.trim) batch
taken_for t batch sound works entries changes point =
    let many = same_number (length t.waiting) (length batch.entries.items) (sym (ap (λ (es : Entries). length es) entries)) in
    let made = same_number (length t.subs.changes) (length batch.changes.items) (sym (ap (λ (cs : List Record). length cs) changes)) in
    let limit = same_number batch.trim batch.trim refl in
    record {
      awaited = (λ i. not (works i) && true && many i && made i && limit i);
      entries = entries ∙ sym (all-entries t batch.trim);
      changes = changes ∙ sym (all-changes t batch.trim);
      numbered = omega (arith, sound.entries, ap (λ (es : Entries). length es) entries);
      starts = subst (λ (cs : List Record). StartFrom t.ledger.base cs) (sym changes) sound.trims.made;
      rises = point_rises t batch.trim point;
    }

-- ---- a settled store

module _ (stands : ℕ → Image → Ledger → Kept → Type 0) where
  -- a store that is settled with what is committed holds the topic
  pub standing_before : (t : Topic) (v : StoreView) (d : Disk) → AreLaws stands v → Match Before t v → end_of t.ledger ≡ t.committed → marks_in t.subs ≡ marks_of (lengthened t.ledger t.waiting) → IsAcknowledged t → Settled v d t.ledger t.kept → Standing stands Before t v d
  standing_before t v d laws m counted marks acknowledged x = record {
    matched = m;
    honest = x.settled.honest;
    counted = counted;
    marks = marks;
    acknowledged = acknowledged;
    left = λ c may. record { ledger = t.ledger; kept = t.kept; is_left = inl (refl, refl); stands = laws.stands c t.ledger t.kept (x.settled.left c may) };
    holds = x;
  }

  -- ---- other calls

  floor_goes_on : (old new : Topic) → GoesOn old new → floor new ≡ floor old
  floor_goes_on old new go = ap (λ (l : Ledger). floor_of l.base new.doubt) go.ledger ∙ ap (λ d. floor_of old.ledger.base d) go.doubt

  -- the store of a core that goes on, and the device
  pub match_goes_on : (phase : Phase) (old new : Topic) (v : StoreView) → GoesOn old new → Match phase old v → Match phase new v
  match_goes_on Before old new v go m = record {
    kept = subst (λ k. IsKept new.committed k new.subs) (sym go.durable) (go.kept old.kept m.kept);
    numbered = m.numbered ∙ sym go.per_ledger;
    remembers = record { core_works = go.failed ∙ m.remembers.core_works; works = m.remembers.works; counted = m.remembers.counted ∙ sym go.committed; kept = m.remembers.kept ∙ sym go.durable; begins = subst (λ (l : Ledger). v.base ≤ l.base) (sym go.ledger) m.remembers.begins };
  }
  match_goes_on (Written base) old new v go m = record {
    kept = subst (λ k. IsKept new.committed k new.subs) (sym go.durable) (go.kept old.kept m.kept);
    numbered = m.numbered ∙ sym go.per_ledger;
    remembers = record {
      core_works = go.failed ∙ m.remembers.core_works;
      under_way = ap (λ d. is_some d) go.doubt ∙ m.remembers.under_way;
      works = m.remembers.works;
      counted = m.remembers.counted ∙ ap (λ n. n + entries_of old.doubt) (sym go.committed) ∙ ap (λ d. new.committed + entries_of d) (sym go.doubt);
      kept = m.remembers.kept ∙ ap (λ (cs : List Record). after_all cs old.kept) (sym go.changes) ∙ ap (λ k. after_all (changes_in_doubt new) k) (sym go.durable);
      begins = m.remembers.begins;
      within = subst (λ (n : ℕ). base ≤ n) (sym (floor_goes_on old new go)) m.remembers.within;
    };
  }
  match_goes_on Lost old new v go m = record {
    kept = subst (λ k. IsKept new.committed k new.subs) (sym go.durable) (go.kept old.kept m.kept);
    numbered = m.numbered ∙ sym go.per_ledger;
    remembers = record { told = ap (λ b. b || is_some new.doubt) go.failed ∙ ap (λ d. old.failed || is_some d) go.doubt ∙ m.remembers.told; failed = m.remembers.failed };
  }

  -- what came between Take and Finish leaves the batch a copy of what is in doubt
  pub is_for_goes_on : (old new : Topic) (batch : Batch) → GoesOn old new → IsFor old batch → IsFor new batch
  is_for_goes_on old new batch go is = record {
    awaited =
        ap (λ b. not b && is_some new.doubt && nat_eq (entries_of new.doubt) (length batch.entries.items) && nat_eq (changes_of new.doubt) (length batch.changes.items) && nat_eq (floor new) batch.trim) go.failed
        ∙ ap (λ d. not old.failed && is_some d && nat_eq (entries_of d) (length batch.entries.items) && nat_eq (changes_of d) (length batch.changes.items) && nat_eq (floor_of new.ledger.base d) batch.trim) go.doubt
        ∙ ap (λ (l : Ledger). not old.failed && is_some old.doubt && nat_eq (entries_of old.doubt) (length batch.entries.items) && nat_eq (changes_of old.doubt) (length batch.changes.items) && nat_eq (floor_of l.base old.doubt) batch.trim) go.ledger
        ∙ is.awaited;
    entries = is.entries ∙ sym go.entries;
    changes = is.changes ∙ sym go.changes;
    numbered = omega (arith, is.numbered, go.committed);
    starts = subst (λ (l : Ledger). StartFrom l.base batch.changes.items) (sym go.ledger) is.starts;
    rises = omega (arith, is.rises, floor_goes_on old new go, ap (λ (l : Ledger). l.base) go.ledger);
  }

  holds_goes_on : (phase : Phase) (old new : Topic) (v : StoreView) (d : Disk) → GoesOn old new → Holds phase old v d → Holds phase new v d
  holds_goes_on Before old new v d go x = subst (λ k. Settled v d new.ledger k) (sym go.durable) (subst (λ (l : Ledger). Settled v d l old.kept) (sym go.ledger) x)
  holds_goes_on (Written base) old new v d go x =
      subst (λ k. Settled v d (trimmed base (longer new)) k) (ap (λ (cs : List Record). after_all cs old.kept) (sym go.changes) ∙ ap (λ k. after_all (changes_in_doubt new) k) (sym go.durable))
      (subst (λ (l : Ledger). Settled v d l (changed old)) (ap (λ (e : Entries). trimmed base (lengthened old.ledger e)) (sym go.entries) ∙ ap (λ (l : Ledger). trimmed base (lengthened l (entries_in_doubt new))) (sym go.ledger)) x)
  holds_goes_on Lost old new v d go x = tt

  pub standing_goes_on : (phase : Phase) (old new : Topic) (v : StoreView) (d : Disk) → GoesOn old new → Standing stands phase old v d → Standing stands phase new v d
  standing_goes_on phase old new v d go h = record {
    matched = match_goes_on phase old new v go h.matched;
    honest = h.honest;
    counted = ap (λ (l : Ledger). end_of l) go.ledger ∙ h.counted ∙ sym go.committed;
    marks = go.marks old.ledger h.marks ∙ ap (λ (l : Ledger). marks_of (lengthened l new.waiting)) (sym go.ledger);
    acknowledged = same_acknowledged old new go.ledger go.durable go.doubt go.changes h.acknowledged;
    left = λ c may. stands_like (stands v.topic) (IsLeft old) (IsLeft new) c (λ l k is. left_like _ _ _ _ _ _ _ _ _ _ (sym go.ledger) (sym go.durable) (sym go.entries) (sym go.changes) (sym (floor_goes_on old new go)) l k is) (h.left c may);
    holds = holds_goes_on phase old new v d go h.holds;
  }

  -- ---- Take

  pub match_handed_on : (t : Topic) (limit : ℕ) (v : StoreView) → Match Before t v → Match Before (handed_on t limit) v
  match_handed_on t limit v m = record { kept = m.kept; numbered = m.numbered; remembers = record { core_works = m.remembers.core_works; works = m.remembers.works; counted = m.remembers.counted; kept = m.remembers.kept; begins = m.remembers.begins } }

  pub standing_handed_on : (t : Topic) (limit : ℕ) (v : StoreView) (d : Disk) → AreLaws stands v → HasFloor t → IsTrimPoint t limit → Standing stands Before t v d → Standing stands Before (handed_on t limit) v d
  standing_handed_on t limit v d laws floored point h =
      standing_before (handed_on t limit) v d laws (match_handed_on t limit v h.matched) h.counted h.marks (handed_on_acknowledged t h.matched.kept floored h.acknowledged limit point) h.holds

  -- ---- Write

  module _ (on : Topic) (batch : Batch) (is_for : IsFor on batch) (fits : entries_of on.doubt ≤ length on.waiting) where
    size : length batch.entries.items ≡ entries_of on.doubt
    size = ap (λ (e : Entries). length e) is_for.entries ∙ length-take-le (entries_of on.doubt) on.waiting fits

    later_is : (kept : Kept) → kept ≡ on.kept → after_all batch.changes.items kept ≡ changed on
    later_is kept is = ap (λ (cs : List Record). after_all cs kept) is_for.changes ∙ ap (λ k. after_all (changes_in_doubt on) k) is

    under_way : is_some on.doubt ≡ true
    under_way = and_second (not on.failed) _ (and_first (not on.failed && is_some on.doubt) _ (and_first (not on.failed && is_some on.doubt && nat_eq (entries_of on.doubt) (length batch.entries.items)) _
        (and_first (not on.failed && is_some on.doubt && nat_eq (entries_of on.doubt) (length batch.entries.items) && nat_eq (changes_of on.doubt) (length batch.changes.items)) _ is_for.awaited)))

    limit_is : floor on ≡ batch.trim
    limit_is = eqb-true (floor on) batch.trim (and_second (not on.failed && is_some on.doubt && nat_eq (entries_of on.doubt) (length batch.entries.items) && nat_eq (changes_of on.doubt) (length batch.changes.items)) _ is_for.awaited)

    -- the store takes the batch
    pub batch_fits : (v : StoreView) → Match Before on v → stores.Fits v batch
    batch_fits v m = record {
      few = omega (arith, m.remembers.counted, is_for.numbered);
      formed =
          subst (λ (cs : List Record). AreFormed (v.count + length batch.entries.items) v.kept cs) (sym is_for.changes)
          (subst (λ k. AreFormed (v.count + length batch.entries.items) k (changes_in_doubt on)) (sym m.remembers.kept)
          (formed_longer on.committed (v.count + length batch.entries.items) (changes_in_doubt on) on.kept (omega (arith, m.remembers.counted)) (formed_take on.committed (changes_of on.doubt) on.subs.changes on.kept m.kept.formed)));
      starts = starts_lower v.base on.ledger.base batch.changes.items m.remembers.begins is_for.starts;
    }

    pub written_match : (v w : StoreView) (r : Result ℕ WriteError) → Match Before on v → stores.Remembers v batch r w → Match (phase_after r) on w
    written_match v w (Ok base) m x = record {
      kept = m.kept;
      numbered = x.per_ledger ∙ m.numbered;
      remembers = record {
        core_works = m.remembers.core_works;
        under_way = under_way;
        works = x.works m.remembers.works;
        counted = omega (arith, x.count, size, m.remembers.counted);
        kept = x.kept ∙ later_is v.kept m.remembers.kept;
        begins = x.begins;
        within = omega (arith, x.below, limit_is, m.remembers.begins, is_for.rises);
      };
    }
    written_match v w (Err NoMemory) m x = record {
      kept = m.kept;
      numbered = x.per_ledger ∙ m.numbered;
      remembers = record { core_works = m.remembers.core_works; works = x.failed ∙ m.remembers.works; counted = x.count ∙ m.remembers.counted; kept = x.kept ∙ m.remembers.kept; begins = omega (arith, x.base, m.remembers.begins) };
    }
    written_match v w (Err Device) m x = record { kept = m.kept; numbered = x.per_ledger ∙ m.numbered; remembers = record { told = or_second on.failed (is_some on.doubt) under_way; failed = x.failed } }

    module _ (v w : StoreView) (was is : Disk) (topic : w.topic ≡ v.topic) where
      abbrev CrashLeaves : Image → Type 0
      CrashLeaves = StandsFor (stands v.topic) (λ l k. stores.IsLeft on.ledger on.kept batch.entries.items batch.changes.items batch.trim l k)

      left_is : (c : Image) → CrashLeaves c → StandsFor (stands v.topic) (IsLeft on) c
      left_is c x = stands_like (stands v.topic) (λ l k. stores.IsLeft on.ledger on.kept batch.entries.items batch.changes.items batch.trim l k) (IsLeft on) c
          (λ l k y. left_like on.ledger on.ledger on.kept on.kept batch.entries.items (entries_in_doubt on) batch.changes.items (changes_in_doubt on) batch.trim (floor on) refl refl is_for.entries is_for.changes (sym limit_is) l k y) x

      pub within_is : Within (OfTopic v.topic) CrashLeaves was is → Within (OfTopic v.topic) (StandsFor (stands v.topic) (IsLeft on)) was is
      within_is w' = weaken_within (OfTopic v.topic) CrashLeaves (StandsFor (stands v.topic) (IsLeft on)) was is left_is w'

      holds_after : (r : Result ℕ WriteError)
          → ((base : ℕ) → r ≡ Ok base → Settled w is (trimmed base (lengthened on.ledger batch.entries.items)) (after_all batch.changes.items on.kept)) → (r ≡ Err NoMemory → Settled w is on.ledger on.kept) → Holds (phase_after r) on w is
      holds_after (Ok base) ok none =
          subst (λ k. Settled w is (trimmed base (longer on)) k) (later_is on.kept refl)
          (subst (λ (l : Ledger). Settled w is l (after_all batch.changes.items on.kept)) (ap (λ (e : Entries). trimmed base (lengthened on.ledger e)) is_for.entries) (ok base refl))
      holds_after (Err NoMemory) ok none = none refl
      holds_after (Err Device) ok none = tt

      pub written_standing : (r : Result ℕ WriteError) → Standing stands Before on v was → Counted was is → stores.Remembers v batch r w
          → ((base : ℕ) → r ≡ Ok base → Settled w is (trimmed base (lengthened on.ledger batch.entries.items)) (after_all batch.changes.items on.kept)) → (r ≡ Err NoMemory → Settled w is on.ledger on.kept) → Within (OfTopic v.topic) CrashLeaves was is
          → Standing stands (phase_after r) on w is
      written_standing r h counted remembers ok none within = record {
        matched = written_match v w r h.matched remembers;
        honest = counted.honest h.honest;
        counted = h.counted;
        marks = h.marks;
        acknowledged = h.acknowledged;
        left = λ c may. subst (λ t. StandsFor (stands t) (IsLeft on) c) (sym topic) (left_is c (within.any_moment.now c may).own);
        holds = holds_after r ok none;
      }

  -- ---- Finish

  module _ (on : Topic) (works : on.failed ≡ false) where
    finished_match : (base : ℕ) (v : StoreView) → Match (Written base) on v → Match Before (finished on (min base (floor on))) v
    finished_match base v m = record {
      kept = kept-finished on (min base (floor on)) m.kept;
      numbered = m.numbered;
      remembers = record { core_works = works; works = m.remembers.works; counted = m.remembers.counted; kept = m.remembers.kept; begins = omega (arith, m.remembers.begins, m.remembers.within) };
    }

    taken_back_match : (v : StoreView) → Match Before on v → Match Before (taken_back on) v
    taken_back_match v m = record { kept = m.kept; numbered = m.numbered; remembers = record { core_works = works; works = m.remembers.works; counted = m.remembers.counted; kept = m.remembers.kept; begins = m.remembers.begins } }

    failed_match : (v : StoreView) → Match Lost on v → Match Lost (failed on) v
    failed_match v m = record { kept = m.kept; numbered = m.numbered; remembers = record { told = refl; failed = m.remembers.failed } }

    -- a flush that ends leaves the topic at rest
    pub finish_match : (v : StoreView) (written : Result ℕ WriteError) (result : Result ℕ WriteError) (t2 : Topic) → FinishStep on written result t2 → Match (phase_after written) on v → Match (resting t2.failed) t2 v
    finish_match v (Ok base) result t2 f m = subst (λ (k : Topic). Match (resting k.failed) k v) (sym f.1) (subst (λ b. Match (resting b) (finished on (min base (floor on))) v) (sym works) (finished_match base v m))
    finish_match v (Err NoMemory) result t2 f m = subst (λ (k : Topic). Match (resting k.failed) k v) (sym f.1) (subst (λ b. Match (resting b) (taken_back on) v) (sym works) (taken_back_match v m))
    finish_match v (Err Device) result t2 f m = subst (λ (k : Topic). Match (resting k.failed) k v) (sym f.1) (failed_match v m)

    module _ (v : StoreView) (d : Disk) (laws : AreLaws stands v) (fits : entries_of on.doubt ≤ length on.waiting) (floored : HasFloor on) where
      finished_standing : (base : ℕ) → Standing stands (Written base) on v d → Standing stands Before (finished on (min base (floor on))) v d
      finished_standing base h =
          let trim = min base (floor on) in
          let low : trim ≤ floor on = omega arith in
          let same : base ≡ trim = omega (arith, h.matched.remembers.within) in
          standing_before (finished on trim) v d laws (finished_match base v h.matched) (trimmed_end on trim fits floored low) (finished_marks on trim fits floored low h.marks)
          (finished_acknowledged on trim fits floored low h.acknowledged) (subst (λ (b : ℕ). Settled v d (trimmed b (longer on)) (changed on)) same h.holds)

      taken_back_standing : Standing stands Before on v d → Standing stands Before (taken_back on) v d
      taken_back_standing h = standing_before (taken_back on) v d laws (taken_back_match v h.matched) h.counted h.marks (taken_back_acknowledged on h.acknowledged) h.holds

      failed_standing : Standing stands Lost on v d → Standing stands Lost (failed on) v d
      failed_standing h =
          record { matched = failed_match v h.matched; honest = h.honest; counted = h.counted; marks = h.marks; acknowledged = failed_acknowledged on h.acknowledged; left = λ c may. h.left c may; holds = tt }

      pub finish_standing : (written : Result ℕ WriteError) (result : Result ℕ WriteError) (t2 : Topic) → FinishStep on written result t2 → Standing stands (phase_after written) on v d → Standing stands (resting t2.failed) t2 v d
      finish_standing (Ok base) result t2 f h =
          subst (λ (k : Topic). Standing stands (resting k.failed) k v d) (sym f.1) (subst (λ b. Standing stands (resting b) (finished on (min base (floor on))) v d) (sym works) (finished_standing base h))
      finish_standing (Err NoMemory) result t2 f h = subst (λ (k : Topic). Standing stands (resting k.failed) k v d) (sym f.1) (subst (λ b. Standing stands (resting b) (taken_back on) v d) (sym works) (taken_back_standing h))
      finish_standing (Err Device) result t2 f h = subst (λ (k : Topic). Standing stands (resting k.failed) k v d) (sym f.1) (failed_standing h)

  -- ---- a whole flush

  -- one that begins finds the store with what is committed
  pub begins_before : (phase : Phase) (t : Topic) (v : StoreView) → t.failed ≡ false → t.doubt ≡ None → Match phase t v → phase ≡ Before
  begins_before Before t v works none m = refl
  begins_before (Written base) t v works none m = absurd (false≢true (sym (ap (λ d. is_some d) none) ∙ m.remembers.under_way))
  begins_before Lost t v works none m = absurd (false≢true (sym (ap (λ b. b || is_some t.doubt) works ∙ ap (λ d. is_some d) none) ∙ m.remembers.told))

-- at its end the phase is at rest
pub rests : (b : Bool) → resting b ≡ phase_then false b Before
rests true = refl
rests false = refl

module _ (t : Topic) (sound : IsSound t) (works : t.failed ≡ false) (some : has_no_flush t ≡ false) (limit : ℕ) (point : IsTrimPoint t limit) where
  pub flush_step : (written : Result ℕ WriteError) (result : Result ℕ WriteError) (t2 : Topic) → FinishStep (handed_on t limit) written result t2 → FlushStep t result t2
  flush_step (Ok base) result t2 f =
      let flush : IsFlush t t2 = record { limit = limit; allowed = point; trim = min base limit; within = omega arith; is = f.1 ∙ finished-handed_on t limit (min base limit) } in
      subst (λ r. FlushStep t r t2) (sym f.0) (ends t t2 (Ok (length t.waiting)) works some (refl, flush))
  flush_step (Err NoMemory) result t2 f =
      subst (λ r. FlushStep t r t2) (sym f.0) (ends t t2 (Err NoMemory) works some (f.1 ∙ taken_back-handed_on t limit sound (begun t some)))
  flush_step (Err Device) result t2 f =
      subst (λ r. FlushStep t r t2) (sym f.0) (ends t t2 (Err Device) works some (record { limit = limit; allowed = point; is = f.1 }))

  -- want of memory changes nothing
  pub flush_unchanged : (written : Result ℕ WriteError) (result : Result ℕ WriteError) (t2 : Topic) → FinishStep (handed_on t limit) written result t2 → result ≡ Err NoMemory → (written ≡ Err NoMemory) × (t2 ≡ t)
  flush_unchanged (Ok base) result t2 f r = absurd (cc)
  flush_unchanged (Err NoMemory) result t2 f r = (refl, f.1 ∙ taken_back-handed_on t limit sound (begun t some))
  flush_unchanged (Err Device) result t2 f r = absurd (cc)

-- ---- the segments that the store knows of

-- behind a flush that failed a topic, as many as before, or one more
pub known_behind : (on : Topic) (v w : StoreView) (batch : Batch) (written result : Result ℕ WriteError) (t2 : Topic) → on.failed ≡ false → FinishStep on written result t2 → stores.Remembers v batch written w → t2.failed ≡ true
    → stores.IsOneMoreAtMost (length v.counts) (length w.counts)
known_behind on v w batch (Ok base) result t2 works f x fails = absurd (true≢false (sym fails ∙ ap (λ (k : Topic). k.failed) f.1 ∙ works))
known_behind on v w batch (Err NoMemory) result t2 works f x fails = absurd (true≢false (sym fails ∙ ap (λ (k : Topic). k.failed) f.1 ∙ works))
known_behind on v w batch (Err Device) result t2 works f x fails = still_known v.per_ledger (length batch.entries.items) v.counts w.counts x.counts

-- one that takes no batch fails no topic
pub untaken_works : (t : Topic) (why : WriteError) (new : Topic) → TakeStep t (Err why) new → t.failed ≡ false → new.failed ≡ true → ⊥
untaken_works t Device new step works fails = true≢false (sym step.0 ∙ works)
untaken_works t NoMemory new step works fails = true≢false (sym fails ∙ ap (λ (k : Topic). k.failed) step.2 ∙ works)

-- ---- an opening

pub reopened_standing : (stands : ℕ → Image → Ledger → Kept → Type 0) (t t2 : Topic) (v : StoreView) (d : Disk) (ledger : Ledger) (kept : Kept) → AreLaws stands v → t2 ≡ reopened t ledger (marks_of ledger) kept → Match Before t2 v → HaveBelow ledger.base kept → Settled v d ledger kept → Standing stands Before t2 v d
reopened_standing stands t t2 v d ledger kept laws core m below x =
    subst (λ (k : Topic). Match Before k v → Standing stands Before k v d) (sym core)
    (λ m2. standing_before stands (reopened t ledger (marks_of ledger) kept) v d laws m2 refl (marks_none ledger) (reopened_acknowledged t ledger (marks_of ledger) kept below) x) m

-- what was left has as many entries at least
pub left_more : (t : Topic) (ledger : Ledger) (kept : Kept) → HasFloor t → IsLeft t ledger kept → end_of t.ledger ≤ end_of ledger
left_more t ledger kept floored is = ⊎_elim (λ e. omega (arith, e, floored.counted)) (λ e. omega (arith, e, end_lengthened t.ledger (entries_in_doubt t))) (left_end t ledger kept floored is)

module _ (stands : ℕ → Image → Ledger → Kept → Type 0) (v v1 : StoreView) (old new : Disk) (topic : ℕ) (ledger : Ledger) (laws : AreLaws stands v1) (held : Settled v1 new ledger v1.kept) (topic_is : v1.topic ≡ topic) (same_topic : topic ≡ v.topic) (same : new.seen ≡ old.seen) where
  -- a store that was opened again has what the files stand for
  pub again_stands : stands v.topic old.seen ledger v1.kept
  again_stands = subst (λ (n : ℕ). stands n old.seen ledger v1.kept) (topic_is ∙ same_topic) (subst (λ (i : Image). stands v1.topic i ledger v1.kept) same (laws.stands new.seen ledger v1.kept held.settled.now))

  -- which is what was left of the topic
  pub again_left : ((n : ℕ) (files : Image) (one other : Ledger) (k j : Kept) → end_of one ≤ 2 ^ 62 → stands n files one k → stands n files other j → (one ≡ other) × (k ≡ j))
      → (t : Topic) → end_of ledger ≤ 2 ^ 62 → StandsFor (stands v.topic) (IsLeft t) old.seen → IsLeft t ledger v1.kept
  again_left one t few s =
      let is = one v.topic old.seen ledger s.ledger v1.kept s.kept few again_stands s.stands in
      subst (λ (l : Ledger). IsLeft t l v1.kept) (sym is.0) (subst (λ (k : Kept). IsLeft t s.ledger k) (sym is.1) s.is_left)

-- ---- other calls

goes_on : (old new : Topic) → Stays old new → GoesOn old new
goes_on old new stays = record {
  committed = stays.committed;
  ledger = stays.ledger;
  durable = stays.durable;
  failed = stays.failed;
  doubt = stays.doubt;
  entries = stays.entries;
  changes = stays.changes;
  per_ledger = stays.per_ledger;
  kept = λ kept is. subst (λ n. IsKept n kept new.subs) (sym stays.committed) (stays.kept kept is);
  marks = stays.marks;
}

-- so far as GoesOn says nothing of permits, no bound is asked for
pub known-goes_on : (t : Topic) (who id : ℕ) (known : Seen) → GoesOn t (learnt t who id known)
known-goes_on t who id known = record {
  committed = refl;
  ledger = refl;
  durable = refl;
  failed = refl;
  doubt = refl;
  entries = refl;
  changes = refl;
  per_ledger = refl;
  kept = λ kept is. are_kept.learn t.committed kept t.subs (key_of who id) known is;
  marks = λ ledger is. is;
}

pub is_learnt-goes_on : (t new : Topic) (who id : ℕ) → IsLearnt (learnt t who id) new → GoesOn t new
is_learnt-goes_on t new who id l = subst (λ (x : Topic). GoesOn t x) (sym l.same) (known-goes_on t who id l.seen)

given_goes_on : (t : Topic) (key : ConsumerKey) (i : ℕ) (n : Seen) → GoesOn t (learnt (sent t key i) key.session key.id n)
given_goes_on t key i n = record {
  committed = refl;
  ledger = refl;
  durable = refl;
  failed = refl;
  doubt = refl;
  entries = refl;
  changes = refl;
  per_ledger = refl;
  kept = λ kept is. are_kept.learn t.committed kept (subscriptions.sent t.subs key i) key n (are_kept.send t.committed kept t.subs key i is);
  marks = λ ledger is. is;
}

pub given-goes_on : (t : Topic) (key : ConsumerKey) (i : ℕ) (subs : Subscriptions) → IsLearnt (subscriptions.learnt (subscriptions.sent t.subs key i) key) subs → GoesOn t (record t { subs = subs })
given-goes_on t key i subs l = subst (λ (s : Subscriptions). GoesOn t (record t { subs = s })) (sym l.same) (given_goes_on t key i l.seen)

pub same_goes_on : (t : Topic) → GoesOn t t
same_goes_on t = record { committed = refl; ledger = refl; durable = refl; failed = refl; doubt = refl; entries = refl; changes = refl; per_ledger = refl; kept = λ kept is. is; marks = λ ledger is. is }

looked_goes_on : (t : Topic) (who : ℕ) (subs : Subscriptions) → subscriptions.HasLearnt who t.subs subs → GoesOn t (record t { subs = subs })
looked_goes_on t who subs h = record {
  committed = refl;
  ledger = refl;
  durable = refl;
  failed = refl;
  doubt = refl;
  entries = refl;
  changes = ap (λ (s : Subscriptions). take (changes_of t.doubt) s.changes) h.same;
  per_ledger = refl;
  kept = λ kept is. are_kept.look t.committed kept t.subs subs who h is;
  marks = λ ledger is. ap (λ (s : Subscriptions). marks_in s) h.same ∙ is;
}

pub looked-goes_on : (t new : Topic) (who : ℕ) → HasLearnt who t new → GoesOn t new
looked-goes_on t new who h = subst (λ (x : Topic). GoesOn t x) (sym h.same) (looked_goes_on t who new.subs h.subs)

pub topics-go_on : TopicsGoOn
topics-go_on = record {
  command = λ old who c answer new step sound are. goes_on old new (step-keeps old who c answer new step sound are);
  grant = λ old who id permits result new step sound are. goes_on old new (grant-keeps old who id permits result new step sound are);
  learn = λ old who id known sound are. known-goes_on old who id known;
  look = λ old who new h sound are. goes_on old new (look-keeps old who new h sound are);
  dispatch = λ old who id result new step sound are. goes_on old new (dispatch-keeps old who id result new step sound are);
  collect = λ old who reply new step sound are. goes_on old new (collect-keeps old who reply new step sound are);
  leave = λ old who sound are. goes_on old (left old who) (leave-keeps old who sound are);
}

-- ---- what a crash leaves after a flush

-- where nothing is in doubt a crash leaves what there is
none_left : (t : Topic) (l : Ledger) (k : Kept) → t.doubt ≡ None → HasFloor t → IsLeft t l k → (l ≡ t.ledger) × (k ≡ t.kept)
none_left t l k none f is =
    let nothing : longer t ≡ t.ledger = ap (λ d. lengthened t.ledger (take (entries_of d) t.waiting)) none ∙ lengthened_none t.ledger in
    let unchanged : changed t ≡ t.kept = ap (λ d. after_all (take (changes_of d) t.subs.changes) t.kept) none in
    let at : floor t ≡ t.ledger.base = ap (λ d. floor_of t.ledger.base d) none in
    ⊎_elim (λ x. x) (λ xs. ⊎_elim (λ x. (x.0 ∙ nothing, x.1)) (λ x. (x.0.is ∙ trimmed_at (longer t) l.base (omega (arith, x.0.below, at)) ∙ nothing, x.1 ∙ unchanged)) xs) is

pub still_left : (old : Topic) (limit : ℕ) → old.doubt ≡ None → HasFloor old → (l : Ledger) (k : Kept) → IsLeft old l k → IsLeft (handed_on old limit) l k
still_left old limit none f l k is = inl (none_left old l k none f is)

flushed_left : (old : Topic) (limit trim : ℕ) → IsTrimPoint old limit → trim ≤ limit → IsSoundTopic old → (l : Ledger) (k : Kept) → IsLeft (flushed old trim) l k → IsLeft (handed_on old limit) l k
flushed_left old limit trim point low sound l k is =
    let all : lengthened old.ledger old.waiting ≡ longer (handed_on old limit) = ap (λ (z : Entries). lengthened old.ledger z) (sym (all-entries old limit)) in
    let later : after_all old.subs.changes old.kept ≡ changed (handed_on old limit) = ap (λ (z : List Record). after_all z old.kept) (sym (all-changes old limit)) in
    let on = handed_on-sound old limit point sound in
    let end = finished-sound (handed_on old limit) trim low on in
    let same = finished-handed_on old limit trim in
    let left = none_left (flushed old trim) l k refl (subst (λ (x : Topic). HasFloor x) same end.state.trims) is in
    let ledger : l ≡ trimmed trim (longer (handed_on old limit)) = left.0 ∙ ap (λ (x : Ledger). trimmed trim x) all in
    let base : l.base ≡ max old.ledger.base trim = ap (λ (x : Ledger). x.base) ledger in
    inr (inr (
      record {
        rises = omega (arith, base);
        below = omega (arith, base, low);
        acknowledged = subst (λ (x : Kept). HaveBelow l.base x) (sym (left.1 ∙ later)) (have_lower l.base limit (changed (handed_on old limit)) (omega (arith, base, low, point_rises old limit point)) on.acknowledged.doubted);
        is = ledger ∙ trimmed_same (longer (handed_on old limit)) trim ∙ ap (λ (b : ℕ). trimmed b (longer (handed_on old limit))) (sym base);
      },
      left.1 ∙ later,
    ))

-- what a crash of it leaves is what one of this flush may leave
record KeepsLeft (old new : Topic) : Type 0 where
  pub limit : ℕ
  pub allowed : IsTrimPoint old limit
  pub keeps : (l : Ledger) (k : Kept) → IsLeft new l k → IsLeft (handed_on old limit) l k

flush-in-keep : (failed nothing : Bool) (old : Topic) (result : Result ℕ WriteError) (new : Topic) → IsSoundTopic old → FlushIn failed nothing old result new → failed ≡ false → old.doubt ≡ None → KeepsLeft old new
flush-in-keep true nothing old result new sound h works none = absurd (true≢false works)
flush-in-keep false true old result new sound h works none =
    record { limit = old.ledger.base; allowed = inl refl; keeps = λ l k is. still_left old old.ledger.base none sound.state.trims l k (subst (λ (x : Topic). IsLeft x l k) h.1 is) }
flush-in-keep false false old (Ok n) new sound h works none =
    record { limit = h.1.limit; allowed = h.1.allowed; keeps = λ l k is. flushed_left old h.1.limit h.1.trim h.1.allowed h.1.within sound l k (subst (λ (x : Topic). IsLeft x l k) h.1.is is) }
flush-in-keep false false old (Err NoMemory) new sound h works none =
    record { limit = old.ledger.base; allowed = inl refl; keeps = λ l k is. still_left old old.ledger.base none sound.state.trims l k (subst (λ (x : Topic). IsLeft x l k) h is) }
flush-in-keep false false old (Err Device) new sound h works none = record { limit = h.limit; allowed = h.allowed; keeps = λ l k is. subst (λ (x : Topic). IsLeft x l k) h.is is }

pub flushes-keep : FlushesKeep
flushes-keep old result new sound h works none =
    let all = flush-in-keep old.failed (has_no_flush old) old result new sound h works none in
    (all.limit, all.allowed, all.keeps)

-- a flush that is refused before its write
pub refused_within : (stands : ℕ → Image → Ledger → Kept → Type 0) (phase : Phase) (t : Topic) (v : StoreView) (d : Disk) → t.doubt ≡ None → HasFloor t → Standing stands phase t v d
    → Within (OfTopic v.topic) (StandsFor (stands v.topic) (IsLeft (handed_on t t.ledger.base))) d d
refused_within stands phase t v d none f h = stays_within (OfTopic v.topic) (StandsFor (stands v.topic) (IsLeft (handed_on t t.ledger.base))) d
    (λ c may. stands_like (stands v.topic) (IsLeft t) (IsLeft (handed_on t t.ledger.base)) c (λ l k is. still_left t t.ledger.base none f l k is) (h.left c may))
