-- An opening goes from segment to segment.
use Rattle.std.proofs.Common.{◌≡◌, ◌⊎◌, inl, inr, ℕ, ◌+◌, List, [], ◌∷◌, ◌++◌, length, map, true, false, refl, sym, ◌∙◌, ap, subst, arith}
use Rattle.std.specs.List.{flat_map}
use Rattle.disk.specs.declared.file_id.TopicId.{TopicId}
use Rattle.disk.specs.declared.file_id.FileId.{FileId}
use Rattle.disk.specs.declared.file_id.FileId.TheVariants.{Segment}
use Rattle.disk.specs.Disk.{Disk, Image, Leaves, Kept}
use Rattle.gated_log.specs.declared.log.GatedLog.{GatedLog}
use Rattle.gated_log.specs.declared.refusal.Refusal.{Refusal}
use Rattle.gated_log.specs.declared.refusal.Refusal.TheVariants.{Device, NotInitialised, Version, Damaged, NoMemory, TooLarge}
use Rattle.gated_log.specs.Batches.{Bodies}
use Rattle.gated_log.specs.Folds.{Link, Form, behind, begun, grown, IsLabelFault, IsBatchFault, IsFault}
use Rattle.gated_log.specs.Headers.{IsHeaderDamaged}
use Rattle.disk.specs.Contents.{Settled as LogSettled}
use Rattle.gated_log.specs.Logs.{LogHolds, log_id}
use Rattle.journal.specs.declared.journal.Journal.{Journal}
use Rattle.journal.specs.Chains.{Chain, entry, end_mark, batches_of, closed_batches_of, links_of}
use Rattle.journal.specs.Journals.{Holds, Settled, LogAt, ClosedHold, body_in}
use Rattle.journal.specs.Links.{closed_length, closed_push, closed_stand, holds_as}
use Rattle.journal.specs.Folded.{refusal_of_named, AreOpen, AreClosed, AllClosed, logs_form, logs_hold, segment_of, segment_form, segments_push, last_so, so_last, last_open_last, closed_logs_last, IsNamedFault, IsChainFault}
use Rattle.disk.specs.Areas.{folder_of}
use Rattle.disk.specs.Moments.{joins}

-- the closed segments, in what reads give and in what a crash leaves
pub record HoldNow (topic : TopicId) (from : ℕ) (disk : Disk) (closed : List GatedLog) (links : List Link) : Type 0 where
  pub now : ClosedHold topic from disk.seen closed links
  pub left : (c : Image) → disk.may_leave c → ClosedHold topic from c closed links

pub hold_still : (topic : TopicId) (from : ℕ) (mid new : Disk) (closed : List GatedLog) (links : List Link) → HoldNow topic from mid closed links → new.seen ≡ mid.seen → Leaves mid.may_leave mid new → HoldNow topic from new closed links
hold_still topic from mid new closed links hold seen leaves = record { now = subst (λ (i : Image). ClosedHold topic from i closed links) (sym seen) hold.now; left = λ c may. hold.left c (leaves.now c may) }

-- what an opening keeps true from segment to segment
pub record Going (topic : TopicId) (from : ℕ) (first now : Disk) (held holds : List Link → Type 0) (closed : List GatedLog) : Type 0 where
  pub kept : Kept first now
  pub seen : first.honest → now.seen ≡ first.seen
  pub any_moment : first.honest → Leaves first.may_leave first now
  pub read : held [] → (logs : List Link) × AllClosed logs × (first.honest → HoldNow topic from now closed (map segment_of logs)) × holds (map segment_of logs)

leaves_on : (first mid new : Disk) → Leaves first.may_leave first mid → Leaves mid.may_leave mid new → Leaves first.may_leave first new
leaves_on first mid new one other = joins first.may_leave mid.may_leave first.may_leave first mid new one other (λ image left. left) (λ image left. one.now image left)

-- batches are those of their bodies
pub open_are : (bs : Bodies) → AreOpen bs → bs ≡ map entry (flat_map body_in bs)
open_are [] are = refl
open_are (b ∷ bs) are =
    let here : b ≡ entry are.0.body = are.0.is in
    here_of b bs are.0.body here (open_are bs are.1)
  where
    here_of : (b : List ℕ) (bs : Bodies) (body : List ℕ) → b ≡ entry body → bs ≡ map entry (flat_map body_in bs) → (b ∷ bs) ≡ map entry (flat_map body_in (b ∷ bs))
    here_of b bs body is rest = subst (λ (l : List ℕ). (l ∷ bs) ≡ map entry (flat_map body_in (l ∷ bs))) (sym is) (ap (λ (l : Bodies). entry body ∷ l) rest)

pub closed_are : (bs : Bodies) → AreClosed bs → bs ≡ map entry (flat_map body_in bs) ++ end_mark ∷ []
closed_are [] are = absurd are
closed_are (b ∷ bs) (inl both) =
    subst (λ (l : List ℕ). (l ∷ bs) ≡ map entry (flat_map body_in (l ∷ bs)) ++ end_mark ∷ []) (sym both.0.is) (ap (λ (l : Bodies). entry both.0.body ∷ l) (closed_are bs both.1))
closed_are (b ∷ bs) (inr both) = subst (λ (l : Bodies). (b ∷ l) ≡ map entry (flat_map body_in (b ∷ l)) ++ end_mark ∷ []) (sym both.1) (subst (λ (l : List ℕ). (l ∷ []) ≡ map entry (flat_map body_in (l ∷ [])) ++ end_mark ∷ []) (sym both.0) refl)

-- forms that say the same have the same faults
pub fault_same : (a b : Form) (file : FileId) (bytes : List ℕ) (refusal : Refusal) → ((log : Link) → a log → b log) → ((log : Link) → b log → a log) → IsFault a file bytes refusal → IsFault b file bytes refusal
fault_same a b file bytes NotInitialised to from is = is
fault_same a b file bytes Version to from is = is
fault_same a b file bytes (Damaged of offset) to from is = (is.0, damage is.1)
  where
    damage : ((IsHeaderDamaged (folder_of file) bytes ⊎ IsLabelFault (folder_of file) a bytes) × (offset ≡ 0)) ⊎ IsBatchFault (folder_of file) a offset bytes
        → ((IsHeaderDamaged (folder_of file) bytes ⊎ IsLabelFault (folder_of file) b bytes) × (offset ≡ 0)) ⊎ IsBatchFault (folder_of file) b offset bytes
    damage (inl (inl bad, at)) = inl (inl bad, at)
    damage (inl (inr bad, at)) = inl (inr (record { label = bad.label; long = bad.long; is_open = bad.is_open; bad = λ good. bad.bad (from (begun bad.label) good) }), at)
    damage (inr there) = inr (record {
      log = there.log;
      rest = there.rest;
      in_range = there.in_range;
      fit = there.fit;
      formed = to there.log there.formed;
      bytes = there.bytes;
      offset_is = there.offset_is;
      none_follows = λ body good. there.none_follows body (from (grown there.log body) good);
    })
fault_same a b file bytes Device to from is = is
fault_same a b file bytes NoMemory to from is = is
fault_same a b file bytes TooLarge to from is = is

-- a refusal to open a segment tells the first fault of the chain
pub chain_fault : (form : List Link → Type 0) (topic : TopicId) (from : ℕ) (image : Image) (closed : List GatedLog) (logs : List Link) (told : Refusal) → AllClosed logs → ClosedHold topic from image closed (map segment_of logs) → form (map segment_of logs)
    → IsFault (behind (logs_form form) logs) (Segment topic (from + length closed)) (image (Segment topic (from + length closed))) told → IsChainFault form topic from image (refusal_of_named (Segment topic (from + length closed)) told)
chain_fault form topic from image closed logs told are hold formed is =
    let links = map segment_of logs in
    let there : (log : Link) → behind (logs_form form) logs log → segment_form form links log = λ log so. ((last_so logs log so.0).1, subst form (segments_push logs log) so.1) in
    let back : (log : Link) → segment_form form links log → behind (logs_form form) logs log = λ log so. (so_last logs log are so.0, subst form (sym (segments_push logs log)) so.1) in
    let many : length closed ≡ length links = closed_length topic from image closed links hold in
    record {
      closed = links;
      stand = closed_stand topic from image closed links hold;
      formed = formed;
      fault = subst (λ (n : ℕ). IsNamedFault (segment_form form links) (Segment topic (from + n)) (image (Segment topic (from + n))) (refusal_of_named (Segment topic (from + length closed)) told)) many
          (told, fault_same (behind (logs_form form) logs) (segment_form form links) (Segment topic (from + length closed)) (image (Segment topic (from + length closed))) told there back is, refl);
    }

-- no memory, the device, or a fault of the chain
abbrev pub Refused : (List Link → Type 0) → TopicId → ℕ → Image → Refusal → Type 0
Refused form topic from image e = (e ≡ NoMemory) ⊎ ((e ≡ Device) ⊎ IsChainFault form topic from image e)

pub named_refused : (form : List Link → Type 0) (topic : TopicId) (from : ℕ) (image : Image) (closed : List GatedLog) (logs : List Link) (told : Refusal) → AllClosed logs → ClosedHold topic from image closed (map segment_of logs) → form (map segment_of logs)
    → (told ≡ NoMemory) ⊎ ((told ≡ Device) ⊎ IsFault (behind (logs_form form) logs) (Segment topic (from + length closed)) (image (Segment topic (from + length closed))) told) → Refused form topic from image (refusal_of_named (Segment topic (from + length closed)) told)
named_refused form topic from image closed logs told are hold formed (inl none) = inl (ap (refusal_of_named (Segment topic (from + length closed))) none)
named_refused form topic from image closed logs told are hold formed (inr (inl device)) = inr (inl (ap (refusal_of_named (Segment topic (from + length closed))) device))
named_refused form topic from image closed logs told are hold formed (inr (inr is)) = inr (inr (chain_fault form topic from image closed logs told are hold formed is))

-- the log of a segment
log_at : (log : GatedLog) (topic : TopicId) (n : ℕ) (image : Image) (bodies batches : Bodies) → (log_id log).file ≡ Segment topic n → bodies ≡ batches → LogHolds log image bodies → LogAt log (record { file = Segment topic n; label = (log_id log).label }) image batches
log_at log topic n image bodies batches file_is are holds = record {
  id_is = (λ i. record { file = file_is i; label = (log_id log).label });
  holds = subst (λ (b : Bodies). LogHolds log image b) are holds;
}

abbrev pub read_log : GatedLog → Bodies → Link
read_log log bodies = record { label = (log_id log).label; bodies = bodies }

-- a segment more
pub goes_more : (topic : TopicId) (from : ℕ) (first mid new : Disk) (held holds holds' : List Link → Type 0) (closed : List GatedLog) (log : GatedLog) → Going topic from first mid held holds closed
    → Kept mid new → (mid.honest → new.seen ≡ mid.seen) → (mid.honest → Leaves mid.may_leave mid new) → (log_id log).file ≡ Segment topic (from + length closed)
    → ((logs : List Link) → logs_hold true holds logs → (bodies : Bodies) × (mid.honest → LogSettled (LogHolds log) new bodies) × logs_hold true holds' (logs ++ read_log log bodies ∷ []))
    → Going topic from first new held holds' (closed ++ log ∷ [])
goes_more topic from first mid new held holds holds' closed log so_far kept seen leaves file_is opens = record {
  kept = record {
    faults = omega (arith, so_far.kept.faults, kept.faults);
    honest = λ h. kept.honest (so_far.kept.honest h);
    not_honest = λ h. so_far.kept.not_honest (kept.not_honest h);
  };
  seen = λ h. seen (so_far.kept.honest h) ∙ so_far.seen h;
  any_moment = λ h. leaves_on first mid new (so_far.any_moment h) (leaves (so_far.kept.honest h));
  read = λ held'.
      let was = so_far.read held' in
      let logs = was.0 in
      let more = opens logs (was.1, was.3) in
      let bodies = more.0 in
      let links = map segment_of logs in
      let log' : Link = read_log log bodies in
      let so = closed_logs_last logs log' more.2.0 in
      let more_at : (c : Image) → ClosedHold topic from c closed links → LogHolds log c bodies → ClosedHold topic from c (closed ++ log ∷ []) (map segment_of (logs ++ log' ∷ [])) = λ c hold' here.
      subst (λ (l : List Link). ClosedHold topic from c (closed ++ log ∷ []) l) (sym (segments_push logs log'))
      (closed_push topic from c closed links log (segment_of log') hold' (log_at log topic (from + length closed) c bodies (closed_batches_of (segment_of log')) file_is (closed_are bodies so.1) here)) in
      let hold_now : first.honest → HoldNow topic from new (closed ++ log ∷ []) (map segment_of (logs ++ log' ∷ [])) = λ h.
      let honest = so_far.kept.honest h in
      let hold = hold_still topic from mid new closed links (was.2 h) (seen honest) (leaves honest) in
      let settled = more.1 honest in
      record { now = more_at new.seen hold.now settled.now; left = λ c may. more_at c (hold.left c may) (settled.left c may) } in
      (logs ++ log' ∷ [], more.2.0, hold_now, more.2.1);
}

-- the last segment
pub settles : (topic : TopicId) (from : ℕ) (first mid new : Disk) (held holds holds' : List Link → Type 0) (closed : List GatedLog) (journal : Journal) → Going topic from first mid held holds closed → held []
    → journal.failed ≡ false → journal.topic ≡ topic → journal.first ≡ from → journal.closed.items ≡ closed → Kept mid new → (mid.honest → new.seen ≡ mid.seen) → (mid.honest → Leaves mid.may_leave mid new) → (log_id journal.last).file ≡ Segment topic (from + length closed)
    → ((logs : List Link) → logs_hold true holds logs → (bodies : Bodies) × (mid.honest → LogSettled (LogHolds journal.last) new bodies) × logs_hold false holds' (logs ++ read_log journal.last bodies ∷ []))
    → (chain : Chain) × (first.honest → Settled journal new chain) × holds' (links_of chain)
settles topic from first mid new held holds holds' closed journal so_far held' works topic_is from_is closed_are' kept seen leaves file_is opens =
    let was = so_far.read held' in
    let logs = was.0 in
    let more = opens logs (was.1, was.3) in
    let bodies = more.0 in
    let links = map segment_of logs in
    let log' : Link = read_log journal.last bodies in
    let so = last_open_last logs log' more.2.0 in
    let chain : Chain = record { closed = links; last = segment_of log' } in
    let held_at : (c : Image) → ClosedHold topic from c closed links → LogHolds journal.last c bodies → Holds journal c chain =
    λ c hold' last. holds_as journal topic from closed c chain works topic_is from_is closed_are' hold' (log_at journal.last topic (from + length closed) c bodies (batches_of (segment_of log')) file_is (open_are bodies so.1) last) in
    let settled : first.honest → Settled journal new chain = λ h.
    let honest = so_far.kept.honest h in
    let hold = hold_still topic from mid new closed links (was.2 h) (seen honest) (leaves honest) in
    let last = more.1 honest in
    record {
      honest = kept.honest honest;
      now = held_at new.seen hold.now last.now;
      left = λ c may. held_at c (hold.left c may) (last.left c may);
    } in
    (chain, settled, subst holds' (segments_push logs log') more.2.1)
