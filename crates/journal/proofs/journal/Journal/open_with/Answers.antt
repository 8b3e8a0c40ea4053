use Rattle.std.proofs.Common.{◌≡◌, ◌⊎◌, ◌+◌, [], ◌∷◌, ◌++◌, List, ℕ, length, map, false, true, Bool, All, Some, refl, sym, ◌∙◌, ap, subst, arith}
use Rattle.std.proofs.lemmas.List.Elements.{All-push}
use Rattle.disk.specs.declared.file_id.FileId.TheVariants.{Segment}
use Rattle.disk.specs.Disk.{Image}
use Rattle.gated_log.specs.declared.log.GatedLog.{GatedLog}
use Rattle.gated_log.specs.declared.refusal.Refusal.{Refusal}
use Rattle.gated_log.specs.declared.refusal.Refusal.TheVariants.{NoMemory, Device}
use Rattle.gated_log.specs.Batches.{Bodies}
use Rattle.gated_log.specs.Folds.{Link, behind, IsFault}
use Rattle.disk.specs.Contents.{Settled as LogSettled}
use Rattle.gated_log.specs.Logs.{LogHolds, log_id, log_failed}
use Rattle.journal.specs.Folded.{refusal_of_named, logs_hold, logs_form, segment_of}
use Rattle.journal.specs.Files.{segment_topic}
use Rattle.journal.proofs.Segments.{Going, Refused, named_refused, goes_more, settles, read_log}
use Rattle.journal.proofs.journal.Journal.open_with.Goals as goal

pub returns-in-Err-clause-refused : goal.returns-in-Err-clause-refused
returns-in-Err-clause-refused g c = λ honest held.
    let mid = g.S.Shelf.disk c.segments.shelf in
    let topic = c.args.topic in
    let first = c.args.first in
    let closed = c.segments.closed.items in
    let told = c.in-Err.refusal in
    let so_far = c.segments.invariant.0 in
    let read = so_far.read held in
    let logs = read.0 in
    let form = g.F.Fold.form (g.F.Fold.rule c.args.fold) in
    let many : first + c.len.result ≡ first + length closed = omega (arith, c.len.ensures, c.segments.closed.ok.0) in
    let held' = subst (λ (b : Bool). logs_hold b (g.F.Fold.holds c.segments.segment.fold) logs) (sym c.segments.invariant.2) (read.1, read.3) in
    let is = c.in-Err.ensures.refused logs (so_far.kept.honest honest) held' in
    let here = subst (λ r. (told ≡ NoMemory) ⊎ ((told ≡ Device) ⊎ IsFault (behind (logs_form (g.F.Fold.form r)) logs) (Segment topic (first + length closed)) (mid.seen (Segment topic (first + length closed))) told)) c.segments.invariant.1
    (subst (λ (n : ℕ). (told ≡ NoMemory) ⊎ ((told ≡ Device) ⊎ IsFault (behind (logs_form (g.F.Fold.form (g.F.Fold.rule c.segments.segment.fold))) logs) (Segment topic n) (mid.seen (Segment topic n)) told)) many is) in
    let formed = subst (λ r. g.F.Fold.form r (map segment_of logs)) c.segments.invariant.1 (g.met.F.Fold.holds_form c.segments.segment.fold (map segment_of logs) read.3) in
    let refused = named_refused form topic first mid.seen closed logs told read.1 (read.2 honest).now formed here in
    let name = c.named.ensures ∙ ap (λ (n : ℕ). refusal_of_named (Segment topic n) told) many in
    subst (λ (i : Image). Refused form topic first i c.named.result) (so_far.seen honest) (subst (λ (e : Refusal). Refused form topic first mid.seen e) (sym name) refused)

pub returns-then-not-segment-clause-opened : goal.returns-then-not-segment-clause-opened
returns-then-not-segment-clause-opened g c = λ held.
    let mid = g.S.Shelf.disk c.segments.shelf in
    let new = g.S.Shelf.disk c.open_with.new.shelf in
    let log = c.in-Ok.log in
    let first = c.args.first in
    let closed = c.segments.closed.items in
    let holds = g.F.Fold.holds c.segments.segment.fold in
    let holds' = g.F.Fold.holds c.open_with.new.fold.fold in
    let many : first + c.len.result ≡ first + length closed = omega (arith, c.len.ensures, c.segments.closed.ok.0) in
    let opens : (logs : List Link) → logs_hold true holds logs → (bodies : Bodies) × (mid.honest → LogSettled (LogHolds log) new bodies) × logs_hold false holds' (logs ++ read_log log bodies ∷ []) = λ logs held'.
    let more = c.in-Ok.ensures.opened logs (subst (λ (b : Bool). logs_hold b holds logs) (sym c.segments.invariant.2) held') in
    (more.0, more.1, subst (λ (b : Bool). logs_hold b holds' (logs ++ read_log log more.0 ∷ [])) c.if-not-segment.true more.2) in
    settles c.args.topic first (g.S.Shelf.disk c.args.shelf.now) mid new (g.F.Fold.holds c.args.fold) holds holds' closed _ c.segments.invariant.0 held refl refl refl refl c.open_with.ensures.kept
    (λ h. c.in-Ok.ensures.seen h (λ is. cc)) c.open_with.ensures.any_moment (c.in-Ok.ensures.file ∙ ap (λ (n : ℕ). Segment c.args.topic n) many) opens

pub segments-preserved : goal.segments-preserved
segments-preserved g c =
    let mid = g.S.Shelf.disk c.segments.shelf in
    let new = g.S.Shelf.disk c.open_with.new.shelf in
    let inv = c.segments.invariant in
    let topic = c.args.topic in
    let log = c.in-Ok.log in
    let first = c.args.first in
    let closed = c.segments.closed.items in
    let holds = g.F.Fold.holds c.segments.segment.fold in
    let holds' = g.F.Fold.holds c.open_with.new.fold.fold in
    let many : first + c.len.result ≡ first + length closed = omega (arith, c.len.ensures, c.segments.closed.ok.0) in
    let file_is = c.in-Ok.ensures.file ∙ ap (λ (n : ℕ). Segment topic n) many in
    let opens : (logs : List Link) → logs_hold true holds logs → (bodies : Bodies) × (mid.honest → LogSettled (LogHolds log) new bodies) × logs_hold true holds' (logs ++ read_log log bodies ∷ []) = λ logs held'.
    let more = c.in-Ok.ensures.opened logs (subst (λ (b : Bool). logs_hold b holds logs) (sym inv.2) held') in
    (more.0, more.1, subst (λ (b : Bool). logs_hold b holds' (logs ++ read_log log more.0 ∷ [])) c.if-not-segment.false more.2) in
    let more = goes_more topic first (g.S.Shelf.disk c.args.shelf.now) mid new (g.F.Fold.holds c.args.fold) holds holds' closed log inv.0 c.open_with.ensures.kept (λ h. c.in-Ok.ensures.seen h (λ is. cc)) c.open_with.ensures.any_moment file_is opens in
    let items = c.in_ok-push_back.ensures.items in (
      subst (λ (l : List GatedLog). Going topic first (g.S.Shelf.disk c.args.shelf.now) new (g.F.Fold.holds c.args.fold) holds' l) (sym items) more,
      c.open_with.ensures.rule ∙ inv.1,
      c.if-not-segment.false,
      subst (λ (l : List GatedLog). All (λ (log : GatedLog). log_failed log ≡ false) l) (sym items) (All-push (λ (log : GatedLog). log_failed log ≡ false) closed log inv.3 c.in-Ok.ensures.works),
      subst (λ (l : List GatedLog). All (λ (log : GatedLog). segment_topic (log_id log).file ≡ Some topic) l) (sym items) (All-push (λ (log : GatedLog). segment_topic (log_id log).file ≡ Some topic) closed log inv.4 (ap segment_topic file_is)),
    )
