use Rattle.std.proofs.Common.{◌≡◌, ◌-◌, length, take, drop, ◌++◌, ℕ, sym, ◌∙◌, ap, subst, arith}
use Rattle.std.proofs.lemmas.Result.{on_ok_weaker}
use Rattle.disk.specs.Disk.{Image}
use Rattle.disk.specs.Areas.{folder_of, both_within}
use Rattle.gated_log.specs.Batches.{IsLog}
use Rattle.gated_log.specs.Labels.{header_size, IsLabel, label_fits}
use Rattle.gated_log.proofs.Alone.{alone_call, alone_read, alone_sync}
use Rattle.gated_log.proofs.Copied.{enough, copied_log}
use Rattle.gated_log.proofs.log.GatedLog.copy_to.Goals as goal

pub returns-clause-copied : goal.returns-clause-copied
returns-clause-copied g c = λ bodies honest held.
    let from = c.args.self.now.gated.id.file in
    let to = c.args.to in
    let folder = folder_of from in
    let d0 = g.S.Shelf.disk c.args.shelf.now in
    let d1 = g.S.Shelf.disk c.begin_open.new.shelf in
    let d2 = g.S.Shelf.disk c.copy_bytes.new.shelf in
    let d3 = g.S.Shelf.disk c.length.new.self in
    let d4 = g.S.Shelf.disk c.write_at.new.self in
    let d5 = g.S.Shelf.disk c.sync.new.self in
    let honest1 = c.begin_open.ensures.kept.honest honest in
    let honest2 = c.copy_bytes.ensures.kept.honest honest1 in
    let honest3 = c.length.ensures.kept.honest honest2 in
    let honest4 = c.write_at.ensures.kept.honest honest3 in
    let first : c.header_size-first.result ≡ header_size folder = c.header_size-first.ensures ∙ ap header_size c.folder_of.ensures in
    let count : c.saturating_sub.result ≡ c.args.self.now.gated.end - header_size folder = c.saturating_sub.ensures ∙ ap (λ (n : ℕ). c.args.self.now.gated.end - n) first in
    let unchanged : d1.seen from ≡ d0.seen from = (c.begin_open.ensures.others honest).seen from c.requires.other in
    let fits = enough folder _ bodies (d0.seen from) _ _ held.is held.end count in
    let copied = (c.in_ok-copy_bytes.ensures.copied honest1 (omega (arith, fits, first, ap length unchanged))).copied in
    let here : d2.seen to ≡ d1.seen to ++ take c.saturating_sub.result (drop (header_size folder) (d0.seen from)) = copied ∙ (λ i. d1.seen to ++ take c.saturating_sub.result (drop (first i) (unchanged i))) in
    let same3 : d3.seen to ≡ d2.seen to = ap (λ (i : Image). i to) (c.length.ensures.seen honest2) in
    let at : c.in_ok-end.end ≡ length (d3.seen to) = c.in_ok-end.ensures.length honest2 ∙ ap length (sym same3) in
    let written = (c.in_ok-write_at.ensures.written honest3 (omega (arith, at))).there in
    let good : IsLabel (folder_of to) c.args.label = label_fits (folder_of to) c.args.label (omega arith) (omega arith) (omega arith) c.requires.label in
    let is = copied_log folder (folder_of to) _ c.args.label bodies (d0.seen from) (d1.seen to) (d3.seen to) (d4.seen to) _ _ _ held.is held.end count (c.in_ok-begin_open.ensures.begun honest) (same3 ∙ here) at written good in
    on_ok_weaker c.sync.result (λ same. subst (λ (i : Image). IsLog (folder_of to) c.args.label bodies (i to)) (sym (same honest4)) is) c.sync.ensures.seen

pub returns-clause-others : goal.returns-clause-others
returns-clause-others g c = λ honest.
    let to = c.args.to in
    let d0 = g.S.Shelf.disk c.args.shelf.now in
    let d1 = g.S.Shelf.disk c.begin_open.new.shelf in
    let d2 = g.S.Shelf.disk c.copy_bytes.new.shelf in
    let d3 = g.S.Shelf.disk c.length.new.self in
    let d4 = g.S.Shelf.disk c.write_at.new.self in
    let d5 = g.S.Shelf.disk c.sync.new.self in
    let honest1 = c.begin_open.ensures.kept.honest honest in
    let honest2 = c.copy_bytes.ensures.kept.honest honest1 in
    let honest3 = c.length.ensures.kept.honest honest2 in
    let honest4 = c.write_at.ensures.kept.honest honest3 in
    let two = both_within _ _ _ (λ i. Unit {0}) d0 d1 d2 (λ i p. p) (λ i p. p) (c.begin_open.ensures.others honest) (c.copy_bytes.ensures.others honest1) in
    let three = both_within _ _ _ (λ i. Unit {0}) d0 d2 d3 (λ i p. p) (λ i p. p) two (alone_read to d2 d3 (c.length.ensures.seen honest2) (c.length.ensures.time honest2)) in
    let four = both_within _ _ _ (λ i. Unit {0}) d0 d3 d4 (λ i p. p) (λ i p. p) three (alone_call to _ _ d3 d4 (c.write_at.ensures.torn honest3) (c.write_at.ensures.time honest3)) in
    both_within _ _ _ (λ i. Unit {0}) d0 d4 d5 (λ i p. p) (λ i p. p) four (alone_sync to _ d4 d5 (c.sync.ensures.torn honest4) (c.sync.ensures.time honest4))
