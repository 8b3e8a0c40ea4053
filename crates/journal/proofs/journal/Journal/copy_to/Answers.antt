use Rattle.std.proofs.Common.{◌≡◌, ◌+◌, ◌<◌, length, Some, refl, ap, arith}
use Rattle.std.specs.List.{slice_get}
use Rattle.std.proofs.lemmas.Option.{slice_get_read}
use Rattle.std.proofs.lemmas.Result.{on_ok_weaker}
use Rattle.disk.specs.declared.file_id.FileId.TheVariants.{Segment}
use Rattle.disk.specs.Areas.{both_within, widen_within}
use Rattle.gated_log.specs.declared.log_id.LogId.{LogId}
use Rattle.journal.specs.Chains.{SegmentsOf, batches_of, closed_batches_of}
use Rattle.journal.specs.Files.{segment_topic}
use Rattle.journal.specs.Links.{closed_length}
use Rattle.journal.proofs.Copying.{own_segment, holds_apart, closed_at, copied_label, copied_more, all_copied, all_synced}
use Rattle.journal.proofs.journal.Journal.copy_to.Goals as goal

pub segments-preserved : goal.segments-preserved
segments-preserved g c =
    let self = c.args.self.now in
    let topic = c.args.topic in
    let place = c.segments.place in
    let log = c.index.result.now in
    let d0 = g.S.Shelf.disk c.args.shelf.now in
    let d1 = g.S.Shelf.disk c.segments.shelf in
    let d2 = g.S.Shelf.disk c.copy_segment.new.shelf in
    let i = c.segments.invariant in
    let few : place < length self.closed.items = omega arith in
    let there : slice_get self.closed.items place ≡ Some log = slice_get_read self.closed.items _ place log refl few c.index.ensures in (
      omega (arith, few),
      record {
        faults = omega (arith, i.1.faults, c.copy_segment.ensures.kept.faults);
        honest = λ h. c.copy_segment.ensures.kept.honest (i.1.honest h);
        not_honest = λ h. i.1.not_honest (c.copy_segment.ensures.kept.not_honest h);
      },
      λ honest. both_within (SegmentsOf topic) _ _ _ d0 d1 d2 (λ c p. p) (λ c p. p) (i.2 honest)
          (widen_within (λ f. f ≡ Segment topic (self.first + place)) (SegmentsOf topic) (λ c. Unit {0}) (λ c. Unit {0}) d1 d2 (own_segment topic (self.first + place)) (λ c out. tt) (c.copy_segment.ensures.others (i.1.honest honest))),
      λ chain s.
          let honest1 = i.1.honest s.honest in
          copied_more topic self.first chain.closed place d1 d2 (i.3 chain s) (c.copy_segment.ensures.others honest1)
          (λ link is.
          let at = closed_at self.topic self.first d0.seen self.closed.items chain.closed place log link s.now.closed there is in
          let held = holds_apart log self.topic topic d0.seen d1.seen (closed_batches_of link) (ap (λ (id : LogId). segment_topic id.file) at.id_is) c.requires.other (i.2 s.honest).seen at.holds in
          copied_label log (Segment self.topic (self.first + place)) link.label d0.seen (closed_batches_of link) topic (d2.seen (Segment topic (self.first + place))) at (c.in_ok-copy_segment.ensures.copied (closed_batches_of link) honest1 held))
          (c.in_ok-copy_segment.ensures.synced honest1),
    )

pub returns-clause-copied : goal.returns-clause-copied
returns-clause-copied g c = λ chain s.
    let self = c.args.self.now in
    let topic = c.args.topic in
    let d0 = g.S.Shelf.disk c.args.shelf.now in
    let d1 = g.S.Shelf.disk c.segments.shelf in
    let d2 = g.S.Shelf.disk c.copy_segment-2.new.shelf in
    let i = c.segments.invariant in
    let honest1 = i.1.honest s.honest in
    let all : c.segments.place ≡ length chain.closed = omega (arith, closed_length self.topic self.first d0.seen self.closed.items chain.closed s.now.closed) in
    let number : c.last.result ≡ self.first + c.segments.place = omega arith in
    let held = holds_apart self.last self.topic topic d0.seen d1.seen (batches_of chain.last) self.last_own c.requires.other (i.2 s.honest).seen s.now.last.holds in
    on_ok_weaker c.copy_segment-2.result
    (λ is.
    all_copied topic self.first c.segments.place c.last.result chain d1 d2 number all (i.3 chain s) (c.copy_segment-2.ensures.others honest1)
    (copied_label self.last (Segment self.topic (self.first + length self.closed.items)) chain.last.label d0.seen (batches_of chain.last) topic (d2.seen (Segment topic c.last.result)) s.now.last is))
    (c.copy_segment-2.ensures.copied (batches_of chain.last) honest1 held)

pub returns-clause-synced : goal.returns-clause-synced
returns-clause-synced g c = λ chain s.
    let self = c.args.self.now in
    let topic = c.args.topic in
    let d0 = g.S.Shelf.disk c.args.shelf.now in
    let d1 = g.S.Shelf.disk c.segments.shelf in
    let d2 = g.S.Shelf.disk c.copy_segment-2.new.shelf in
    let i = c.segments.invariant in
    let honest1 = i.1.honest s.honest in
    let all : c.segments.place ≡ length chain.closed = omega (arith, closed_length self.topic self.first d0.seen self.closed.items chain.closed s.now.closed) in
    let number : c.last.result ≡ self.first + c.segments.place = omega arith in
    on_ok_weaker c.copy_segment-2.result
    (λ synced. all_synced topic self.first c.segments.place c.last.result chain d1 d2 number all (i.3 chain s) (c.copy_segment-2.ensures.others honest1) (synced honest1))
    c.copy_segment-2.ensures.synced
