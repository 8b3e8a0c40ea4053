use Rattle.std.proofs.Common.{◌+◌, ◌≤◌, List, ℕ, length, take, drop, ◌∙◌, ap, arith, length-append, Some}
use Rattle.std.proofs.lemmas.List.{length-map}
use Rattle.disk.specs.Areas.{folder_of}
use Rattle.gated_log.specs.Batches.{opened}
use Rattle.gated_log.specs.Sizes.{part_front}
use Rattle.journal.specs.Chains.{bytes_of}
use Rattle.journal.specs.Journals.{link_in}
use Rattle.journal.proofs.Parts.{segment_there}
use Rattle.journal.proofs.journal.Journal.read_at.Goals as goal

pub returns-in_default-clause-bytes : goal.returns-in_default-clause-bytes
returns-in_default-clause-bytes g c = λ chain link honest holds there fits.
    let self = c.args.self.now in
    let seen = (g.S.Shelf.disk c.args.shelf.now).seen in
    let none = (c.in_default.ensures.found seen).1 (omega (arith, segment_there self seen chain link c.args.segment holds there, length-map self.closed.items (link_in seen))) in
    cc

pub returns-clause-bytes : goal.returns-clause-bytes
returns-clause-bytes g c = λ chain link honest holds there fits.
    let folder = c.args.self.now.topic.folder in
    let its = c.in-Some.ensures.log (g.S.Shelf.disk c.args.shelf.now).seen chain link holds there in
    let within : c.args.offset + c.args.size ≤ length (opened (folder_of c.in-Some.log.now.gated.id.file) c.in-Some.log.now.gated.id.label its.batches) =
    omega (arith, fits, ap length its.bytes, length-append (bytes_of folder link) its.rest) in
    ap Some (c.in_ok-bytes.ensures.bytes its.batches honest its.holds within ∙ ap (λ (l : List ℕ). take c.args.size (drop c.args.offset l)) its.bytes ∙ part_front c.args.offset c.args.size (bytes_of folder link) its.rest fits)
