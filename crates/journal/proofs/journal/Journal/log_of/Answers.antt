use Rattle.std.proofs.Common.{◌≡◌, Some, refl, arith}
use Rattle.std.specs.List.{slice_get}
use Rattle.std.proofs.lemmas.Option.{slice_get_read}
use Rattle.journal.proofs.Parts.{last_log, closed_log}
use Rattle.journal.proofs.journal.Journal.log_of.Goals as goal

pub returns-then-segment-len-clause-log : goal.returns-then-segment-len-clause-log
returns-then-segment-len-clause-log c = λ image chain link holds there.
    last_log c.args.self.now image chain link c.args.segment holds (omega (arith, c.if-segment-len.true, c.len.ensures, c.args.self.now.closed.ok.0)) there

pub returns-clause-log : goal.returns-clause-log
returns-clause-log c = λ image chain link holds there.
    let self = c.args.self.now in
    let log = c.in_ok-log.log.now in
    let found = c.in_ok-log.ensures.item in
    let here : slice_get self.closed.items c.args.segment ≡ Some log = slice_get_read self.closed.items _ c.args.segment log refl found.3.0 found.1 in
    closed_log self.topic self.first image self.closed.items chain.closed chain.last c.args.segment log link holds.closed here there
