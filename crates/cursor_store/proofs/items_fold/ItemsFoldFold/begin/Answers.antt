use Rattle.std.proofs.Common.{arith}
use Rattle.cursor_store.specs.Fitting.{start_fits}
use Rattle.cursor_store.specs.Folded.{first_begins}
use Rattle.cursor_store.proofs.items_fold.ItemsFoldFold.begin.Goals as goal

pub returns-clause-taken : goal.returns-clause-taken
returns-clause-taken c = λ logs held good.
    let fold = c.args.self.now in
    let start = c.args.label.start in
    first_begins fold.folder fold.entries fold.begun fold.told logs c.args.label c.if-self.false
    (start_fits fold.entries start (omega (arith, c.if-label-self.false)) (omega (arith, c.if-label-gt-MOST_SEGMENTS.false))) held
