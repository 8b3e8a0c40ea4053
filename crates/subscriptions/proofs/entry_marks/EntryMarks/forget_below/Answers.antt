use Rattle.std.proofs.Common.{◌∙◌, arith, sym}
use Rattle.subscriptions.specs.Halves.{marks_of, slots_in, messages_in}
use Rattle.subscriptions.proofs.Fronts.{forgets, stays, fewer}
use Rattle.subscriptions.proofs.entry_marks.EntryMarks.forget_below.Goals as goal

pub returns-then-position-self-clause-forgotten : goal.returns-then-position-self-clause-forgotten
returns-then-position-self-clause-forgotten c =
    let marks = c.self.inside.marks.items in
    stays c.args.position c.self.inside.from (slots_in marks) (messages_in marks) c.args.self.now (sym c.self.view_is) (omega arith)

pub returns-clause-forgotten : goal.returns-clause-forgotten
returns-clause-forgotten c =
    let marks = c.self.inside.marks.items in
    forgets c.args.position c.self.inside.from (slots_in marks) (messages_in marks) c.args.self.now _ (sym c.self.view_is) (omega arith)
    ((λ i. marks_of c.args.position (c.drop_first.ensures i)) ∙ fewer c.args.position _ marks)
