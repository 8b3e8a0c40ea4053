use Rattle.catalog.specs.Folded.{first_begins}
use Rattle.catalog.proofs.names_fold.NamesFoldFold.begin.Goals as goal

pub returns-clause-taken : goal.returns-clause-taken
returns-clause-taken c = λ logs held _.
    first_begins c.args.self.now.begun c.args.self.now.names.keys logs c.args.label c.if-self.false (c.is_label_of_names.ensures.0 c.if-not-is_label_of_names.false) held
