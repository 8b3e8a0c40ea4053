use Rattle.std.proofs.Common.{◌∙◌, sym}
use Rattle.catalog.specs.Folded.{takes_name, refuses_body}
use Rattle.catalog.proofs.Taking.{ok_both}
use Rattle.catalog.proofs.names_fold.NamesFoldFold.body.Goals as goal

pub returns-clause-taken : goal.returns-clause-taken
returns-clause-taken c = λ logs log held few.
    ok_both c.take_name.result _ _ _ c.take_name.ensures.taken c.take_name.ensures.names
    (λ good is grows yes. takes_name c.args.self.now.begun c.args.self.now.names.keys c.take_name.new.names.keys logs log c.args.body.now held (sym is ∙ yes) (grows yes))

pub returns-clause-refused : goal.returns-clause-refused
returns-clause-refused c = λ logs log held fits.
    ok_both c.take_name.result _ _ _ c.take_name.ensures.taken c.take_name.ensures.taken
    (λ good is again no. refuses_body c.args.self.now.begun c.args.self.now.names.keys logs log c.args.body.now held (sym is ∙ no))
