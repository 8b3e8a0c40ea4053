use Rattle.cursor_store.specs.Folded.{takes_body, refuses_body}
use Rattle.cursor_store.proofs.Taking.{ok_on}
use Rattle.cursor_store.proofs.items_fold.ItemsFoldFold.body.Goals as goal

pub returns-clause-taken : goal.returns-clause-taken
returns-clause-taken c = λ logs log held few.
    ok_on c.read_items.result _ _ c.read_items.ensures.formed (λ good formed yes. takes_body c.args.self.now.folder c.args.self.now.entries c.args.self.now.begun c.args.self.now.told c.read_items.new.told logs log c.args.body.now held (formed yes))

pub returns-clause-refused : goal.returns-clause-refused
returns-clause-refused c = λ logs log held fits.
    ok_on c.read_items.result _ _ c.read_items.ensures.unformed (λ good unformed no. refuses_body c.args.self.now.folder c.args.self.now.entries c.args.self.now.begun c.args.self.now.told logs log c.args.body.now c.args.self.now.few held (unformed no))
