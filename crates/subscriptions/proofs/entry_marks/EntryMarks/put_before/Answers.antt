use Rattle.std.proofs.Common.{sym}
use Rattle.subscriptions.specs.Halves.{slots_in, messages_in}
use Rattle.subscriptions.proofs.Fronts.{before_all}
use Rattle.subscriptions.proofs.entry_marks.EntryMarks.put_before.Goals as goal

pub returns : goal.returns
returns c = before_all c.args.count c.self.inside.from (slots_in c.self.inside.marks.items) (messages_in c.self.inside.marks.items) c.args.self.now (sym c.self.view_is)
