use Rattle.std.proofs.Common.{◌∙◌}
use Rattle.cursor_store.specs.Cursors.{can_replace}
use Rattle.cursor_store.proofs.Replacing.{due_is, not_due}
use Rattle.cursor_store.proofs.cursor_store.CursorStore.is_due.Goals as goal

pub returns-then-self-lt-REPLACE_AFTER : goal.returns-then-self-lt-REPLACE_AFTER
returns-then-self-lt-REPLACE_AFTER c = not_due c.args.self.now.appended (can_replace c.args.self.now) c.if-self-lt-REPLACE_AFTER.true

pub returns : goal.returns
returns c = c.can_replace.ensures ∙ due_is c.args.self.now.appended (can_replace c.args.self.now) c.if-self-lt-REPLACE_AFTER.false
