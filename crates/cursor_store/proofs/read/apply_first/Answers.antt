use Rattle.std.proofs.Common.{sym, rules}
use Rattle.cursor_store.specs.ItemSpelled.{item_spelt}
use Rattle.cursor_store.proofs.read.apply_first.Goals as goal

pub apply-applied-requires-clause-name : goal.apply-applied-requires-clause-name
apply-applied-requires-clause-name c = (item_spelt c.args.folder c.args.bytes.now c.in-Some.item c.in-Some.behind.now (search rules) (sym (rw c.in-Some.is at c.in_ok-item.ensures))).good
