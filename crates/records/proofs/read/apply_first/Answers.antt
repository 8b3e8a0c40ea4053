use Rattle.std.proofs.Common.{sym, rules}
use Rattle.records.specs.Spelled.{spelt}
use Rattle.records.proofs.read.apply_first.Goals as goal

pub apply_formed-applied-requires-clause-name : goal.apply_formed-applied-requires-clause-name
apply_formed-applied-requires-clause-name c = (spelt c.args.bytes.now c.in-Some.change c.in-Some.behind.now (search rules) (sym (rw c.in-Some.is at c.in_ok-change.ensures))).good
