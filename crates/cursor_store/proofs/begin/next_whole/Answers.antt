use Rattle.std.proofs.Common.{refl}
use Rattle.cursor_store.proofs.Passing.{next_one, none_damaged}
use Rattle.cursor_store.proofs.begin.next_whole.Goals as goal

pub returns-in-Ok-clause-next : goal.returns-in-Ok-clause-next
returns-in-Ok-clause-next g c = λ bodies honest read. next_one c.args.reader.now c.next.new.self (g.S.Shelf.disk c.args.shelf.now).seen bodies _ (c.in-Ok.ensures.next bodies honest read)

pub returns-in_ok-end_or-in-Err-clause-next : goal.returns-in_ok-end_or-in-Err-clause-next
returns-in_ok-end_or-in-Err-clause-next g c = λ bodies honest read.
    none_damaged c.args.reader.now (g.S.Shelf.disk c.args.shelf.now).seen bodies c.in-Err.refusal (c.in_ok-end_or-in-Err.ensures.ends refl) (c.in-Err.ensures.refused bodies honest read)
