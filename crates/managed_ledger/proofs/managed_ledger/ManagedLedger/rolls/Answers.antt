use Rattle.std.proofs.Common.{length, arith}
use Rattle.managed_ledger.specs.Shape.{sizes_of}
use Rattle.managed_ledger.proofs.Pointing.{with_none, with_grown, with_rolled}
use Rattle.managed_ledger.proofs.managed_ledger.ManagedLedger.rolls.Goals as goal

pub returns-then-more-eq0-clause-stays : goal.returns-then-more-eq0-clause-stays
returns-then-more-eq0-clause-stays c = λ _.
    let self = c.args.self.now in
    with_none self.entries_per_ledger c.args.more (length self.last.places.items) (sizes_of self.closed.items) c.if-more-eq0.true

pub returns-then-len-from-clause-stays : goal.returns-then-len-from-clause-stays
returns-then-len-from-clause-stays c = λ _.
    let self = c.args.self.now in
    with_grown self.entries_per_ledger c.args.more (length self.last.places.items) (sizes_of self.closed.items) (omega (arith, c.if-len-from.true, c.len.ensures, c.from.ensures, self.last.places.ok.0))

pub returns-clause-rolled : goal.returns-clause-rolled
returns-clause-rolled c = λ _.
    let self = c.args.self.now in
    with_rolled self.entries_per_ledger c.args.more (length self.last.places.items) (sizes_of self.closed.items) (omega (arith, c.if-more-eq0.false)) (omega (arith, c.if-len-from.false, c.len.ensures, c.from.ensures, self.last.places.ok.0))
