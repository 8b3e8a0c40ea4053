use Rattle.std.proofs.Common.{ℕ, List, length, sym, subst, arith}
use Rattle.managed_ledger.specs.Ledgers.{base_of, counts_of}
use Rattle.managed_ledger.specs.Points.{IsLastBelow}
use Rattle.managed_ledger.proofs.Pointing.{one_more}
use Rattle.managed_ledger.proofs.managed_ledger.ManagedLedger.last_below_with.Goals as goal

pub returns-then-not-rolls-clause-below : goal.returns-then-not-rolls-clause-below
returns-then-not-rolls-clause-below c =
    let self = c.args.self.now in
    let same = c.rolls.ensures.stays c.if-not-rolls.true in
    subst (λ (counts : List ℕ). IsLastBelow (base_of self) counts c.args.limit c.last_below.result) (sym same.1) (c.last_below.ensures.below same.0)

pub returns-clause-below : goal.returns-clause-below
returns-clause-below c =
    let self = c.args.self.now in
    let same = c.rolls.ensures.rolled c.if-not-rolls.false in
    subst (λ (counts : List ℕ). IsLastBelow (base_of self) counts c.args.limit c.last_below-2.result) (sym same)
    (one_more (base_of self) (counts_of self) c.args.limit c.args.more c.last_below-2.result (omega (arith, c.if-limit-end.false, c.entry_count-end.ensures.len)) (c.last_below-2.ensures.below (length self.last.places.items)))
