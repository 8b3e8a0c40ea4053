use Rattle.std.proofs.Common.{◌≡◌, ℕ, length, ◌∙◌, ap, arith}
use Rattle.managed_ledger.specs.Shape.{start_at}
use Rattle.managed_ledger.proofs.Pointing.{closed_below, last_is_below}
use Rattle.managed_ledger.proofs.Positions.{start_here, start_end}
use Rattle.managed_ledger.proofs.managed_ledger.ManagedLedger.last_below.Goals as goal

pub returns-then-limit-self-clause-below : goal.returns-then-limit-self-clause-below
returns-then-limit-self-clause-below c = λ last.
    let self = c.args.self.now in
    let count : c.len.result ≡ length self.closed.items = c.len.ensures ∙ self.closed.ok.0 in
    last_is_below self.closed.items self.last.first last c.args.limit c.len.result self.in_order count c.if-limit-self.true
    (ap (λ (n : ℕ). start_at self.closed.items self.last.first n) count ∙ start_end self.closed.items self.last.first)

pub returns-clause-below : goal.returns-clause-below
returns-clause-below c = λ last.
    let self = c.args.self.now in
    let segment = c.segment_of-segment in
    let here = start_here self.closed.items self.last.first segment.result c.index.result.now segment.ensures.there c.index.ensures in
    closed_below self.closed.items self.last.first last c.args.limit segment.result c.index.result.now.first self.in_order segment.ensures.there (omega (arith, here)) segment.ensures.begins segment.ensures.ends
