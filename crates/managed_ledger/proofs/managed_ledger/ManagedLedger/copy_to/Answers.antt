use Rattle.managed_ledger.specs.Settled.{settled_as}
use Rattle.managed_ledger.proofs.Copying.{copied, copied_laid}
use Rattle.managed_ledger.proofs.managed_ledger.ManagedLedger.copy_to.Goals as goal

pub returns-clause-copied : goal.returns-clause-copied
returns-clause-copied g c = λ l s.
    let self = c.args.self.now in
    let d = g.S.Shelf.disk c.args.shelf.now in
    let held = settled_as self d l s in
    copied c.copy_to.result self c.args.topic d (g.S.Shelf.disk c.copy_to.new.shelf) s.now.chain l held (c.copy_to.ensures.copied s.now.chain held.journal) (c.copy_to.ensures.synced s.now.chain held.journal)

pub returns-clause-laid : goal.returns-clause-laid
returns-clause-laid g c = λ l s.
    let self = c.args.self.now in
    let d = g.S.Shelf.disk c.args.shelf.now in
    let held = settled_as self d l s in
    copied_laid c.copy_to.result self c.args.topic d (g.S.Shelf.disk c.copy_to.new.shelf) s.now.chain l held (c.copy_to.ensures.copied s.now.chain held.journal) (c.copy_to.ensures.synced s.now.chain held.journal)
