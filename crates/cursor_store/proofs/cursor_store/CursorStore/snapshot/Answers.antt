use Rattle.cursor_store.proofs.cursor_store.CursorStore.snapshot.Goals as goal

pub returns-clause-made : goal.returns-clause-made
returns-clause-made c = λ entries fits. c.snapshot_of.ensures.made entries c.args.self.now.told.start fits
