use Rattle.std.proofs.Common.{◌^◌, Bool, subst, rules}
use Rattle.records.specs.Applied.{are_named}
use Rattle.cursor_store.specs.Snapshots.{IsSnapshotIf}
use Rattle.cursor_store.proofs.store.CursorStoreSubStore.prepare.Goals as goal

pub fits-requires-clause-names : goal.fits-requires-clause-names
fits-requires-clause-names c = are_named (2 ^ 62) _ c.args.records.now c.requires.formed

pub write_records-requires : goal.write_records-requires
write_records-requires c = record { names = are_named (2 ^ 62) _ c.args.records.now c.requires.formed }

pub returns-clause-prepared : goal.returns-clause-prepared
returns-clause-prepared c = record {
  batch = search rules;
  count = search rules;
  kept = search rules;
  snapshot = subst (λ (due : Bool). IsSnapshotIf due c.args.self.now.told c.in_ok-snapshot.snapshot) c.is_due.ensures (c.in_ok-snapshot.ensures.made c.args.self.now.told.start);
}
