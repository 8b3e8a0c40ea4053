use Rattle.std.proofs.Common.{refl}
use Rattle.records.specs.declared.record.Record.TheVariants.{AcknowledgedRange}
use Rattle.cursor_store.proofs.Snapshots.{one_written}
use Rattle.cursor_store.proofs.snapshot_writer.SnapshotWriter.with_range.Goals as goal

pub returns-clause-written : goal.returns-clause-written
returns-clause-written c = λ entries told h formed. one_written entries c.in_ok-roomy.roomy _ told (AcknowledgedRange c.args.name.now c.args.first c.args.last) refl c.in_ok-add_range.ensures (c.in_ok-roomy.ensures.written entries told h) formed
