use Rattle.std.proofs.Common.{ℕ, List, [], ◌∷◌, ◌++◌, subst, arith}
use Rattle.gated_log.specs.Wholes.{Builds}
use Rattle.cursor_store.proofs.Snapshots.{all_written, last_written}
use Rattle.cursor_store.proofs.snapshot_writer.SnapshotWriter.finish.Goals as goal

pub returns-then-len-le1-clause-written : goal.returns-then-len-le1-clause-written
returns-then-len-le1-clause-written c = λ entries told h. all_written entries c.args.self c.in_ok-finish.field-0 told (omega arith) h (c.in_ok-finish.ensures.built h.bodies h.builds)

pub returns-clause-written : goal.returns-clause-written
returns-clause-written c = λ entries told h.
    last_written entries c.args.self c.in_ok-finish-2.field-0 told h
    (c.in_ok-finish-2.ensures.built (h.bodies ++ c.args.self.body.items ∷ [])
    (subst (λ (b : List ℕ). Builds c.in_ok-whole.whole (h.bodies ++ b ∷ [])) c.as_slice.ensures.value (c.in_ok-whole.ensures.grown h.bodies h.builds)))
