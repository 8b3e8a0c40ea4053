use Rattle.std.proofs.Common.{ℕ, List, [], ◌∷◌, ◌++◌, ◌∙◌, ap, subst}
use Rattle.gated_log.specs.Wholes.{Builds}
use Rattle.cursor_store.proofs.Snapshots.{body_written}
use Rattle.cursor_store.proofs.snapshot_writer.SnapshotWriter.next_body.Goals as goal

pub returns-clause-written : goal.returns-clause-written
returns-clause-written c = λ entries told h.
    body_written entries c.args.self _ told h (subst (λ (b : List ℕ). Builds c.in_ok-log.log (h.bodies ++ b ∷ [])) c.as_slice.ensures.value (c.in_ok-log.ensures.grown h.bodies h.builds))
    (c.in_ok-push.ensures.items ∙ ap (λ (l : List ℕ). l ++ 0 ∷ []) c.clear.ensures.items)
