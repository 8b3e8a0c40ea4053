use Rattle.std.proofs.Common.{ℕ, List, [], ◌∷◌, ◌++◌, ◌∙◌, ap}
use Rattle.cursor_store.proofs.Snapshots.{none_written}
use Rattle.cursor_store.proofs.snapshot_writer.SnapshotWriter.new.Goals as goal

pub returns : goal.returns
returns c = λ entries start. none_written entries _ start c.in_ok-log.ensures.built (c.in_ok-push.ensures.items ∙ ap (λ (l : List ℕ). l ++ 0 ∷ []) c.new-body.ensures.items)
