use Rattle.records.specs.Maps.{by_bytes}
use Rattle.cursor_store.proofs.Begins.{HaveCome}
use Rattle.cursor_store.proofs.told.have_below.Given as goal

abbrev pub invariant-loop-shared : goal.invariant-loop-shared
invariant-loop-shared l = HaveCome l.base l.kept (by_bytes l.shared-iterator)
