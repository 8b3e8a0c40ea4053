use Rattle.std.proofs.Common.{[], sym, ap, subst}
use Rattle.std.specs.FinMap as map
use Rattle.gated_log.specs.declared.start.Start.{Start}
use Rattle.gated_log.specs.Starts.{untrimmed}
use Rattle.cursor_store.specs.Fitting.{none_fits}
use Rattle.cursor_store.specs.Items.{FitsLedger, untold}
use Rattle.cursor_store.specs.Laws.{settled_in}
use Rattle.cursor_store.proofs.store.CursorStoreSubStore.create.Goals as goal

pub returns-clause-created : goal.returns-clause-created
returns-clause-created g c = λ entries honest.
    let start = c.in_ok-slots.ensures.start in
    settled_in _ entries untrimmed (g.S.Shelf.disk c.create.new.shelf) map.empty [] (record {
      slots = c.in_ok-slots.ensures.created honest;
      fits = subst (λ (s : Start). FitsLedger entries (untold s)) (sym start) (none_fits entries);
      means = sym (ap (λ (s : Start). untold s) start);
      same = c.new.ensures;
    })
