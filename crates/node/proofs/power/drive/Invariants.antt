use Rattle.std.proofs.Common.{◌≡◌, ◌++◌, ◌∷◌, List, false}
use Rattle.node.specs.State.{State}
use Rattle.node.specs.Standing.{AtRest}
use Rattle.node.specs.Driving.{Holds, disk_in, StandsAmidst}
use Rattle.disk.specs.Disk.{Leaves}
use Rattle.node.specs.Runs.{Life, AllowedRun}
use Rattle.node.specs.declared.event.Happening.TheVariants as happening
use Rattle.node.specs.declared.event.Output.{Output}
use Rattle.node.proofs.power.drive.Given as goal

abbrev pub invariant-loop-happening : goal.invariant-loop-happening
invariant-loop-happening g l = record {
  prefix : l.fn.happenings.items ≡ l.yielded ++ l.happening-iterator.rest.items;
  run : (first : State) → AtRest g.T.TopicStore.stands first (g.S.Shelf.disk l.fn.site.shelf) → l.fn.site.url ≡ first.broker.service_url →
      (answers : List Output) × (last : Life) × (l.outputs.items ≡ l.fn.outputs.items ++ answers)
      × AllowedRun (record { up = false; state = first }) (happening.Crash ∷ l.yielded) answers last
      × Holds g.S.Shelf.disk l.machine last
      × Leaves (StandsAmidst g.T.TopicStore.stands first l.fn.happenings.items) (g.S.Shelf.disk l.fn.site.shelf) (disk_in g.S.Shelf.disk l.machine);
}
