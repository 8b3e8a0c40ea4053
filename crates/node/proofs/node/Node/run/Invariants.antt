use Rattle.std.proofs.Common.{◌≡◌, ◌++◌, List}
use Rattle.disk.specs.Disk.{Leaves}
use Rattle.node.specs.Runs.{Run}
use Rattle.node.specs.Standing.{state_of, disk_of, Stands}
use Rattle.node.specs.declared.event.Output.{Output}
use Rattle.node.proofs.Reaching.{Crashed}
use Rattle.node.proofs.node.Node.run.Given as goal

abbrev pub invariant-loop-event : goal.invariant-loop-event
invariant-loop-event g l = record {
  prefix : l.fn.events.items ≡ l.yielded ++ l.event-iterator.rest.items;
  stands : Stands g.S.Shelf.disk l.initial.self → Stands g.S.Shelf.disk l.self;
  run : Stands g.S.Shelf.disk l.initial.self →
      (answers : List Output) × (l.outputs.items ≡ l.initial.outputs.items ++ answers)
      × Run (state_of g.S.Shelf.disk l.initial.self) l.yielded answers (state_of g.S.Shelf.disk l.self);
  any_moment : Stands g.S.Shelf.disk l.initial.self →
      Leaves (Crashed g.T.TopicStore.stands (state_of g.S.Shelf.disk l.initial.self) l.fn.events.items) (disk_of g.S.Shelf.disk l.initial.self) (disk_of g.S.Shelf.disk l.self);
}
