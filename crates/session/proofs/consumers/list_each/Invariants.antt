use Rattle.std.proofs.Common.{◌≡◌, ◌≤◌, length}
use Rattle.std.specs.Prelude.{vec_capacity}
use Rattle.session.proofs.Listed.{AreListed}
use Rattle.session.proofs.consumers.list_each.Given as goal

abbrev pub invariant-loop-place : goal.invariant-loop-place
invariant-loop-place l = record {
  same : l.consumers.items ≡ l.initial.consumers.items;
  listed : AreListed l.initial.consumers.items l.place l.listed.items;
  room : length l.initial.consumers.items ≤ vec_capacity l.listed;
}
