use Rattle.std.proofs.Common.{◌≡◌, length}
use Rattle.server.proofs.parts.devices.Given as goal

abbrev pub invariant-loop : goal.invariant-loop
invariant-loop g l = length l.topics.items ≡ l.counter
