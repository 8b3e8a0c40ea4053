use Rattle.proto_fields.proofs.Groups.{Reads}
use Rattle.proto_fields.proofs.varint.varint_at.Given as goal

abbrev pub invariant-groups : goal.invariant-groups
invariant-groups l = Reads l.counter l.value l.weight l.rest l.bytes
