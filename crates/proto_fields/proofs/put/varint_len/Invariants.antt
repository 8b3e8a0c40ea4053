use Rattle.std.proofs.Common.{◌≡◌, ◌+◌, ◌≤◌, length}
use Rattle.proto_fields.specs.Spelling.{varint}
use Rattle.proto_fields.proofs.put.varint_len.Given as goal

abbrev pub invariant-counted : goal.invariant-counted
invariant-counted l = l.len + length (varint l.left) ≡ 1 + length (varint l.value)

abbrev pub decreases-counted : goal.decreases-counted
decreases-counted l = l.left
