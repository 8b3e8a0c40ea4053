use Rattle.std.proofs.Common.{◌≤◌, vec_capacity}
use Rattle.proto_fields.proofs.Spelled.{Writes}
use Rattle.proto_fields.proofs.put.put_varint.Given as goal

abbrev pub invariant-groups : goal.invariant-groups
invariant-groups l = record {
  written : Writes l.fn.out.items l.value l.out.items l.rest;
  capacity : vec_capacity l.fn.out ≤ vec_capacity l.out;
}

abbrev pub decreases-groups : goal.decreases-groups
decreases-groups l = l.rest
