use Rattle.std.proofs.Common.{◌≡◌, ◌+◌, ◌≤◌, length, arith}
use Rattle.proto_fields.specs.Spelling.{varint}
use Rattle.proto_fields.proofs.Spelled.{varint-some, varint-short, counts-more, counts-last}
use Rattle.proto_fields.proofs.put.varint_len.Goals as goal

pub overflow_add-len : goal.overflow_add-len
overflow_add-len c =
    let short : length (varint c.args.value) ≤ 10 = varint-short c.args.value (omega (arith, c.ranges.value.fits)) in
    let kept : c.counted.len + length (varint c.counted.left) ≡ 1 + length (varint c.args.value) = c.counted.invariant in
    omega (arith, short, kept)

pub counted-preserved : goal.counted-preserved
counted-preserved c = counts-more c.args.value c.counted.left c.counted.len c.counted.invariant c.counted-test.true

pub returns-clause-whole : goal.returns-clause-whole
returns-clause-whole c = counts-last c.args.value c.counted.left c.counted.len c.counted.invariant c.counted-test.false

pub returns-clause-short : goal.returns-clause-short
returns-clause-short c =
    let short : length (varint c.args.value) ≤ 10 = varint-short c.args.value (omega (arith, c.ranges.value.fits)) in
    rw (counts-last c.args.value c.counted.left c.counted.len c.counted.invariant c.counted-test.false) short
