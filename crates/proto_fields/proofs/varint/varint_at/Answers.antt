use Rattle.std.proofs.Common.{arith}
use Rattle.proto_fields.proofs.Groups.{cut, last, more, last_tenth, too_long}
use Rattle.proto_fields.proofs.varint.varint_at.Goals as goal

pub returns-in_default : goal.returns-in_default
returns-in_default c = cut c.groups.invariant c.in_default.ensures.front (omega arith)

pub overflow_mul-result : goal.overflow_mul-result
overflow_mul-result c = let fits = (last c.groups.invariant c.in-Some.ensures.front c.from.ensures c.groups-test.true c.if-first-lt128.true).product in omega (arith, fits)

pub overflow_add-result : goal.overflow_add-result
overflow_add-result c = let fits = (last c.groups.invariant c.in-Some.ensures.front c.from.ensures c.groups-test.true c.if-first-lt128.true).sum in omega (arith, fits)

pub returns-then-first-lt128 : goal.returns-then-first-lt128
returns-then-first-lt128 c = (last c.groups.invariant c.in-Some.ensures.front c.from.ensures c.groups-test.true c.if-first-lt128.true).found

pub overflow_mul-value : goal.overflow_mul-value
overflow_mul-value c = let fits = (more c.groups.invariant c.in-Some.ensures.front c.from-in-groups.ensures c.groups-test.true c.in-Some.ensures.byte c.if-first-lt128.false).product in omega (arith, fits)

pub overflow_add-value : goal.overflow_add-value
overflow_add-value c = let fits = (more c.groups.invariant c.in-Some.ensures.front c.from-in-groups.ensures c.groups-test.true c.in-Some.ensures.byte c.if-first-lt128.false).sum in omega (arith, fits)

pub overflow_mul-weight : goal.overflow_mul-weight
overflow_mul-weight c = let fits = (more c.groups.invariant c.in-Some.ensures.front c.from-in-groups.ensures c.groups-test.true c.in-Some.ensures.byte c.if-first-lt128.false).scale in omega (arith, fits)

pub groups-preserved : goal.groups-preserved
groups-preserved c = (more c.groups.invariant c.in-Some.ensures.front c.from-in-groups.ensures c.groups-test.true c.in-Some.ensures.byte c.if-first-lt128.false).reads

pub returns-in_default-first_byte : goal.returns-in_default-first_byte
returns-in_default-first_byte c = cut c.groups.invariant c.in_default-first_byte.ensures.front (omega arith)

pub returns-then-tenth-gt-MAX_TENTH_BYTE : goal.returns-then-tenth-gt-MAX_TENTH_BYTE
returns-then-tenth-gt-MAX_TENTH_BYTE c = too_long c.groups.invariant c.in-Some-first_byte.ensures.front (omega arith) c.if-tenth-gt-MAX_TENTH_BYTE.true

pub overflow_mul-result-2 : goal.overflow_mul-result-2
overflow_mul-result-2 c = let fits = (last_tenth c.groups.invariant c.in-Some-first_byte.ensures.front c.from-2.ensures (omega arith) c.if-tenth-gt-MAX_TENTH_BYTE.false).product in omega (arith, fits)

pub overflow_add-result-2 : goal.overflow_add-result-2
overflow_add-result-2 c = let fits = (last_tenth c.groups.invariant c.in-Some-first_byte.ensures.front c.from-2.ensures (omega arith) c.if-tenth-gt-MAX_TENTH_BYTE.false).sum in omega (arith, fits)

pub returns : goal.returns
returns c = (last_tenth c.groups.invariant c.in-Some-first_byte.ensures.front c.from-2.ensures (omega arith) c.if-tenth-gt-MAX_TENTH_BYTE.false).found
