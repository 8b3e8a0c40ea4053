use Rattle.std.proofs.Common.{◌+◌, ◌≤◌, length, arith}
use Rattle.proto_fields.proofs.Spelled.{writes-more, writes-last, writes-growth, writes-room}
use Rattle.proto_fields.proofs.put.put_varint.Goals as goal

pub groups-preserved : goal.groups-preserved
groups-preserved c = record {
  written = rw c.in_default.ensures.items (writes-more c.groups.invariant.written c.groups-test.true);
  capacity = omega arith;
}

pub returns-clause-ok : goal.returns-clause-ok
returns-clause-ok c = rw c.in_default-push.ensures.items (writes-last c.groups.invariant.written c.groups-test.false)

pub returns-clause-growth : goal.returns-clause-growth
returns-clause-growth c =
    let growth = writes-growth c.groups.invariant.written c.groups-test.false (omega arith) in
    let longer : length c.push-2.new.self.items ≤ length c.args.out.now.items + 10 = rw c.in_default-push.ensures.items growth in
    omega (arith, c.push-2.new.self.ok.0, c.args.out.now.ok.0)

pub returns-in-Err-clause-full : goal.returns-in-Err-clause-full
returns-in-Err-clause-full c = omega (arith, writes-room c.groups.invariant.written, c.groups.out.ok.0, c.args.out.now.ok.0, c.in-Err.ensures.full)

pub returns-in-Err-push-clause-full : goal.returns-in-Err-push-clause-full
returns-in-Err-push-clause-full c = omega (arith, writes-room c.groups.invariant.written, c.groups.out.ok.0, c.args.out.now.ok.0, c.in-Err-push.ensures.full)
