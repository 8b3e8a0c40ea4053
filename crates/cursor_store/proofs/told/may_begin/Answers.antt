use Rattle.std.proofs.Common.{arith}
use Rattle.cursor_store.proofs.told.may_begin.Goals as goal

pub returns : goal.returns
returns c = (
  λ yes. record {
    rises = omega (arith, c.if-start-from.false);
    within = omega (arith, c.if-start-entries.false);
    acknowledged = c.have_below.ensures.0 yes;
    in_range = omega (arith, c.if-start-gt-MOST_SEGMENTS.false);
  },
  λ may. c.have_below.ensures.1 may.acknowledged,
)
