use Rattle.std.proofs.Common.{arith}
use Rattle.journal.proofs.Dropping.{goes_on, empties_more}
use Rattle.journal.proofs.drop_before.drop_segments.Goals as goal

pub returns-in_err-drop_segment-clause-within : goal.returns-in_err-drop_segment-clause-within
returns-in_err-drop_segment-clause-within g c = λ honest.
    goes_on _ _ _ _ _ _ _ c.segments.invariant.2 c.segments-test.true (c.segments.invariant.0 honest) (c.drop_segment.ensures.within (c.segments.invariant.1.honest honest))

pub segments-preserved : goal.segments-preserved
segments-preserved g c = (
  λ honest. goes_on _ _ _ _ _ _ _ c.segments.invariant.2 c.segments-test.true (c.segments.invariant.0 honest) (c.drop_segment.ensures.within (c.segments.invariant.1.honest honest)),
  record {
    faults = omega (arith, c.segments.invariant.1.faults, c.drop_segment.ensures.kept.faults);
    honest = λ h. c.drop_segment.ensures.kept.honest (c.segments.invariant.1.honest h);
    not_honest = λ h. c.segments.invariant.1.not_honest (c.drop_segment.ensures.kept.not_honest h);
  },
  omega (arith, c.segments.invariant.2),
  λ honest.
      let h = c.segments.invariant.1.honest honest in
      empties_more _ _ _ _ _ (c.segments.invariant.3 honest) (c.drop_segment.ensures.within h) (c.in_ok-drop_segment.ensures.empty h),
)

pub returns-clause-empty : goal.returns-clause-empty
returns-clause-empty g c = λ honest f is. c.segments.invariant.3 honest f (is.0, is.1, omega (arith, is.2, c.segments-test.false), is.3)
