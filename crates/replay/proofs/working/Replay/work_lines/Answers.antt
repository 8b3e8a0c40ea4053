use Rattle.std.proofs.Common.{rules, Err, ◌≡◌, ◌∷◌, ◌+◌, ℕ, [], length, sym, ap, subst, refl, ◌∙◌, List, arith, length-append}
use Rattle.std.specs.Vec.Iter.{into_iter_items}
use Rattle.std.proofs.KnownBytes.{Appends-trans, Keeps-refl}
use Rattle.std.proofs.lemmas.Result.{err_from_is_err_and}
use Rattle.script.specs.declared.line.Line.{Line}
use Rattle.replay.specs.declared.working.Replay.{Replay}
use Rattle.replay.specs.Replay.{IfRemembered, LineStep, Prints}
use Rattle.replay.proofs.Worked.{Prints-more, one_more_fails, writes_fault, remembered_fault, next_of_whole, worked_all}
use Rattle.replay.proofs.Written.{Appends-kept_all}
use Rattle.replay.proofs.working.Replay.work_lines.Goals as goal

pub work_line-requires : goal.work_line-requires
work_line-requires g c =
    let known = c.loop-line.invariant in
    omega (
      arith,
      known.line,
      ap length known.all,
      length-append c.loop-line.yielded (into_iter_items c.loop-line.line-iterator),
      ap length c.in-Some.ensures.steps.0,
      c.args.lines.ok.0,
      c.args.lines.ok.1,
      c.args.lines.small,
    )

pub loop-line-init : goal.loop-line-init
loop-line-init g c = record {
  starts = tt;
  ends = tt;
  all = search rules;
  line = c.requires.line;
  worked = λ old lives. ([], old, (refl, refl), lives, Appends-kept_all _ _ (Keeps-refl _));
}

pub loop-line-preserved : goal.loop-line-preserved
loop-line-preserved g c =
    let known = c.loop-line.invariant in record {
      starts = tt;
      ends = tt;
      all = next_of_whole c.loop-line.yielded _ _ c.args.lines.items c.in-Some.line known.all c.in-Some.ensures.steps.0;
      line = omega (arith, known.line, c.in_ok-self.ensures.line, length-append c.loop-line.yielded (c.in-Some.line ∷ []));
      worked = λ old lives.
          let w = known.worked old lives in
          let t = c.in_ok-self.ensures.works w.1 w.3 in
          let place : c.loop-line.self.line + 1 ≡ 2 + length c.loop-line.yielded = omega (arith, known.line) in
          (_, t.new, Prints-more 2 old c.loop-line.yielded w.0 w.1 c.in-Some.line t.text t.new w.2 (subst (λ (k : ℕ). LineStep k w.1 c.in-Some.line t.text t.new) place t.step), t.goes_on, Appends-trans _ _ _ _ _ w.4 t.writes);
    }

pub returns-in_err-self-clause-works : goal.returns-in_err-self-clause-works
returns-in_err-self-clause-works g c = λ old lives.
    let known = c.loop-line.invariant in
    let w = known.worked old lives in
    let t = c.in_err-self.ensures.works w.1 w.3 in
    let fault = c.in_err-self.field-0.0 in
    let place : c.loop-line.self.line + 1 ≡ 2 + length c.loop-line.yielded = omega (arith, known.line) in
    let p = err_from_is_err_and c.from_residual.result c.from_residual.ensures.1 in
    let whole = next_of_whole c.loop-line.yielded _ _ c.args.lines.items c.in-Some.line known.all c.in-Some.ensures.steps.0 in
    rw (p.1, p.2) (one_more_fails 2 old w.1 t.new c.loop-line.yielded _ c.args.lines.items c.in-Some.line w.0 t.text _ _ _ fault w.2
    (subst (λ (k : ℕ). IfRemembered {X = Unit {0}} (Err fault) (LineStep k w.1 c.in-Some.line t.text t.new)) place (remembered_fault Replay (Unit {0}) _ fault t.step)) w.4 (writes_fault Replay (Unit {0}) t.text _ _ fault t.writes) whole)

pub returns-clause-works : goal.returns-clause-works
returns-clause-works g c = λ old lives.
    let known = c.loop-line.invariant in
    let w = known.worked old lives in
    let none : length (into_iter_items c.loop-line.line-iterator) ≡ 0 = sym c.loop-line.line-iterator.rest.ok.0 ∙ c.in-None.ensures.steps.0 in
    let all = worked_all c.loop-line.yielded (into_iter_items c.loop-line.line-iterator) c.args.lines.items known.all none in
    (w.0, w.1, subst (λ (ls : List Line). Prints 2 old ls w.0 w.1) all w.2, w.4)
