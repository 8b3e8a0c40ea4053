use Rattle.std.proofs.Common.{◌≡◌, ◌<◌, ℕ, length, take, get_or, sym, subst, add-one, arith}
use Rattle.std.proofs.Math.Seq.{take-length}
use Rattle.std.proofs.lemmas.Result.{err_from_is_err_and}
use Rattle.gated_log.specs.declared.read_error.ReadError.{ReadError}
use Rattle.session.proofs.Serving.{is_told-more, serves-more, serves_each-more, serves_until-more, serves_each-next, serves_each-refused}
use Rattle.session.proofs.Speaking.{speaks_both}
use Rattle.session.proofs.speaker.Speaker.serve_each.Goals as goal

pub loop-place-preserved : goal.loop-place-preserved
loop-place-preserved g c =
    let i = c.loop-place.invariant in
    let e = c.serve_or_pass.ensures in
    let place = c.loop-place.place in
    let one = c.at-consumer.result in
    let port = g.met.P.Port in
    let Told : ℕ → ReadError → Type 0 = λ topic why. g.P.Port.refuses c.args.port.now topic why c.serve_or_pass.new.port in
    let earlier : (topic : ℕ) (why : ReadError) → g.P.Port.refuses c.args.port.now topic why c.loop-place.port → Told topic why = λ topic why h. port.refuses_within c.args.port.now c.args.port.now c.loop-place.port c.serve_or_pass.new.port topic why (port.passes_nothing c.args.port.now) i.passes e.passes h in
    let later : (topic : ℕ) (why : ReadError) → g.P.Port.refuses c.loop-place.port topic why c.serve_or_pass.new.port → Told topic why = λ topic why h. port.refuses_within c.args.port.now c.loop-place.port c.serve_or_pass.new.port c.serve_or_pass.new.port topic why i.passes e.passes (port.passes_nothing c.serve_or_pass.new.port) h in
    record {
      most = omega (arith, c.in_ok-count.ensures.most);
      serves = λ s.
          let entries = g.R.Roll.entries c.args.roll.now in
          let within : place < length entries = omega (arith, c.loop-place-test.true, c.len-place-end.ensures) in
          let is : one ≡ get_or entries place one = c.at-consumer.ensures in
          rw add-one (serves_each-next Told entries place 64 c.loop-place.count c.in_ok-count.field-0 _ _ _ one one within is
          (serves_each-more _ Told earlier _ _ _ _ _ (i.serves s)) (serves-more _ Told later _ _ _ _ _ (c.in_ok-count.ensures.serves (port.passes_sole _ _ i.passes s) (i.knows s))));
      knows = λ s. e.knows (port.passes_sole _ _ i.passes s) (i.knows s);
      speaks = speaks_both _ _ _ _ _ _ i.speaks e.speaks;
      passes = g.met.P.Port.passes_both _ _ _ i.passes e.passes;
    }

pub returns-in_err-count-clause-serves : goal.returns-in_err-count-clause-serves
returns-in_err-count-clause-serves g c = λ s.
    let i = c.loop-place.invariant in
    let place = c.loop-place.place in
    let one = c.at-consumer.result in
    let entries = g.R.Roll.entries c.args.roll.now in
    let within : place < length entries = omega (arith, c.loop-place-test.true, c.len-place-end.ensures) in
    let is : one ≡ get_or entries place one = c.at-consumer.ensures in
    let p = err_from_is_err_and c.from_residual.result c.from_residual.ensures.1 in
    let port = g.met.P.Port in
    let e = c.serve_or_pass.ensures in
    let Told : ℕ → ReadError → Type 0 = λ topic why. g.P.Port.refuses c.args.port.now topic why c.serve_or_pass.new.port in
    let earlier : (topic : ℕ) (why : ReadError) → g.P.Port.refuses c.args.port.now topic why c.loop-place.port → Told topic why = λ topic why h. port.refuses_within c.args.port.now c.args.port.now c.loop-place.port c.serve_or_pass.new.port topic why (port.passes_nothing c.args.port.now) i.passes e.passes h in
    let later : (topic : ℕ) (why : ReadError) → g.P.Port.refuses c.loop-place.port topic why c.serve_or_pass.new.port → Told topic why = λ topic why h. port.refuses_within c.args.port.now c.loop-place.port c.serve_or_pass.new.port c.serve_or_pass.new.port topic why i.passes e.passes (port.passes_nothing c.serve_or_pass.new.port) h in
    rw (p.1, p.2) (serves_each-refused Told entries place 64 c.loop-place.count _ _ _ _ one one within is
    (serves_each-more _ Told earlier _ _ _ _ _ (i.serves s)) (serves_until-more _ Told later _ _ _ _ _ (c.in_err-count.ensures.serves (port.passes_sole _ _ i.passes s) (i.knows s))))

pub returns-in_err-count-clause-told : goal.returns-in_err-count-clause-told
returns-in_err-count-clause-told g c =
    let port = g.met.P.Port in
    let topic = c.at-consumer.result.topic in
    let last = c.serve_or_pass.new.port in
    let p = err_from_is_err_and c.from_residual.result c.from_residual.ensures.1 in
    let Told : ReadError → Type 0 = λ why. (topic : ℕ) × g.P.Port.refuses c.args.port.now topic why last in
    let more : (why : ReadError) → g.P.Port.refuses c.loop-place.port topic why last → Told why = λ why h.
    (topic, port.refuses_within c.args.port.now c.loop-place.port last last topic why c.loop-place.invariant.passes c.serve_or_pass.ensures.passes (port.passes_nothing last) h) in
    rw (p.1, p.2) (is_told-more _ Told more c.in_err-count.field-0.0 c.in_err-count.ensures.told)

pub returns-in_err-count-clause-speaks : goal.returns-in_err-count-clause-speaks
returns-in_err-count-clause-speaks g c = speaks_both _ _ _ _ _ _ c.loop-place.invariant.speaks c.serve_or_pass.ensures.speaks

pub returns-clause-serves : goal.returns-clause-serves
returns-clause-serves g c = λ s.
    let consumers = g.R.Roll.entries c.args.roll.now in
    let all : c.loop-place.place ≡ length consumers =
    omega (arith, c.loop-place-test.false, c.loop-place.auto.place-end, c.len-place-end.ensures) in
    let whole : take c.loop-place.place consumers ≡ consumers = subst (λ n. take n consumers ≡ consumers) (sym all) (take-length consumers) in
    rw whole at (c.loop-place.invariant.serves s)
