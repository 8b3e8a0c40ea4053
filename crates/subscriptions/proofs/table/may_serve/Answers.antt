use Rattle.std.proofs.Common.{◌≡◌, ◌<◌, length, refl, ◌∙◌, rules, arith}
use Rattle.subscriptions.specs.Quiet.{IsQuietOn}
use Rattle.subscriptions.proofs.Looking.{looked_all_on, looked_more_on, nothing_looked, one_more_looked, as_many_looked, all_more, all_of_all, holds_at, same_set}
use Rattle.subscriptions.proofs.table.may_serve.Goals as goal

pub loop-i-init : goal.loop-i-init
loop-i-init g c = record { learnt = nothing_looked c.args.who c.args.subs.now.items; exact = λ _. refl; looked = tt; quiet = tt }

pub loop-i-preserved : goal.loop-i-preserved
loop-i-preserved g c = record {
  learnt = one_more_looked c.args.who c.args.subs.now.items c.loop-i.subs.items c.loop-i.i c.index_mut-sub.result.now c.may_serve.new.self c.loop-i.invariant.learnt c.index_mut-sub.ensures.value c.may_serve.ensures.learnt;
  exact = λ e. same_set c.loop-i.subs.items c.loop-i.i c.index_mut-sub.result.now c.may_serve.new.self c.index_mut-sub.ensures.value (c.may_serve.ensures.exact e) ∙ c.loop-i.invariant.exact e;
  looked = looked_more_on g.G.Gauge.exact c.args.who c.args.committed c.args.subs.now.items c.loop-i.subs.items c.loop-i.i c.index_mut-sub.result.now c.may_serve.new.self c.loop-i.invariant.learnt c.loop-i.invariant.looked
      c.index_mut-sub.ensures.value (c.may_serve.ensures.looked c.if-may_serve.false);
  quiet = all_more (IsQuietOn c.args.who c.args.committed) c.loop-i.subs.items c.loop-i.i c.may_serve.new.self c.loop-i.invariant.quiet (c.may_serve.ensures.quiet c.if-may_serve.false);
}

pub returns-then-may_serve-clause-learnt : goal.returns-then-may_serve-clause-learnt
returns-then-may_serve-clause-learnt g c =
    one_more_looked c.args.who c.args.subs.now.items c.loop-i.subs.items c.loop-i.i c.index_mut-sub.result.now c.may_serve.new.self c.loop-i.invariant.learnt c.index_mut-sub.ensures.value c.may_serve.ensures.learnt

pub returns-then-may_serve-clause-exact : goal.returns-then-may_serve-clause-exact
returns-then-may_serve-clause-exact g c = λ e. same_set c.loop-i.subs.items c.loop-i.i c.index_mut-sub.result.now c.may_serve.new.self c.index_mut-sub.ensures.value (c.may_serve.ensures.exact e) ∙ c.loop-i.invariant.exact e

pub returns-then-may_serve-clause-busy : goal.returns-then-may_serve-clause-busy
returns-then-may_serve-clause-busy g c = λ _ quiet.
    let last : c.len-i-end.result ≡ length c.args.subs.now.items = search rules in
    let low : c.loop-i.i < length c.loop-i.subs.items = omega (arith, last, as_many_looked c.args.who c.args.subs.now.items c.loop-i.subs.items c.loop-i.invariant.learnt, c.loop-i-test.true) in
    c.may_serve.ensures.busy c.if-may_serve.true (holds_at (IsQuietOn c.args.who c.args.committed) c.loop-i.subs.items c.loop-i.i c.may_serve.new.self low quiet)

pub returns-clause-looked : goal.returns-clause-looked
returns-clause-looked g c = λ _.
    let last : c.len-i-end.result ≡ length c.args.subs.now.items = search rules in
    let many = as_many_looked c.args.who c.args.subs.now.items c.loop-i.subs.items c.loop-i.invariant.learnt in
    looked_all_on g.G.Gauge.exact c.args.who c.args.committed c.args.subs.now.items c.loop-i.subs.items c.loop-i.i c.loop-i.invariant.learnt (omega (arith, last, many)) c.loop-i.invariant.looked

pub returns-clause-quiet : goal.returns-clause-quiet
returns-clause-quiet g c = λ _.
    let last : c.len-i-end.result ≡ length c.args.subs.now.items = search rules in
    let many = as_many_looked c.args.who c.args.subs.now.items c.loop-i.subs.items c.loop-i.invariant.learnt in
    all_of_all (IsQuietOn c.args.who c.args.committed) c.loop-i.subs.items c.loop-i.i (omega (arith, last, many)) c.loop-i.invariant.quiet
