use Rattle.std.proofs.Common.{◌≡◌, ◌<◌, length, true, false, refl, sym, ◌∙◌, rules, arith}
use Rattle.subscriptions.specs.Quiet.{has_permit_of}
use Rattle.subscriptions.proofs.Looking.{looked_all, looked_more, have_nothing, have_more, many_looked, none_more, none_of_all, one_passes, same_set}
use Rattle.subscriptions.proofs.consumers.have_permit.Goals as goal

pub loop-i-init : goal.loop-i-init
loop-i-init g c = record { learnt = have_nothing c.args.who c.args.consumers.now.items; looked = tt; exact = λ _. refl; none = refl }

pub loop-i-preserved : goal.loop-i-preserved
loop-i-preserved g c =
    let off : has_permit_of c.args.who c.serves.new.self ≡ false = sym c.serves.ensures.permit ∙ c.if-serves.false in record {
      learnt = have_more c.args.who c.args.consumers.now.items c.loop-i.consumers.items c.loop-i.i c.index_mut-consumer.result.now c.serves.new.self c.loop-i.invariant.learnt c.index_mut-consumer.ensures.value c.serves.ensures.looked.learnt;
      looked = looked_more g.G.Gauge.exact c.args.who c.args.consumers.now.items c.loop-i.consumers.items c.loop-i.i c.index_mut-consumer.result.now c.serves.new.self c.loop-i.invariant.learnt c.loop-i.invariant.looked
          c.index_mut-consumer.ensures.value c.serves.ensures.looked;
      exact = λ e. same_set c.loop-i.consumers.items c.loop-i.i c.index_mut-consumer.result.now c.serves.new.self c.index_mut-consumer.ensures.value (c.serves.ensures.exact e) ∙ c.loop-i.invariant.exact e;
      none = none_more (has_permit_of c.args.who) c.loop-i.consumers.items c.loop-i.i c.serves.new.self c.loop-i.invariant.none off;
    }

pub returns-then-serves-clause-learnt : goal.returns-then-serves-clause-learnt
returns-then-serves-clause-learnt g c =
    have_more c.args.who c.args.consumers.now.items c.loop-i.consumers.items c.loop-i.i c.index_mut-consumer.result.now c.serves.new.self c.loop-i.invariant.learnt c.index_mut-consumer.ensures.value c.serves.ensures.looked.learnt

pub returns-then-serves-clause-exact : goal.returns-then-serves-clause-exact
returns-then-serves-clause-exact g c = λ e. same_set c.loop-i.consumers.items c.loop-i.i c.index_mut-consumer.result.now c.serves.new.self c.index_mut-consumer.ensures.value (c.serves.ensures.exact e) ∙ c.loop-i.invariant.exact e

pub returns-then-serves-clause-permit : goal.returns-then-serves-clause-permit
returns-then-serves-clause-permit g c =
    let on : has_permit_of c.args.who c.serves.new.self ≡ true = sym c.serves.ensures.permit ∙ c.if-serves.true in
    let last : c.len-i-end.result ≡ length c.args.consumers.now.items = search rules in
    let low : c.loop-i.i < length c.loop-i.consumers.items = omega (arith, last, many_looked c.args.who c.args.consumers.now.items c.loop-i.consumers.items c.loop-i.invariant.learnt, c.loop-i-test.true) in
    sym (one_passes (has_permit_of c.args.who) c.loop-i.consumers.items c.loop-i.i c.serves.new.self low on)

pub returns-clause-permit : goal.returns-clause-permit
returns-clause-permit g c =
    let many = many_looked c.args.who c.args.consumers.now.items c.loop-i.consumers.items c.loop-i.invariant.learnt in
    let last : c.len-i-end.result ≡ length c.args.consumers.now.items = search rules in
    sym (none_of_all (has_permit_of c.args.who) c.loop-i.consumers.items c.loop-i.i (omega (arith, last, many)) c.loop-i.invariant.none)

pub returns-clause-looked : goal.returns-clause-looked
returns-clause-looked g c = λ _.
    let many = many_looked c.args.who c.args.consumers.now.items c.loop-i.consumers.items c.loop-i.invariant.learnt in
    let last : c.len-i-end.result ≡ length c.args.consumers.now.items = search rules in
    looked_all g.G.Gauge.exact c.args.who c.args.consumers.now.items c.loop-i.consumers.items c.loop-i.i c.loop-i.invariant.learnt (omega (arith, last, many)) c.loop-i.invariant.looked
