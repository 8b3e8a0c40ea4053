use Rattle.std.proofs.Common.{◌≡◌, length, refl, sym, ◌∙◌, rules, arith}
use Rattle.std.proofs.lemmas.List.{length-set}
use Rattle.subscriptions.specs.Steps.{left_on}
use Rattle.subscriptions.proofs.Lists.{firsts-next, firsts-all}
use Rattle.subscriptions.proofs.Leaving.{next_one}
use Rattle.subscriptions.proofs.Passed.{hints_at, hints_set}
use Rattle.subscriptions.proofs.table.leave_all.Goals as goal

pub loop-i-init : goal.loop-i-init
loop-i-init g c = record { left = refl; places = c.requires; hints = λ slots are. are }

pub loop-i-preserved : goal.loop-i-preserved
loop-i-preserved g c = record {
  left = firsts-next (λ s. left_on c.args.who s) c.loop-i.i _ _ c.index_mut-sub.result.now _ c.loop-i.invariant.left c.index_mut-sub.ensures.value c.leave_one.ensures.left;
  places = length-set c.loop-i.hints.items c.loop-i.i c.leave_one.new.hints ∙ c.loop-i.invariant.places ∙ sym (length-set c.loop-i.subs.items c.loop-i.i c.leave_one.new.sub);
  hints = λ slots are.
      let known = c.loop-i.invariant.hints slots are in
      let last : c.len-i-end.result ≡ length c.args.subs.now.items = search rules in
      let low = next_one (λ s. left_on c.args.who s) c.loop-i.i c.len-i-end.result c.args.subs.now.items c.loop-i.subs.items c.loop-i.invariant.left last c.loop-i-test.true in
      hints_set slots c.loop-i.subs.items c.loop-i.hints.items c.loop-i.i c.leave_one.new.sub c.leave_one.new.hints known
      (c.leave_one.ensures.hints slots (hints_at slots c.loop-i.subs.items c.loop-i.hints.items c.loop-i.i c.index_mut-sub.result.now c.index_mut-noted.result.now known low c.index_mut-sub.ensures.value c.index_mut-noted.ensures.value));
}

pub returns-clause-left : goal.returns-clause-left
returns-clause-left g c = c.loop-i.invariant.left ∙ firsts-all (λ s. left_on c.args.who s) c.loop-i.i _ (omega arith)
