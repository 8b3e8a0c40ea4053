use Rattle.std.proofs.Common.{sym, ◌∙◌}
use Rattle.subscriptions.proofs.GivenBack.{none_asked}
use Rattle.subscriptions.proofs.subscription.asked_from.Goals as goal

pub returns : goal.returns
returns c = rw c.in-Some.is (λ i low. none_asked c.args.mode c.in-Some.positions.now i (sym c.serves_many.ensures ∙ c.if-not-serves_many.false) (c.lowered.ensures.lower i low))
