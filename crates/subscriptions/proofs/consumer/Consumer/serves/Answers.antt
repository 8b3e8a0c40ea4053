use Rattle.std.proofs.Common.{nat_eq, refl, sym, ap, ◌∙◌}
use Rattle.subscriptions.specs.State.{Consumer}
use Rattle.subscriptions.proofs.Looking.{its_own, looks_itself, looks_past, not_its_own}
use Rattle.subscriptions.proofs.consumer.Consumer.serves.Goals as goal

pub returns-then-self-who-clause-looked : goal.returns-then-self-who-clause-looked
returns-then-self-who-clause-looked g c =
    looks_past g.G.Gauge.exact c.args.who c.args.self.now c.args.self.now
    (ap (λ (k : Consumer). nat_eq k.key.session c.args.who) (sym c.self.view_is) ∙ not_its_own c.self.inside.key.session c.args.who c.if-self-who.true) refl

pub returns-clause-looked : goal.returns-clause-looked
returns-clause-looked g c =
    looks_itself g.G.Gauge.exact c.args.who c.args.self.now c.look.new.self
    (ap (λ (k : Consumer). nat_eq k.key.session c.args.who) (sym c.self.view_is) ∙ its_own c.self.inside.key.session c.args.who c.if-self-who.false) c.look.ensures.looked
