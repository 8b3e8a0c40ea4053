use Rattle.std.proofs.Common.{◌≡◌, None, rules}
use Rattle.subscriptions.proofs.Standing.{dropped}
use Rattle.subscriptions.proofs.directory.set.Goals as goal

pub returns-in-None : goal.returns-in-None
returns-in-None c =
    let none : c.args.place ≡ None = search rules in
    dropped c.args.places.now.entries c.remove.new.self.entries c.args.key c.args.place none (λ q. c.remove.ensures.updates.0 q)
