use Rattle.subscriptions.proofs.Standing.{added}
use Rattle.subscriptions.proofs.directory.Directory.add.Goals as goal

pub returns-clause-ok : goal.returns-clause-ok
returns-clause-ok c =
    added c.self.inside.places.entries c.insert.new.self.entries c.args.self.now c.args.key c.args.place c.earliest-first.result c.of-former.result
    c.self.view_is c.of-former.ensures.value c.earliest-first.ensures (λ q. c.in_ok-insert.ensures.updates.0 q)
