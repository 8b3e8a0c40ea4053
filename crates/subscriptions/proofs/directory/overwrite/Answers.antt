use Rattle.std.proofs.Common.{sym, rules}
use Rattle.subscriptions.proofs.Standing.{overwritten}
use Rattle.subscriptions.proofs.directory.overwrite.Goals as goal

pub returns-in-Some : goal.returns-in-Some
returns-in-Some c =
    overwritten c.args.places.now.entries (c.get_mut.follows.lender c.args.place).entries c.args.key c.args.place c.in-Some.kept.now
    (sym c.in-Some.ensures.value) (λ q. ((c.get_mut.follows.holds c.args.place).3 (search rules)).0 q)
