use Rattle.std.proofs.Common.{ap}
use Rattle.std.proofs.Props.{props}
use Rattle.session.specs.Consuming.{IsNamed, subscribe_command}
use Rattle.session.proofs.consuming.subscribe_command.Goals as goal

pub returns : goal.returns
returns c = λ named.
    let one : IsProp (IsNamed c.args.asked) = hlevel props in
    rw (c.mode_of.ensures, c.requires.ranges) (ap (λ (n : IsNamed c.args.asked). subscribe_command c.args.asked n) (one _ named))
