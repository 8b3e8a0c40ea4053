use Rattle.server.proofs.Telling.{of_place}
use Rattle.server.proofs.told.ToldBoard.subscription.Goals as goal

pub returns : goal.returns
returns g c = of_place c.args.place c.subscription.result c.subscription.ensures
