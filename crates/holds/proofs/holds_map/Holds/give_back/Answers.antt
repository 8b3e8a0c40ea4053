use Rattle.std.proofs.Common.{◌∙◌, ap, sym}
use Rattle.std.specs.Option.{option_map}
use Rattle.holds.specs.Deliveries.{given_back}
use Rattle.holds.proofs.Kept.{get_kept}
use Rattle.holds.proofs.holds_map.Holds.give_back.Goals as goal

pub returns : goal.returns
returns c q = rw (← c.self.view_is) (get_kept _ q ∙ c.give_back.ensures.freed c.self.invariant q ∙ ap (option_map (given_back c.args.consumer)) (sym (get_kept _ q)))
