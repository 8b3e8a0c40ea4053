use Rattle.std.proofs.Common.{◌∙◌, ap, sym, nat_eq, cond}
use Rattle.std.specs.Option.{option_map}
use Rattle.holds.specs.Deliveries.{released}
use Rattle.holds.proofs.Kept.{get_kept}
use Rattle.holds.proofs.holds_map.Holds.release.Goals as goal

pub returns : goal.returns
returns c q = rw (← c.self.view_is) (get_kept _ q ∙ c.release.ensures.kept q ∙ ap (λ r. cond (nat_eq q c.args.position) (option_map released r) r) (sym (get_kept _ q)))
