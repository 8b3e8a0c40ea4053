use Rattle.std.proofs.Common.{rules, not}
use Rattle.std.proofs.lemmas.Fn.{filter_same}
use Rattle.holds.specs.Deliveries.{same_key}
use Rattle.holds.proofs.attached.remove.Goals as goal

pub returns : goal.returns
returns c = filter_same _ (λ x. not (same_key x.key c.args.key)) _ (λ x b f' r. search rules) _ _ c.retain.ensures.filtered
