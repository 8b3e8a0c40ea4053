use Rattle.std.proofs.Common.{rules}
use Rattle.std.proofs.lemmas.Fn.{All-from_retain}
use Rattle.disk_fs.specs.Troubles.{IsOf}
use Rattle.disk_fs.proofs.troubles.Troubles.end.Goals as goal

-- src/troubles.rt
pub returns : goal.returns
returns c = All-from_retain _ (λ it. ¬ IsOf c.args.file c.args.call it) _ (λ x b f r. search rules) _ _ c.retain.ensures.filtered
