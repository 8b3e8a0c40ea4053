use Rattle.std.proofs.Common.{◌-◌, [], ◌∷◌, rules}
use Rattle.gated_log.specs.Batches.{batches}
use Rattle.gated_log.specs.Labels.{header_size}
use Rattle.gated_log.proofs.Building.{more}
use Rattle.gated_log.proofs.prepared_log.LogBuilder.finish.Goals as goal

pub returns-clause-built : goal.returns-clause-built
returns-clause-built c = λ bodies is. record {
  fit = is.fit;
  count = is.count;
  bytes = more (header_size c.args.self.folder - 1) c.args.self.bytes.items (0 ∷ []) c.push.new.self.items (batches bodies) c.in_ok-push.ensures.items (search rules) is.bytes;
}
