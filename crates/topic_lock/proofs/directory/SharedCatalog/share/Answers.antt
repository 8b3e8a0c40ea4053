use Rattle.std.proofs.Common.{arith}
use Rattle.topic_lock.proofs.Numbered.{in_order}
use Rattle.topic_lock.proofs.directory.SharedCatalog.share.Goals as goal

pub place_all-requires-clause-numbered : goal.place_all-requires-clause-numbered
place_all-requires-clause-numbered g c = in_order (λ part. part.number) 0 c.args.opened.parts.items (λ number part at. omega (arith, (c.requires.numbered number part at).0))
