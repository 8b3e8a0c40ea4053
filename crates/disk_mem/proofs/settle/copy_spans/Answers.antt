use Rattle.std.proofs.Common.{refl, arith}
use Rattle.std.proofs.lemmas.List.{ext_get_or, drop_all}
use Rattle.disk_mem.proofs.settle.copy_spans.Goals as goal

pub returns : goal.returns
returns c = ext_get_or 0 _ _ (omega arith) (λ k lt. c.loop-span.invariant k (omega arith) (rw (drop_all c.loop-span.span-index c.args.spans.now (omega arith)) refl))
