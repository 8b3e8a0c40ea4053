use Rattle.std.proofs.Common.{◌≡◌, ◌+◌, ◌≤◌, length}
use Rattle.std.specs.Prelude.{vec_capacity}
use Rattle.topic_lock.specs.Places.{AreNumberedFrom}
use Rattle.topic_lock.proofs.directory.place_all.Given as goal

abbrev pub invariant-loop-part : goal.invariant-loop-part
invariant-loop-part g l = (length l.known.items + length l.part-iterator.rest.items ≡ length l.fn.parts.items) × (length l.known.items + length l.spare.items ≡ 64) × (64 ≤ vec_capacity l.known) × AreNumberedFrom (λ part. part.number) (length l.known.items) l.part-iterator.rest.items × AreNumberedFrom (λ it. it.token.value.number) 0 l.known.items
