use Rattle.std.proofs.Common.{◌≡◌, ◌⊎◌, inl, inr, ⊎_elim, ℕ, ◌+◌, ◌-◌, ◌<◌, ◌≤◌, List, length, take, drop, arith, length-take, length-drop}
use Rattle.disk_mem.proofs.Overwritten.{overwritten-outside}
use Rattle.disk_mem.proofs.Spans.{outside}
use Rattle.disk_mem.proofs.settle.copy_span.Goals as goal

pub returns-then-span-end-clause-outside : goal.returns-then-span-end-clause-outside
returns-then-span-end-clause-outside c = λ k out.
    let copied : List ℕ = take (c.min-end.result - c.args.span.start) (drop c.args.span.start c.args.from.now) in
    let size : length copied ≡ c.min-end.result - c.args.span.start = omega (arith, length-take (c.min-end.result - c.args.span.start) (drop c.args.span.start c.args.from.now), length-drop c.args.span.start c.args.from.now) in
    let apart : (k < c.args.span.start) ⊎ (c.args.span.start + length copied ≤ k) = ⊎_elim (λ lt. inl lt) (λ le. inr (omega arith)) (outside k c.args.span out) in
    rw c.copy_to.ensures (overwritten-outside c.args.span.start copied c.args.to.now (omega arith) k apart)
