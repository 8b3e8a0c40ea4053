use Rattle.std.proofs.Common.{◌≡◌, ℕ, ◌<◌, length, drop, get_or, false}
use Rattle.disk_mem.specs.FileState.{is_written}
use Rattle.disk_mem.proofs.settle.copy_spans.Given as goal

-- what is left to copy lies in the ranges to come
abbrev pub invariant-loop-span : goal.invariant-loop-span
invariant-loop-span l = (k : ℕ) → k < length l.from → is_written k (drop l.span-index l.spans) ≡ false → get_or l.to k 0 ≡ get_or l.from k 0
