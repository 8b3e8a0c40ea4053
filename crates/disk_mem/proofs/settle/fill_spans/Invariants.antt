use Rattle.std.proofs.Common.{◌≡◌, ℕ, ◌<◌, length, take, get_or, true, false}
use Rattle.disk_mem.specs.FileState.{is_written}
use Rattle.disk_mem.proofs.settle.fill_spans.Given as goal

-- filled in the ranges so far, and the rest as before
abbrev pub invariant-loop-span : goal.invariant-loop-span
invariant-loop-span l = ((k : ℕ) → k < length l.initial.bytes → is_written k (take l.span-index l.spans) ≡ true → get_or l.bytes k 0 ≡ l.byte)
    × ((k : ℕ) → is_written k (take l.span-index l.spans) ≡ false → get_or l.bytes k 0 ≡ get_or l.initial.bytes k 0)
