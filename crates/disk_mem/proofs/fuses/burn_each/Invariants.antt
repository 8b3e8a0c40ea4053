use Rattle.std.proofs.Common.{◌≡◌, ◌-◌, ◌++◌, map, take, drop}
use Rattle.disk_mem.proofs.fuses.burn_each.Given as goal

-- nearer up to here, and the rest as before
abbrev pub invariant-loop-number : goal.invariant-loop-number
invariant-loop-number l = l.numbers ≡ map (λ k. k - 1) (take l.number-index l.initial.numbers) ++ drop l.number-index l.initial.numbers
