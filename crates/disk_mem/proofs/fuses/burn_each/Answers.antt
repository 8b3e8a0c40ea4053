use Rattle.std.proofs.Common.{ℕ, ◌-◌, ◌<◌, length, get_or, arith}
use Rattle.std.proofs.lemmas.List.{get_or_default}
use Rattle.std.proofs.lemmas.List.Edits.{map_over_more}
use Rattle.disk_mem.proofs.fuses.burn_each.Goals as goal

pub loop-number-preserved : goal.loop-number-preserved
loop-number-preserved c =
    let i = c.loop-number.number-index in
    let x : ℕ = get_or c.loop-number.numbers i 0 in
    let within : i < length c.loop-number.numbers = omega arith in
    rw c.saturating_sub.ensures (map_over_more (λ k. k - 1) c.args.numbers.now c.loop-number.numbers i x (omega arith) c.loop-number.invariant (get_or_default c.loop-number.numbers i 0 x within))
