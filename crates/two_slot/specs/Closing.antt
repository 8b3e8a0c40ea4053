-- How the header of the slot that doesn't count is closed.
use Rattle.std.specs.Prelude.{ℕ}
use Rattle.two_slot.specs.declared.spare.Spare.{Spare}
use Rattle.two_slot.specs.declared.spare.Spare.TheVariants.{Short, Shut, Lower}

-- where a byte is written, and the byte: 0 over the gate, or the mark's first letter where the gate is closed already
abbrev pub closing : Spare → ℕ × ℕ
closing Short = (0, 0)
closing Shut = (1, 0x50)
closing Lower = (0, 0)
