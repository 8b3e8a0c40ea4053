use Rattle.std.proofs.Common.{◌≡◌, ℕ, ◌+◌, List, length}
use Rattle.std.specs.Prelude.{option_map, vec_len}
use Rattle.std.specs.Option.{option_map_or}
use Rattle.std.specs.Borrow.{Bor}
use Rattle.script.specs.Reading.{lines_from, pieces_of}
use Rattle.script.proofs.Scripts.{with_lines}
use Rattle.script.proofs.script.read_lines.Given as goal

-- the lines so far, with those of what is left, are those of the whole
abbrev pub invariant-loop-left : goal.invariant-loop-left
invariant-loop-left l =
    with_lines l.lines.items (lines_from (vec_len l.lines + 2) (pieces_of (option_map (λ (rest : Bor (List ℕ)). rest.now) l.left)))
    ≡ lines_from 2 (pieces_of (option_map (λ (rest : Bor (List ℕ)). rest.now) l.fn.bytes))

abbrev pub decreases-loop-left : goal.decreases-loop-left
decreases-loop-left l = option_map_or (λ (rest : Bor (List ℕ)). length rest.now + 1) l.left 0
