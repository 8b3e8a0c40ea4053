-- From the least open position to what the mode admits.
use Rattle.std.proofs.Common.{◌≡◌, ℕ, ◌≤◌, arith, Some, None}
use Rattle.std.specs.Option.{IfSome}
use Rattle.std.specs.Prelude.{Option}
use Rattle.holds.specs.Backlog.{Backlog, IsOpen, IsLeast}

pub picked : (answer : Option ℕ) (b : Backlog) (Served : Type 0) → Served → IfSome answer (IsLeast (λ i. (0 ≤ i) × IsOpen b i)) → IfSome answer (λ i. Served × IsLeast (IsOpen b) i)
picked None b Served served least = tt
picked (Some i) b Served served least = (served, (least.0.1, λ j is_open. least.1 j (omega arith, is_open)))
