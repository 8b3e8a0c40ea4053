use Rattle.std.proofs.Common.{◌++◌, ℕ, List, ap, sym, ◌∙◌, arith}
use Rattle.std.specs.Int.{w64, to_le_bytes, from_le_bytes}
use Rattle.gated_log.proofs.Heads.{spelt}
use Rattle.gated_log.proofs.label.first_number.Goals as goal

pub returns-clause-some : goal.returns-clause-some
returns-clause-some c =
    let split = c.in_ok-number.ensures.cases in
    spelt c.args.bytes.now c.from_le_bytes.result (omega (arith, split.2)) (c.from_le_bytes.ensures ∙ ap (λ (l : List ℕ). from_le_bytes w64 l) split.0) (λ i. omega (arith, c.type_inv.bytes i))
    ∙ ap (λ (l : List ℕ). to_le_bytes w64 c.from_le_bytes.result ++ l) (sym split.1)
