-- Places within and outside ranges.
use Rattle.std.proofs.Common.{◌≡◌, ◌⊎◌, inl, inr, ⊎_elim, ℕ, ◌<◌, ◌≤◌, false, arith}
use Rattle.std.proofs.lemmas.Bool.{cases_lt}
use Rattle.std.proofs.lemmas.Bool.Decides.{nat_tests}
use Rattle.disk_mem.specs.declared.span.Span.{Span}
use Rattle.disk_mem.specs.FileState.{is_within}

pub outside : (k : ℕ) (span : Span) → is_within k span ≡ false → (k < span.start) ⊎ (span.end ≤ k)
outside k span out = ⊎_elim (λ lt. inl lt) (λ le. ⊎_elim (λ lt. absurd (clash le lt out)) (λ past. inr past) (cases_lt k span.end)) (cases_lt k span.start)
  where
    clash : span.start ≤ k → k < span.end → is_within k span ≡ false → ⊥
    clash le lt out = grind (arith, nat_tests)
