-- FLOW by the granter of a consumer.
use Rattle.std.specs.Prelude.{◌≡◌, ℕ, ◌+◌, ◌^◌, ◌<◌, ◌≤◌, Option, Some, None, Result, MatchResult, IsOk, IsSomeAnd}
use Rattle.permits.specs.Ends.{Grants}
use Rattle.permits.specs.declared.plain.TooManyPermits.{TooManyPermits}

-- it has granted so many more on its word, or no more where that is refused: just where it is more than 2^62 in all
pub record GrantsMore (old : Grants) (permits : ℕ) (result : Result (Unit {0}) TooManyPermits) (new : Grants) : Type 0 where
  pub word : new.word ≡ old.word
  pub granted : MatchResult result (λ _. new.granted ≡ old.granted + permits) (λ _. new.granted ≡ old.granted)
  pub refused : MatchResult result (λ _. old.granted + permits ≤ 2 ^ 62) (λ _. 2 ^ 62 < old.granted + permits)

-- where there is no granter, nothing is granted
abbrev pub GrantsBy : Option Grants → ℕ → Result (Unit {0}) TooManyPermits → Option Grants → Type 0
GrantsBy (Some old) permits result new = IsSomeAnd new (GrantsMore old permits result)
GrantsBy None permits result new = (new ≡ None) × IsOk result
