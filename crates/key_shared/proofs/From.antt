-- A search from the first position on.
use Rattle.std.proofs.Common.{ℕ, arith, Option, Some, None, IfNone, IsSomeAnd}
use Rattle.holds.specs.Backlog.{Backlog, IsLeast, IsOpenIn}
use Rattle.holds.specs.declared.consumer.Consumer.{Consumer}
use Rattle.key_shared.specs.Ranges.{IsOpenFrom}

none_in : (o : Option Consumer) (b : Backlog) → ((i : ℕ) → IsSomeAnd o (λ c. IsOpenFrom b c.ranges 0 i) → ⊥) → (i : ℕ) → IsSomeAnd o (λ c. IsLeast (IsOpenIn b c.ranges) i) → ⊥
none_in None b none i h = h
none_in (Some c) b none i h = none i (omega arith, h.0)

pub none_at_all : (picked : Option ℕ) (o : Option Consumer) (b : Backlog) → IfNone picked ((i : ℕ) → IsSomeAnd o (λ c. IsOpenFrom b c.ranges 0 i) → ⊥) → IfNone picked ((i : ℕ) → IsSomeAnd o (λ c. IsLeast (IsOpenIn b c.ranges) i) → ⊥)
none_at_all None o b none = none_in o b none
none_at_all (Some i) o b none = tt
