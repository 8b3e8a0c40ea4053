-- The outputs of a session, by their numbers.
use Rattle.std.specs.Prelude.{◌≡◌, ℕ, ◌+◌, ◌≤◌, ◌-◌, ◌^◌, min, List, [], ◌∷◌, ◌++◌, length, Bool, true, false, not}
use Rattle.topic_core.specs.declared.dispatch.Outgoing.{Outgoing as Said}
use Rattle.session.specs.Client.{frames_of}

-- whole frames, and nothing else
abbrev pub AreFrames : List ℕ → Type 0
AreFrames bytes = ∥ ((said : List Said) × (bytes ≡ frames_of said)) ∥₁

-- what went out: its number, whether the writer pumped it, and its bytes
pub record Shown : Type 0 where
  pub number : ℕ
  pub pumped : Bool
  pub bytes : List ℕ
  pub whole : AreFrames bytes

-- the bytes of all, in order
abbrev pub bytes_of : List Shown → List ℕ
bytes_of [] = []
bytes_of (o ∷ os) = o.bytes ++ bytes_of os

abbrev pub reply_if : Bool → ℕ × List ℕ → List (ℕ × List ℕ) → List (ℕ × List ℕ)
reply_if true reply rest = rest
reply_if false reply rest = reply ∷ rest

-- those that are the reader's replies
abbrev pub replies_of : List Shown → List (ℕ × List ℕ)
replies_of [] = []
replies_of (o ∷ os) = reply_if o.pumped (o.number, o.bytes) (replies_of os)

-- those that the writer pumped
abbrev pub pumped_of : List Shown → List (ℕ × List ℕ)
pumped_of [] = []
pumped_of (o ∷ os) = reply_if (not o.pumped) (o.number, o.bytes) (pumped_of os)

-- how many bytes these replies have
abbrev pub size_of : List (ℕ × List ℕ) → ℕ
size_of [] = 0
size_of (r ∷ rs) = length r.1 + size_of rs

-- a count of bytes stops at the largest number of 64 bits
abbrev pub saturated : ℕ → ℕ
saturated n = min n (2 ^ 64 - 1)

-- the numbers rise from n on, and end below m
abbrev pub Rises : ℕ → List Shown → ℕ → Type 0
Rises n [] m = n ≤ m
Rises n (o ∷ os) m = (n ≤ o.number) × Rises (o.number + 1) os m
