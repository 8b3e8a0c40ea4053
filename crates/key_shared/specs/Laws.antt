-- What holds of any key, of any ranges and of any consumers.
use Rattle.std.specs.Prelude.{◌≡◌, ℕ, ◌≤◌, ◌<◌, List, [], ◌∷◌, ◌++◌, length, None, IsTrue, ◌↔◌}
use Rattle.std.specs.List.{All, concat}
use Rattle.holds.specs.Backlog.{Backlog, without, in_ranges}
use Rattle.holds.specs.declared.consumer.Consumer.{Consumer}
use Rattle.holds.specs.declared.consumer.ConsumerKey.{ConsumerKey}
use Rattle.holds.specs.declared.consumer.SlotRange.{SlotRange}
use Rattle.key_shared.specs.Murmur.{blocks, tail}
use Rattle.key_shared.specs.Ranges.{meets, sticky_refusal, AdmitsSticky, AreApart}

-- a byte string is its blocks, each of four bytes, and a tail of fewer
pub record IsCut (bytes : List ℕ) : Type 0 where
  pub whole : concat (blocks bytes) ++ tail bytes ≡ bytes
  pub fours : All (λ block. length block ≡ 4) (blocks bytes)
  pub short : length (tail bytes) < 4

abbrev pub BytesAreBlocksAndATail : Type 0
BytesAreBlocksAndATail = (bytes : List ℕ) → IsCut bytes

-- two ranges that aren't backward meet exactly where a slot lies in both
abbrev pub RangesThatMeet : Type 0
RangesThatMeet = (a b : SlotRange) → a.start ≤ a.end → b.start ≤ b.end
    → IsTrue (meets a b) ↔ ((slot : ℕ) × IsTrue (in_ranges (a ∷ []) slot) × IsTrue (in_ranges (b ∷ []) slot))

-- who is attached and detached by the rules never makes a slot lie in the ranges of two consumers
pub record StaysApart : Type 0 where
  pub first : AreApart []
  pub attach : (consumers : List Consumer) (consumer : Consumer) → AreApart consumers → sticky_refusal consumers consumer ≡ None → AreApart (consumers ++ consumer ∷ [])
  pub detach : (consumers : List Consumer) (key : ConsumerKey) → AreApart consumers → AreApart (without key consumers)

-- no position is admitted to two consumers
abbrev pub NoPositionForTwo : Type 0
NoPositionForTwo = (consumers : List Consumer) (b : Backlog) (k l : ConsumerKey) (i : ℕ) → AreApart consumers → AdmitsSticky consumers b k i → AdmitsSticky consumers b l i → k ≡ l
