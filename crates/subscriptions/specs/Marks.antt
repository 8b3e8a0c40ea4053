-- What is known of each entry of a topic, by its position.
use Rattle.std.specs.Prelude.{ℕ, ◌<◌, ◌≤◌, List, ◌∷◌, [], ◌++◌, drop, replicate}
use Rattle.subscriptions.specs.State.{Subscriptions}

pub record Marks : Type 0 where
  pub slots : List ℕ  -- the hash slot of each entry
  pub messages : List ℕ  -- and how many messages it has

-- of no entry
abbrev pub no_marks : Marks
no_marks = record { slots = []; messages = [] }

-- what the subscriptions of a topic know of each entry
abbrev pub marks_in : Subscriptions → Marks
marks_in t = record { slots = t.slots; messages = t.messages }

-- an entry has a message, and at most 1,048,576
abbrev pub IsCount : ℕ → Type 0
IsCount n = (0 < n) × (n ≤ 1048576)

-- of one entry more
abbrev pub marked : Marks → ℕ → ℕ → Marks
marked m slot messages = record { slots = m.slots ++ slot ∷ []; messages = m.messages ++ messages ∷ [] }

-- behind so many entries that have slot 0, and one message
abbrev pub behind : ℕ → Marks → Marks
behind count m = record { slots = replicate count 0 ++ m.slots; messages = replicate count 1 ++ m.messages }

-- the entries below a position have slot 0, and one message
abbrev pub forgotten : ℕ → Marks → Marks
forgotten position m = record { slots = replicate position 0 ++ drop position m.slots; messages = replicate position 1 ++ drop position m.messages }
