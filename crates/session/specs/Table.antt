-- A session's table of its producers, or of its consumers.
use Rattle.std.specs.Prelude.{ℕ, ◌<◌, ◌≤◌, Bool, nat_eq, Option, IfSome, List, [], ◌∷◌, find}
use Rattle.std.specs.Option.{option_map}
use Rattle.std.specs.List.{AllByRecursion, list_any}
use Rattle.session.specs.declared.entry.Entry.{Entry}

-- an id is in use
abbrev pub has_entry : List Entry → ℕ → Bool
has_entry entries id = list_any (λ entry. nat_eq entry.id id) entries

-- whether it is an entry of this id
abbrev pub has_id : ℕ → Entry → Bool
has_id id entry = nat_eq entry.id id

-- a topic is one of theirs
abbrev pub has_topic : List Entry → ℕ → Bool
has_topic entries topic = list_any (λ entry. nat_eq entry.topic topic) entries

-- the topic of an id
abbrev pub topic_of : List Entry → ℕ → Option ℕ
topic_of entries id = option_map (λ entry. entry.topic) (find (λ entry. nat_eq entry.id id) entries)

-- an id has no topic, or one that isn't among so many
abbrev pub IsUnknown : List Entry → ℕ → ℕ → Type 0
IsUnknown entries id count = IfSome (topic_of entries id) (λ topic. count ≤ topic)

-- the ids rise
abbrev pub AreRising : List Entry → Type 0
AreRising [] = Unit {0}
AreRising (entry ∷ entries) = AllByRecursion (λ other. entry.id < other.id) entries × AreRising entries
