-- The status lines of topics.
use Rattle.std.specs.Prelude.{ℕ, ◌-◌, List, [], ◌∷◌, ◌++◌, length, replicate, codes}
use Rattle.std.specs.List.{flat_map}
use Rattle.std.specs.Fmt.{decimal}
use Rattle.subscriptions.specs.declared.status.SubscriptionStatus.{SubscriptionStatus}
use Rattle.node.specs.declared.status.TopicStatus.{TopicStatus}

-- a number right in so many places, behind spaces; a wider one takes more
abbrev pub right_in : ℕ → ℕ → List ℕ
right_in places n = replicate (places - length (decimal n)) 32 ++ decimal n

-- `T`, the topic's number, its entries, the position of the first one that is still there, the segment files from there on and
-- its name, one space apart
abbrev pub topic_line : ℕ → ℕ → ℕ → ℕ → List ℕ → List ℕ
topic_line number entries base segments name =
    codes "T " ++ (right_in 4 number ++ (32 ∷ right_in 10 entries ++ (32 ∷ right_in 10 base ++ (32 ∷ right_in 6 segments ++ (32 ∷ name ++ 10 ∷ [])))))

-- `S`, the topic's number, the mark-delete position, the ranges after it and the subscription's name, one space apart
abbrev pub subscription_line : ℕ → ℕ → ℕ → List ℕ → List ℕ
subscription_line topic mark_delete ranges name =
    codes "S " ++ (right_in 4 topic ++ (32 ∷ right_in 10 mark_delete ++ (32 ∷ right_in 6 ranges ++ (32 ∷ name ++ 10 ∷ []))))

-- the status line of a topic, and behind it those of its subscriptions
abbrev pub status_lines : ℕ → List ℕ → ℕ → ℕ → ℕ → List SubscriptionStatus → List ℕ
status_lines number name entries base segments statuses =
    topic_line number entries base segments name
    ++ flat_map (λ status. subscription_line number status.mark_delete status.ranges status.name) statuses

-- those of what is told of a topic
abbrev pub lines_of : TopicStatus → List ℕ
lines_of topic = status_lines topic.number topic.name topic.entries topic.base topic.segments topic.subscriptions.items

-- those of all topics, one behind the other
abbrev pub lines_of_all : List TopicStatus → List ℕ
lines_of_all topics = flat_map lines_of topics
