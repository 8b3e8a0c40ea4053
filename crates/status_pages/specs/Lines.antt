-- The status lines of what was told of a topic.
use Rattle.std.specs.Prelude.{ℕ, List, [], ◌∷◌, ◌++◌, Option, Some, None, codes}
use Rattle.std.specs.List.{flat_map}
use Rattle.admin.specs.Status.{right_in, topic_line, subscription_line}
use Rattle.status_pages.specs.declared.board.TopicReport.{TopicReport}
use Rattle.subscriptions.specs.declared.summary.SubscriptionSummary.{SubscriptionSummary}

-- the line of a topic as `inspect` has it; `?` in the place of its segment files where these can't be told
abbrev pub told_line : ℕ → List ℕ → ℕ → ℕ → Option ℕ → List ℕ
told_line number name entries base (Some segments) = topic_line number entries base segments name
told_line number name entries base None =
    codes "T " ++ (right_in 4 number ++ (32 ∷ right_in 10 entries ++ (32 ∷ right_in 10 base ++ (codes "      ? " ++ (name ++ 10 ∷ [])))))

-- the line of a subscription as `inspect` has it
abbrev pub told_subscription_line : ℕ → SubscriptionSummary → List ℕ
told_subscription_line topic summary = subscription_line topic summary.status.mark_delete summary.status.ranges summary.status.name

-- the line of a topic, and behind it those of its subscriptions
abbrev pub picture_lines : TopicReport → List SubscriptionSummary → List ℕ
picture_lines topic subscriptions =
    told_line topic.number topic.name topic.summary.entries topic.base topic.segments ++ flat_map (told_subscription_line topic.number) subscriptions
