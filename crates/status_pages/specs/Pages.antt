-- The pages of lines and of metrics, and what tells whether no topic is failed.
use Rattle.std.specs.Prelude.{◌≡◌, ℕ, Bool, true, false, List, [], ◌∷◌, ◌++◌, length, Option, Some, if◌then◌else◌, codes}
use Rattle.std.specs.List.{All, flat_map}
use Rattle.std.specs.Io.KnownBytes.{Appends}
use Rattle.status_pages.specs.Lines.{picture_lines}
use Rattle.status_pages.specs.Metrics.{topic_metric_name, topic_metric_help, topic_metric_grows, subscription_metric_name, subscription_metric_help, metric_head, topic_metric_text, subscription_metric_text, broker_text}
use Rattle.status_pages.specs.Told.{AreTold, AreAll, IsPicture}
use Rattle.status_pages.specs.declared.board.BrokerReport.{BrokerReport}
use Rattle.status_pages.specs.declared.board.TopicReport.{TopicReport}
use Rattle.status_pages.specs.declared.metrics.TopicMetric.{TopicMetric}
use Rattle.status_pages.specs.declared.metrics.TopicMetric.TheVariants as OfTopic
use Rattle.status_pages.specs.declared.metrics.SubscriptionMetric.TheVariants as OfSubscription
use Rattle.status_pages.specs.declared.parts.Part.{Part}
use Rattle.status_pages.specs.declared.parts.Part.TheVariants.{Lines, Topics, Subscriptions, Failures}
use Rattle.status_pages.specs.declared.picture.Picture.{Picture}
use Rattle.subscriptions.specs.declared.summary.SubscriptionSummary.{SubscriptionSummary}

-- the line of a topic by its name, where it is failed
abbrev pub failure_text : Bool → List ℕ → List ℕ
failure_text is_failed name = if is_failed then codes "topic " ++ (name ++ codes " has failed\n") else []

-- what a part of a page says of a topic
abbrev pub part_text : Part → Picture → List ℕ
part_text Lines p = picture_lines p.topic p.subscriptions.items
part_text (Topics m) p = topic_metric_text m p.topic p.subscriptions.items
part_text (Subscriptions m) p = subscription_metric_text m p.topic p.subscriptions.items
part_text Failures p = failure_text p.topic.summary.is_failed p.topic.name

-- what stands before that
abbrev pub part_head : Part → List ℕ
part_head Lines = []
part_head (Topics m) = metric_head (topic_metric_name m) (topic_metric_help m) (topic_metric_grows m)
part_head (Subscriptions m) = metric_head (subscription_metric_name m) (subscription_metric_help m) false
part_head Failures = []

-- whether a topic's metric is of its subscriptions
abbrev pub is_of_subscriptions : TopicMetric → Bool
is_of_subscriptions OfTopic.Consumers = true
is_of_subscriptions OfTopic.Backlog = true
is_of_subscriptions _ = false

-- whether a part of a page asks for subscriptions
abbrev pub asks_for_subscriptions : Part → Bool
asks_for_subscriptions Lines = true
asks_for_subscriptions (Topics m) = is_of_subscriptions m
asks_for_subscriptions (Subscriptions m) = true
asks_for_subscriptions Failures = false

-- what a part of a page says is written, of each topic that the board told, none left out
pub record PrintsTopics (topic_told : ℕ → Option TopicReport → Type 0) (subscription_told : ℕ → ℕ → Option SubscriptionSummary → Type 0) (part : Part) (old new : Option (List ℕ)) : Type 0 where
  pub pictures : List Picture
  pub told_each : AreTold (IsPicture topic_told subscription_told (asks_for_subscriptions part)) 0 pictures
  pub told_all : AreAll topic_told (length pictures)
  pub written : Appends old new (flat_map (part_text part) pictures)

-- a part of a page is written: its head, and behind that what it says of topics
pub record Prints (topic_told : ℕ → Option TopicReport → Type 0) (subscription_told : ℕ → ℕ → Option SubscriptionSummary → Type 0) (part : Part) (old new : Option (List ℕ)) : Type 0 where
  pub between : Option (List ℕ)
  pub head : Appends old between (part_head part)
  pub topics : PrintsTopics topic_told subscription_told part between new

-- one step behind the other, from an old value to a new one
abbrev pub InTurn : {P A : Type 0} → (P → A → A → Type 0) → List P → A → A → Type 0
InTurn step [] old new = new ≡ old
InTurn {P = P} {A = A} step (p ∷ ps) old new = (between : A) × step p old between × InTurn step ps between new

-- the metrics of topics and subscriptions, in the order of the page
abbrev pub metric_parts : List Part
metric_parts =
    Topics OfTopic.Sends ∷ Topics OfTopic.Receipts ∷ Topics OfTopic.Messages ∷ Topics OfTopic.Acknowledgements ∷ Topics OfTopic.Flushes
    ∷ Topics OfTopic.Bytes ∷ Topics OfTopic.Entries ∷ Topics OfTopic.Trimmed ∷ Topics OfTopic.Segments ∷ Topics OfTopic.Waiting
    ∷ Topics OfTopic.WaitingBytes ∷ Topics OfTopic.Producers ∷ Topics OfTopic.Subscriptions ∷ Topics OfTopic.Consumers ∷ Topics OfTopic.Backlog
    ∷ Topics OfTopic.Failed ∷ Subscriptions OfSubscription.Backlog ∷ Subscriptions OfSubscription.Consumers ∷ Subscriptions OfSubscription.Permits
    ∷ Subscriptions OfSubscription.MarkDelete ∷ Subscriptions OfSubscription.Ranges ∷ []

-- the page of metrics is written: those of the whole broker as the board told them, and behind them the others
pub record PrintsMetrics (broker_told : BrokerReport → Type 0) (topic_told : ℕ → Option TopicReport → Type 0) (subscription_told : ℕ → ℕ → Option SubscriptionSummary → Type 0) (old new : Option (List ℕ)) : Type 0 where
  pub broker : BrokerReport
  pub told : broker_told broker
  pub between : Option (List ℕ)
  pub first : Appends old between (broker_text broker)
  pub rest : InTurn (Prints topic_told subscription_told) metric_parts between new

-- all topics that the board told work
pub record AllWork (topic_told : ℕ → Option TopicReport → Type 0) : Type 0 where
  pub topics : List TopicReport
  pub told_each : AreTold (λ n t. topic_told n (Some t)) 0 topics
  pub told_all : AreAll topic_told (length topics)
  pub work : All (λ (t : TopicReport). t.summary.is_failed ≡ false) topics

-- the board told of a topic that is failed
pub record OneFailed (topic_told : ℕ → Option TopicReport → Type 0) : Type 0 where
  pub number : ℕ
  pub topic : TopicReport
  pub told : topic_told number (Some topic)
  pub fails : topic.summary.is_failed ≡ true
