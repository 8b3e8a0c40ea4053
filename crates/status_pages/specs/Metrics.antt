-- What is told of topics and subscriptions in numbers, in the text format of Prometheus.
use Rattle.std.specs.Prelude.{ℕ, ◌-◌, ◌^◌, min, List, [], ◌∷◌, ◌++◌, Bool, true, false, Option, Some, None, if◌then◌else◌, sum_by, codes}
use Rattle.std.specs.List.{flat_map}
use Rattle.std.specs.Fmt.{decimal}
use Rattle.status_pages.specs.Escapes.{label_text}
use Rattle.status_pages.specs.declared.board.BrokerReport.{BrokerReport}
use Rattle.status_pages.specs.declared.board.TopicReport.{TopicReport}
use Rattle.status_pages.specs.declared.metrics.TopicMetric.{TopicMetric}
use Rattle.status_pages.specs.declared.metrics.TopicMetric.TheVariants as OfTopic
use Rattle.status_pages.specs.declared.metrics.SubscriptionMetric.{SubscriptionMetric}
use Rattle.status_pages.specs.declared.metrics.SubscriptionMetric.TheVariants as OfSubscription
use Rattle.subscriptions.specs.declared.summary.SubscriptionSummary.{SubscriptionSummary}

-- a metric's name
abbrev pub topic_metric_name : TopicMetric → List ℕ
topic_metric_name OfTopic.Sends = codes "pulsar_in_messages_total"
topic_metric_name OfTopic.Receipts = codes "zephyrslate_receipts_total"
topic_metric_name OfTopic.Messages = codes "pulsar_out_messages_total"
topic_metric_name OfTopic.Acknowledgements = codes "zephyrslate_acknowledgements_total"
topic_metric_name OfTopic.Flushes = codes "zephyrslate_flushes_total"
topic_metric_name OfTopic.Bytes = codes "zephyrslate_committed_bytes_total"
topic_metric_name OfTopic.Entries = codes "zephyrslate_entries"
topic_metric_name OfTopic.Trimmed = codes "zephyrslate_trimmed_entries"
topic_metric_name OfTopic.Segments = codes "zephyrslate_segments"
topic_metric_name OfTopic.Waiting = codes "zephyrslate_waiting_entries"
topic_metric_name OfTopic.WaitingBytes = codes "zephyrslate_waiting_bytes"
topic_metric_name OfTopic.Producers = codes "pulsar_producers_count"
topic_metric_name OfTopic.Subscriptions = codes "pulsar_subscriptions_count"
topic_metric_name OfTopic.Consumers = codes "pulsar_consumers_count"
topic_metric_name OfTopic.Backlog = codes "pulsar_msg_backlog"
topic_metric_name OfTopic.Failed = codes "zephyrslate_topic_failed"

-- what a metric means
abbrev pub topic_metric_help : TopicMetric → List ℕ
topic_metric_help OfTopic.Sends = codes "SENDs that were accepted since the broker began."
topic_metric_help OfTopic.Receipts = codes "Receipts that were handed out since the broker began."
topic_metric_help OfTopic.Messages = codes "Messages that consumers were given since the broker began, repeated ones too."
topic_metric_help OfTopic.Acknowledgements = codes "Changes that ACKs made since the broker began: one for each position of an individual ACK, and one for a cumulative one."
topic_metric_help OfTopic.Flushes = codes "Flushes that ended well since the broker began."
topic_metric_help OfTopic.Bytes = codes "Bytes of the entries that flushes put on the disk since the broker began."
topic_metric_help OfTopic.Entries = codes "Entries that came to the disk, with those that were trimmed."
topic_metric_help OfTopic.Trimmed = codes "Entries that are no longer there, as each subscription has acknowledged them."
topic_metric_help OfTopic.Segments = codes "Files that the other entries are in; left out while a flush is at them."
topic_metric_help OfTopic.Waiting = codes "Entries that wait for a flush, or are in one."
topic_metric_help OfTopic.WaitingBytes = codes "Bytes of the entries that wait."
topic_metric_help OfTopic.Producers = codes "Producers that are open or closing."
topic_metric_help OfTopic.Subscriptions = codes "Subscriptions of the topic."
topic_metric_help OfTopic.Consumers = codes "Consumers of all its subscriptions."
topic_metric_help OfTopic.Backlog = codes "Backlogs of all its subscriptions together."
topic_metric_help OfTopic.Failed = codes "1 while a failure of the disk keeps the topic from working, else 0."

-- whether its number only grows while the broker runs
abbrev pub topic_metric_grows : TopicMetric → Bool
topic_metric_grows OfTopic.Sends = true
topic_metric_grows OfTopic.Receipts = true
topic_metric_grows OfTopic.Messages = true
topic_metric_grows OfTopic.Acknowledgements = true
topic_metric_grows OfTopic.Flushes = true
topic_metric_grows OfTopic.Bytes = true
topic_metric_grows _ = false

-- a metric's name
abbrev pub subscription_metric_name : SubscriptionMetric → List ℕ
subscription_metric_name OfSubscription.Backlog = codes "pulsar_subscription_back_log"
subscription_metric_name OfSubscription.Consumers = codes "pulsar_subscription_consumers_count"
subscription_metric_name OfSubscription.Permits = codes "zephyrslate_subscription_permits"
subscription_metric_name OfSubscription.MarkDelete = codes "zephyrslate_subscription_mark_delete"
subscription_metric_name OfSubscription.Ranges = codes "zephyrslate_subscription_ranges"

-- what a metric means
abbrev pub subscription_metric_help : SubscriptionMetric → List ℕ
subscription_metric_help OfSubscription.Backlog = codes "Entries from the first on that is not acknowledged."
subscription_metric_help OfSubscription.Consumers = codes "Consumers that are attached."
subscription_metric_help OfSubscription.Permits = codes "Messages that its consumers would still take, as far as is known."
subscription_metric_help OfSubscription.MarkDelete = codes "Position of the first entry that is not acknowledged."
subscription_metric_help OfSubscription.Ranges = codes "Ranges of acknowledged entries behind that position."

-- the entries from the first on that a subscription hasn't acknowledged
abbrev pub backlog_of : ℕ → SubscriptionSummary → ℕ
backlog_of entries s = entries - s.status.mark_delete

-- the sum, as far as 64 bits have room for it
abbrev pub capped : ℕ → ℕ
capped n = min n (2 ^ 64 - 1)

-- the number that a topic tells of a metric; none where it can't be told
abbrev pub topic_value : TopicMetric → TopicReport → List SubscriptionSummary → Option ℕ
topic_value OfTopic.Sends t subs = Some t.summary.accepted
topic_value OfTopic.Receipts t subs = Some t.summary.handed
topic_value OfTopic.Messages t subs = Some t.activity.messages
topic_value OfTopic.Acknowledgements t subs = Some t.activity.acknowledgements
topic_value OfTopic.Flushes t subs = Some t.activity.flushes
topic_value OfTopic.Bytes t subs = Some t.activity.bytes
topic_value OfTopic.Entries t subs = Some t.summary.entries
topic_value OfTopic.Trimmed t subs = Some t.base
topic_value OfTopic.Segments t subs = t.segments
topic_value OfTopic.Waiting t subs = Some t.summary.waiting
topic_value OfTopic.WaitingBytes t subs = Some t.summary.waiting_bytes
topic_value OfTopic.Producers t subs = Some t.summary.producers
topic_value OfTopic.Subscriptions t subs = Some t.summary.subscriptions
topic_value OfTopic.Consumers t subs = Some (capped (sum_by (λ (s : SubscriptionSummary). s.consumers) subs))
topic_value OfTopic.Backlog t subs = Some (capped (sum_by (backlog_of t.summary.entries) subs))
topic_value OfTopic.Failed t subs = Some (if t.summary.is_failed then 1 else 0)

-- the number that a subscription tells of a metric, where its topic has so many entries
abbrev pub subscription_value : SubscriptionMetric → ℕ → SubscriptionSummary → ℕ
subscription_value OfSubscription.Backlog entries s = backlog_of entries s
subscription_value OfSubscription.Consumers entries s = s.consumers
subscription_value OfSubscription.Permits entries s = s.permits
subscription_value OfSubscription.MarkDelete entries s = s.status.mark_delete
subscription_value OfSubscription.Ranges entries s = s.status.ranges

-- the lines that stand before the samples of a metric: what it means, and whether it only grows
abbrev pub metric_head : List ℕ → List ℕ → Bool → List ℕ
metric_head name help grows =
    codes "# HELP " ++ (name ++ (32 ∷ help ++ (10 ∷ codes "# TYPE " ++ (name ++ (if grows then codes " counter\n" else codes " gauge\n")))))

-- a sample of a topic
abbrev pub topic_sample : List ℕ → List ℕ → ℕ → List ℕ
topic_sample name topic value = name ++ (codes "{topic=\"" ++ (label_text topic ++ (codes "\"} " ++ (decimal value ++ 10 ∷ []))))

-- a sample of a subscription
abbrev pub subscription_sample : List ℕ → List ℕ → List ℕ → ℕ → List ℕ
subscription_sample name topic subscription value =
    name ++ (codes "{topic=\"" ++ (label_text topic ++ (codes "\",subscription=\"" ++ (label_text subscription ++ (codes "\"} " ++ (decimal value ++ 10 ∷ []))))))

-- a sample where there is a number
abbrev pub sample_if_told : List ℕ → List ℕ → Option ℕ → List ℕ
sample_if_told name topic (Some value) = topic_sample name topic value
sample_if_told name topic None = []

-- the sample of a topic
abbrev pub topic_metric_text : TopicMetric → TopicReport → List SubscriptionSummary → List ℕ
topic_metric_text m t subs = sample_if_told (topic_metric_name m) t.name (topic_value m t subs)

-- the sample of a subscription
abbrev pub subscription_number_text : SubscriptionMetric → TopicReport → SubscriptionSummary → List ℕ
subscription_number_text m t s = subscription_sample (subscription_metric_name m) t.name s.status.name (subscription_value m t.summary.entries s)

-- the samples of a topic's subscriptions
abbrev pub subscription_metric_text : SubscriptionMetric → TopicReport → List SubscriptionSummary → List ℕ
subscription_metric_text m t subs = flat_map (subscription_number_text m t) subs

-- a metric of the whole broker, that doesn't only grow
abbrev pub broker_metric_text : List ℕ → List ℕ → ℕ → List ℕ
broker_metric_text name help value = metric_head name help false ++ (name ++ (32 ∷ decimal value ++ 10 ∷ []))

-- since when the broker serves, where that is known
abbrev pub since_text : Option ℕ → List ℕ
since_text (Some since) = broker_metric_text (codes "process_start_time_seconds") (codes "Since when the broker serves, in seconds since 1970.") since
since_text None = []

-- the metrics of the whole broker
abbrev pub broker_text : BrokerReport → List ℕ
broker_text broker = broker_metric_text (codes "pulsar_active_connections") (codes "Clients that are connected.") broker.connections ++ since_text broker.since
