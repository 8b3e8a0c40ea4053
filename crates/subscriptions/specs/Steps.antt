-- What each call does to the subscriptions of a topic.
use Rattle.std.specs.Prelude.{◌≡◌, ◌⊎◌, ℕ, ◌+◌, ◌^◌, Bool, true, false, cond, not, ◌&&◌, ◌||◌, nat_eq, nat_lt, nat_le, max, ◌≤◌, Option, Some, None, List, [], ◌∷◌, ◌++◌, length, filter, drop, slice_index, replicate, IsTrue, IsSomeAnd, map as each}
use Rattle.std.specs.List.{AllZip, list_any, find}
use Rattle.std.specs.Str.{bytes_eq}
use Rattle.std.specs.FinSet as set
use Rattle.std.specs.FinMap as map
use Rattle.cursor.specs.Positions.{Positions, below}
use Rattle.holds.specs.Deliveries.{Deliveries, same_key, sent_to, given_back, times}
use Rattle.holds.specs.Backlog.{IsOpenAt, IsLeast, in_ranges, without, attached as seat_of}
use Rattle.holds.specs.declared.consumer.ConsumerKey.{ConsumerKey}
use Rattle.holds.specs.declared.consumer.Consumer.{Consumer as Seat}
use Rattle.holds.specs.declared.consumer.SlotRange.{SlotRange}
use Rattle.key_shared.specs.Ranges.{are_refused}
use Rattle.holds.specs.declared.delivery.Delivery.{Delivery}
use Rattle.subscriptions.specs.declared.consumer.Mode.{Mode}
use Rattle.subscriptions.specs.declared.consumer.Mode.TheVariants.{Exclusive, Failover, Shared, KeyShared}
use Rattle.subscriptions.specs.State.{Consumer}
use Rattle.subscriptions.specs.declared.consumer.Refusal.{Refusal}
use Rattle.subscriptions.specs.declared.consumer.Refusal.TheVariants.{ConsumerBusy, TooManyRequests, ConsumerAssignError}
use Rattle.subscriptions.specs.declared.initial_position.InitialPosition.{InitialPosition}
use Rattle.subscriptions.specs.declared.initial_position.InitialPosition.TheVariants.{Latest, Earliest}
use Rattle.permits.specs.Ends.{Seen, Word}
use Rattle.records.specs.declared.record.Record.{Record}
use Rattle.records.specs.Maps.{Kept}
use Rattle.records.specs.declared.record.Record.TheVariants.{Made, Removed, Acknowledged, AcknowledgedThrough}
use Rattle.subscriptions.specs.State.{Subscription, Subscriptions}
use Rattle.subscriptions.specs.Progress.{joined, listed}

-- no subscription, and no change
abbrev pub none_yet : Subscriptions
none_yet = record { subs = []; changes = []; slots = []; messages = [] }

-- a durable subscription, without consumers and deliveries
abbrev pub opened_one : List ℕ × Positions → Subscription
opened_one e = record { name = e.0; mode = Exclusive; consumers = []; seats = []; acked = e.1; deliveries = map.empty }

abbrev pub opened_all : List (List ℕ × Positions) → Subscriptions
opened_all entries = record { subs = each opened_one entries; changes = []; slots = []; messages = [] }

-- the subscriptions of a topic that was opened: the durable ones, in the order of the names' bytes, no change, and no entry so far
abbrev pub opened : Kept → Subscriptions
opened kept = opened_all (map.entries kept)

-- further entries have these slots, and so many messages
abbrev pub marked : Subscriptions → List ℕ → List ℕ → Subscriptions
marked t slots messages = record t { slots = t.slots ++ slots; messages = t.messages ++ messages }

-- the entries of positions below this one are forgotten: they have slot 0, and one message
abbrev pub forgotten : Subscriptions → ℕ → Subscriptions
forgotten t position = record t { slots = replicate position 0 ++ drop position t.slots; messages = replicate position 1 ++ drop position t.messages }

-- the first that passes a test is changed
abbrev pub first_changed : {X : Type 0} → (X → Bool) → (X → X) → List X → List X
first_changed test f [] = []
first_changed test f (x ∷ xs) = cond (test x) (f x ∷ xs) (x ∷ first_changed test f xs)

abbrev pub is_consumer : ConsumerKey → Consumer → Bool
is_consumer key c = same_key c.key key

-- the consumer is attached to the subscription
abbrev pub is_on : ConsumerKey → Subscription → Bool
is_on key s = list_any (is_consumer key) s.consumers

abbrev pub has_consumer : Subscriptions → ConsumerKey → Bool
has_consumer t key = list_any (is_on key) t.subs

abbrev pub is_named : List ℕ → Subscription → Bool
is_named name s = bytes_eq s.name name

-- the first refusal that stands, of a table in the order in which they are looked at
abbrev pub first_standing : List (Bool × Refusal) → Option Refusal
first_standing [] = None
first_standing (row ∷ rows) = cond row.0 (Some row.1) (first_standing rows)

abbrev pub is_exclusive : Mode → Bool
is_exclusive Exclusive = true
is_exclusive Failover = false
is_exclusive Shared = false
is_exclusive KeyShared = false

abbrev pub is_failover : Mode → Bool
is_failover Exclusive = false
is_failover Failover = true
is_failover Shared = false
is_failover KeyShared = false

-- each consumer gets the entries whose slots lie in its ranges
abbrev pub is_key_shared : Mode → Bool
is_key_shared Exclusive = false
is_key_shared Failover = false
is_key_shared Shared = false
is_key_shared KeyShared = true

-- more than one consumer is served
abbrev pub serves_many : Mode → Bool
serves_many Exclusive = false
serves_many Failover = false
serves_many Shared = true
serves_many KeyShared = true

-- each consumer gets any
abbrev pub is_shared_mode : Mode → Bool
is_shared_mode Exclusive = false
is_shared_mode Failover = false
is_shared_mode Shared = true
is_shared_mode KeyShared = false

abbrev pub same_mode : Mode → Mode → Bool
same_mode Exclusive mode = is_exclusive mode
same_mode Failover mode = is_failover mode
same_mode Shared mode = is_shared_mode mode
same_mode KeyShared mode = is_key_shared mode

abbrev pub has_some : {X : Type 0} → List X → Bool
has_some xs = nat_lt 0 (length xs)

-- On Key_Shared the ranges are refused that are none, backward, or meet one another or those of an attached consumer.
abbrev pub refuses_ranges : Mode → List Seat → List SlotRange → Bool
refuses_ranges mode seats ranges = is_key_shared mode && are_refused seats ranges

-- SUBSCRIBE: what is refused of one more consumer, in order; the mode is that of the attached ones
abbrev pub attach_refusals : Mode → List SlotRange → Subscription → List (Bool × Refusal)
attach_refusals mode ranges s =
    (has_some s.consumers && not (same_mode s.mode mode), ConsumerBusy)
    ∷ (has_some s.consumers && is_exclusive mode, ConsumerBusy)
    ∷ (nat_le 64 (length s.consumers), TooManyRequests)
    ∷ (refuses_ranges mode s.seats ranges, ConsumerAssignError)
    ∷ []

-- SUBSCRIBE: what is refused of a new name, in order
abbrev pub making_refusals : Mode → List SlotRange → Subscriptions → List (Bool × Refusal)
making_refusals mode ranges t =
    (nat_le 64 (length t.subs), TooManyRequests)
    ∷ (refuses_ranges mode [] ranges, ConsumerAssignError)
    ∷ (nat_le 65536 (length t.changes), TooManyRequests)
    ∷ []

-- by whether there is such a subscription
abbrev pub refusals_at : Option Subscription → Subscriptions → Mode → List SlotRange → List (Bool × Refusal)
refusals_at None t mode ranges = making_refusals mode ranges t
refusals_at (Some s) t mode ranges = attach_refusals mode ranges s

abbrev pub subscribe_refusals : Subscriptions → List ℕ → Mode → List SlotRange → List (Bool × Refusal)
subscribe_refusals t name mode ranges = refusals_at (find (is_named name) t.subs) t mode ranges

-- one more consumer, without permits on this word, and attached last
abbrev pub attached_to : Mode → Seat → Word → Subscription → Subscription
attached_to mode seat word s = record s { mode = mode; consumers = s.consumers ++ record { key = seat.key; granted = 0; sent = 0; word = word; looks = 0 } ∷ []; seats = s.seats ++ seat ∷ [] }

-- the position below which all is acknowledged on a new subscription: the committed length, or the first position that is to be had
abbrev pub start_of : InitialPosition → ℕ → ℕ → ℕ
start_of Latest first committed = committed
start_of Earliest first committed = first

abbrev pub made : List ℕ → Mode → ℕ → Subscription
made name mode start = record { name = name; mode = mode; consumers = []; seats = []; acked = below start; deliveries = map.empty }

-- SUBSCRIBE: a name that is there gains a consumer, and another name is made with it
abbrev pub attached_at : Option Subscription → Subscriptions → List ℕ → Mode → Seat → Word → ℕ → Subscriptions
attached_at None t name mode seat word start = record t { subs = t.subs ++ attached_to mode seat word (made name mode start) ∷ []; changes = t.changes ++ Made name start ∷ [] }
attached_at (Some s) t name mode seat word start = record t { subs = first_changed (is_named name) (attached_to mode seat word) t.subs }

abbrev pub attached : Subscriptions → List ℕ → Mode → Seat → Word → ℕ → Subscriptions
attached t name mode seat word start = attached_at (find (is_named name) t.subs) t name mode seat word start

-- a consumer is known to have been granted at least as many permits as looks showed
abbrev pub learnt_to : Seen → Consumer → Consumer
learnt_to seen c = record c { granted = max c.granted seen.granted; looks = c.looks + seen.looks }

abbrev pub learnt_on : ConsumerKey → Seen → Subscription → Subscription
learnt_on key seen s = record s { consumers = first_changed (is_consumer key) (learnt_to seen) s.consumers }

abbrev pub learnt : Subscriptions → ConsumerKey → Seen → Subscriptions
learnt t key seen = record t { subs = first_changed (is_on key) (learnt_on key seen) t.subs }

-- a consumer of the session is known to have been granted at least as many permits as looks showed
abbrev pub learnt_of : ℕ → Seen → Consumer → Consumer
learnt_of who seen c = cond (nat_eq c.key.session who) (learnt_to seen c) c

-- nothing changed but what was learnt by looks: of some number of permits, which were granted
pub record IsLearnt {X : Type 0} (learning : Seen → X) (new : X) : Type 0 where
  pub seen : Seen
  pub bound : seen.granted ≤ 2 ^ 62
  pub same : new ≡ learning seen

-- the same, and it was looked at least once; where nobody grants behind a gauge's back none has to be
pub record IsLooked {X : Type 0} (exact : Type 0) (learning : Seen → X) (new : X) : Type 0 where
  pub learnt : IsLearnt learning new
  pub once : exact ⊎ (1 ≤ learnt.seen.looks)

-- nothing changed but what was learnt of the permits of a session's consumers
abbrev pub HaveLearnt : ℕ → List Consumer → List Consumer → Type 0
HaveLearnt who consumers new = AllZip (λ c d. IsLearnt (λ n. learnt_of who n c) d) consumers new

-- it was looked for each of them
abbrev pub HaveLooked : Type 0 → ℕ → List Consumer → List Consumer → Type 0
HaveLooked exact who consumers new = AllZip (λ c d. IsLooked exact (λ n. learnt_of who n c) d) consumers new

pub record HasLearntOn (who : ℕ) (s new : Subscription) : Type 0 where
  pub consumers : HaveLearnt who s.consumers new.consumers
  pub same : new ≡ record s { consumers = new.consumers }

-- where something is open on a subscription, it was looked for each of a session's consumers there
abbrev pub HasLookedOn : Type 0 → ℕ → ℕ → Subscription → Subscription → Type 0
HasLookedOn exact who committed s new = ((i : ℕ) → IsOpenAt committed s.acked s.deliveries i → ⊥) ⊎ HaveLooked exact who s.consumers new.consumers

pub record HasLearnt (who : ℕ) (t new : Subscriptions) : Type 0 where
  pub subs : AllZip (HasLearntOn who) t.subs new.subs
  pub same : new ≡ record t { subs = new.subs }

-- FLOW: the consumer has so many permits more
abbrev pub granted_to : ℕ → Consumer → Consumer
granted_to permits c = record c { granted = c.granted + permits }

abbrev pub granted_on : ConsumerKey → ℕ → Subscription → Subscription
granted_on key permits s = record s { consumers = first_changed (is_consumer key) (granted_to permits) s.consumers }

abbrev pub granted : Subscriptions → ConsumerKey → ℕ → Subscriptions
granted t key permits = record t { subs = first_changed (is_on key) (granted_on key permits) t.subs }

-- FLOW: a consumer would have more than 2 ^ 62 permits in all
abbrev pub is_past : ℕ → Option Consumer → Bool
is_past permits None = false
is_past permits (Some c) = nat_lt (2 ^ 62) (c.granted + permits)

abbrev pub is_past_on : ConsumerKey → ℕ → Option Subscription → Bool
is_past_on key permits None = false
is_past_on key permits (Some s) = is_past permits (find (is_consumer key) s.consumers)

abbrev pub grants_too_many : Subscriptions → ConsumerKey → ℕ → Bool
grants_too_many t key permits = is_past_on key permits (find (is_on key) t.subs)

-- ACK: the positions are acknowledged, and their deliveries forgotten
abbrev pub acked_on : List ℕ → Subscription → Subscription
acked_on positions s = record s {
  acked = joined s.acked positions;
  deliveries = map.retain_keys s.deliveries (λ p. not (set.contains (listed positions) p));
}

-- ACK: one change for each position, also where it was acknowledged before
abbrev pub acknowledgements : Option Subscription → List ℕ → List Record
acknowledgements None positions = []
acknowledgements (Some s) positions = each (λ p. Acknowledged s.name p) positions

abbrev pub acknowledged : Subscriptions → ConsumerKey → List ℕ → Subscriptions
acknowledged t key positions = record t {
  subs = first_changed (is_on key) (acked_on positions) t.subs;
  changes = t.changes ++ acknowledgements (find (is_on key) t.subs) positions;
}

-- ACK of all positions up to one: they are acknowledged, and their deliveries forgotten
abbrev pub acked_through_on : ℕ → Subscription → Subscription
acked_through_on position s = record s {
  acked = set.union s.acked (below (position + 1));
  deliveries = map.retain_keys s.deliveries (λ p. not (nat_lt p (position + 1)));
}

-- ACK of all positions up to one: one change
abbrev pub acknowledgement_through : Option Subscription → ℕ → List Record
acknowledgement_through None position = []
acknowledgement_through (Some s) position = AcknowledgedThrough s.name position ∷ []

abbrev pub acknowledged_through : Subscriptions → ConsumerKey → ℕ → Subscriptions
acknowledged_through t key position = record t {
  subs = first_changed (is_on key) (acked_through_on position) t.subs;
  changes = t.changes ++ acknowledgement_through (find (is_on key) t.subs) position;
}

-- another consumer is attached to the subscription
abbrev pub is_shared : Option Subscription → Bool
is_shared None = false
is_shared (Some s) = nat_lt 1 (length s.consumers)

-- UNSUBSCRIBE: what is refused of an attached consumer, in order
abbrev pub unsubscribe_refusals : Subscriptions → ConsumerKey → List (Bool × Refusal)
unsubscribe_refusals t key =
    (is_shared (find (is_on key) t.subs), ConsumerBusy)
    ∷ (nat_le 65536 (length t.changes), TooManyRequests)
    ∷ []

-- the first that passes a test goes
abbrev pub first_removed : {X : Type 0} → (X → Bool) → List X → List X
first_removed test [] = []
first_removed test (x ∷ xs) = cond (test x) xs (x ∷ first_removed test xs)

abbrev pub removal : Option Subscription → List Record
removal None = []
removal (Some s) = Removed s.name ∷ []

-- UNSUBSCRIBE: the consumer's subscription goes, with the consumer; one change
abbrev pub unsubscribed : Subscriptions → ConsumerKey → Subscriptions
unsubscribed t key = record t {
  subs = first_removed (is_on key) t.subs;
  changes = t.changes ++ removal (find (is_on key) t.subs);
}

-- the consumer has a permit left
abbrev pub has_permit : Option Consumer → Bool
has_permit None = false
has_permit (Some c) = nat_lt c.sent c.granted

abbrev pub has_permit_at : ConsumerKey → Option Subscription → Bool
has_permit_at key None = false
has_permit_at key (Some s) = has_permit (find (is_consumer key) s.consumers)

-- the consumer was attached first
abbrev pub is_first : ConsumerKey → List Consumer → Bool
is_first key [] = false
is_first key (c ∷ cs) = is_consumer key c

-- i is the least of the positions whose slot lies in the ranges
abbrev pub IsLeastIn : List SlotRange → List ℕ → (ℕ → Type 0) → ℕ → Type 0
IsLeastIn ranges slots Opens i = IsLeast (λ j. Opens j × IsTrue (in_ranges ranges (slice_index slots j))) i

-- Which of the open positions a mode lets a consumer get: on Exclusive the only consumer gets the least one, on Failover the one
-- that was attached first does, on Shared each gets any, and on Key_Shared each gets the least one whose slot lies in its ranges.
abbrev pub AdmitsBy : Mode → ConsumerKey → Subscription → List ℕ → (ℕ → Type 0) → ℕ → Type 0
AdmitsBy Exclusive key s slots Opens i = IsLeast Opens i
AdmitsBy Failover key s slots Opens i = (is_first key s.consumers ≡ true) × IsLeast Opens i
AdmitsBy Shared key s slots Opens i = Opens i
AdmitsBy KeyShared key s slots Opens i = IsSomeAnd (seat_of key s.seats) (λ seat. IsLeastIn seat.ranges slots Opens i)

-- a consumer may get position i of so many committed ones: it is attached and has a permit, and its mode lets it
pub record AdmitsOn (s : Subscription) (key : ConsumerKey) (slots : List ℕ) (committed i : ℕ) : Type 0 where
  pub permit : has_permit (find (is_consumer key) s.consumers) ≡ true
  pub served : AdmitsBy s.mode key s slots (IsOpenAt committed s.acked s.deliveries) i

abbrev pub AdmitsAt : Option Subscription → ConsumerKey → List ℕ → ℕ → ℕ → Type 0
AdmitsAt None key slots committed i = ⊥
AdmitsAt (Some s) key slots committed i = AdmitsOn s key slots committed i

abbrev pub Admits : Subscriptions → ConsumerKey → ℕ → ℕ → Type 0
Admits t key committed i = AdmitsAt (find (is_on key) t.subs) key t.slots committed i

-- MESSAGE: the consumer holds the position, which was sent once more, and got as many messages more as its entry has
abbrev pub sent_more : ℕ → Consumer → Consumer
sent_more n c = record c { sent = c.sent + n }

abbrev pub sent_on : ConsumerKey → ℕ → ℕ → Subscription → Subscription
sent_on key n i s = record s {
  consumers = first_changed (is_consumer key) (sent_more n) s.consumers;
  deliveries = map.insert s.deliveries i (sent_to key (map.get s.deliveries i));
}

abbrev pub sent : Subscriptions → ConsumerKey → ℕ → Subscriptions
sent t key i = record t { subs = first_changed (is_on key) (sent_on key (slice_index t.messages i) i) t.subs }

-- how often a position was sent before on the consumer's subscription
abbrev pub times_at : Option Subscription → ℕ → ℕ
times_at None i = 0
times_at (Some s) i = times s.deliveries i

abbrev pub sent_before : Subscriptions → ConsumerKey → ℕ → ℕ
sent_before t key i = times_at (find (is_on key) t.subs) i

-- a session leaves: its consumers go, and what they hold is free; the counts stay
abbrev pub is_of : ℕ → Option ConsumerKey → Bool
is_of who None = false
is_of who (Some key) = nat_eq key.session who

abbrev pub freed : ℕ → Delivery → Delivery
freed who d = record { holder = cond (is_of who d.holder) None d.holder; times = d.times }

-- each delivery is changed, by its position
abbrev pub each_delivery : (ℕ → Delivery → Delivery) → Deliveries → Deliveries
each_delivery change deliveries = map.from_entries (each (λ e. (e.0, change e.0 e.1)) (map.entries deliveries))

abbrev pub freed_by : ℕ → Deliveries → Deliveries
freed_by who deliveries = each_delivery (λ i d. freed who d) deliveries

abbrev pub left_on : ℕ → Subscription → Subscription
left_on who s = record s {
  consumers = filter (λ c. not (nat_eq c.key.session who)) s.consumers;
  seats = filter (λ c. not (nat_eq c.key.session who)) s.seats;
  deliveries = freed_by who s.deliveries;
}

abbrev pub left : Subscriptions → ℕ → Subscriptions
left t who = record t { subs = each (λ s. left_on who s) t.subs }

-- CLOSE_CONSUMER: the consumer goes, and what it holds is free; the counts stay
abbrev pub detached_on : ConsumerKey → Subscription → Subscription
detached_on key s = record s {
  consumers = filter (λ c. not (is_consumer key c)) s.consumers;
  seats = without key s.seats;
  deliveries = each_delivery (λ i d. given_back key d) s.deliveries;
}

abbrev pub detached : Subscriptions → ConsumerKey → Subscriptions
detached t key = record t { subs = first_changed (is_on key) (detached_on key) t.subs }

-- REDELIVER: which positions a consumer is asked to give back: those that are named, where its mode serves many, and else all
abbrev pub is_asked_back : Mode → Option (List ℕ) → ℕ → Bool
is_asked_back mode None i = true
is_asked_back mode (Some positions) i = not (serves_many mode) || set.contains (listed positions) i

-- it gives back those that it holds of them; the counts stay, and the permits are spent
abbrev pub redelivered_on : ConsumerKey → Option (List ℕ) → Subscription → Subscription
redelivered_on key asked s = record s {
  deliveries = each_delivery (λ i d. cond (is_asked_back s.mode asked i) (given_back key d) d) s.deliveries;
}

abbrev pub redelivered : Subscriptions → ConsumerKey → Option (List ℕ) → Subscriptions
redelivered t key asked = record t { subs = first_changed (is_on key) (redelivered_on key asked) t.subs }

-- the mode of a consumer's subscription serves many
abbrev pub is_among_many : Option Subscription → Bool
is_among_many None = false
is_among_many (Some s) = serves_many s.mode

abbrev pub shares : Subscriptions → ConsumerKey → Bool
shares t key = is_among_many (find (is_on key) t.subs)

-- the first changes are durable
abbrev pub settled : Subscriptions → ℕ → Subscriptions
settled t count = record t { changes = drop count t.changes }
