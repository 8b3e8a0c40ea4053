-- The replies that a topic owes to its sessions.
use Rattle.std.specs.Prelude.{ℕ, Bool, true, false, cond, nat_eq, List, [], ◌∷◌, ◌++◌, Some, length, take, drop, map, count_by}
use Rattle.commands.specs.declared.server_error.ServerError.TheVariants.{PersistenceError}
use Rattle.commands.specs.declared.reply.Reply.{Reply}
use Rattle.commands.specs.declared.reply.Reply.TheVariants.{Connected, ProducerSuccess, SendReceipt, SendError, Message, Success, Error, PartitionedMetadataResponse, LookupResponse, AckResponse, Pong}

-- what a topic owes to one session, in order: replies that are due, and then those that await a flush
pub record SessionReplies : Type 0 where
  pub session : ℕ
  pub due : List Reply
  pub pending : List Reply
  pub handed_on : ℕ  -- how many of the first pending ones a flush handed on that hasn't ended

abbrev pub is_receipt : Reply → Bool
is_receipt Connected = false
is_receipt (ProducerSuccess request_id name) = false
is_receipt (SendReceipt producer_id sequence_id id) = true
is_receipt (SendError producer_id sequence_id error) = false
is_receipt (Message consumer_id id redelivery_count) = false
is_receipt (Success request_id) = false
is_receipt (Error request_id error) = false
is_receipt (PartitionedMetadataResponse request_id error) = false
is_receipt (LookupResponse request_id service_url) = false
is_receipt (AckResponse consumer_id error request_id) = false
is_receipt Pong = false

abbrev pub receipts_in : List Reply → ℕ
receipts_in replies = count_by is_receipt replies

abbrev pub is_for : ℕ → SessionReplies → Bool
is_for who q = nat_eq q.session who

-- the replies that are due to a session, and those that await a flush for it
abbrev pub due_to : ℕ → List SessionReplies → List Reply
due_to who [] = []
due_to who (q ∷ queues) = cond (is_for who q) q.due (due_to who queues)

abbrev pub pending_to : ℕ → List SessionReplies → List Reply
pending_to who [] = []
pending_to who (q ∷ queues) = cond (is_for who q) q.pending (pending_to who queues)

-- one more reply awaits a flush
abbrev pub with_pending : Reply → SessionReplies → SessionReplies
with_pending reply q = record q { pending = q.pending ++ reply ∷ [] }

-- it awaits it in the queue of its session, which is made where there is none
abbrev pub queued : ℕ → Reply → List SessionReplies → List SessionReplies
queued who reply [] = record { session = who; due = []; pending = reply ∷ []; handed_on = 0 } ∷ []
queued who reply (q ∷ queues) = cond (is_for who q) (with_pending reply q ∷ queues) (q ∷ queued who reply queues)

-- the first due reply leaves
abbrev pub without_first : SessionReplies → SessionReplies
without_first q = record q { due = drop 1 q.due }

-- it leaves the queue of its session
abbrev pub collected_from : ℕ → List SessionReplies → List SessionReplies
collected_from who [] = []
collected_from who (q ∷ queues) = cond (is_for who q) (without_first q ∷ queues) (q ∷ collected_from who queues)

-- a flush hands on all replies that await one
abbrev pub hand_on : SessionReplies → SessionReplies
hand_on q = record q { handed_on = length q.pending }

-- it ended well: those are due
abbrev pub make_due : SessionReplies → SessionReplies
make_due q = record q { due = q.due ++ take q.handed_on q.pending; pending = drop q.handed_on q.pending; handed_on = 0 }

-- it ended without an effect: they await another one
abbrev pub take_back : SessionReplies → SessionReplies
take_back q = record q { handed_on = 0 }

-- all pending replies of a session are due
abbrev pub make_all_due : SessionReplies → SessionReplies
make_all_due q = record q { due = q.due ++ q.pending; pending = []; handed_on = 0 }

-- what a reply is where the flush that it awaited met a failure of the device
abbrev pub refused : Reply → Reply
refused Connected = Connected
refused (ProducerSuccess request_id name) = Error request_id PersistenceError
refused (SendReceipt producer_id sequence_id id) = SendError producer_id sequence_id PersistenceError
refused (SendError producer_id sequence_id error) = SendError producer_id sequence_id error
refused (Message consumer_id id redelivery_count) = Message consumer_id id redelivery_count
refused (Success request_id) = Error request_id PersistenceError
refused (Error request_id error) = Error request_id error
refused (PartitionedMetadataResponse request_id error) = PartitionedMetadataResponse request_id error
refused (LookupResponse request_id service_url) = LookupResponse request_id service_url
refused (AckResponse consumer_id error request_id) = AckResponse consumer_id (Some PersistenceError) request_id
refused Pong = Pong

-- it failed: all pending replies of a session are due as refusals
abbrev pub refuse_pending : SessionReplies → SessionReplies
refuse_pending q = record q { due = q.due ++ map (λ reply. refused reply) q.pending; pending = []; handed_on = 0 }
