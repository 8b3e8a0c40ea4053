-- What can't be read is Unreadable: only the command of a type can be Missing.
use Rattle.std.proofs.Common.{◌≡◌, ℕ, List, [], ◌∷◌, Option, Some, None, Result, Ok, Err, Bool, true, false, cond, nat_eq, ap, sym}
use Rattle.proto_fields.specs.declared.value.Field.{Field}
use Rattle.proto_fields.specs.declared.value.Value.{Value}
use Rattle.commands.specs.declared.fault.CommandFault.{CommandFault}
use Rattle.commands.specs.declared.fault.CommandFault.TheVariants.{Unreadable}
use Rattle.commands.specs.declared.command.CommandType.{CommandType}
use Rattle.commands.specs.declared.command.CommandType.TheVariants.{Ping}
use Rattle.commands.specs.declared.key_shared.KeySharedMode.TheVariants.{AutoSplit, Sticky}
use Rattle.commands.specs.declared.consuming.SubscriptionType.TheVariants.{Exclusive, Shared, Failover, KeyShared}
use Rattle.commands.specs.declared.consuming.InitialPosition.TheVariants.{Latest, Earliest}
use Rattle.commands.specs.declared.consuming.AckType.TheVariants.{Individual, Cumulative}
use Rattle.commands.specs.Reading.{◌>>=◌, required}
use Rattle.commands.specs.Message.{message_fields, varint_of, content_of, occurrences, last_field, u64_field, bytes_field, message_field, message_value_field, each, repeated_field, kept, as_u32, as_bool, as_i32, as_text, u32_field, bool_field, i32_field, text_field}
use Rattle.commands.specs.Connection.{connect_of}
use Rattle.commands.specs.Producing.{producer_of, send_of, close_producer_of}
use Rattle.commands.specs.MessageIds.{message_id_of}
use Rattle.commands.specs.KeyShared.{key_shared_mode, int_range_of, key_shared_meta_of}
use Rattle.commands.specs.Consuming.{subscription_type, initial_position, ack_type, subscribe_numbers, subscribe_of, ack_of, flow_of, unsubscribe_of}
use Rattle.commands.specs.GivingBack.{close_consumer_of, redeliver_of}
use Rattle.commands.specs.Lookup.{partitioned_topic_metadata_of, lookup_topic_of}
use Rattle.commands.specs.Commands.{command_in}
use Rattle.commands.proofs.Walk.{message_fields-err, varint_of-err, content_of-err}

-- the only fault is Unreadable
pub record IsReadable {A : Type 0} (r : Result A CommandFault) : Type 0 where
  pub only : (e : CommandFault) → r ≡ Err e → e ≡ Unreadable

pub only-ok : {A : Type 0} (x : A) → IsReadable (Ok x)
only-ok x = record { only = λ e h. cc }

pub only-unreadable : {A : Type 0} → IsReadable {A = A} (Err Unreadable)
only-unreadable {A} = record { only = λ e h. cc }

pub only-bind : {A B : Type 0} {r : Result A CommandFault} {f : A → Result B CommandFault} → IsReadable r → ((x : A) → IsReadable (f x)) → IsReadable (r >>= f)
only-bind {A} {B} {r} {f} h k =
    elim r as (λ q. IsReadable q → IsReadable (q >>= f)) [ Ok x ↦ λ _. k x | Err e ↦ λ only. record { only = λ e' same. only.only e' (let is : e ≡ e' = cc in ap (λ x. Err x) is) } ] h

pub only-cond : {A : Type 0} (b : Bool) (x y : Result A CommandFault) → IsReadable x → IsReadable y → IsReadable (cond b x y)
only-cond true x y h k = h
only-cond false x y h k = k

pub only-required : {A : Type 0} (found : Option A) → IsReadable (required found)
only-required (Some x) = only-ok x
only-required None = only-unreadable

pub only-kept : {A B : Type 0} (read : A → Result B CommandFault) (found : Option A) → ((x : A) → IsReadable (read x)) → IsReadable (kept read found)
only-kept read (Some x) h = only-bind (h x) (λ value. only-ok (Some value))
only-kept read None h = only-ok None

pub only-fields : (bytes : List ℕ) → IsReadable (message_fields bytes)
only-fields bytes = record { only = message_fields-err bytes }

only-occurrences : {A : Type 0} (kind : Value → Result A CommandFault) (k : ℕ) (fields : List Field) → ((v : Value) → IsReadable (kind v)) → IsReadable (occurrences kind k fields)
unfolding occurrences
only-occurrences kind k [] h = only-ok []
only-occurrences kind k (field ∷ fields) h =
    only-cond (nat_eq field.number k) _ _
    (only-bind (h field.value) (λ first. only-bind (only-occurrences kind k fields h) (λ others. only-ok (first ∷ others))))
    (only-occurrences kind k fields h)

only-last : {A : Type 0} (kind : Value → Result A CommandFault) (k : ℕ) (fields : List Field) → ((v : Value) → IsReadable (kind v)) → IsReadable (last_field kind k fields)
unfolding last_field
only-last kind k fields h = only-bind (only-occurrences kind k fields h) (λ found. only-ok _)

pub only-u64 : (k : ℕ) (fields : List Field) → IsReadable (u64_field k fields)
only-u64 k fields = only-last varint_of k fields (λ v. record { only = λ e h. varint_of-err v e (sym h) })

pub only-bytes : (k : ℕ) (fields : List Field) → IsReadable (bytes_field k fields)
only-bytes k fields = only-last content_of k fields (λ v. record { only = λ e h. content_of-err v e (sym h) })

pub only-message : (k : ℕ) (fields : List Field) → IsReadable (message_field k fields)
unfolding message_field
only-message k fields = only-bind (only-occurrences content_of k fields (λ v. record { only = λ e h. content_of-err v e (sym h) })) (λ parts. only-ok _)

pub only-value : {A : Type 0} (read : List ℕ → Result A CommandFault) (k : ℕ) (fields : List Field) → ((bytes : List ℕ) → IsReadable (read bytes)) → IsReadable (message_value_field read k fields)
unfolding message_value_field
only-value read k fields h = only-bind (only-message k fields) (λ found. only-kept read found h)

only-each : {A : Type 0} (read : List ℕ → Result A CommandFault) (parts : List (List ℕ)) → ((bytes : List ℕ) → IsReadable (read bytes)) → IsReadable (each read parts)
only-each read [] h = only-ok []
only-each read (part ∷ parts) h = only-bind (h part) (λ first. only-bind (only-each read parts h) (λ others. only-ok (first ∷ others)))

pub only-repeated : {A : Type 0} (read : List ℕ → Result A CommandFault) (k : ℕ) (fields : List Field) → ((bytes : List ℕ) → IsReadable (read bytes)) → IsReadable (repeated_field read k fields)
unfolding repeated_field
only-repeated read k fields h = only-bind (only-occurrences content_of k fields (λ v. record { only = λ e h. content_of-err v e (sym h) })) (λ parts. only-each read parts h)

pub only-u32 : (k : ℕ) (fields : List Field) → IsReadable (u32_field k fields)
unfolding u32_field
only-u32 k fields = only-bind (only-u64 k fields) (λ found. only-kept as_u32 found (λ n. only-cond _ _ _ (only-ok n) only-unreadable))

pub only-bool : (k : ℕ) (fields : List Field) → IsReadable (bool_field k fields)
unfolding bool_field
only-bool k fields = only-bind (only-u64 k fields) (λ found. only-kept as_bool found (λ n. only-cond _ _ _ (only-ok false) (only-cond _ _ _ (only-ok true) only-unreadable)))

pub only-i32 : (k : ℕ) (fields : List Field) → IsReadable (i32_field k fields)
unfolding i32_field
only-i32 k fields = only-bind (only-u64 k fields) (λ found. only-kept as_i32 found (λ n. only-cond _ _ _ (only-ok _) only-unreadable))

pub only-text : (k : ℕ) (fields : List Field) → IsReadable (text_field k fields)
unfolding text_field
only-text k fields = only-bind (only-bytes k fields) (λ found. only-kept as_text found (λ bytes. only-cond _ _ _ (only-ok bytes) only-unreadable))

-- the numbers of enumerations
only-mode : (k : ℕ) → IsReadable (key_shared_mode k)
only-mode k = only-cond (nat_eq k 0) _ _ (only-ok AutoSplit) (only-cond (nat_eq k 1) _ _ (only-ok Sticky) only-unreadable)

only-type : (k : ℕ) → IsReadable (subscription_type k)
only-type k =
    only-cond (nat_eq k 0) _ _ (only-ok Exclusive) (only-cond (nat_eq k 1) _ _ (only-ok Shared)
    (only-cond (nat_eq k 2) _ _ (only-ok Failover) (only-cond (nat_eq k 3) _ _ (only-ok KeyShared) only-unreadable)))

only-position : (k : ℕ) → IsReadable (initial_position k)
only-position k = only-cond (nat_eq k 0) _ _ (only-ok Latest) (only-cond (nat_eq k 1) _ _ (only-ok Earliest) only-unreadable)

only-ack_type : (k : ℕ) → IsReadable (ack_type k)
only-ack_type k = only-cond (nat_eq k 0) _ _ (only-ok Individual) (only-cond (nat_eq k 1) _ _ (only-ok Cumulative) only-unreadable)

-- the messages inside commands
only-message_id : (bytes : List ℕ) → IsReadable (message_id_of bytes)
unfolding message_id_of
only-message_id bytes = search (only-bind, only-ok, only-fields, only-required, only-u64, only-i32) depth 12

only-range : (bytes : List ℕ) → IsReadable (int_range_of bytes)
unfolding int_range_of
only-range bytes = search (only-bind, only-ok, only-fields, only-required, only-i32) depth 12

only-ids : (k : ℕ) (fields : List Field) → IsReadable (repeated_field message_id_of k fields)
only-ids k fields = only-repeated message_id_of k fields only-message_id

only-ranges : (k : ℕ) (fields : List Field) → IsReadable (repeated_field int_range_of k fields)
only-ranges k fields = only-repeated int_range_of k fields only-range

only-meta : (bytes : List ℕ) → IsReadable (key_shared_meta_of bytes)
unfolding key_shared_meta_of
only-meta bytes = search (only-bind, only-ok, only-fields, only-required, only-u64, only-mode, only-ranges) depth 12

only-id_value : (k : ℕ) (fields : List Field) → IsReadable (message_value_field message_id_of k fields)
only-id_value k fields = only-value message_id_of k fields only-message_id

only-meta_value : (k : ℕ) (fields : List Field) → IsReadable (message_value_field key_shared_meta_of k fields)
only-meta_value k fields = only-value key_shared_meta_of k fields only-meta

-- the content of a command: the line below names the definitions of the commands' contents
pub only-command : (kind : CommandType) (body : List ℕ) → IsReadable (command_in kind body)
unfolding command_in connect_of producer_of send_of close_producer_of subscribe_numbers subscribe_of ack_of flow_of unsubscribe_of close_consumer_of redeliver_of partitioned_topic_metadata_of lookup_topic_of
only-command Ping body = only-bind (only-bind (only-fields body) (λ fields. only-ok tt)) (λ c. only-ok _)
only-command other body =
    search (only-bind, only-ok, only-fields, only-required, only-u64, only-u32, only-bool, only-bytes, only-i32, only-text, only-type, only-position, only-ack_type, only-ids, only-id_value, only-meta_value) depth 20
