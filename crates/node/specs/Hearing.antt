-- What can be read in the bytes that went out to a session.
use Rattle.std.specs.Prelude.{◌≡◌, ◌⊎◌, ℕ, Option, List}
use Rattle.std.specs.List.{AllByRecursion}
use Rattle.topic_core.specs.declared.dispatch.Outgoing.{Outgoing}
use Rattle.session.specs.Broker.{Broker, topic_at}
use Rattle.session.specs.Client.{frames_of, AreBounded}
use Rattle.node.specs.Moves.{Handed}
use Rattle.node.specs.Telling.{IsAtOnce, bytes_to}
use Rattle.node.specs.Finding.{sends_by, Finds}
use Rattle.node.specs.Delivering.{Delivers}
use Rattle.node.specs.Promising.{nothing_yet}
use Rattle.node.specs.Answering.{Answers}
use Rattle.node.specs.Laws.{AccountsTo}
use Rattle.node.specs.declared.event.Output.{Output}

-- a frame that goes out to a session, as a topic hands it to the session
abbrev pub handed_to : ℕ → Outgoing → Handed
handed_to who one = record { session = who; reply = one.reply; entry = one.entry }

-- a topic accounts for a frame that went out to a session: a receipt is that of the session's SEND, whose entry stands in the
-- ledger, a message was admitted to the session's consumer, and is the entry that stands there, and an acceptance is the answer that
-- the session was owed first, to a command of it that was accepted, and what is left of its promise stands
pub record IsAccountedFor {old : Broker} {hearers : List (Option ℕ)} {outputs : List Output} {new : Broker} (account : AccountsTo old hearers outputs new) (who : ℕ) (one : Outgoing) : Type 0 where
  pub topic : ℕ
  pub receipt : Finds (sends_by (topic_at old topic) (account.each topic).moves (topic_at new topic) (account.each topic).steps) (topic_at new topic).ledger (handed_to who one)
  pub message : Delivers (topic_at old topic) (account.each topic).moves (topic_at new topic).ledger (handed_to who one)
  pub answer : Answers (topic_at old topic) (account.each topic).moves (topic_at new topic) (account.each topic).steps nothing_yet (handed_to who one)

-- However frames of replies within their bounds are read in the bytes that went out to a session, each of them that is a receipt, a
-- message or an acceptance is accounted for; a SUCCESS may be that of a CLOSE_CONSUMER of the session that a topic accepted.
abbrev pub FramesAreAccountedFor : Type 0
FramesAreAccountedFor = (old : Broker) (hearers : List (Option ℕ)) (outputs : List Output) (new : Broker) (account : AccountsTo old hearers outputs new)
    (who : ℕ) (frames : List Outgoing) → AreBounded frames → frames_of frames ≡ bytes_to who hearers outputs
    → AllByRecursion (λ one. IsAtOnce (λ number. (account.each number).moves) who one.reply ⊎ IsAccountedFor account who one) frames
