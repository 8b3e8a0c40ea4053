-- Receipts, answers and messages rest on frames that came in.
use Rattle.std.proofs.Common.{◌≡◌, ◌⊎◌, inl, inr, ⊎_elim, ◌∙◌, ℕ, zero, suc, ◌+◌, ◌<◌, ◌≤◌, Bool, true, false, cond, not, nat_eq, Option, Some, None, Result, List, [], ◌∷◌, ◌++◌, map, filter, refl, sym, ap, subst, append_assoc, arith}
use Rattle.std.proofs.lemmas.Bool.{eq-eqb, eqb-true}
use Rattle.std.specs.List.{AllByRecursion, find}
use Rattle.commands.specs.declared.command.Command.{Command as ClientCommand}
use Rattle.commands.specs.declared.command.Command.TheVariants as command
use Rattle.commands.specs.declared.giving_back.CloseConsumer.{CloseConsumer}
use Rattle.commands.specs.declared.producing.Send.{Send as ClientSend}
use Rattle.commands.specs.declared.reply.Reply.{Reply}
use Rattle.commands.specs.declared.reply.Reply.TheVariants.{SendReceipt}
use Rattle.commands.specs.declared.server_error.ServerError.{ServerError}
use Rattle.frames.specs.declared.frame.Frame.{Frame}
use Rattle.frames.specs.declared.frame.FrameEntry.{FrameEntry}
use Rattle.frames.specs.declared.frame.FrameEntry.TheVariants as behind
use Rattle.frames.specs.declared.plain_entry.PlainEntry.{PlainEntry as FramePlain}
use Rattle.frames.specs.Streams.{BeginsWith}
use Rattle.ids.specs.Ids.{message_id_at}
use Rattle.managed_ledger.specs.Entries.{end_of}
use Rattle.permits.specs.declared.plain.TooManyPermits.{TooManyPermits}
use Rattle.topic_core.specs.declared.command.Answer.{Answer}
use Rattle.topic_core.specs.declared.command.Answer.TheVariants.{Now, Later, Nothing, NoMemory}
use Rattle.topic_core.specs.declared.command.Send.{Send}
use Rattle.topic_core.specs.declared.command.SentEntry.{SentEntry}
use Rattle.topic_core.specs.declared.command.SentEntry.TheVariants as sent
use Rattle.topic_core.specs.declared.command.TopicCommand.{TopicCommand}
use Rattle.topic_core.specs.declared.command.TopicCommand.TheVariants as asked
use Rattle.topic_core.specs.declared.dispatch.Outgoing.{Outgoing}
use Rattle.topic_core.specs.State.{Topic, next_position, receipts_due}
use Rattle.topic_core.specs.Steps.{TopicStep, is_checksummed, bytes_of}
use Rattle.session.specs.Broker.{Broker, topic_at}
use Rattle.session.specs.Producing.{plain_entry, sent_entry, send_command}
use Rattle.node.specs.Cuts.{Turn}
use Rattle.node.specs.Moves.{Handed, Move, Command, Tell, Lose, Grant, Deliver, Miss, Leave, Flush, Take, Finish, Reopen, Crash, Cut, MoveStep, Moves, is_crash}
use Rattle.node.specs.Origins.{Asked, Origin, Worked, Opened, has_origin, moves_for, moves_from, AsksFor, AsksOnly, AsksSo, frames_in, openings_among}
use Rattle.node.specs.Incoming.{IsFront, bytes_in, openings_in, ComesFrom}
use Rattle.node.specs.Telling.{IsAtOnce, from_topic, receipts_told}
use Rattle.node.specs.Finding.{Sent, sent_at, sent_by, sends_on, sends_by, IsLatest}
use Rattle.node.specs.Promising.{Promise, Release, Owed, Word, unless_released, released_by, released, is_to, first_owed, without_first, is_acceptance, word_after, nothing_yet}
use Rattle.node.specs.Answering.{IsAnswered}
use Rattle.node.specs.Delivering.{IsDelivered}
use Rattle.node.specs.Laws.{AccountsTo, IsAtStart}
use Rattle.node.specs.Hearing.{IsAccountedFor, handed_to}
use Rattle.node.specs.Grounds.{CameIn, AnswersSend, AnswersFrame, AnswersClose, RestsOnFrames, IsGrounded as IsGroundedFor, AreGrounded as Grounded}
use Rattle.node.specs.declared.event.Output.{Output}
use Rattle.node.proofs.Commands.{no_first, unrefused}
use Rattle.node.proofs.Finding.{moves_publish}
use Rattle.node.proofs.Hearing.{frames_accounted}
use Rattle.node.proofs.Streams.{above_or_below, all_first, all_last, all_join, all_to}

-- ---- a frame among those that came in

cond-append : (b : Bool) (f : Frame) (xs ys : List Frame) → cond b (f ∷ (xs ++ ys)) (xs ++ ys) ≡ cond b (f ∷ xs) xs ++ ys
cond-append true f xs ys = refl
cond-append false f xs ys = refl

none_opened : (n : ℕ) → 0 ≡ suc n → ⊥
none_opened n is = omega (arith, is)

one_opened : (n : ℕ) → suc n ≡ 0 → ⊥
one_opened n is = omega (arith, is)

one_less : (m n : ℕ) → suc m ≡ suc n → m ≡ n
one_less m n is = omega (arith, is)

-- it is worked behind so many openings, and behind so many frames of its session
worked_behind : (n : ℕ) (done rest : List Origin) (who : ℕ) (f : Frame) (asks : Option Asked) → openings_among done ≡ n
    → frames_in n who (done ++ Worked who f asks ∷ rest) ≡ frames_in n who done ++ f ∷ frames_in 0 who rest
worked_behind zero [] rest who f asks is = ap (λ (b : Bool). cond b (f ∷ frames_in 0 who rest) (frames_in 0 who rest)) (eq-eqb who who refl)
worked_behind (suc n) [] rest who f asks is = absurd (none_opened n is)
worked_behind zero (Worked other g more ∷ done) rest who f asks is =
    ap (λ (l : List Frame). cond (nat_eq other who) (g ∷ l) l) (worked_behind zero done rest who f asks is) ∙ cond-append (nat_eq other who) g (frames_in 0 who done) (f ∷ frames_in 0 who rest)
worked_behind (suc n) (Worked other g more ∷ done) rest who f asks is = worked_behind (suc n) done rest who f asks is
worked_behind zero (Opened ∷ done) rest who f asks is = absurd (one_opened (openings_among done) is)
worked_behind (suc n) (Opened ∷ done) rest who f asks is = worked_behind n done rest who f asks (one_less (openings_among done) n is)

-- fewer frames stand at the front, too
front_before : (stream : List ℕ) (xs ys : List Frame) (rest : List ℕ) → BeginsWith stream (xs ++ ys) rest → IsFront stream xs
front_before stream [] ys rest h = (stream, refl)
front_before stream (x ∷ xs) ys rest h =
    let f = front_before h.1 xs ys rest h.4 in
    (f.0, (h.0, h.1, h.2, h.3, f.1))

-- ---- what a frame asks for

same_session : (who other : ℕ) (c d : TopicCommand) (a b : Answer) → Command who c a ≡ Command other d b → other ≡ who
same_session who other c d a b is = cc

no_grant : (who other id permits : ℕ) (c : TopicCommand) (a : Answer) (result : Result (Unit {0}) TooManyPermits) → Command who c a ≡ Grant other id permits result → ⊥
no_grant who other id permits c a result is = cc

same_command : (who other : ℕ) (c d : TopicCommand) (a b : Answer) → Command who c a ≡ Command other d b → c ≡ d
same_command who other c d a b is = cc

-- it asks in its own session
own_session : (cmd : ClientCommand) (entry : FrameEntry) (other who : ℕ) (c : TopicCommand) (a : Answer) → AsksFor other cmd entry (Command who c a) → other ≡ who
own_session (command.Connect k) entry other who c a s = absurd s
own_session (command.Producer k) entry other who c a s = same_session who other c _ a s.0 s.1
own_session (command.Send k) entry other who c a s = same_session who other c _ a s.2.0 s.2.1
own_session (command.Subscribe k) entry other who c a s = same_session who other c _ a s.1.0 s.1.1
own_session (command.Flow k) entry other who c a s = absurd (no_grant who other k.consumer_id k.message_permits c a s.0 s.1)
own_session (command.Ack k) entry other who c a s = same_session who other c _ a s.0 s.1
own_session (command.Unsubscribe k) entry other who c a s = same_session who other c _ a s.0 s.1
own_session (command.CloseProducer k) entry other who c a s = same_session who other c _ a s.0 s.1
own_session (command.CloseConsumer k) entry other who c a s = same_session who other c _ a s.0 s.1
own_session command.Ping entry other who c a s = absurd s
own_session command.Pong entry other who c a s = absurd s
own_session (command.RedeliverUnacknowledgedMessages k) entry other who c a s = same_session who other c _ a s.0 s.1
own_session (command.PartitionedMetadata k) entry other who c a s = absurd s
own_session (command.Lookup k) entry other who c a s = absurd s
own_session (command.Other k) entry other who c a s = absurd s

-- a SEND is asked for by a SEND
record IsSend (cmd : ClientCommand) (entry : FrameEntry) (send : Send) : Type 0 where
  asks : ClientSend
  is : cmd ≡ command.Send asks
  carries : SentEntry
  stands : sent_entry entry ≡ Some carries
  same : asked.Send send ≡ send_command asks carries

send_asked : (cmd : ClientCommand) (entry : FrameEntry) (who : ℕ) (send : Send) (a : Answer) → AsksFor who cmd entry (Command who (asked.Send send) a) → IsSend cmd entry send
send_asked (command.Connect k) entry who send a s = absurd s
send_asked (command.Producer k) entry who send a s = absurd (let other = same_command who who (asked.Send send) _ a s.0 s.1 in cc)
send_asked (command.Send k) entry who send a s = record { asks = k; is = refl; carries = s.0; stands = s.1; same = same_command who who (asked.Send send) (send_command k s.0) a s.2.0 s.2.1 }
send_asked (command.Subscribe k) entry who send a s = absurd (let other = same_command who who (asked.Send send) _ a s.1.0 s.1.1 in cc)
send_asked (command.Flow k) entry who send a s = absurd (no_grant who who k.consumer_id k.message_permits (asked.Send send) a s.0 s.1)
send_asked (command.Ack k) entry who send a s = absurd (let other = same_command who who (asked.Send send) _ a s.0 s.1 in cc)
send_asked (command.Unsubscribe k) entry who send a s = absurd (let other = same_command who who (asked.Send send) _ a s.0 s.1 in cc)
send_asked (command.CloseProducer k) entry who send a s = absurd (let other = same_command who who (asked.Send send) _ a s.0 s.1 in cc)
send_asked (command.CloseConsumer k) entry who send a s = absurd (let other = same_command who who (asked.Send send) _ a s.0 s.1 in cc)
send_asked command.Ping entry who send a s = absurd s
send_asked command.Pong entry who send a s = absurd s
send_asked (command.RedeliverUnacknowledgedMessages k) entry who send a s = absurd (let other = same_command who who (asked.Send send) _ a s.0 s.1 in cc)
send_asked (command.PartitionedMetadata k) entry who send a s = absurd s
send_asked (command.Lookup k) entry who send a s = absurd s
send_asked (command.Other k) entry who send a s = absurd s

same_close : (c d : CloseConsumer) → asked.CloseConsumer c ≡ asked.CloseConsumer d → d ≡ c
same_close c d is = cc

-- and a CLOSE_CONSUMER by a CLOSE_CONSUMER
close_asked : (cmd : ClientCommand) (entry : FrameEntry) (who : ℕ) (close : CloseConsumer) (a : Answer) → AsksFor who cmd entry (Command who (asked.CloseConsumer close) a) → cmd ≡ command.CloseConsumer close
close_asked (command.Connect k) entry who close a s = absurd s
close_asked (command.Producer k) entry who close a s = absurd (let other = same_command who who (asked.CloseConsumer close) _ a s.0 s.1 in cc)
close_asked (command.Send k) entry who close a s = absurd (let other = same_command who who (asked.CloseConsumer close) _ a s.2.0 s.2.1 in cc)
close_asked (command.Subscribe k) entry who close a s = absurd (let other = same_command who who (asked.CloseConsumer close) _ a s.1.0 s.1.1 in cc)
close_asked (command.Flow k) entry who close a s = absurd (no_grant who who k.consumer_id k.message_permits (asked.CloseConsumer close) a s.0 s.1)
close_asked (command.Ack k) entry who close a s = absurd (let other = same_command who who (asked.CloseConsumer close) _ a s.0 s.1 in cc)
close_asked (command.Unsubscribe k) entry who close a s = absurd (let other = same_command who who (asked.CloseConsumer close) _ a s.0 s.1 in cc)
close_asked (command.CloseProducer k) entry who close a s = absurd (let other = same_command who who (asked.CloseConsumer close) _ a s.0 s.1 in cc)
close_asked (command.CloseConsumer k) entry who close a s = ap (λ (x : CloseConsumer). command.CloseConsumer x) (same_close close k (same_command who who (asked.CloseConsumer close) (asked.CloseConsumer k) a s.0 s.1))
close_asked command.Ping entry who close a s = absurd s
close_asked command.Pong entry who close a s = absurd s
close_asked (command.RedeliverUnacknowledgedMessages k) entry who close a s = absurd (let other = same_command who who (asked.CloseConsumer close) _ a s.0 s.1 in cc)
close_asked (command.PartitionedMetadata k) entry who close a s = absurd s
close_asked (command.Lookup k) entry who close a s = absurd s
close_asked (command.Other k) entry who close a s = absurd s

-- the entry of a SEND that a topic takes stands behind its command
no_rest : (b : Bool) (e : ServerError) (o : Option ServerError) → cond b (Some e) o ≡ None → o ≡ None
no_rest true e o h = absurd cc
no_rest false e o h = h

no_checksum : (t : Topic) (who : ℕ) (send : Send) (u : Topic) → TopicStep t who (asked.Send send) Later u → is_checksummed send.entry ≡ false
no_checksum t who send u step = no_first _ _ _ (no_rest _ _ _ (unrefused t who send u step))

true_isnt : true ≡ false → ⊥
true_isnt is = cc

none_sent : (x : SentEntry) → None ≡ Some x → ⊥
none_sent x is = cc

same_sent : (x y : SentEntry) → Some x ≡ Some y → x ≡ y
same_sent x y is = cc

plain_behind : (entry : FrameEntry) (x : SentEntry) → sent_entry entry ≡ Some x → is_checksummed x ≡ false → (b : FramePlain) × (entry ≡ behind.Entry b) × (b.bytes ≡ bytes_of x)
plain_behind behind.Nothing x is plain = absurd (none_sent x is)
plain_behind behind.Checksummed x is plain = absurd (true_isnt (ap (λ (y : SentEntry). is_checksummed y) (same_sent sent.Checksummed x is) ∙ plain))
plain_behind (behind.Entry e) x is plain = (e, refl, ap (λ (y : SentEntry). bytes_of y) (same_sent (sent.Plain (plain_entry e)) x is))

same_send : (x y : Send) → asked.Send x ≡ asked.Send y → x ≡ y
same_send x y is = cc

-- what a frame asks for is no crash
no_crash : (cmd : ClientCommand) (entry : FrameEntry) (who : ℕ) (move : Move) → AsksFor who cmd entry move → is_crash move ≡ false
no_crash (command.Connect k) entry who move s = absurd s
no_crash (command.Producer k) entry who move s = ap (λ (m : Move). is_crash m) s.1
no_crash (command.Send k) entry who move s = ap (λ (m : Move). is_crash m) s.2.1
no_crash (command.Subscribe k) entry who move s = ap (λ (m : Move). is_crash m) s.1.1
no_crash (command.Flow k) entry who move s = ap (λ (m : Move). is_crash m) s.1
no_crash (command.Ack k) entry who move s = ap (λ (m : Move). is_crash m) s.1
no_crash (command.Unsubscribe k) entry who move s = ap (λ (m : Move). is_crash m) s.1
no_crash (command.CloseProducer k) entry who move s = ap (λ (m : Move). is_crash m) s.1
no_crash (command.CloseConsumer k) entry who move s = ap (λ (m : Move). is_crash m) s.1
no_crash command.Ping entry who move s = absurd s
no_crash command.Pong entry who move s = absurd s
no_crash (command.RedeliverUnacknowledgedMessages k) entry who move s = ap (λ (m : Move). is_crash m) s.1
no_crash (command.PartitionedMetadata k) entry who move s = absurd s
no_crash (command.Lookup k) entry who move s = absurd s
no_crash (command.Other k) entry who move s = absurd s

abbrev IsCalm : Move → Type 0
IsCalm move = is_crash move ≡ false

calm_asked : (number who : ℕ) (f : Frame) (asks : Option Asked) → AsksSo (Worked who f asks) → AllByRecursion IsCalm (moves_for number asks)
calm_asked number who f None is = tt
calm_asked number who f (Some asked) is = elim (nat_eq asked.topic number) as (λ b. AllByRecursion IsCalm (cond b (asked.move ∷ []) [])) [
  | true ↦ (no_crash f.command f.entry who asked.move is, tt)
  | false ↦ tt
]

calm_from : (number : ℕ) (origins : List Origin) → openings_among origins ≡ 0 → AllByRecursion AsksSo origins → AllByRecursion IsCalm (moves_from number origins)
calm_from number [] none asks = tt
calm_from number (Opened ∷ origins) none asks = absurd (one_opened (openings_among origins) none)
calm_from number (Worked who f more ∷ origins) none asks = all_join IsCalm (moves_for number more) (moves_from number origins) (calm_asked number who f more asks.0) (calm_from number origins none asks.1)

calm_move : (m : Move) → has_origin m ≡ false → IsCalm m
calm_move Crash is = absurd (true_isnt is)
calm_move (Command who c a) is = refl
calm_move (Grant who id permits result) is = refl
calm_move _ is = refl

calm_all : (moves : List Move) → AllByRecursion IsCalm (filter (λ move. has_origin move) moves) → AllByRecursion IsCalm moves
calm_all [] all = tt
calm_all (m ∷ ms) all = elim (has_origin m) as (λ b. has_origin m ≡ b → AllByRecursion IsCalm (cond b (m ∷ filter (λ move. has_origin move) ms) (filter (λ move. has_origin move) ms)) → IsCalm m × AllByRecursion IsCalm ms) [
  | true ↦ λ _ both. (both.0, calm_all ms both.1)
  | false ↦ λ none others. (calm_move m none, calm_all ms others)
] refl all

no_owed : (o : Owed) → None ≡ Some o → ⊥
no_owed o is = cc

same_owed : (x o : Owed) → Some x ≡ Some o → x ≡ o
same_owed x o is = cc

-- ---- moves that frames asked for

module _ (turns : List Turn) (outputs : List Output) (origins : List Origin) (fronts : (opening who : ℕ) → IsFront (bytes_in opening who turns outputs) (frames_in opening who origins)) where
  came_in : (done rest : List Origin) (who : ℕ) (f : Frame) (asks : Option Asked) → origins ≡ done ++ Worked who f asks ∷ rest → CameIn turns outputs who f
  came_in done rest who f asks is =
      let n = openings_among done in
      let there : frames_in n who origins ≡ (frames_in n who done ++ f ∷ []) ++ frames_in 0 who rest =
      ap (λ (l : List Origin). frames_in n who l) is ∙ worked_behind n done rest who f asks refl ∙ sym (append_assoc (frames_in n who done) (f ∷ []) (frames_in 0 who rest)) in
      let front = subst (λ (fs : List Frame). IsFront (bytes_in n who turns outputs) fs) there (fronts n who) in
      record { opening = n; before = frames_in n who done; stands = front_before (bytes_in n who turns outputs) (frames_in n who done ++ f ∷ []) (frames_in 0 who rest) front.0 front.1 }

  -- a move that is no crash is one that a frame asked for, which came in
  record IsAskedFor (move : Move) : Type 0 where
    who : ℕ
    frame : Frame
    came : CameIn turns outputs who frame
    asks : AsksFor who frame.command frame.entry move

  abbrev IsGrounded : Move → Type 0
  IsGrounded move = is_crash move ≡ false → IsAskedFor move

  asked_move : (number : ℕ) (who : ℕ) (f : Frame) (asks : Option Asked) → CameIn turns outputs who f → AsksOnly (AsksFor who f.command f.entry) asks → AllByRecursion IsGrounded (moves_for number asks)
  asked_move number who f None came is = tt
  asked_move number who f (Some asked) came is = elim (nat_eq asked.topic number) as (λ b. AllByRecursion IsGrounded (cond b (asked.move ∷ []) [])) [
    | true ↦ (λ plain. record { who = who; frame = f; came = came; asks = is }, tt)
    | false ↦ tt
  ]

  asks_only : (who : ℕ) (f : Frame) (asks : Option Asked) → AsksSo (Worked who f asks) → AsksOnly (AsksFor who f.command f.entry) asks
  asks_only who f None is = tt
  asks_only who f (Some asked) is = is

  all_grounded : (number : ℕ) (done rest : List Origin) → origins ≡ done ++ rest → AllByRecursion AsksSo rest → AllByRecursion IsGrounded (moves_from number rest)
  all_grounded number done [] is asks = tt
  all_grounded number done (Opened ∷ rest) is asks = (λ plain. absurd (true_isnt plain), all_grounded number (done ++ Opened ∷ []) rest (is ∙ sym (append_assoc done (Opened ∷ []) rest)) asks.1)
  all_grounded number done (Worked who f more ∷ rest) is asks =
      all_join IsGrounded (moves_for number more) (moves_from number rest) (asked_move number who f more (came_in done rest who f more is) (asks_only who f more asks.0))
      (all_grounded number (done ++ Worked who f more ∷ []) rest (is ∙ sym (append_assoc done (Worked who f more ∷ []) rest)) asks.1)

  -- each move that comes from what came in
  abbrev AreGrounded : List Move → Type 0
  AreGrounded moves = AllByRecursion (λ move. has_origin move ≡ true → IsGrounded move) moves

  of_caused : (moves : List Move) → AllByRecursion IsGrounded (filter (λ move. has_origin move) moves) → AreGrounded moves
  of_caused [] all = tt
  of_caused (m ∷ ms) all = elim (has_origin m) as (λ b. AllByRecursion IsGrounded (cond b (m ∷ filter (λ move. has_origin move) ms) (filter (λ move. has_origin move) ms)) → (b ≡ true → IsGrounded m) × AreGrounded ms) [
    | true ↦ λ both. (λ is. both.0, of_caused ms both.1)
    | false ↦ λ others. (λ is. absurd (true_isnt (sym is)), of_caused ms others)
  ] all

  -- a session's command among them
  commanded : (who : ℕ) (c : TopicCommand) (a : Answer) → (has_origin (Command who c a) ≡ true → IsGrounded (Command who c a)) → (f : Frame) × CameIn turns outputs who f × AsksFor who f.command f.entry (Command who c a)
  commanded who c a grounded =
      let g = grounded refl refl in
      let is : g.who ≡ who = own_session g.frame.command g.frame.entry g.who who c a g.asks in
      (g.frame, subst (λ n. CameIn turns outputs n g.frame) is g.came, subst (λ n. AsksFor n g.frame.command g.frame.entry (Command who c a)) is g.asks)

  -- ---- SENDs

  abbrev IsSentIn : Sent → Type 0
  IsSentIn send = AnswersSend turns outputs send.receipt.session send.receipt.reply send.entry

  accepted_send : (t : Topic) (who : ℕ) (send : Send) (u : Topic) → TopicStep t who (asked.Send send) Later u → (has_origin (Command who (asked.Send send) Later) ≡ true → IsGrounded (Command who (asked.Send send) Later))
      → IsSentIn (sent_at t.per_ledger (next_position t) who send)
  accepted_send t who send u step grounded =
      let g = commanded who (asked.Send send) Later grounded in
      let s = send_asked g.0.command g.0.entry who send Later g.2 in
      let same = same_send send _ s.same in
      let b = plain_behind g.0.entry s.carries s.stands (ap (λ (x : Send). is_checksummed x.entry) (sym same) ∙ no_checksum t who send u step) in
      record {
        frame = g.0;
        came = g.1;
        send = s.asks;
        is = s.is;
        behind = b.0;
        stands = b.1;
        bytes = b.2 ∙ ap (λ (x : Send). bytes_of x.entry) (sym same);
        id = message_id_at t.per_ledger (next_position t);
        receipt = ap (λ (x : Send). SendReceipt x.producer_id x.sequence_id (message_id_at t.per_ledger (next_position t))) same;
      }

  sent_in : (t : Topic) (who : ℕ) (c : TopicCommand) (a : Answer) (u : Topic) → TopicStep t who c a u → (has_origin (Command who c a) ≡ true → IsGrounded (Command who c a))
      → AllByRecursion IsSentIn (sent_by t.per_ledger (next_position t) who c a)
  sent_in t who (asked.Send send) Later u step grounded = (accepted_send t who send u step grounded, tt)
  sent_in t who (asked.Send send) (Now r) u step grounded = tt
  sent_in t who (asked.Send send) Nothing u step grounded = tt
  sent_in t who (asked.Send send) NoMemory u step grounded = tt
  sent_in t who (asked.Producer id request name) a u step grounded = tt
  sent_in t who (asked.Subscribe subscribe) a u step grounded = tt
  sent_in t who (asked.Ack ack) a u step grounded = tt
  sent_in t who (asked.CloseProducer close) a u step grounded = tt
  sent_in t who (asked.Unsubscribe unsubscribe) a u step grounded = tt
  sent_in t who (asked.CloseConsumer close) a u step grounded = tt
  sent_in t who (asked.Redeliver redeliver) a u step grounded = tt

  sent_on : (t : Topic) (m : Move) (u : Topic) → MoveStep t m u → (has_origin m ≡ true → IsGrounded m) → AllByRecursion IsSentIn (sends_on t m)
  sent_on t (Command who c a) u step grounded = sent_in t who c a u step grounded
  sent_on t _ u step grounded = tt

  all_sent : (t : Topic) (moves : List Move) (u : Topic) (steps : Moves t moves u) → AreGrounded moves → AllByRecursion IsSentIn (sends_by t moves u steps)
  all_sent t [] u steps grounded = tt
  all_sent t (m ∷ ms) v steps grounded = all_join IsSentIn (sends_on t m) (sends_by steps.0 ms v steps.2) (sent_on t m steps.0 steps.1 grounded.0) (all_sent steps.0 ms v steps.2 grounded.1)

  -- one of them
  that_sent : (sends : List Sent) (send : Sent) → AllByRecursion IsSentIn sends → IsLatest sends send → IsSentIn send
  that_sent sends send all is = (all_last IsSentIn is.before (send ∷ is.after) (subst (λ (l : List Sent). AllByRecursion IsSentIn l) is.splits all)).0

  -- ---- answers

  -- what is owed answers a frame
  abbrev Answering : ℕ → Option Reply → Type 0
  Answering who owed = (r : Reply) → owed ≡ Some r → AnswersFrame turns outputs who r

  abbrev Owes : List Owed → Type 0
  Owes owed = AllByRecursion (λ (o : Owed). Answering o.session o.reply) owed

  owes_each : (f : Owed → Option Promise) (os : List Owed) → Owes os → Owes (map (λ (o : Owed). record o { promise = f o }) os)
  owes_each f [] all = tt
  owes_each f (o ∷ os) all = (all.0, owes_each f os all.1)

  owes_released : (release : Option Release) (word : Word) → Owes word.owed → Owes (released release word).owed
  owes_released None word all = all
  owes_released (Some release) word all = owes_each (λ o. unless_released release o.promise) word.owed all

  owes_without : (who : ℕ) (os : List Owed) → Owes os → Owes (without_first who os)
  owes_without who [] all = tt
  owes_without who (o ∷ os) all = elim (is_to who o) as (λ b. Owes (cond b os (o ∷ without_first who os))) [
    | true ↦ all.1
    | false ↦ (all.0, owes_without who os all.1)
  ]

  owes_left : (who : ℕ) (os : List Owed) → Owes os → Owes (filter (λ o. not (is_to who o)) os)
  owes_left who [] all = tt
  owes_left who (o ∷ os) all = elim (is_to who o) as (λ b. Owes (cond (not b) (o ∷ filter (λ x. not (is_to who x)) os) (filter (λ x. not (is_to who x)) os))) [
    | true ↦ owes_left who os all.1
    | false ↦ (all.0, owes_left who os all.1)
  ]

  owes_command : (t : Topic) (who : ℕ) (c : TopicCommand) (a : Answer) (word : Word) → (has_origin (Command who c a) ≡ true → IsGrounded (Command who c a)) → Owes word.owed → Owes (word_after t (Command who c a) word).owed
  owes_command t who c (Now r) word grounded all = all
  owes_command t who c Later word grounded all =
      let g = commanded who c Later grounded in
      all_join (λ (o : Owed). Answering o.session o.reply) (released (released_by t who c) word).owed _ (owes_released (released_by t who c) word all)
      (λ r is. record { frame = g.0; came = g.1; command = c; asks = g.2; there = t; answers = is }, tt)
  owes_command t who c Nothing word grounded all = all
  owes_command t who c NoMemory word grounded all = all

  owes_after : (t : Topic) (m : Move) (word : Word) → (has_origin m ≡ true → IsGrounded m) → Owes word.owed → Owes (word_after t m word).owed
  owes_after t (Command who c a) word grounded all = owes_command t who c a word grounded all
  owes_after t (Tell h) word grounded all = owes_without h.session word.owed all
  owes_after t (Lose h) word grounded all = owes_without h.session word.owed all
  owes_after t (Grant who id permits result) word grounded all = all
  owes_after t (Deliver id h) word grounded all = all
  owes_after t (Miss id h) word grounded all = all
  owes_after t (Leave who) word grounded all = owes_left who word.owed all
  owes_after t (Flush result) word grounded all = all
  owes_after t (Take result) word grounded all = all
  owes_after t (Finish written result) word grounded all = all
  owes_after t (Reopen result) word grounded all = all
  owes_after t Crash word grounded all = tt
  owes_after t Cut word grounded all = all

  first_answers : (who : ℕ) (os : List Owed) (o : Owed) → first_owed who os ≡ Some o → Owes os → Answering who o.reply
  first_answers who [] o is all = absurd (no_owed o is)
  first_answers who (x ∷ os) o is all = elim (is_to who x) as (λ b. is_to who x ≡ b → cond b (Some x) (find (is_to who) os) ≡ Some o → Answering who o.reply) [
    | true ↦ λ here first.
        let same = same_owed x o first in
        subst (λ (y : Owed). Answering who y.reply) same (subst (λ n. Answering n x.reply) (eqb-true x.session who here) all.0)
    | false ↦ λ _ first. first_answers who os o first all.1
  ] refl is

  answers_of : (t : Topic) (moves : List Move) (u : Topic) (steps : Moves t moves u) (word : Word) (h : Handed) → AreGrounded moves → Owes word.owed → IsAnswered t moves u steps word h → AnswersFrame turns outputs h.session h.reply
  answers_of t [] u steps word h grounded all is = absurd is
  answers_of t (m ∷ ms) v steps word h grounded all is = ⊎_elim
      (λ here. first_answers h.session word.owed here.1.owed here.1.first all h.reply here.1.reply)
      (λ later. answers_of steps.0 ms v steps.2 (word_after t m word) h grounded.1 (owes_after t m word grounded.0 all) later) is

-- ---- what topics account for

module _ (old : Broker) (hearers : List (Option ℕ)) (outputs : List Output) (new : Broker) (account : AccountsTo old hearers outputs new) (turns : List Turn) (origins : List Origin) (comes : ComesFrom account turns origins) where
  grounded : (number : ℕ) → AreGrounded turns outputs origins comes.fronts (account.each number).moves
  grounded number = of_caused turns outputs origins comes.fronts (account.each number).moves
      (subst (λ (ms : List Move). AllByRecursion (IsGrounded turns outputs origins comes.fronts) ms) (sym (comes.moves number)) (all_grounded turns outputs origins comes.fronts number [] origins refl comes.asks))

  message_rests : IsAtStart old → (number who : ℕ) (one : Outgoing) (d : IsDelivered (topic_at old number) (account.each number).moves (topic_at new number).ledger (handed_to who one))
      → AreGrounded turns outputs origins comes.fronts (account.each number).moves
      → (d.position < end_of (topic_at old number).ledger) ⊎ ((sender : ℕ) × (receipt : Reply) × AnswersSend turns outputs sender receipt one.entry)
  message_rests start number who one d ground =
      let t = topic_at old number in
      let Each = λ (m : Move). has_origin m ≡ true → IsGrounded turns outputs origins comes.fronts m in
      let before = all_first Each d.before (Deliver d.consumer (handed_to who one) ∷ d.after) (subst (λ (ms : List Move). AllByRecursion Each ms) d.splits ground) in
      let published = moves_publish t d.before d.there d.steps (start.quiet number) in
      ⊎_elim
      (λ above.
      let s = published.each d.position one.entry above d.admitted.published in
      let came = that_sent turns outputs origins comes.fronts _ s.0 (all_sent turns outputs origins comes.fronts t d.before d.there d.steps before) s.1 in
      inr (s.0.receipt.session, s.0.receipt.reply, subst (λ (e : List ℕ). AnswersSend turns outputs s.0.receipt.session s.0.receipt.reply e) s.3 came))
      (λ below. inl below)
      (above_or_below (end_of t.ledger) d.position)

  rests_on : IsAtStart old → (who : ℕ) (one : Outgoing) (by : IsAccountedFor account who one) → RestsOnFrames account turns who one by
  rests_on start who one by =
      let number = by.topic in
      let a = account.each number in
      let ground = grounded number in
      record {
        receipt = λ is.
            let found = by.receipt is in
            subst (λ (h : Handed). AnswersSend turns outputs h.session h.reply found.send.entry) (sym found.promised)
            (that_sent turns outputs origins comes.fronts _ found.send (all_sent turns outputs origins comes.fronts (topic_at old number) a.moves (topic_at new number) a.steps ground) found.sent);
        answer = λ is. answers_of turns outputs origins comes.fronts (topic_at old number) a.moves (topic_at new number) a.steps nothing_yet (handed_to who one) ground tt (by.answer is);
        message = λ is. message_rests start number who one (by.message is) ground;
      }

  still_covered : openings_in turns outputs ≡ 0 → (number : ℕ) → receipts_told (from_topic number account.said) + receipts_due (topic_at new number).queues ≤ end_of (topic_at new number).ledger
  still_covered none number = (account.each number).covered
      (calm_all (account.each number).moves (subst (λ (ms : List Move). AllByRecursion IsCalm ms) (sym (comes.moves number)) (calm_from number origins (comes.openings ∙ none) comes.asks)))

  closes_rest : (who : ℕ) (reply : Reply) → IsAtOnce (λ number. (account.each number).moves) who reply → is_acceptance reply ≡ true → AnswersClose turns outputs who reply
  closes_rest who reply is accepts =
      let d = is.accepts accepts in
      let Each = λ (m : Move). has_origin m ≡ true → IsGrounded turns outputs origins comes.fronts m in
      let there = all_last Each d.1.before (Command who (asked.CloseConsumer d.1.close) (Now reply) ∷ d.1.after) (subst (λ (ms : List Move). AllByRecursion Each ms) d.1.splits (grounded d.0)) in
      let g = commanded turns outputs origins comes.fronts who (asked.CloseConsumer d.1.close) (Now reply) there.0 in
      record { frame = g.0; came = g.1; close = d.1.close; is = close_asked g.0.command g.0.entry who d.1.close (Now reply) g.2; success = d.1.success }

  pub rest : IsAtStart old → Grounded account turns
  rest start = record {
    frames = λ who frames bounded same.
        all_to (λ one. IsAtOnce (λ number. (account.each number).moves) who one.reply ⊎ IsAccountedFor account who one) (λ one. IsGroundedFor account turns who one)
        (λ one is. ⊎_elim
        (λ (at : IsAtOnce (λ number. (account.each number).moves) who one.reply). inl (record { at_once = at; close = closes_rest who one.reply at }))
        (λ (by : IsAccountedFor account who one). inr (by, rests_on start who one by)) is)
        frames (frames_accounted old hearers outputs new account who frames bounded same);
    covered = still_covered;
  }
