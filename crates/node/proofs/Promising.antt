-- Sessions take the answers to their commands in turn, and what was told of subscriptions stands in the durable ones.
use Rattle.std.proofs.Common.{◌≡◌, ◌⊎◌, inl, inr, ⊎_elim, ℕ, Bool, true, false, cond, Option, Some, None, Result, Ok, Err, List, [], ◌∷◌, ◌++◌, take, refl, sym, subst}
use Rattle.std.specs.List.{AllByRecursion, find}
use Rattle.commands.specs.declared.reply.Reply.{Reply}
use Rattle.commands.specs.declared.reply.Reply.TheVariants.{ProducerSuccess, Success, Error, AckResponse}
use Rattle.commands.specs.declared.server_error.ServerError.{ServerError}
use Rattle.managed_ledger.specs.Entries.{Ledger}
use Rattle.records.specs.declared.record.Record.{Record}
use Rattle.records.specs.Maps.{Kept}
use Rattle.records.specs.Records.{after_all, AreFormed}
use Rattle.reply_queues.specs.Replies.{SessionReplies, due_to, queued}
use Rattle.subscriptions.specs.State.{Subscriptions}
use Rattle.subscriptions.specs.Steps as subscriptions
use Rattle.subscriptions.specs.Laws.{IsKept as AreKept}
use Rattle.permits.specs.declared.plain.TooManyPermits.{TooManyPermits}
use Rattle.topic_core.specs.declared.command.Answer.{Answer}
use Rattle.topic_core.specs.declared.command.Answer.TheVariants.{Now, Later, Nothing, NoMemory}
use Rattle.topic_core.specs.declared.command.Send.{Send}
use Rattle.topic_core.specs.declared.command.Subscribe.{Subscribe}
use Rattle.commands.specs.declared.consuming.Ack.{Ack}
use Rattle.commands.specs.declared.producing.CloseProducer.{CloseProducer}
use Rattle.commands.specs.declared.consuming.Unsubscribe.{Unsubscribe}
use Rattle.commands.specs.declared.giving_back.CloseConsumer.{CloseConsumer}
use Rattle.commands.specs.declared.giving_back.Redeliver.{Redeliver}
use Rattle.topic_core.specs.declared.command.TopicCommand.{TopicCommand}
use Rattle.topic_core.specs.declared.command.TopicCommand.TheVariants as asked
use Rattle.topic_core.specs.State.{Topic, floor, changes_of}
use Rattle.topic_core.specs.Soundness.{IsSound, IsSoundTopic}
use Rattle.topic_core.specs.Crashes.{IsLeft, TopicCrash}
use Rattle.permits.specs.Ends.{Word as PermitWord}
use Rattle.topic_core.proofs.Meeting.{met}
use Rattle.topic_core.specs.Steps.{Outcome, TopicStep, outcome_of, GrantStep, key_of, seat_of, refused_or, first_standing, producer_refusals, subscribe_refusal, subscribed, start_of, ack_refusals, ack_refused, ack_accepted, close_refusals, closing, unsubscribe_refusal, unsubscribed, detach_refusals, detached, redelivered, asked_back, with_producer, accepted, receipt, bytes_of}
use Rattle.topic_core.proofs.Keeps.{step-keeps, grant-keeps}
use Rattle.node.specs.Moves.{Move, Command, Tell, Lose, Grant, Deliver, Miss, Leave, Flush, Take, Finish, Reopen, Crash, Cut, MoveStep, Moves}
use Rattle.node.specs.Finding.{IsQuiet}
use Rattle.node.specs.Promising.{Promise, IsKept, Word, Release, OfGone, nothing_yet, promise_of, positions_of, released_by, ack_reply, released, with_owed, without_first, promised, told, answered, word_after, word_by, InTurn, AreInTurn}
use Rattle.node.specs.Laws.{WordIsKept}
use Rattle.node.proofs.Commands.{producer_topic, refused_topic, silent_topic, accepted_topic}
use Rattle.node.proofs.Endings.{RespectedByFlushes, taking, finishing, flushing, reopen_cases, Reopened, cutting}
use Rattle.node.proofs.Sound.{move_sound}
use Rattle.node.proofs.Lasting.{Lasts, lasts_first, lasts_more, behind_more, kept_more}
use Rattle.node.proofs.Turns.{to_each}
use Rattle.node.proofs.Answering.{told_each}
use Rattle.node.proofs.Holding.{Lands, Holds, holds_released, holds_queued, in_turn, holds_lost, holds_told, holds_left, holds_handed_on, holds_finished, holds_taken_back, holds_failed, holds_reopened, holds_crashed}
use Rattle.node.proofs.Accepting.{Adds, adds_nothing, adds_attached, lands_attached, adds_acked, lands_acked, adds_removal, lands_removal}

abbrev HoldsIn : Topic → Kept → Word → Type 0
HoldsIn t kept word = Holds (changes_of t.doubt) t.subs.changes kept t.queues word

-- ---- commands

-- a refused command changed nothing, and an accepted one had its effect
either : (o : Option ServerError) (refused : ServerError → Answer) (t : Topic) (effect : Outcome) (a : Answer) (u : Topic) → a ≡ (refused_or o refused t effect).answer → u ≡ (refused_or o refused t effect).topic
    → ((e : ServerError) × (a ≡ refused e) × (u ≡ t)) ⊎ ((a ≡ effect.answer) × (u ≡ effect.topic))
either None refused t effect a u answer after = inr (answer, after)
either (Some e) refused t effect a u answer after = inl (e, answer, after)

-- no refusal of an ACK awaits a flush
not_awaited : (id : ℕ) (request : Option ℕ) (e : ServerError) → Later ≡ ack_refused id request e → ⊥
not_awaited id None e is = let no : Later ≡ Nothing = is in cc
not_awaited id (Some request) e is = let no : Later ≡ Now (AckResponse id (Some e) request) = is in cc

-- an answer at once is a refusal of an ACK
not_now : (t : Topic) (who : ℕ) (ack : Ack) (request : Option ℕ) (r : Reply) → Now r ≡ (ack_accepted t who ack request).answer → ⊥
not_now t who ack None r is = let no : Now r ≡ Nothing = is in cc
not_now t who ack (Some request) r is = let no : Now r ≡ Later = is in cc

module _ (t : Topic) (kept : Kept) (word : Word) (sound : IsSound t) (h : HoldsIn t kept word) where
  same : (u : Topic) → u ≡ t → HoldsIn u kept word
  same u is = subst (λ (x : Topic). HoldsIn x kept word) (sym is) h

  -- more changes, which spare what remains
  grows : (e : ℕ) (changes : List Record) (release : Option Release) → AreFormed e kept changes → Adds t.subs.changes release changes
      → Holds (changes_of t.doubt) changes kept t.queues (released release word)
  grows e changes release formed adds =
      let n : ℕ = changes_of t.doubt in
      let old : List Record = t.subs.changes in
      let formed' = subst (λ (l : List Record). AreFormed e kept l) adds.behind formed in
      subst (λ (l : List Record). Holds n l kept t.queues (released release word)) (sym adds.behind)
      (holds_released n n old (old ++ adds.added) kept kept release t.queues word
      (λ p remains is. lasts_more e old adds.added kept p formed' (adds.spares p remains) is)
      (λ p remains is. behind_more e old adds.added kept p formed' (adds.spares p remains) n sound.changes is)
      (λ p remains is. kept_more e old adds.added kept p formed' (adds.spares p remains) is)
      h)

  -- and an answer that awaits a flush
  owes : (e : ℕ) (changes : List Record) (release : Option Release) (who : ℕ) (r : Reply) (promise : Option Promise) → AreFormed e kept changes → Adds t.subs.changes release changes
      → AllByRecursion (Lands changes kept) (promised promise)
      → Holds (changes_of t.doubt) changes kept (queued who r t.queues) (with_owed (record { session = who; reply = Some r; promise = promise }) (released release word))
  owes e changes release who r promise formed adds lands =
      holds_queued (changes_of t.doubt) changes kept t.queues (released release word) (grows e changes release formed adds) who r promise sound.within lands

  -- the subscriptions of a topic are kept
  abbrev AreKeptIn : Topic → Type 0
  AreKeptIn u = AreKept u.committed kept u.subs

  at_topic : (u c : Topic) → u ≡ c → AreKeptIn u → AreKeptIn c
  at_topic u c is are = subst (λ (x : Topic). AreKeptIn x) is are

  back : (u c : Topic) (w : Word) → u ≡ c → HoldsIn c kept w → HoldsIn u kept w
  back u c w is holds = subst (λ (x : Topic). HoldsIn x kept w) (sym is) holds

  sent : (who : ℕ) (send : Send) (u : Topic) → u ≡ accepted t who send.producer_id send.sequence_id (bytes_of send.entry) → AreKeptIn t → HoldsIn u kept (answered t who (asked.Send send) Later word)
  sent who send u is are =
      back u (accepted t who send.producer_id send.sequence_id (bytes_of send.entry)) (answered t who (asked.Send send) Later word) is
      (owes t.committed t.subs.changes None who (receipt t send.producer_id send.sequence_id) None are.formed (adds_nothing t.subs.changes None) tt)

  subscribes : (who : ℕ) (subscribe : Subscribe) (permits : PermitWord) (u : Topic) → u ≡ subscribed t who subscribe permits → AreKeptIn u → HoldsIn u kept (answered t who (asked.Subscribe subscribe) Later word)
  subscribes who subscribe permits u is are =
      let c = subscribed t who subscribe permits in
      let seat = seat_of who subscribe in
      let start = subscriptions.start_of (start_of subscribe.initial) (floor t) t.committed in
      let are' = at_topic u c is are in
      back u c (answered t who (asked.Subscribe subscribe) Later word) is
      (owes t.committed c.subs.changes (Some (OfGone subscribe.subscription)) who (Success subscribe.request_id) (promise_of t who (asked.Subscribe subscribe)) are'.formed
      (adds_attached t.subs subscribe.subscription subscribe.mode seat permits start)
      (lands_attached t.committed kept t.subs subscribe.subscription subscribe.mode seat permits start are', tt))

  acks_later : (request : Option ℕ) (who : ℕ) (ack : Ack) (u : Topic) → Later ≡ (ack_accepted t who ack request).answer → u ≡ (ack_accepted t who ack request).topic → AreKeptIn u
      → HoldsIn u kept (with_owed (record { session = who; reply = ack_reply ack.consumer_id request; promise = promise_of t who (asked.Ack ack) }) word)
  acks_later None who ack u answer is are = absurd (let no : Later ≡ Nothing = answer in cc)
  acks_later (Some request) who ack u answer is are =
      let c = (ack_accepted t who ack (Some request)).topic in
      let key = key_of who ack.consumer_id in
      let are' = at_topic u c is are in
      back u c (with_owed (record { session = who; reply = ack_reply ack.consumer_id (Some request); promise = promise_of t who (asked.Ack ack) }) word) is
      (owes t.committed c.subs.changes None who (AckResponse ack.consumer_id None request) (promise_of t who (asked.Ack ack)) are'.formed
      (adds_acked ack.ack_type t.subs key (positions_of t.per_ledger ack))
      (lands_acked t.committed kept ack.ack_type t.subs key (positions_of t.per_ledger ack) (find (subscriptions.is_on key) t.subs.subs) sound.subs.limits refl are'))

  acks_silently : (request : Option ℕ) (who : ℕ) (ack : Ack) (u : Topic) → Nothing ≡ (ack_accepted t who ack request).answer → u ≡ (ack_accepted t who ack request).topic → AreKeptIn u → HoldsIn u kept word
  acks_silently None who ack u answer is are =
      let c = (ack_accepted t who ack None).topic in
      let are' = at_topic u c is are in
      back u c word is (grows t.committed c.subs.changes None are'.formed (adds_acked ack.ack_type t.subs (key_of who ack.consumer_id) (positions_of t.per_ledger ack)))
  acks_silently (Some request) who ack u answer is are = absurd (let no : Nothing ≡ Later = answer in cc)

  closes : (who : ℕ) (close : CloseProducer) (u : Topic) → u ≡ closing t who close → AreKeptIn t → HoldsIn u kept (answered t who (asked.CloseProducer close) Later word)
  closes who close u is are =
      back u (closing t who close) (answered t who (asked.CloseProducer close) Later word) is
      (owes t.committed t.subs.changes None who (Success close.request_id) None are.formed (adds_nothing t.subs.changes None) tt)

  unsubscribes : (who : ℕ) (unsubscribe : Unsubscribe) (u : Topic) → u ≡ unsubscribed t who unsubscribe → AreKeptIn u → HoldsIn u kept (answered t who (asked.Unsubscribe unsubscribe) Later word)
  unsubscribes who unsubscribe u is are =
      let c = unsubscribed t who unsubscribe in
      let are' = at_topic u c is are in
      back u c (answered t who (asked.Unsubscribe unsubscribe) Later word) is
      (owes t.committed c.subs.changes (released_by t who (asked.Unsubscribe unsubscribe)) who (Success unsubscribe.request_id) (promise_of t who (asked.Unsubscribe unsubscribe)) are'.formed
      (adds_removal t.subs.changes (find (subscriptions.is_on (key_of who unsubscribe.consumer_id)) t.subs.subs))
      (lands_removal t.subs.changes kept (find (subscriptions.is_on (key_of who unsubscribe.consumer_id)) t.subs.subs)))

  -- a command whose refusals are told at once, and whose effect awaits a flush
  module _ (who : ℕ) (c : TopicCommand) (f : ServerError → Reply) (effect : Topic) (takes : (u : Topic) → u ≡ effect → AreKeptIn u → HoldsIn u kept (answered t who c Later word)) where
    abbrev outcome : Option ServerError → Outcome
    outcome o = refused_or o (λ error. Now (f error)) t (record { answer = Later; topic = effect })

    awaited : (o : Option ServerError) (a : Answer) (u : Topic) → a ≡ (outcome o).answer → u ≡ (outcome o).topic → AreKeptIn u → HoldsIn u kept (answered t who c a word)
    awaited None a u answer after are = subst (λ (b : Answer). HoldsIn u kept (answered t who c b word)) (sym answer) (takes u after are)
    awaited (Some e) a u answer after are = subst (λ (b : Answer). HoldsIn u kept (answered t who c b word)) (sym answer) (same u after)

  produces : (who id request : ℕ) (name : List ℕ) (u : Topic) → (u ≡ t) ⊎ (u ≡ with_producer t who id name) → HoldsIn u kept word
  produces who id request name u cases = ⊎_elim (λ is. same u is) (λ is. back u (with_producer t who id name) word is h) cases

  -- no PRODUCER awaits a flush
  no_producer : (o : Option ServerError) (f : ServerError → Reply) (r : Reply) (effect : Topic) → Later ≡ (refused_or o (λ error. Now (f error)) t (record { answer = Now r; topic = effect })).answer → ⊥
  no_producer None f r effect is = let no : Later ≡ Now r = is in cc
  no_producer (Some e) f r effect is = let no : Later ≡ Now (f e) = is in cc

  acks : (who : ℕ) (ack : Ack) (a : Answer) (u : Topic) → TopicStep t who (asked.Ack ack) a u → AreKeptIn u → HoldsIn u kept (answered t who (asked.Ack ack) a word)
  acks who ack NoMemory u step are = same u step.0
  acks who ack (Now r) u step are = ⊎_elim
      (λ refused. same u refused.2)
      (λ effected. absurd (not_now t who ack ack.request_id r effected.0))
      (either (first_standing (ack_refusals t who ack)) (ack_refused ack.consumer_id ack.request_id) t (ack_accepted t who ack ack.request_id) (Now r) u step.0 step.1)
  acks who ack Later u step are = ⊎_elim
      (λ refused. absurd (not_awaited ack.consumer_id ack.request_id refused.0 refused.1))
      (λ effected. acks_later ack.request_id who ack u effected.0 effected.1 are)
      (either (first_standing (ack_refusals t who ack)) (ack_refused ack.consumer_id ack.request_id) t (ack_accepted t who ack ack.request_id) Later u step.0 step.1)
  acks who ack Nothing u step are = ⊎_elim
      (λ refused. same u refused.2)
      (λ effected. acks_silently ack.request_id who ack u effected.0 effected.1 are)
      (either (first_standing (ack_refusals t who ack)) (ack_refused ack.consumer_id ack.request_id) t (ack_accepted t who ack ack.request_id) Nothing u step.0 step.1)

  -- the subscriptions change at most, and their changes stay
  permits : (failed : Bool) (subs : Subscriptions) → subs.changes ≡ t.subs.changes → HoldsIn (cond failed t (record t { subs = subs })) kept word
  permits true subs is = h
  permits false subs is = subst (λ (l : List Record). Holds (changes_of t.doubt) l kept t.queues word) (sym is) h

  -- a consumer is detached at once
  detaches : (who : ℕ) (close : CloseConsumer) (o : Option ServerError) (a : Answer) (u : Topic)
      → a ≡ (refused_or o (λ error. Now (Error close.request_id error)) t (record { answer = Now (Success close.request_id); topic = detached t who close })).answer
      → u ≡ (refused_or o (λ error. Now (Error close.request_id error)) t (record { answer = Now (Success close.request_id); topic = detached t who close })).topic
      → AreKeptIn u → HoldsIn u kept (answered t who (asked.CloseConsumer close) a word)
  detaches who close (Some e) a u answer after are =
      subst (λ (b : Answer). HoldsIn u kept (answered t who (asked.CloseConsumer close) b word)) (sym answer) (same u after)
  detaches who close None a u answer after are =
      subst (λ (b : Answer). HoldsIn u kept (answered t who (asked.CloseConsumer close) b word)) (sym answer)
      (back u (detached t who close) word after h)

  redelivers : (who : ℕ) (redeliver : Redeliver) (a : Answer) (u : Topic) → a ≡ Nothing → u ≡ redelivered t who redeliver → AreKeptIn u → HoldsIn u kept (answered t who (asked.Redeliver redeliver) a word)
  redelivers who redeliver a u answer after are =
      subst (λ (b : Answer). HoldsIn u kept (answered t who (asked.Redeliver redeliver) b word)) (sym answer)
      (back u (redelivered t who redeliver) word after
      (permits t.failed (subscriptions.redelivered t.subs (key_of who redeliver.consumer_id) (asked_back t.per_ledger t.committed redeliver.message_ids)) refl))

  -- an outcome that was met
  meets : (who : ℕ) (c : TopicCommand) (w : Answer → Word) → ((permits : PermitWord) (a : Answer) (u : Topic) → a ≡ (outcome_of t who c permits).answer → u ≡ (outcome_of t who c permits).topic → AreKeptIn u → HoldsIn u kept (w a)) → w NoMemory ≡ word
      → (a : Answer) (u : Topic) → TopicStep t who c a u → AreKeptIn u → HoldsIn u kept (w a)
  meets who c w by none NoMemory u step are = subst (λ (x : Word). HoldsIn u kept x) (sym none) (same u step.0)
  meets who c w by none Nothing u step are = let m = met t who c Nothing u step in by m.0 Nothing u m.1.0 m.1.1 are
  meets who c w by none (Now r) u step are = let m = met t who c (Now r) u step in by m.0 (Now r) u m.1.0 m.1.1 are
  meets who c w by none Later u step are = let m = met t who c Later u step in by m.0 Later u m.1.0 m.1.1 are

  commanded : (who : ℕ) (c : TopicCommand) (a : Answer) (u : Topic) → TopicStep t who c a u → AreKeptIn t → AreKeptIn u → HoldsIn u kept (answered t who c a word)
  commanded who (asked.Producer id request name) NoMemory u step are are' = same u step.0
  commanded who (asked.Producer id request name) (Now r) u step are are' = produces who id request name u (producer_topic (Now r) t who id request name u step)
  commanded who (asked.Producer id request name) Nothing u step are are' = produces who id request name u (producer_topic Nothing t who id request name u step)
  commanded who (asked.Producer id request name) Later u step are are' =
      absurd (no_producer (first_standing (producer_refusals t name)) (λ error. Error request error) (ProducerSuccess request name) (with_producer t who id name) step.0)
  commanded who (asked.Send send) NoMemory u step are are' = same u step.0
  commanded who (asked.Send send) (Now r) u step are are' = same u (refused_topic t who send r u step)
  commanded who (asked.Send send) Nothing u step are are' = same u (silent_topic t who send u step)
  commanded who (asked.Send send) Later u step are are' = sent who send u (accepted_topic t who send u step).1 are
  commanded who (asked.Subscribe subscribe) a u step are are' =
      meets who (asked.Subscribe subscribe) (λ b. answered t who (asked.Subscribe subscribe) b word)
      (λ permits. awaited who (asked.Subscribe subscribe) (λ error. Error subscribe.request_id error) (subscribed t who subscribe permits) (λ x is kept_x. subscribes who subscribe permits x is kept_x) (subscribe_refusal t subscribe))
      refl a u step are'
  commanded who (asked.Ack ack) a u step are are' = acks who ack a u step are'
  commanded who (asked.CloseProducer close) a u step are are' =
      meets who (asked.CloseProducer close) (λ b. answered t who (asked.CloseProducer close) b word)
      (λ permits. awaited who (asked.CloseProducer close) (λ error. Error close.request_id error) (closing t who close) (λ x is _. closes who close x is are) (first_standing (close_refusals t who close)))
      refl a u step are'
  commanded who (asked.Unsubscribe unsubscribe) a u step are are' =
      meets who (asked.Unsubscribe unsubscribe) (λ b. answered t who (asked.Unsubscribe unsubscribe) b word)
      (λ permits. awaited who (asked.Unsubscribe unsubscribe) (λ error. Error unsubscribe.request_id error) (unsubscribed t who unsubscribe) (λ x is kept_x. unsubscribes who unsubscribe x is kept_x) (unsubscribe_refusal t who unsubscribe))
      refl a u step are'
  commanded who (asked.CloseConsumer close) a u step are are' =
      meets who (asked.CloseConsumer close) (λ b. answered t who (asked.CloseConsumer close) b word)
      (λ permits. detaches who close (first_standing (detach_refusals t who close)))
      refl a u step are'
  commanded who (asked.Redeliver redeliver) a u step are are' =
      meets who (asked.Redeliver redeliver) (λ b. answered t who (asked.Redeliver redeliver) b word)
      (λ permits. redelivers who redeliver)
      refl a u step are'

  granted : (result : Result (Unit {0}) TooManyPermits) (who id count : ℕ) (u : Topic) → GrantStep t who id count result u → HoldsIn u kept word
  granted (Ok done) who id count u step = back u _ word step.1 (permits t.failed (subscriptions.granted t.subs (key_of who id) count) refl)
  granted (Err why) who id count u step = same u step.1

-- ---- moves

abbrev HoldsAt : Topic → Word → Type 0
HoldsAt t word = HoldsIn t t.kept word

-- what a crash leaves is what a front of the changes makes of the durable subscriptions
left_front : (t : Topic) (ledger : Ledger) (kept : Kept) → IsLeft t ledger kept → (n : ℕ) × (kept ≡ after_all (take n t.subs.changes) t.kept)
left_front t ledger kept (inl s) = (0, s.1)
left_front t ledger kept (inr (inl s)) = (0, s.1)
left_front t ledger kept (inr (inr s)) = (changes_of t.doubt, s.1)

module _ (word : Word) where
  same_topic : (t u : Topic) → u ≡ t → HoldsAt t word → HoldsAt u word
  same_topic t u is h = subst (λ (x : Topic). HoldsAt x word) (sym is) h

  abbrev KeepsHeld : Topic → Topic → Type 0
  KeepsHeld t u = HoldsAt t word → HoldsAt u word

  flush_holds : RespectedByFlushes KeepsHeld
  flush_holds = record {
    same = λ t h. h;
    then = λ t u v first second h. second (first h);
    take = λ t p point h. holds_handed_on (changes_of t.doubt) t.subs.changes t.kept t.queues word h;
    finish = λ t b low h. holds_finished (changes_of t.doubt) t.subs.changes t.kept t.queues word h;
    take_back = λ t h. holds_taken_back (changes_of t.doubt) t.subs.changes t.kept t.queues word h;
    fail = λ t h. holds_failed (changes_of t.doubt) t.subs.changes t.kept t.queues word h;
  }

  opens_again : (t u : Topic) → Reopened t u → IsSoundTopic t → HoldsAt t word → HoldsAt u word
  opens_again t u again s h =
      let front = left_front t u.ledger u.kept again.left in
      subst (λ (x : Topic). HoldsAt x word) (sym again.again)
      (subst (λ (k : Kept). Holds 0 [] k t.queues word) (sym front.1) (holds_reopened (changes_of t.doubt) t.subs.changes t.kept t.queues word h front.0 (s.state.told again.failed)))

  crashes : (t u : Topic) → TopicCrash t u → HoldsAt t word → HoldsAt u (record word { owed = [] })
  crashes t u s h =
      let front = left_front t u.ledger u.kept s.left in
      subst (λ (x : Topic). HoldsAt x (record word { owed = [] })) (sym s.again)
      (subst (λ (k : Kept). Holds 0 [] k [] (record word { owed = [] })) (sym front.1) (holds_crashed (changes_of t.doubt) t.subs.changes t.kept t.queues word h front.0))

  -- the durable subscriptions stay
  at_kept : (t u : Topic) (w : Word) → u.kept ≡ t.kept → HoldsIn u t.kept w → HoldsAt u w
  at_kept t u w same h = subst (λ (k : Kept). HoldsIn u k w) (sym same) h

  commands : (t : Topic) (who : ℕ) (c : TopicCommand) (a : Answer) (u : Topic) → TopicStep t who c a u → IsSoundTopic t → IsSoundTopic u → HoldsAt t word → HoldsAt u (answered t who c a word)
  commands t who c a u s sound sound' h =
      let durable = (step-keeps t who c a u s sound.state sound.receipts).durable in
      at_kept t u (answered t who c a word) durable
      (commanded t t.kept word sound.state h who c a u s sound.kept (subst (λ (k : Kept). AreKept u.committed k u.subs) durable sound'.kept))

  moved : (t : Topic) (m : Move) (u : Topic) → MoveStep t m u → IsSoundTopic t → IsSoundTopic u → HoldsAt t word → HoldsAt u (word_after t m word)
  moved t (Command who c a) u s sound sound' h = commands t who c a u s sound sound' h
  moved t (Tell handed) u s sound sound' h =
      subst (λ (x : Topic). HoldsAt x (told handed word)) (sym s.taken) (holds_told (changes_of t.doubt) t.subs.changes t.kept t.queues word h handed (due_to handed.session u.queues) s.first)
  moved t (Lose handed) u s sound sound' h =
      subst (λ (x : Topic). HoldsAt x (record word { owed = without_first handed.session word.owed })) (sym s.taken)
      (holds_lost (changes_of t.doubt) t.subs.changes t.kept t.queues word h handed (due_to handed.session u.queues) s.first)
  moved t (Grant who id permits result) u s sound sound' h =
      at_kept t u word (grant-keeps t who id permits result u s sound.state sound.receipts).durable (granted t t.kept word sound.state h result who id permits u s)
  moved t (Deliver id handed) u s sound sound' h = subst (λ (x : Topic). HoldsAt x word) (sym s.1.sent) h
  moved t (Miss id handed) u s sound sound' h = subst (λ (x : Topic). HoldsAt x word) (sym s.1.sent) h
  moved t (Leave who) u s sound sound' h =
      subst (λ (x : Topic). HoldsAt x (word_after t (Leave who) word)) (sym s) (holds_left (changes_of t.doubt) t.subs.changes t.kept t.queues word h who)
  moved t (Flush result) u s sound sound' h = flushing KeepsHeld flush_holds t result u s h
  moved t (Take result) u s sound sound' h = taking KeepsHeld flush_holds t result u s h
  moved t (Finish written result) u s sound sound' h = finishing KeepsHeld flush_holds t written result u s h
  moved t (Reopen result) u s sound sound' h = ⊎_elim (λ is. same_topic t u is h) (λ again. opens_again t u again sound h) (reopen_cases t result u s)
  moved t Crash u s sound sound' h = crashes t u s h
  moved t Cut u s sound sound' h = cutting KeepsHeld flush_holds t u s h

  turn : (t : Topic) (m : Move) (u : Topic) → MoveStep t m u → HoldsAt t word → InTurn word m
  turn t (Tell handed) u s h = in_turn (changes_of t.doubt) t.subs.changes t.kept t.queues word h handed (due_to handed.session u.queues) s.first
  turn t (Lose handed) u s h = in_turn (changes_of t.doubt) t.subs.changes t.kept t.queues word h handed (due_to handed.session u.queues) s.first
  turn t _ u s h = tt

turns : (t : Topic) (moves : List Move) (u : Topic) (steps : Moves t moves u) (word : Word) → IsSoundTopic t → HoldsAt t word → AreInTurn t moves u steps word
turns t [] u steps word sound h = tt
turns t (m ∷ ms) v steps word sound h =
    let u = steps.0 in
    let sound' = move_sound t m u steps.1 sound in
    (turn word t m u steps.1 h, turns u ms v steps.2 (word_after t m word) sound' (moved word t m u steps.1 sound sound' h))

holds : (t : Topic) (moves : List Move) (u : Topic) (steps : Moves t moves u) (word : Word) → IsSoundTopic t → HoldsAt t word → HoldsAt u (word_by t moves u steps word)
holds t [] u steps word sound h = same_topic word t u steps h
holds t (m ∷ ms) v steps word sound h =
    let u = steps.0 in
    let sound' = move_sound t m u steps.1 sound in
    holds u ms v steps.2 (word_after t m word) sound' (moved word t m u steps.1 sound sound' h)

quiet_holds : (t : Topic) → IsQuiet t → HoldsAt t nothing_yet
quiet_holds t quiet = subst (λ (qs : List SessionReplies). Holds (changes_of t.doubt) t.subs.changes t.kept qs nothing_yet) (sym quiet.queues) (record { turns = λ who. tt; given = tt })

pub word_kept : (t : Topic) (moves : List Move) (u : Topic) (steps : Moves t moves u) → IsQuiet t → IsSoundTopic t → WordIsKept t moves u steps
word_kept t moves u steps quiet sound =
    let h = quiet_holds t quiet in
    let end = holds t moves u steps nothing_yet sound h in
    let in_turn = turns t moves u steps nothing_yet sound h in
    let kept = to_each (Lasts u.subs.changes u.kept) (IsKept u.kept) (λ p is. lasts_first u.subs.changes u.kept p is) (word_by t moves u steps nothing_yet).given end.given in
    record { in_turn = in_turn; kept = kept; answered = told_each t moves u steps nothing_yet in_turn kept }
