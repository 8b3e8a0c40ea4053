-- How feeds and pumps end: with nothing due, or with a session that has left.
use Rattle.std.proofs.Common.{◌≡◌, ◌≤◌, ◌<◌, ℕ, List, [], ◌∷◌, Bool, true, false, not, nat_lt, ◌&&◌, ◌||◌, nat_eq, cond, ⊎_elim, map, filter, get_or, refl, sym, ap, ◌∙◌, subst, Option, Some, None, Result, Ok, Err, arith}
use Rattle.std.proofs.Math.ListN.{get_or-map}
use Rattle.std.proofs.lemmas.Bool.{cases_eq}
use Rattle.std.proofs.lemmas.Map.Views.{any-filter_same}
use Rattle.std.specs.List.{list_any}
use Rattle.topic_core.specs.State.{Topic}
use Rattle.reply_queues.specs.Replies.{SessionReplies, is_for, due_to, pending_to}
use Rattle.subscriptions.specs.State.{Subscription}
use Rattle.subscriptions.specs.Steps.{is_on, is_consumer, left_on}
use Rattle.topic_core.specs.Steps.{has_producer, is_producer, has_consumer, key_of, left}
use Rattle.session.specs.declared.fault.Fault.{Fault}
use Rattle.session.specs.declared.pumping.More.TheVariants.{No}
use Rattle.gated_log.specs.declared.read_error.ReadError.{ReadError}
use Rattle.session.specs.declared.pumping.PumpFault.{PumpFault}
use Rattle.session.specs.declared.pumping.PumpFault.TheVariants.{Ended, Device}
use Rattle.session.specs.Broker.{Broker, fresh, topic_at, left_all}
use Rattle.session.specs.Client.{Client, Play, left_if, left_if_ended}
use Rattle.session.specs.Working.{FeedIn, feed_result}
use Rattle.session.specs.Pumping.{HasNothingDue, ServesIf, PumpIn, pump_result}
use Rattle.session.proofs.Absent.{fresh-left}
use Rattle.session.proofs.Plays.{serves_if-fault, serves_if-due}
use Rattle.session.specs.Laws.{HasLeft, PumpsFinish, EndedFeedsLeave, EndedPumpsLeave}

-- both tests hold, so the first does
and-left : (a b : Bool) → (a && b) ≡ true → a ≡ true
and-left true b h = refl
and-left false b h = h

-- no producer of the session is left
pub left-producers : (who id : ℕ) (t : Topic) → has_producer (left t who) who id ≡ false
left-producers who id t = any-filter_same (is_producer who id) (λ p. not (nat_eq p.session who)) false (λ p h. ap not (and-left (nat_eq p.session who) (nat_eq p.id id) h)) t.producers

-- no consumer of the session is left on a subscription
left-consumers-on : (who id : ℕ) (s : Subscription) → is_on (key_of who id) (left_on who s) ≡ false
left-consumers-on who id s = any-filter_same (is_consumer (key_of who id)) (λ c. not (nat_eq c.key.session who)) false (λ c h. ap not (and-left (nat_eq c.key.session who) (nat_eq c.key.id id) h)) s.consumers

left-consumers-in : (who id : ℕ) (subs : List Subscription) → list_any (is_on (key_of who id)) (map (λ s. left_on who s) subs) ≡ false
left-consumers-in who id [] = refl
left-consumers-in who id (s ∷ subs) = ap (λ b. b || list_any (is_on (key_of who id)) (map (λ x. left_on who x) subs)) (left-consumers-on who id s) ∙ left-consumers-in who id subs

-- nor on any
pub left-consumers : (who id : ℕ) (t : Topic) → has_consumer (left t who) who id ≡ false
left-consumers who id t = left-consumers-in who id t.subs.subs

-- no reply for it is due
left-due-cons : (who : ℕ) (q : SessionReplies) (rest : List SessionReplies) (b : Bool) → is_for who q ≡ b → due_to who rest ≡ [] → due_to who (cond (not b) (q ∷ rest) rest) ≡ []
left-due-cons who q rest true e h = h
left-due-cons who q rest false e h = ap (λ b. cond b q.due (due_to who rest)) e ∙ h

pub left-due : (who : ℕ) (queues : List SessionReplies) → due_to who (filter (λ q. not (is_for who q)) queues) ≡ []
left-due who [] = refl
left-due who (q ∷ queues) = left-due-cons who q _ (is_for who q) refl (left-due who queues)

-- and none awaits a flush
left-pending-cons : (who : ℕ) (q : SessionReplies) (rest : List SessionReplies) (b : Bool) → is_for who q ≡ b → pending_to who rest ≡ [] → pending_to who (cond (not b) (q ∷ rest) rest) ≡ []
left-pending-cons who q rest true e h = h
left-pending-cons who q rest false e h = ap (λ b. cond b q.pending (pending_to who rest)) e ∙ h

pub left-pending : (who : ℕ) (queues : List SessionReplies) → pending_to who (filter (λ q. not (is_for who q)) queues) ≡ []
left-pending who [] = refl
left-pending who (q ∷ queues) = left-pending-cons who q _ (is_for who q) refl (left-pending who queues)

-- each topic was left
pub topic_at-left_all : (b : Broker) (who number : ℕ) → topic_at (left_all b who) number ≡ left (topic_at b number) who
topic_at-left_all b who number =
    ap (λ (t : Topic). get_or (map (λ x. left x who) b.topics) number t) (sym (fresh-left b.per_ledger who))
    ∙ get_or-map (λ t. left t who) b.topics number (fresh b.per_ledger)

-- so the session has left
pub has_left : (p : Play) (b : Broker) → p.broker ≡ left_all b p.client.number → HasLeft p
has_left p b h =
    let who = p.client.number in
    let at : (number : ℕ) → topic_at p.broker number ≡ left (topic_at b number) who = λ number. ap (λ (x : Broker). topic_at x number) h ∙ topic_at-left_all b who number in
    record {
      producers = λ topic id. ap (λ (t : Topic). has_producer t who id) (at topic) ∙ left-producers who id (topic_at b topic);
      consumers = λ topic id. ap (λ (t : Topic). has_consumer t who id) (at topic) ∙ left-consumers who id (topic_at b topic);
      due = λ topic. ap (λ (t : Topic). due_to who t.queues) (at topic) ∙ left-due who (topic_at b topic).queues;
      pending = λ topic. ap (λ (t : Topic). pending_to who t.queues) (at topic) ∙ left-pending who (topic_at b topic).queues;
    }

-- as one does that has a fault then
pub ended_leaves : (p new : Play) (why : Fault) → new ≡ left_if_ended p → new.client.fault ≡ Some why → HasLeft new
ended_leaves p new why is fault =
    let same : new.client ≡ p.client = ap (λ (x : Play). x.client) is in
    let e : p.client.fault ≡ Some why = sym (ap (λ (c : Client). c.fault) same) ∙ fault in
    has_left new p.broker (ap (λ (x : Play). x.broker) is ∙ ap (λ (f : Option Fault). left_if f p.broker p.client.number) e ∙ ap (λ (c : Client). left_all p.broker c.number) (sym same))

pub fault_of-feed : (f : Option Fault) (why : Fault) → Err why ≡ feed_result f → f ≡ Some why
fault_of-feed None why h = cc
fault_of-feed (Some x) why h = cc

pub ended_feeds_leave : EndedFeedsLeave
ended_feeds_leave old bytes why new none h =
    let P : Option Fault → Type 0 = λ f. FeedIn (Unit {0}) f old bytes (Err why) new in
    let s = subst P none h in
    ended_leaves _ new why s.0.ends (fault_of-feed new.client.fault why s.1)

module _ (Refused : ℕ → ReadError → Type 0) where
  -- a pump whose device fails ends no session
  serves_until : (goes_on : Bool) (why : PumpFault) (a b : Play) → ServesIf Refused goes_on (Err why) a b → why ≡ Device
  serves_until true why a b h = h.until.device
  serves_until false why a b h = let e = h.0 in absurd (let no : ⊥ = cc in no)

  fault_of-pump : (f : Option Fault) (goes_on : Bool) (replies : ℕ) (messages : Result ℕ PumpFault) (why : Fault) (a b : Play) → ServesIf Refused goes_on messages a b →
      Err (Ended why) ≡ pump_result f replies messages → (x : Fault) × (f ≡ Some x)
  fault_of-pump None goes_on replies (Ok messages) why a b s h = absurd (let no : ⊥ = cc in no)
  fault_of-pump None goes_on replies (Err other) why a b s h = let e = serves_until goes_on other a b s in absurd (let no : ⊥ = cc in no)
  fault_of-pump (Some x) goes_on replies messages why a b s h = (x, refl)

pub ended_pumps_leave : EndedPumpsLeave
ended_pumps_leave old why new none h =
    let P : Option Fault → Type 0 = λ f. PumpIn (λ topic why. Unit {0}) f old (Err (Ended why)) new in
    let s = subst P none h in
    let f = fault_of-pump (λ topic why. Unit {0}) s.served.client.fault (nat_lt s.replies 65536) s.replies s.messages why s.collected s.served s.serves s.result_is in
    ended_leaves s.served new f.0 s.ends (ap (λ (p : Play). p.client.fault) s.ends ∙ f.1)

-- a pump that answers that no more is due has met no fault and not its bound
pub stops_by_itself : (f : Option Fault) (replies : ℕ) (messages : Result ℕ PumpFault) → replies ≤ 65536 → Ok No ≡ pump_result f replies messages → (f ≡ None) × (replies < 65536)
stops_by_itself None replies (Err why) h e = absurd (let no : ⊥ = cc in no)
stops_by_itself None replies (Ok messages) h e =
    let P : ℕ → Type 0 = λ n. Ok No ≡ pump_result None n (Ok messages) in
    (refl, ⊎_elim (λ same. let bound = subst P same e in absurd (let no : ⊥ = cc in no)) (λ other. omega arith) (cases_eq replies 65536))
stops_by_itself (Some why) replies messages h e = absurd (let no : ⊥ = cc in no)

module _ (Refused : ℕ → ReadError → Type 0) where
  finishes : (f : Option Fault) (old new : Play) → PumpIn Refused f old (Ok No) new → HasNothingDue new
  finishes None old new h =
      let stop = stops_by_itself h.served.client.fault h.replies h.messages h.most h.result_is in
      let same : new ≡ h.served = h.ends ∙ ap (λ (f : Option Fault). let p : Play = record h.served { broker = left_if f h.served.broker h.served.client.number } in p) stop.0 in
      let before = serves_if-fault Refused (nat_lt h.replies 65536) h.messages h.collected h.served h.serves stop.0 in
      subst HasNothingDue (sym same) (serves_if-due Refused (nat_lt h.replies 65536) h.messages h.collected h.served h.serves (h.all before stop.1))
  finishes (Some why) old new h = absurd (let no : ⊥ = cc in no)

pub pumps_finish : PumpsFinish
pumps_finish old new h = finishes (λ topic why. Unit {0}) old.client.fault old new h
