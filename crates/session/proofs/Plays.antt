-- Steps, one after another.
use Rattle.std.proofs.Common.{◌≡◌, ◌≢◌, List, [], ◌∷◌, ◌++◌, set, get_or, refl, sym, subst, ap, ◌∙◌, ℕ, zero, suc, ◌+◌, ◌-◌, ◌⊎◌, Bool, true, false, Ok, arith, add-zero, add-suc, Option, Some, None, Result, Err, inl, inr}
use Rattle.std.proofs.lemmas.List.{get_or-set_other}
use Rattle.frames.specs.declared.fault.Fault.{Fault as FrameFault}
use Rattle.frames.specs.declared.frame.Frame.{Frame}
use Rattle.frames.specs.Streams.{Progress, FeedsOn}
use Rattle.gated_log.specs.declared.read_error.ReadError.{ReadError}
use Rattle.topic_core.specs.declared.dispatch.Outgoing.{Outgoing}
use Rattle.topic_core.specs.State.{Topic}
use Rattle.reply_queues.specs.Replies.{due_to}
use Rattle.session.specs.declared.fault.Fault.{Fault}
use Rattle.session.specs.Broker.{Broker, fresh, topic_at, with_topic, due_at, DispatchAt}
use Rattle.session.specs.Client.{Client, Play, play, Says, left_if, left_if_ended}
use Rattle.session.specs.Working.{FrameStep, FramesStep, first_fault, ended_if, feed_result, FeedIn, FeedStep}
use Rattle.session.specs.Pumping.{CollectsFrom, CollectsAt, Collects, HasNothingDue, SendsOne, Sends, FindsNoMemory, Serves, ServesEach, ServesAll, ServesIf}
use Rattle.session.specs.declared.pumping.PumpFault.{PumpFault}
use Rattle.session.specs.declared.entry.Entry.{Entry}

-- one frame more
pub frames_step-push : (F : Type 0) (a : Play) (frames : List Frame) (m : Play) (frame : Frame) (b : Play) → FramesStep F a frames m → FrameStep F m frame b → FramesStep F a (frames ++ frame ∷ []) b
frames_step-push F a [] m frame b h s = let P : Play → Type 0 = λ p. FrameStep F p frame b in (b, subst P h s, refl)
frames_step-push F a (f ∷ fs) m frame b h s = (h.0, h.1, frames_step-push F h.0 fs m frame b h.2 s)

-- a feed of a session that has no fault, from its parts
pub feed_made : (F : Type 0) (v : Client) (b : Broker) (out bytes : List ℕ) (frames : List Frame) (read : Result (Unit {0}) FrameFault) (progress : Progress) (worked : Play)
    (result : Result (Unit {0}) Fault) (new : Play) →
    v.fault ≡ None → FeedsOn v.progress bytes [] frames read progress → FramesStep F (play (record v { progress = progress }) b out) frames worked →
    new ≡ left_if_ended (ended_if read worked) → result ≡ feed_result new.client.fault → FeedStep F (play v b out) bytes result new
feed_made F v b out bytes frames read progress worked result new none feeds works ends is =
    let P : Option Fault → Type 0 = λ f. FeedIn F f (play v b out) bytes result new in
    subst P (sym none) (record { frames = frames; read = read; progress = progress; feeds = feeds; worked = worked; works = works; ends = ends }, is)

-- a session that has ended has left
pub ends_made : (w c : Client) (b b' : Broker) (out : List ℕ) (read : Result (Unit {0}) FrameFault) →
    c ≡ record w { fault = first_fault w.fault read } → b' ≡ left_if c.fault b c.number → play c b' out ≡ left_if_ended (ended_if read (play w b out))
ends_made w c b b' out read e l = ap (λ (x : Broker). play c x out) l ∙ ap (λ (x : Client). left_if_ended (play x b out)) e

-- the replies of one topic more
pub collects-more : (n topic k : ℕ) (a m b : Play) → Collects n a m → CollectsAt topic k m b → Collects (n + k) a b
collects-more n topic zero a m b h s = let P : Play → Type 0 = λ p. Collects n a p in rw add-zero (subst P (sym s) h)
collects-more n topic (suc k) a m b h s = rw add-suc (s.0, collects-more n topic k a m s.0 h s.1, topic, s.2)

-- a session that hasn't ended hadn't before
pub collects_at-fault : (topic k : ℕ) (a b : Play) → CollectsAt topic k a b → b.client.fault ≡ None → a.client.fault ≡ None
collects_at-fault topic zero a b h none = sym (ap (λ (p : Play). p.client.fault) h) ∙ none
collects_at-fault topic (suc k) a b h none = collects_at-fault topic k a h.0 h.1 h.2.goes_on

-- what a reply is taken from
pub collects_from-broker : (topic : ℕ) (a b : Play) → CollectsFrom topic a b → (t : Topic) × (b.broker ≡ with_topic a.broker topic t)
collects_from-broker topic a b h = (_, h.takes.1)

-- collecting from one topic changes nothing at another
pub collects_at-others : (topic k : ℕ) (a b : Play) → CollectsAt topic k a b → (other who : ℕ) → other ≢ topic → due_at b.broker other who ≡ due_at a.broker other who
collects_at-others topic zero a b h other who ne = ap (λ (p : Play). due_at p.broker other who) h
collects_at-others topic (suc k) a b h other who ne =
    let w = collects_from-broker topic h.0 b h.2 in
    ap (λ (x : Broker). due_at x other who) w.1
    ∙ ap (λ (t : Topic). due_to who t.queues) (get_or-set_other h.0.broker.topics topic other w.0 (fresh h.0.broker.per_ledger) ne)
    ∙ collects_at-others topic k a h.0 h.1 other who ne

-- what is due stays where another topic with the same is set
set-due : (topics : List Topic) (at : ℕ) (t : Topic) (number who n : ℕ) → due_to who t.queues ≡ due_to who (get_or topics at (fresh n)).queues →
    due_to who (get_or (set topics at t) number (fresh n)).queues ≡ due_to who (get_or topics number (fresh n)).queues
set-due [] at t number who n same = refl
set-due (x ∷ xs) zero t zero who n same = same
set-due (x ∷ xs) zero t (suc number) who n same = refl
set-due (x ∷ xs) (suc at) t zero who n same = refl
set-due (x ∷ xs) (suc at) t (suc number) who n same = set-due xs at t number who n same

-- what is said changes no more than the fault
pub says-number : (c : Client) (out : List ℕ) (o : Outgoing) (d : Client) (out' : List ℕ) → Says c out o d out' → d.number ≡ c.number
says-number c out o d out' (inl went) = ap (λ (x : Client). x.number) went.0
says-number c out o d out' (inr lost) = ap (λ (x : Client). x.number) lost.0

-- a session that hasn't ended hadn't before
pub sends-fault : (consumer : Entry) (n : ℕ) (a b : Play) → Sends consumer n a b → b.client.fault ≡ None → a.client.fault ≡ None
sends-fault consumer zero a b h none = sym (ap (λ (p : Play). p.client.fault) h) ∙ none
sends-fault consumer (suc n) a b h none = sends-fault consumer n a h.0 h.1 h.2.goes_on

module _ (Refused : ℕ → ReadError → Type 0) where
  stops-fault : (consumer : Entry) (a b : Play) → (b ≡ a) ⊎ FindsNoMemory Refused consumer.topic a b → b.client.fault ≡ None → a.client.fault ≡ None
  stops-fault consumer a b (inl same) none = sym (ap (λ (p : Play). p.client.fault) same) ∙ none
  stops-fault consumer a b (inr stops) none = stops.goes_on

  pub serves-fault : (consumer : Entry) (most n : ℕ) (a b : Play) → Serves Refused consumer most n a b → b.client.fault ≡ None → a.client.fault ≡ None
  serves-fault consumer most n a b h none = sends-fault consumer n a h.sent h.sends (stops-fault consumer h.sent b h.stops none)

  pub serves_each-fault : (consumers : List Entry) (most n : ℕ) (a b : Play) → ServesEach Refused consumers most n a b → b.client.fault ≡ None → a.client.fault ≡ None
  serves_each-fault [] most n a b h none = sym (ap (λ (p : Play). p.client.fault) h.1) ∙ none
  serves_each-fault (c ∷ cs) most n a b h none = serves-fault c most h.0 a h.2 h.3 (serves_each-fault cs (most - h.0) h.1 h.2 b h.4 none)

  serves_all-fault : (consumers : List Entry) (most : ℕ) (result : Result ℕ PumpFault) (a b : Play) → ServesAll Refused consumers most result a b → b.client.fault ≡ None → a.client.fault ≡ None
  serves_all-fault consumers most (Ok n) a b h none = serves_each-fault consumers most n a b h none
  serves_all-fault consumers most (Err why) a b h none =
      serves_each-fault h.before most h.count a h.between h.served (sends-fault h.consumer h.until.count h.between b h.until.sends none)

  pub serves_if-fault : (goes_on : Bool) (result : Result ℕ PumpFault) (a b : Play) → ServesIf Refused goes_on result a b → b.client.fault ≡ None → a.client.fault ≡ None
  serves_if-fault true result a b h none = serves_all-fault a.client.consumers 64 result a b h none
  serves_if-fault false result a b h none = sym (ap (λ (p : Play). p.client.fault) h.1) ∙ none

-- a message leaves what is due
dispatch-due : (b c : Broker) (number who id : ℕ) (message : Outgoing) → DispatchAt b number who id (Ok (Some message)) c → (topic other : ℕ) → due_at c topic other ≡ due_at b topic other
dispatch-due b c number who id message h topic other =
    ap (λ (x : Broker). due_at x topic other) h.others ∙ set-due b.topics number (topic_at c number) topic other b.per_ledger
    (ap (λ (x : Topic). due_to other x.queues) h.step.1.sent)

sends_one-due : (consumer : Entry) (a b : Play) → SendsOne consumer a b → HasNothingDue a → HasNothingDue b
sends_one-due consumer a b h none = λ topic.
    dispatch-due a.broker b.broker consumer.topic a.client.number consumer.id h.message h.takes topic b.client.number
    ∙ ap (λ who. due_at a.broker topic who) (says-number a.client a.out h.message b.client b.out h.says) ∙ none topic

sends-due : (consumer : Entry) (n : ℕ) (a b : Play) → Sends consumer n a b → HasNothingDue a → HasNothingDue b
sends-due consumer zero a b h none = subst HasNothingDue (sym h) none
sends-due consumer (suc n) a b h none = sends_one-due consumer h.0 b h.2 (sends-due consumer n a h.0 h.1 none)

module _ (Refused : ℕ → ReadError → Type 0) where
  stops-due : (topic : ℕ) (a b : Play) → (b ≡ a) ⊎ FindsNoMemory Refused topic a b → HasNothingDue a → HasNothingDue b
  stops-due topic a b (inl same) none = subst HasNothingDue (sym same) none
  stops-due topic a b (inr stops) none = subst HasNothingDue (sym stops.ends) none

  serves_each-due : (consumers : List Entry) (most n : ℕ) (a b : Play) → ServesEach Refused consumers most n a b → HasNothingDue a → HasNothingDue b
  serves_each-due [] most n a b h none = subst HasNothingDue (sym h.1) none
  serves_each-due (c ∷ cs) most n a b h none =
      serves_each-due cs (most - h.0) h.1 h.2 b h.4 (stops-due c.topic h.3.sent h.2 h.3.stops (sends-due c h.0 a h.3.sent h.3.sends none))

  serves_all-due : (consumers : List Entry) (most : ℕ) (result : Result ℕ PumpFault) (a b : Play) → ServesAll Refused consumers most result a b → HasNothingDue a → HasNothingDue b
  serves_all-due consumers most (Ok n) a b h none = serves_each-due consumers most n a b h none
  serves_all-due consumers most (Err why) a b h none =
      sends-due h.consumer h.until.count h.between b h.until.sends (serves_each-due h.before most h.count a h.between h.served none)

  pub serves_if-due : (goes_on : Bool) (result : Result ℕ PumpFault) (a b : Play) → ServesIf Refused goes_on result a b → HasNothingDue a → HasNothingDue b
  serves_if-due true result a b h none = serves_all-due a.client.consumers 64 result a b h none
  serves_if-due false result a b h none = subst HasNothingDue (sym h.1) none

module _ (Refused : ℕ → ReadError → Type 0) where
  -- one consumer more is served
  pub serves_each-push : (consumers : List Entry) (most n k : ℕ) (a m b : Play) (consumer : Entry) → ServesEach Refused consumers most n a m → Serves Refused consumer (most - n) k m b → ServesEach Refused (consumers ++ consumer ∷ []) most (n + k) a b
  serves_each-push [] most n k a m b consumer h s =
      let P : Play → Type 0 = λ p. Serves Refused consumer (most - n) k p b in
      let Q : ℕ → Type 0 = λ i. Serves Refused consumer i k a b in
      (k, 0, b, subst Q (omega (arith, h.0)) (subst P h.1 s), (refl, refl), omega (arith, h.0))
  serves_each-push (c ∷ cs) most n k a m b consumer h s =
      let Q : ℕ → Type 0 = λ i. Serves Refused consumer i k m b in
      (h.0, h.1 + k, h.2, h.3, serves_each-push cs (most - h.0) h.1 k h.2 m b consumer h.4 (subst Q (omega (arith, h.5)) s), omega (arith, h.5))
