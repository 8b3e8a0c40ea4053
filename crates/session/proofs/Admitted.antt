-- A pump that stops by itself leaves nothing admitted to a consumer of its session.
use Rattle.std.proofs.Common.{◌≡◌, ◌≢◌, ◌∙◌, ◌⊎◌, inl, inr, ⊎_elim, ◌<◌, ◌≤◌, ℕ, zero, suc, ◌-◌, ◌||◌, Bool, true, false, nat_eq, List, [], ◌∷◌, get_or, set, refl, sym, ap, subst, Option, Some, None, Result, Ok, Err, arith}
use Rattle.std.specs.Prelude.{if◌then◌else◌}
use Rattle.std.specs.List.{AllByRecursion}
use Rattle.std.proofs.lemmas.Bool.{cases_eq, lt-ltb}
use Rattle.gated_log.specs.declared.read_error.ReadError.{ReadError}
use Rattle.holds.specs.declared.consumer.ConsumerKey.{ConsumerKey}
use Rattle.topic_core.specs.State.{Topic}
use Rattle.topic_core.specs.Steps.{key_of}
use Rattle.topic_core.specs.Dispatch as topics
use Rattle.session.specs.Broker.{Broker, fresh, topic_at, with_topic}
use Rattle.session.specs.Client.{Play, left_if}
use Rattle.session.specs.Pumping.{AdmitsNothing, Sends, SendsOne, FindsNoMemory, ServesEach, ServesAll, ServesIf, PumpIn, pump_result}
use Rattle.session.specs.Laws.{PumpsServe}
use Rattle.session.specs.declared.entry.Entry.{Entry}
use Rattle.session.specs.declared.fault.Fault.{Fault}
use Rattle.session.specs.declared.pumping.More.{More}
use Rattle.session.specs.declared.pumping.More.TheVariants.{Yes, No}
use Rattle.session.specs.declared.pumping.PumpFault.{PumpFault}
use Rattle.session.proofs.Admitting.{none_sent}
use Rattle.session.proofs.Ends.{stops_by_itself}
use Rattle.session.proofs.Plays.{says-number, serves_each-fault}
use Rattle.session.proofs.Rising.{serves_each}
use Rattle.session.proofs.Serving.{not_none}

-- what holds of each topic holds where one is set
set-kept : (N : Topic → Type 0) (ts : List Topic) (at : ℕ) (t : Topic) (number : ℕ) (d : Topic) → (N (get_or ts at d) → N t) → N (get_or ts number d) → N (get_or (set ts at t) number d)
set-kept N [] at t number d to h = h
set-kept N (x ∷ xs) zero t zero d to h = to h
set-kept N (x ∷ xs) zero t (suc number) d to h = h
set-kept N (x ∷ xs) (suc at) t zero d to h = h
set-kept N (x ∷ xs) (suc at) t (suc number) d to h = set-kept N xs at t number d to h

-- the consumer's topic admits nothing to it
abbrev None_of : Entry → ℕ → Topic → Type 0
None_of c who t = (i : ℕ) → topics.Admits t (key_of who c.id) i → ⊥

topic_sent : (t : Topic) (other key : ConsumerKey) (i : ℕ) → topics.Admits t other i → ((j : ℕ) → topics.Admits t key j → ⊥) → (j : ℕ) → topics.Admits (topics.sent t other i) key j → ⊥
topic_sent t other key i may none = λ j h. none_sent t.subs other key t.committed i may.admitted (λ k x. none k (record { works = may.works; admitted = x })) j h.admitted

module _ (c : Entry) where
  kept_by_one : (other : Entry) (a b : Play) → SendsOne other a b → AdmitsNothing c a → AdmitsNothing c b
  kept_by_one other a b h none =
      let who = a.client.number in
      let t = topic_at b.broker other.topic in
      let sent = h.takes.step in
      let key = key_of who c.id in
      let to : None_of c who (topic_at a.broker other.topic) → None_of c who t =
      λ n. subst (None_of c who) (sym sent.1.sent) (topic_sent (topic_at a.broker other.topic) (key_of who other.id) key sent.0 sent.1.admitted n) in
      let now : None_of c who (topic_at (with_topic a.broker other.topic t) c.topic) = set-kept (None_of c who) a.broker.topics other.topic t c.topic (fresh a.broker.per_ledger) to none in
      subst (λ (x : Broker). None_of c b.client.number (topic_at x c.topic)) (sym h.takes.others)
      (subst (λ n. None_of c n (topic_at (with_topic a.broker other.topic t) c.topic)) (sym (says-number a.client a.out h.message b.client b.out h.says)) now)

  kept_by_some : (other : Entry) (n : ℕ) (a b : Play) → Sends other n a b → AdmitsNothing c a → AdmitsNothing c b
  kept_by_some other zero a b h none = subst (AdmitsNothing c) (sym h) none
  kept_by_some other (suc n) a b h none = kept_by_one other h.0 b h.2 (kept_by_some other n a h.0 h.1 none)

module _ (Refused : ℕ → ReadError → Type 0) where
  kept_by_stop : (c : Entry) (topic : ℕ) (a b : Play) → (b ≡ a) ⊎ FindsNoMemory Refused topic a b → b.client.fault ≡ None → AdmitsNothing c a → AdmitsNothing c b
  kept_by_stop c topic a b (inl same) goes_on none = subst (AdmitsNothing c) (sym same) none
  kept_by_stop c topic a b (inr stops) goes_on none = absurd (not_none _ (sym (ap (λ (p : Play). p.client.fault) stops.ends) ∙ goes_on))

  kept_by_each : (c : Entry) (others : List Entry) (most n : ℕ) (a b : Play) → ServesEach Refused others most n a b → b.client.fault ≡ None → AdmitsNothing c a → AdmitsNothing c b
  kept_by_each c [] most n a b h goes_on none = subst (AdmitsNothing c) (sym h.1) none
  kept_by_each c (other ∷ others) most n a b h goes_on none =
      kept_by_each c others (most - h.0) h.1 h.2 b h.4 goes_on
      (kept_by_stop c other.topic h.3.sent h.2 h.3.stops (serves_each-fault Refused others (most - h.0) h.1 h.2 b h.4 goes_on) (kept_by_some c other h.0 a h.3.sent h.3.sends none))

  each_within : (cs : List Entry) (most n : ℕ) (a b : Play) → ServesEach Refused cs most n a b → n ≤ most
  each_within [] most n a b h = omega (arith, h.0)
  each_within (c ∷ cs) most n a b h = let first = h.3.within in let rest = each_within cs (most - h.0) h.1 h.2 b h.4 in omega (arith, h.5, first, rest)

  -- below the bound each consumer got all that was admitted to it
  each_all : (cs : List Entry) (most n : ℕ) (a b : Play) → ServesEach Refused cs most n a b → b.client.fault ≡ None → n < most → AllByRecursion (λ c. AdmitsNothing c b) cs
  each_all [] most n a b h goes_on few = tt
  each_all (c ∷ cs) most n a b h goes_on few =
      let between = serves_each-fault Refused cs (most - h.0) h.1 h.2 b h.4 goes_on in (
        kept_by_each c cs (most - h.0) h.1 h.2 b h.4 goes_on (h.3.all between (omega (arith, h.5, few))),
        each_all cs (most - h.0) h.1 h.2 b h.4 goes_on (let first = h.3.within in omega (arith, h.5, few, first)),
      )

  at_bound : (b : Bool) (r : Result More PumpFault) → r ≡ Ok No → r ≡ Ok (if b || true then Yes else No) → ⊥
  at_bound true r is h = cc
  at_bound false r is h = cc

  -- a pump that answers that no more is admitted has not met its bound
  sent_few : (f : Option Fault) (replies : ℕ) (messages : Result ℕ PumpFault) → Ok No ≡ pump_result f replies messages → (n : ℕ) × (messages ≡ Ok n) × (n ≢ 64)
  sent_few None replies (Err why) e = absurd (let no : ⊥ = cc in no)
  sent_few None replies (Ok n) e = (n, refl, λ same. at_bound (nat_eq replies 65536) (Ok No) refl (subst (λ k. Ok No ≡ pump_result None replies (Ok k)) same e))
  sent_few (Some why) replies messages e = absurd (let no : ⊥ = cc in no)

  serves : (f : Option Fault) (old new : Play) → PumpIn Refused f old (Ok No) new → AllByRecursion (λ c. AdmitsNothing c new) new.client.consumers
  serves None old new h =
      let stop = stops_by_itself h.served.client.fault h.replies h.messages h.most h.result_is in
      let few = sent_few h.served.client.fault h.replies h.messages h.result_is in
      let same : new ≡ h.served = h.ends ∙ ap (λ (f : Option Fault). let p : Play = record h.served { broker = left_if f h.served.broker h.served.client.number } in p) stop.0 in
      let all : ServesAll Refused h.collected.client.consumers 64 h.messages h.collected h.served =
      subst (λ b. ServesIf Refused b h.messages h.collected h.served) (lt-ltb h.replies 65536 stop.1) h.serves in
      let each : ServesEach Refused h.collected.client.consumers 64 few.0 h.collected h.served = subst (λ m. ServesAll Refused h.collected.client.consumers 64 m h.collected h.served) few.1 all in
      let within = each_within h.collected.client.consumers 64 few.0 h.collected h.served each in
      let below : few.0 < 64 = ⊎_elim (λ bound. absurd (few.2 bound)) (λ (apart : few.0 ≢ 64). omega (arith, within, apart)) (cases_eq few.0 64) in
      let kept = serves_each Refused h.collected.client.consumers 64 few.0 h.collected h.served each in
      subst (λ (p : Play). AllByRecursion (λ c. AdmitsNothing c p) p.client.consumers) (sym same)
      (subst (λ cs. AllByRecursion (λ c. AdmitsNothing c h.served) cs) (sym kept) (each_all h.collected.client.consumers 64 few.0 h.collected h.served each stop.0 below))
  serves (Some why) old new h = absurd (let no : ⊥ = cc in no)

pub pumps_serve : PumpsServe
pumps_serve old new h = serves (λ topic why. Unit {0}) old.client.fault old new h
