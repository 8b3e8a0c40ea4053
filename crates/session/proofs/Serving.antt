-- How serving one consumer ends.
use Rattle.std.proofs.Common.{◌≡◌, inl, inr, ◌<◌, ◌≤◌, ℕ, suc, ◌+◌, ◌-◌, List, [], ◌∷◌, ◌++◌, length, take, drop, get_or, refl, sym, ap, ◌∙◌, subst, ◌⊎◌, Bool, true, false, Option, Some, None, Result, Ok, Err, IfErr, arith}
use Rattle.std.specs.Prelude.{nat_lt, Contains}
use Rattle.std.proofs.Math.Seq.{take-suc, drop-cons}
use Rattle.std.proofs.lemmas.List.{take-append-drop}
use Rattle.std.proofs.lemmas.List.Elements.{All-head, All-tail, All-contains}
use Rattle.session.specs.declared.fault.Fault.{Fault}
use Rattle.gated_log.specs.declared.read_error.ReadError.{ReadError}
use Rattle.gated_log.specs.declared.read_error.ReadError.TheVariants as read
use Rattle.session.specs.declared.entry.Entry.{Entry}
use Rattle.session.specs.Broker.{Broker, IsQuiet}
use Rattle.session.specs.Client.{Client, Play, play, left_if}
use Rattle.session.specs.Noting.{AreNoted, AreQuiet}
use Rattle.session.specs.Pumping.{pump_result, AdmitsNothing, Sends, IsTold, FindsNoMemory, SendsNothing, Serves, ServesEach, ServesUntil, ServesEachUntil, ServesOne, ServesAll, ServesIf, ServesBehind, ServeIn, ServeStep, CollectsDue, CollectIn, CollectStep, Pumps, PumpIn, PumpStep}
use Rattle.session.specs.declared.pumping.PumpFault.{PumpFault}
use Rattle.session.specs.declared.pumping.PumpFault.TheVariants.{Ended, Device, Damaged}
use Rattle.session.specs.declared.pumping.More.{More}
use Rattle.session.proofs.Absent.{admits-absent}
use Rattle.session.proofs.Plays.{serves_each-push}

-- what is told of some refusals is so of more
module _ (R S : ReadError → Type 0) (more : (why : ReadError) → R why → S why) where
  pub is_told-more : (why : PumpFault) → IsTold R why → IsTold S why
  is_told-more (Ended why) h = tt
  is_told-more Device h = more read.Device h
  is_told-more (Damaged file offset) h = more (read.Damaged file offset) h

  pub told-more : (result : Result ℕ PumpFault) → IfErr result (λ why. IsTold R why) → IfErr result (λ why. IsTold S why)
  told-more (Ok n) h = tt
  told-more (Err why) h = is_told-more why h

  pub pumped_told-more : (result : Result More PumpFault) → IfErr result (λ why. IsTold R why) → IfErr result (λ why. IsTold S why)
  pumped_told-more (Ok m) h = tt
  pumped_told-more (Err why) h = is_told-more why h

-- what is refused for some causes is so for more
module _ (R S : ℕ → ReadError → Type 0) (more : (topic : ℕ) (why : ReadError) → R topic why → S topic why) where
  finds_no_memory-more : (topic : ℕ) (a b : Play) → FindsNoMemory R topic a b → FindsNoMemory S topic a b
  finds_no_memory-more topic a b h = record { goes_on = h.goes_on; refused = more topic read.NoMemory h.refused; ends = h.ends }

  pub sends_nothing-more : (consumer : Entry) (a b : Play) → SendsNothing R consumer a b → SendsNothing S consumer a b
  sends_nothing-more consumer a b (inl nothing) = inl nothing
  sends_nothing-more consumer a b (inr finds) = inr (finds_no_memory-more consumer.topic a b finds)

  stops-more : (topic : ℕ) (a b : Play) → (b ≡ a) ⊎ FindsNoMemory R topic a b → (b ≡ a) ⊎ FindsNoMemory S topic a b
  stops-more topic a b (inl same) = inl same
  stops-more topic a b (inr finds) = inr (finds_no_memory-more topic a b finds)

  pub serves-more : (consumer : Entry) (most n : ℕ) (a b : Play) → Serves R consumer most n a b → Serves S consumer most n a b
  serves-more consumer most n a b h = record { sent = h.sent; sends = h.sends; within = h.within; stops = stops-more consumer.topic h.sent b h.stops; all = h.all }

  pub serves_each-more : (consumers : List Entry) (most n : ℕ) (a b : Play) → ServesEach R consumers most n a b → ServesEach S consumers most n a b
  serves_each-more [] most n a b h = h
  serves_each-more (c ∷ cs) most n a b h = (h.0, h.1, h.2, serves-more c most h.0 a h.2 h.3, serves_each-more cs (most - h.0) h.1 h.2 b h.4, h.5)

  pub serves_until-more : (consumer : Entry) (most : ℕ) (why : PumpFault) (a b : Play) → ServesUntil R consumer most why a b → ServesUntil S consumer most why a b
  serves_until-more consumer most why a b h = record { count = h.count; sends = h.sends; within = h.within; goes_on = h.goes_on; device = h.device; refused = more consumer.topic read.Device h.refused }

  pub serves_one-more : (consumer : Entry) (most : ℕ) (result : Result ℕ PumpFault) (a b : Play) → ServesOne R consumer most result a b → ServesOne S consumer most result a b
  serves_one-more consumer most (Ok n) a b h = serves-more consumer most n a b h
  serves_one-more consumer most (Err why) a b h = serves_until-more consumer most why a b h

  pub serves_all-more : (consumers : List Entry) (most : ℕ) (result : Result ℕ PumpFault) (a b : Play) → ServesAll R consumers most result a b → ServesAll S consumers most result a b
  serves_all-more consumers most (Ok n) a b h = serves_each-more consumers most n a b h
  serves_all-more consumers most (Err why) a b h = record {
    before = h.before;
    consumer = h.consumer;
    behind = h.behind;
    are = h.are;
    count = h.count;
    between = h.between;
    served = serves_each-more h.before most h.count a h.between h.served;
    until = serves_until-more h.consumer (most - h.count) why h.between b h.until;
  }

  pub serves_if-more : (goes_on : Bool) (result : Result ℕ PumpFault) (a b : Play) → ServesIf R goes_on result a b → ServesIf S goes_on result a b
  serves_if-more true result a b h = serves_all-more a.client.consumers 64 result a b h
  serves_if-more false result a b h = h

  pump_in-more : (fault : Option Fault) (a : Play) (result : Result More PumpFault) (b : Play) → PumpIn R fault a result b → PumpIn S fault a result b
  pump_in-more None a result b h = record {
    replies = h.replies;
    collected = h.collected;
    collects = h.collects;
    most = h.most;
    all = h.all;
    messages = h.messages;
    served = h.served;
    serves = serves_if-more (nat_lt h.replies 65536) h.messages h.collected h.served h.serves;
    ends = h.ends;
    result_is = h.result_is;
  }
  pump_in-more (Some why) a result b h = h

  pub pump_step-more : (a : Play) (result : Result More PumpFault) (b : Play) → PumpStep R a result b → PumpStep S a result b
  pump_step-more a result b h = pump_in-more a.client.fault a result b h

  pub serves_behind-more : (a : Play) (replies : ℕ) (result : Result More PumpFault) (b : Play) → ServesBehind R a replies result b → ServesBehind S a replies result b
  serves_behind-more a replies result b h = record {
    messages = h.messages;
    served = h.served;
    serves = serves_if-more (nat_lt replies 65536) h.messages a h.served h.serves;
    ends = h.ends;
    result_is = h.result_is;
  }

  serve_in-more : (fault : Option Fault) (a : Play) (replies : ℕ) (result : Result More PumpFault) (b : Play) → ServeIn R fault a replies result b → ServeIn S fault a replies result b
  serve_in-more None a replies result b h = serves_behind-more a replies result b h
  serve_in-more (Some why) a replies result b h = h

  pub serve_step-more : (a : Play) (replies : ℕ) (result : Result More PumpFault) (b : Play) → ServeStep R a replies result b → ServeStep S a replies result b
  serve_step-more a replies result b h = serve_in-more a.client.fault a replies result b h

pub not_none : (why : Fault) → Some why ≡ None → ⊥
not_none why is = cc

module _ (Refused : ℕ → ReadError → Type 0) where
  -- by a topic that isn't there
  pub serves-absent : (consumer : Entry) (most : ℕ) (p : Play) → length p.broker.topics ≤ consumer.topic → Serves Refused consumer most 0 p p
  serves-absent consumer most p h = record {
    sent = p;
    sends = refl;
    within = omega arith;
    stops = inl refl;
    all = λ none few i a. admits-absent p.broker consumer.topic _ i h a;
  }

  -- that is passed over, since its topic has nothing for the session
  pub serves-passed : (consumer : Entry) (most : ℕ) (v : Client) (b b' : Broker) (out : List ℕ) → b' ≡ b → IsQuiet b consumer.topic v.number → Serves Refused consumer most 0 (play v b out) (play v b' out)
  serves-passed consumer most v b b' out same quiet =
      let nothing : Serves Refused consumer most 0 (play v b out) (play v b out) = record {
        sent = play v b out;
        sends = refl;
        within = omega arith;
        stops = inl refl;
        all = λ none few i a. quiet consumer.id i a;
      } in
      subst (λ x. Serves Refused consumer most 0 (play v b out) (play v x out)) (sym same) nothing

  -- by a broker that was only asked before
  pub serves-asked : (consumer : Entry) (most : ℕ) (result : Result ℕ PumpFault) (v : Client) (b b' : Broker) (out : List ℕ) (new : Play) → b' ≡ b → ServesOne Refused consumer most result (play v b' out) new →
      ServesOne Refused consumer most result (play v b out) new
  serves-asked consumer most result v b b' out new same h = subst (λ x. ServesOne Refused consumer most result (play v x out) new) same h

  -- without a message more
  pub serves-stopped : (consumer : Entry) (most n : ℕ) (a m b : Play) → n ≤ most → Sends consumer n a m → SendsNothing Refused consumer m b → Serves Refused consumer most n a b
  serves-stopped consumer most n a m b within sends (inl nothing) = record {
    sent = m;
    sends = sends;
    within = within;
    stops = inl nothing.1;
    all = λ none few. subst (AdmitsNothing consumer) (sym nothing.1) nothing.0;
  }
  serves-stopped consumer most n a m b within sends (inr stops) = record {
    sent = m;
    sends = sends;
    within = within;
    stops = inr stops;
    all = λ none few. absurd (not_none _ (sym (ap (λ (p : Play). p.client.fault) stops.ends) ∙ none));
  }

  -- at its bound, or with the session
  pub serves-bound : (consumer : Entry) (most n : ℕ) (a b : Play) → n ≤ most → Sends consumer n a b → (b.client.fault ≡ None → n < most → ⊥) → Serves Refused consumer most n a b
  serves-bound consumer most n a b within sends ends = record {
    sent = b;
    sends = sends;
    within = within;
    stops = inl refl;
    all = λ none few. absurd (ends none few);
  }

  -- until the device fails
  pub serves-refused : (consumer : Entry) (most n : ℕ) (why : PumpFault) (a m b : Play) → n < most → Sends consumer n a m → m.client.fault ≡ None → (why ≡ Device) × (b ≡ m) → IsTold (Refused consumer.topic) why → ServesUntil Refused consumer most why a b
  serves-refused consumer most n why a m b within sends none stops told = record {
    count = n;
    sends = subst (Sends consumer n a) (sym stops.1) sends;
    within = within;
    goes_on = ap (λ (p : Play). p.client.fault) stops.1 ∙ none;
    device = stops.0;
    refused = subst (IsTold (Refused consumer.topic)) stops.0 told;
  }

  -- consumers of topics that are quiet are passed over
  pub serves_each-quiet : (consumers : List Entry) (topics : List ℕ) (most : ℕ) (v : Client) (b : Broker) (out : List ℕ) → AreQuiet b v.number topics → AreNoted topics consumers →
      ServesEach Refused consumers most 0 (play v b out) (play v b out)
  serves_each-quiet [] topics most v b out quiet noted = (refl, refl)
  serves_each-quiet (c ∷ cs) topics most v b out quiet noted =
      let P : Entry → Type 0 = λ e. Contains topics e.topic in
      let Q : ℕ → Type 0 = λ n. ServesEach Refused cs n 0 (play v b out) (play v b out) in
      let first : IsQuiet b c.topic v.number = All-contains (λ t. IsQuiet b t v.number) topics c.topic quiet (All-head P c cs noted) in
      (0, 0, play v b out, serves-passed c most v b b out refl first, subst Q (omega arith) (serves_each-quiet cs topics most v b out quiet (All-tail P c cs noted)), omega arith)

  -- each consumer is passed over where each topic is quiet
  pub serves_all-quiet : (consumers : List Entry) (topics : List ℕ) (most : ℕ) (v : Client) (b b' : Broker) (out : List ℕ) → b' ≡ b → AreQuiet b v.number topics → AreNoted topics consumers →
      ServesEach Refused consumers most 0 (play v b out) (play v b' out)
  serves_all-quiet consumers topics most v b b' out same quiet noted =
      subst (λ x. ServesEach Refused consumers most 0 (play v b out) (play v x out)) (sym same) (serves_each-quiet consumers topics most v b out quiet noted)

  -- by a broker that was only asked before
  pub serves_all-asked : (consumers : List Entry) (most : ℕ) (result : Result ℕ PumpFault) (v : Client) (b b' : Broker) (out : List ℕ) (new : Play) → b' ≡ b → ServesAll Refused consumers most result (play v b' out) new →
      ServesAll Refused consumers most result (play v b out) new
  serves_all-asked consumers most result v b b' out new same h = subst (λ x. ServesAll Refused consumers most result (play v x out) new) same h

  -- the consumer at the next place is served
  pub serves_each-next : (consumers : List Entry) (place most n k : ℕ) (a m b : Play) (consumer other : Entry) → place < length consumers → consumer ≡ get_or consumers place other →
      ServesEach Refused (take place consumers) most n a m → Serves Refused consumer (most - n) k m b → ServesEach Refused (take (suc place) consumers) most (n + k) a b
  serves_each-next consumers place most n k a m b consumer other within is h s =
      let P : List Entry → Type 0 = λ xs. ServesEach Refused xs most (n + k) a b in
      subst P (ap (λ (x : Entry). take place consumers ++ x ∷ []) is ∙ sym (take-suc consumers place other within)) (serves_each-push Refused (take place consumers) most n k a m b consumer h s)

  -- until the device fails for the consumer at the next place
  pub serves_each-refused : (consumers : List Entry) (place most n : ℕ) (why : PumpFault) (a m b : Play) (consumer other : Entry) → place < length consumers → consumer ≡ get_or consumers place other →
      ServesEach Refused (take place consumers) most n a m → ServesUntil Refused consumer (most - n) why m b → ServesEachUntil Refused consumers most why a b
  serves_each-refused consumers place most n why a m b consumer other within is h s = record {
    before = take place consumers;
    consumer = consumer;
    behind = drop (suc place) consumers;
    are = sym (take-append-drop place consumers)
        ∙ ap (λ (xs : List Entry). take place consumers ++ xs) (drop-cons consumers place other within)
        ∙ ap (λ (x : Entry). take place consumers ++ x ∷ drop (suc place) consumers) (sym is);
    count = n;
    between = m;
    served = h;
    until = s;
  }

  -- a session that has ended is sent nothing
  serves_each-ended : (consumers : List Entry) (most : ℕ) (p : Play) (why : Fault) → p.client.fault ≡ Some why → ServesEach Refused consumers most 0 p p
  serves_each-ended [] most p why is = (refl, refl)
  serves_each-ended (c ∷ cs) most p why is = (
    0,
    0,
    p,
    record { sent = p; sends = refl; within = omega arith; stops = inl refl; all = λ none few. absurd (not_none why (sym is ∙ none)) },
    serves_each-ended cs (most - 0) p why is,
    refl,
  )

  serves_if-ended : (goes_on : Bool) (p : Play) (why : Fault) → p.client.fault ≡ Some why → ServesIf Refused goes_on (Ok 0) p p
  serves_if-ended true p why is = serves_each-ended p.client.consumers 64 p why is
  serves_if-ended false p why is = (refl, refl)

  -- behind what a session without a fault collected
  pumps_both : (fault : Option Fault) (old mid new : Play) (replies : ℕ) (result : Result More PumpFault) → mid.client.fault ≡ fault → CollectsDue old replies mid → ServeIn Refused fault mid replies result new → Pumps Refused old result new
  pumps_both None old mid new replies result is c h =
      let none : c.collected.client.fault ≡ None = ap (λ (p : Play). p.client.fault) (sym c.ends) ∙ is in
      let same : mid ≡ c.collected = c.ends ∙ ap (λ (f : Option Fault). let p : Play = record c.collected { broker = left_if f c.collected.broker c.collected.client.number } in p) none in record {
        replies = replies;
        collected = c.collected;
        collects = c.collects;
        most = c.most;
        all = c.all;
        messages = h.messages;
        served = h.served;
        serves = subst (λ (p : Play). ServesIf Refused (nat_lt replies 65536) h.messages p h.served) same h.serves;
        ends = h.ends;
        result_is = h.result_is;
      }
  pumps_both (Some why) old mid new replies result is c h =
      let some : c.collected.client.fault ≡ Some why = ap (λ (p : Play). p.client.fault) (sym c.ends) ∙ is in record {
        replies = replies;
        collected = c.collected;
        collects = c.collects;
        most = c.most;
        all = c.all;
        messages = Ok 0;
        served = c.collected;
        serves = serves_if-ended (nat_lt replies 65536) c.collected why some;
        ends = h.1 ∙ c.ends;
        result_is = h.0 ∙ sym (ap (λ (f : Option Fault). pump_result f replies (Ok 0)) some);
      }

  pump_in-both : (fault : Option Fault) (old mid new : Play) (replies : ℕ) (result : Result More PumpFault) → old.client.fault ≡ fault → CollectIn fault old replies mid → ServeStep Refused mid replies result new → PumpIn Refused fault old result new
  pump_in-both None old mid new replies result is c h = pumps_both mid.client.fault old mid new replies result refl c h
  pump_in-both (Some why) old mid new replies result is c h =
      let ended : mid.client.fault ≡ Some why = ap (λ (p : Play). p.client.fault) c.1 ∙ is in
      let went = subst (λ (f : Option Fault). ServeIn Refused f mid replies result new) ended h in (went.0, went.1 ∙ c.1)

  -- what a session collects and is then served is a pump of it
  pub pump_both : (old mid new : Play) (replies : ℕ) (result : Result More PumpFault) → CollectStep old replies mid → ServeStep Refused mid replies result new → PumpStep Refused old result new
  pump_both old mid new replies result c h = pump_in-both old.client.fault old mid new replies result refl c h

  -- what a session without a fault is served of its list
  pub serve_listed : (client : Client) (b b' : Broker) (out : List ℕ) (replies : ℕ) (result : Result More PumpFault) (new : Play) → b' ≡ b → client.fault ≡ None → ServesBehind Refused (play client b' out) replies result new →
      ServeStep Refused (play client b out) replies result new
  serve_listed client b b' out replies result new same none h =
      subst (λ (f : Option Fault). ServeIn Refused f (play client b out) replies result new) (sym none) (subst (λ (x : Broker). ServesBehind Refused (play client x out) replies result new) same h)
