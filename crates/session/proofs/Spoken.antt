-- What a pump does of which the number and the fault of its session alone are known, it does of the session.
use Rattle.std.proofs.Common.{◌≡◌, ◌⊎◌, inl, inr, ◌∙◌, ◌-◌, ◌<◌, ◌≤◌, ℕ, zero, suc, List, [], ◌∷◌, Bool, true, false, nat_lt, Option, Some, None, Result, Ok, Err, refl, sym, ap, subst}
use Rattle.std.specs.Prelude.{IfErr}
use Rattle.gated_log.specs.declared.read_error.ReadError.{ReadError}
use Rattle.topic_core.specs.declared.dispatch.Outgoing.{Outgoing}
use Rattle.session.specs.Broker.{Broker}
use Rattle.session.specs.Client.{Client, Play, play, plain, Says, left_if}
use Rattle.session.specs.declared.entry.Entry.{Entry}
use Rattle.session.specs.declared.fault.Fault.{Fault}
use Rattle.session.specs.declared.pumping.More.{More}
use Rattle.session.specs.declared.pumping.PumpFault.{PumpFault}
use Rattle.session.specs.Pumping.{Collects, HasNothingDue, Sends, FindsNoMemory, Serves, ServesEach, ServesUntil, ServesAll, ServesIf, ServesThese, ServesBehind, CollectIn, CollectStep, PumpIn, PumpStep, pump_result, pumped_fault, pumped, ended_by}
use Rattle.session.proofs.Serving.{serves_if-more}

module _ (client : Client) where
  -- the session, with a number and a fault
  abbrev pub as_client : Client → Client
  as_client c = record client { number = c.number; fault = c.fault }

  abbrev pub as_play : Play → Play
  as_play p = record p { client = as_client p.client }

  says : (a : Client) (out : List ℕ) (o : Outgoing) (b : Client) (out' : List ℕ) → Says a out o b out' → Says (as_client a) out o (as_client b) out'
  says a out o b out' (inl went) = inl (ap as_client went.0, went.1, went.2)
  says a out o b out' (inr lost) = inr (ap as_client lost.0, lost.1)

  collects : (n : ℕ) (p q : Play) → Collects n p q → Collects n (as_play p) (as_play q)
  collects zero p q h = ap as_play h
  collects (suc n) p q h = (
    as_play h.0,
    collects n p h.0 h.1,
    h.2,
    record { goes_on = h.3.goes_on; reply = h.3.reply; takes = h.3.takes; says = says h.0.client h.0.out (plain h.3.reply) q.client q.out h.3.says },
  )

  sends : (consumer : Entry) (n : ℕ) (p q : Play) → Sends consumer n p q → Sends consumer n (as_play p) (as_play q)
  sends consumer zero p q h = ap as_play h
  sends consumer (suc n) p q h = (
    as_play h.0,
    sends consumer n p h.0 h.1,
    record { goes_on = h.2.goes_on; message = h.2.message; takes = h.2.takes; says = says h.0.client h.0.out h.2.message q.client q.out h.2.says },
  )

  module _ (Refused : ℕ → ReadError → Type 0) where
    stops : (topic : ℕ) (p q : Play) → (q ≡ p) ⊎ FindsNoMemory Refused topic p q → (as_play q ≡ as_play p) ⊎ FindsNoMemory Refused topic (as_play p) (as_play q)
    stops topic p q (inl same) = inl (ap as_play same)
    stops topic p q (inr finds) = inr (record { goes_on = finds.goes_on; refused = finds.refused; ends = ap as_play finds.ends })

    serves : (consumer : Entry) (most n : ℕ) (p q : Play) → Serves Refused consumer most n p q → Serves Refused consumer most n (as_play p) (as_play q)
    serves consumer most n p q h = record { sent = as_play h.sent; sends = sends consumer n p h.sent h.sends; within = h.within; stops = stops consumer.topic h.sent q h.stops; all = h.all }

    serves_each : (consumers : List Entry) (most n : ℕ) (p q : Play) → ServesEach Refused consumers most n p q → ServesEach Refused consumers most n (as_play p) (as_play q)
    serves_each [] most n p q h = (h.0, ap as_play h.1)
    serves_each (c ∷ cs) most n p q h = (h.0, h.1, as_play h.2, serves c most h.0 p h.2 h.3, serves_each cs (most - h.0) h.1 h.2 q h.4, h.5)

    serves_until : (consumer : Entry) (most : ℕ) (why : PumpFault) (p q : Play) → ServesUntil Refused consumer most why p q → ServesUntil Refused consumer most why (as_play p) (as_play q)
    serves_until consumer most why p q h = record { count = h.count; sends = sends consumer h.count p q h.sends; within = h.within; goes_on = h.goes_on; device = h.device; refused = h.refused }

    serves_all : (consumers : List Entry) (most : ℕ) (result : Result ℕ PumpFault) (p q : Play) → ServesAll Refused consumers most result p q → ServesAll Refused consumers most result (as_play p) (as_play q)
    serves_all consumers most (Ok n) p q h = serves_each consumers most n p q h
    serves_all consumers most (Err why) p q h = record {
      before = h.before;
      consumer = h.consumer;
      behind = h.behind;
      are = h.are;
      count = h.count;
      between = as_play h.between;
      served = serves_each h.before most h.count p h.between h.served;
      until = serves_until h.consumer (most - h.count) why h.between q h.until;
    }

    serves_these : (goes_on : Bool) (entries : List Entry) (result : Result ℕ PumpFault) (p q : Play) → client.consumers ≡ entries → ServesThese Refused goes_on entries result p q →
        ServesIf Refused goes_on result (as_play p) (as_play q)
    serves_these true entries result p q are h = subst (λ es. ServesAll Refused es 64 result (as_play p) (as_play q)) (sym are) (serves_all entries 64 result p q h)
    serves_these false entries result p q are h = (h.0, ap as_play h.1)

-- a session that is told by its number and its fault
client_is : (client : Client) (number : ℕ) (fault : Option Fault) → client.number ≡ number → client.fault ≡ fault → (let c : Client = record client { number = number; fault = fault } in c ≡ client)
client_is client number fault n f = λ i. record client { number = sym n i; fault = sym f i }

-- why a pump ended its session, its answer tells
pub answer_tells : (fault : Option Fault) (replies : ℕ) (messages : Result ℕ PumpFault) → IfErr messages (λ why. ended_by why ≡ None) → pumped_fault (pump_result fault replies messages) ≡ fault
answer_tells None replies (Ok n) h = refl
answer_tells None replies (Err why) h = h
answer_tells (Some why) replies messages h = refl

-- what is served of a session
pub serve_spoken : (R S : ℕ → ReadError → Type 0) → ((topic : ℕ) (why : ReadError) → R topic why → S topic why) → (v client : Client) (b b' : Broker) (out : List ℕ) (replies : ℕ) (entries : List Entry) (messages : Result ℕ PumpFault) (served : Play)
    (result : Result More PumpFault) → client.number ≡ v.number → client.fault ≡ v.fault → client.consumers ≡ entries → served.client.number ≡ v.number →
    ServesThese R (nat_lt replies 65536) entries messages (play v b out) served → b' ≡ left_if served.client.fault served.broker served.client.number → IfErr messages (λ why. ended_by why ≡ None) →
    result ≡ pump_result served.client.fault replies messages → ServesBehind S (play client b out) replies result (play (pumped client result) b' served.out)
serve_spoken R S more v client b b' out replies entries messages served result number fault are stays serve left refused is =
    let first : as_play client (play v b out) ≡ play client b out = ap (λ (c : Client). play c b out) (client_is client v.number v.fault number fault) in
    let told : pumped_fault result ≡ served.client.fault = ap pumped_fault is ∙ answer_tells served.client.fault replies messages refused in
    let last : as_client client served.client ≡ pumped client result =
    (λ i. record client { number = (stays ∙ sym number) i; fault = sym told i }) in
    let few = nat_lt replies 65536 in
    subst (λ (c : Client). ServesBehind S (play client b out) replies result (play c b' served.out)) last (record {
      messages = messages;
      served = as_play client served;
      serves = serves_if-more R S more few messages (play client b out) (as_play client served)
          (subst (λ (p : Play). ServesIf R few messages p (as_play client served)) first (serves_these client R few entries messages (play v b out) served are serve));
      ends = ap (λ (x : Broker). let p : Play = record { client = as_client client served.client; broker = x; out = served.out } in p) left;
      result_is = is;
    })

-- what a session without a fault collects
pub collect_spoken : (v client after : Client) (b b' : Broker) (out : List ℕ) (replies : ℕ) (collected : Play) → v.fault ≡ None → client.number ≡ v.number → client.fault ≡ None → collected.client.number ≡ v.number →
    Collects replies (play v b out) collected → replies ≤ 65536 → (collected.client.fault ≡ None → replies < 65536 → HasNothingDue collected) →
    b' ≡ left_if collected.client.fault collected.broker collected.client.number → after ≡ record client { fault = collected.client.fault } → CollectStep (play client b out) replies (play after b' collected.out)
collect_spoken v client after b b' out replies collected none number goes_on stays collect most all left is =
    let first : as_play client (play v b out) ≡ play client b out = ap (λ (c : Client). play c b out) (client_is client v.number v.fault number (goes_on ∙ sym none)) in
    let same : after ≡ as_client client collected.client = is ∙ (λ i. record client { number = (number ∙ sym stays) i; fault = collected.client.fault }) in
    let P : Option Fault → Type 0 = λ f. CollectIn f (play client b out) replies (play after b' collected.out) in
    subst P (sym goes_on) (record {
      collected = as_play client collected;
      collects = subst (λ (p : Play). Collects replies p (as_play client collected)) first (collects client replies (play v b out) collected collect);
      most = most;
      all = all;
      ends = λ i. play (same i) (left i) collected.out;
    })

-- a pump of a session that has no fault, from what it collects and what it is then served
pub pump_spoken : (S : ℕ → ReadError → Type 0) (v client : Client) (b b' : Broker) (out out' : List ℕ) (replies : ℕ) (collected : Play) (result : Result More PumpFault) → v.fault ≡ None → client.number ≡ v.number → client.fault ≡ None →
    collected.client.number ≡ v.number → Collects replies (play v b out) collected → replies ≤ 65536 → (collected.client.fault ≡ None → replies < 65536 → HasNothingDue collected) →
    ServesBehind S (as_play client collected) replies result (play (pumped (as_client client collected.client) result) b' out') → PumpStep S (play client b out) result (play (pumped client result) b' out')
pump_spoken S v client b b' out out' replies collected result none number goes_on stays collect most all serve =
    let first : as_play client (play v b out) ≡ play client b out = ap (λ (c : Client). play c b out) (client_is client v.number v.fault number (goes_on ∙ sym none)) in
    let last : pumped client result ≡ pumped (as_client client collected.client) result =
    (λ i. record client { number = (number ∙ sym stays) i; fault = pumped_fault result }) in
    let P : Option Fault → Type 0 = λ f. PumpIn S f (play client b out) result (play (pumped client result) b' out') in
    subst P (sym goes_on) (record {
      replies = replies;
      collected = as_play client collected;
      collects = subst (λ (p : Play). Collects replies p (as_play client collected)) first (collects client replies (play v b out) collected collect);
      most = most;
      all = all;
      messages = serve.messages;
      served = serve.served;
      serves = serve.serves;
      ends = ap (λ (c : Client). play c b' out') last ∙ serve.ends;
      result_is = serve.result_is;
    })
