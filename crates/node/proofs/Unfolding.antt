-- Each step, each run and each life writes whole frames to those who hear them, and moves each topic.
use Rattle.std.proofs.Common.{◌<◌, ◌≤◌, ◌≡◌, ◌≢◌, ◌∙◌, ⊎_elim, ℕ, nat_eq, Bool, true, false, Option, Some, None, is_some, List, [], ◌∷◌, ◌++◌, cond, map, slice_get, slice_set, remove, refl, sym, ap, subst, append-nil, arith, length}
use Rattle.std.proofs.lemmas.Bool.{eqb-true, eq-eqb, ne_eqb}
use Rattle.std.proofs.lemmas.List.Quantifiers.{position-Some}
use Rattle.std.proofs.lemmas.Option.{get_or_from_slice_get}
use Rattle.std.specs.List.{AllByRecursion}
use Rattle.frames.specs.declared.frame.Frame.{Frame}
use Rattle.frames.specs.Streams.{BeginsWith}
use Rattle.gated_log.specs.declared.refusal.Refusal.TheVariants as refusal
use Rattle.topic_core.specs.State.{Topic}
use Rattle.topic_core.specs.Flush.{IsTrimPoint}
use Rattle.session.specs.Broker.{Broker, fresh, topic_at, with_topic}
use Rattle.session.specs.Client.{Client, Play, play, frames_of, AreBounded}
use Rattle.session.specs.declared.fault.Fault.{Fault}
use Rattle.node.specs.State.{State, MayRefuse, place_in, place_of, is_full, with_session, settled, verdict_of}
use Rattle.node.specs.Steps as steps
use Rattle.node.specs.Steps.{spot_at}
use Rattle.node.specs.Runs.{Chain, Run, Life, OpeningEnds, EventIn, HappeningStep, AllowedRun}
use Rattle.node.specs.Moves.{Move, Flush, Take, Finish, Reopen, Crash, Cut, MoveStep, told_by}
use Rattle.node.specs.Origins.{Origin, Opened, AsksSo, moves_from, frames_in}
use Rattle.node.specs.Incoming.{is_known, brought, brought_in, is_done, is_opening}
use Rattle.node.specs.Cuts.{Turn, Whole, Within, cut_in, TurnStep, AllowedLife, hearer_in}
use Rattle.node.specs.Telling.{Said, all_outgoing, from_topic, AnswersAreAtOnce, hearer, hearer_of, AreHeard, Course, Talk, Unfolds, RunUnfolds}
use Rattle.node.specs.declared.event.Event.{Event}
use Rattle.node.specs.declared.event.Event.TheVariants as event
use Rattle.node.specs.declared.event.TopicEvent.{TopicEvent}
use Rattle.node.specs.declared.event.TopicEvent.TheVariants as on_topic
use Rattle.node.specs.declared.event.Happening.{Happening}
use Rattle.node.specs.declared.event.Happening.TheVariants as happening
use Rattle.node.specs.declared.event.Verdict.{Verdict}
use Rattle.node.specs.declared.event.Verdict.TheVariants as verdict
use Rattle.node.specs.declared.event.Output.{Output}
use Rattle.node.proofs.Saying.{caused, caused_both, still_course, then_course, becomes, at_once_then, at_once-append, bounded-append, from_topic-append, moves_from-append}
use Rattle.node.specs.Brokers.{set_at, more_at}
use Rattle.node.proofs.Playing.{Known, Plays, gone_each, fed, pumped}
use Rattle.node.proofs.Streams.{AreNumbered, AreWorked, Claim, Serves, numbered_more, nothing_claim, silent_claim, opens_claim, serves_numbered, serves_claim, gone_numbered, gone_claim, ask_so, are_worked, own_frames, no_other_frames}
use Rattle.node.proofs.Causing.{Alike, talked, both_ways, Caused, calm_now, Causes, same_state, talks, works_on}

-- bytes go out to the one who hears them, or to none, on moves that come from these
pub record Utters (who : Option ℕ) (origins : List Origin) (old : Broker) (bytes : List ℕ) (new : Broker) : Type 0 where
  pub said : List Said
  pub written : bytes ≡ frames_of (all_outgoing said)
  pub bounded : AreBounded (all_outgoing said)
  pub heard : AreHeard who said
  pub each : (number : ℕ) → Course (topic_at old number) (from_topic number said) (topic_at new number)
  pub at_once : AnswersAreAtOnce (λ number. (each number).moves) said
  pub asks : (number : ℕ) → caused (each number).moves ≡ moves_from number origins

heard_by : (who : ℕ) (origins : List Origin) (b : Broker) (bytes : List ℕ) (c : Broker) → Unfolds who origins b bytes c → Utters (Some who) origins b bytes c
heard_by who origins b bytes c u = record {
  said = u.said;
  written = u.written;
  bounded = u.bounded;
  heard = u.heard;
  each = λ number. (u.each number).course;
  at_once = u.at_once;
  asks = λ number. (u.each number).asks;
}

-- a topic goes on by moves, of which these come from what came in, and tells nothing
record Goes (old : Topic) (asked : List Move) (new : Topic) : Type 0 where
  course : Course old [] new
  asks : caused course.moves ≡ asked

still_goes : (t : Topic) → Goes t [] t
unfolding still_course
still_goes t = record { course = still_course t; asks = refl }

one_goes : (t : Topic) (m : Move) (u : Topic) → [] ≡ told_by (m ∷ []) → MoveStep t m u → Goes t (caused (m ∷ [])) u
one_goes t m u tells step = record { course = record { moves = m ∷ []; steps = (u, step, refl); tells = tells }; asks = refl }

talk_goes : (t u : Topic) → Talk t [] [] u → Goes t [] u
talk_goes t u talk = record { course = talk.course; asks = talk.asks }

-- nothing goes out, whoever hears
hushed : (who : Option ℕ) → AreHeard who []
hushed None = refl
hushed (Some who) = tt

quietly : (who : Option ℕ) (origins : List Origin) (b : Broker) (bytes : List ℕ) (c : Broker) → bytes ≡ [] → ((number : ℕ) → Goes (topic_at b number) (moves_from number origins) (topic_at c number)) → Utters who origins b bytes c
quietly who origins b bytes c none each = record { said = []; written = none; bounded = tt; heard = hushed who; each = λ number. (each number).course; at_once = tt; asks = λ number. (each number).asks }

same_put : (b c : Broker) (number : ℕ) → c ≡ b → Goes (topic_at b number) [] (topic_at c number)
same_put b c number is = subst (λ (x : Broker). Goes (topic_at b number) [] (topic_at x number)) (sym is) (still_goes (topic_at b number))

unmoved : (who : Option ℕ) (b : Broker) (bytes : List ℕ) (c : Broker) → bytes ≡ [] → c ≡ b → Utters who [] b bytes c
unmoved who b bytes c none is = quietly who [] b bytes c none (λ number. same_put b c number is)

no_bytes : (answer : Verdict) (output : Output) → output ≡ record { bytes = []; result = answer } → output.bytes ≡ []
no_bytes answer output is = ap (λ (o : Output). o.bytes) is

-- what sessions work on a step, of the bytes that it brings them
pub record Comes (old new : State) (brings : ℕ → List ℕ) (origins : List Origin) : Type 0 where
  pub asks : AllByRecursion AsksSo origins
  pub worked : AreWorked origins
  pub numbered : AreNumbered 0 old.sessions old.used → AreNumbered 0 new.sessions new.used
  pub claims : AreNumbered 0 old.sessions old.used → (bytes : ℕ → List ℕ) (frames : ℕ → List Frame) → Claim new.sessions new.used bytes frames
      → Claim old.sessions old.used (λ who. brings who ++ bytes who) (λ who. frames_in 0 who origins ++ frames who)

-- what a step of a node tells, what its moves come from, and what failures of topics rest on
pub record Tells (who : Option ℕ) (old : State) (event : Event) (output : Output) (new : State) : Type 0 where
  pub origins : List Origin
  pub utters : Utters who origins old.broker output.bytes new.broker
  pub comes : Comes old new (λ other. brought other event output.result) origins
  pub causes : Causes old new

-- nothing comes to a session, and none opens or ends
none_come : (old new : State) (brings : ℕ → List ℕ) → ((who : ℕ) → brings who ≡ []) → new.sessions ≡ old.sessions → new.used ≡ old.used → Comes old new brings []
none_come old new brings none sessions used =
    record {
      asks = tt;
      worked = tt;
      numbered = λ numbered. subst (λ (cs : List Client). AreNumbered 0 cs new.used) (sym sessions) (subst (λ n. AreNumbered 0 old.sessions n) (sym used) numbered);
      claims = λ numbered bytes frames claim. nothing_claim old.sessions old.used brings none bytes frames
          (subst (λ (cs : List Client). Claim cs old.used bytes frames) sessions (subst (λ n. Claim new.sessions n bytes frames) used claim));
    }

same_come : (old new : State) (brings : ℕ → List ℕ) → ((who : ℕ) → brings who ≡ []) → new ≡ old → Comes old new brings []
same_come old new brings none is = none_come old new brings none (ap (λ (s : State). s.sessions) is) (ap (λ (s : State). s.used) is)

unknown_bytes : (who : ℕ) (event : Event) → brought who event verdict.Unknown ≡ []
unknown_bytes who event.Open = refl
unknown_bytes who (event.Bytes other bytes) = refl
unknown_bytes who (event.Pump other) = refl
unknown_bytes who (event.Close other) = refl
unknown_bytes who (event.OnTopic topic e) = refl

only : (who : Option ℕ) (event : Event) (answer : Verdict) (old : State) (output : Output) (new : State) → ((other : ℕ) → brought other event answer ≡ []) → steps.Only answer old output new → Tells who old event output new
only who event answer old output new none s = record {
  origins = [];
  utters = unmoved who old.broker output.bytes new.broker (no_bytes answer output s.0) (ap (λ (n : State). n.broker) s.1);
  comes = same_come old new (λ other. brought other event output.result) (λ other. ap (λ (o : Output). brought other event o.result) s.0 ∙ none other) s.1;
  causes = same_state old new s.1;
}

-- a session opens
one_opens : (old new : State) → new ≡ with_session old → Comes old new (λ who. []) []
one_opens old new is = record {
  asks = tt;
  worked = tt;
  numbered = λ numbered. subst (λ (s : State). AreNumbered 0 s.sessions s.used) (sym is) (numbered_more 0 old.sessions old.used numbered);
  claims = λ numbered bytes frames claim. opens_claim old.sessions old.used bytes frames numbered (subst (λ (s : State). Claim s.sessions s.used bytes frames) is claim);
}

opens_as : (answer : Verdict) (old : State) (output : Output) (new : State) → steps.OpensAs answer old output new → Tells None old event.Open output new
opens_as verdict.Done old output new s = record {
  origins = [];
  utters = unmoved None old.broker output.bytes new.broker (no_bytes verdict.Done output s.0) (ap (λ (n : State). n.broker) s.1);
  comes = one_opens old new s.1;
  causes = same_state (with_session old) new s.1;
}
opens_as (verdict.Refused why) old output new s = only None event.Open (verdict.Refused refusal.NoMemory) old output new (λ other. refl) s
opens_as verdict.Full old output new s = absurd s
opens_as verdict.Unknown old output new s = absurd s
opens_as (verdict.Ended why) old output new s = absurd s

opens_session : (full : Bool) (old : State) (output : Output) (new : State) → steps.OpenStep full old output new → Tells None old event.Open output new
opens_session true old output new s = only None event.Open verdict.Full old output new (λ other. refl) s
opens_session false old output new s = opens_as output.result old output new s

-- the session that stands where a number was found has that number
found_at : (sessions : List Client) (who place : ℕ) (client : Client) → place_of sessions who ≡ Some place → slice_get sessions place ≡ Some client → client.number ≡ who
found_at sessions who place client is there =
    let at = position-Some (λ (s : Client). nat_eq s.number who) sessions place client is in
    eqb-true client.number who (ap (λ (c : Client). nat_eq c.number who) (sym (get_or_from_slice_get sessions place client client there)) ∙ at.1)

-- a session plays, and works what came
session_comes : (old : State) (place : ℕ) (client : Client) (q : Play) (answer : Verdict) (output : Output) (new : State) (brings : ℕ → List ℕ) (origins : List Origin) → AllByRecursion AsksSo origins → AreWorked origins
    → Serves old.sessions place client q.client brings (λ who. frames_in 0 who origins) → steps.Settles old place q answer output new → Comes old new brings origins
session_comes old place client q answer output new brings origins asks worked serves s = record {
  asks = asks;
  worked = worked;
  numbered = λ numbered. subst (λ (cs : List Client). AreNumbered 0 cs new.used) (sym s.sessions)
      (subst (λ n. AreNumbered 0 (settled q.client.fault (slice_set old.sessions place q.client) place) n) (sym s.used)
      (serves_numbered old.sessions place client q.client old.used brings (λ who. frames_in 0 who origins) serves numbered));
  claims = λ numbered bytes frames claim.
      serves_claim old.sessions place client q.client old.used brings (λ who. frames_in 0 who origins) serves numbered bytes frames
      (subst (λ (cs : List Client). Claim cs old.used bytes frames) s.sessions (subst (λ n. Claim new.sessions n bytes frames) s.used claim));
}

plays_out : (who place : ℕ) (event : Event) (origins : List Origin) (old : State) (client begun : Client) (q : Play) (answer : Verdict) (output : Output) (new : State) → begun.number ≡ who
    → Plays origins (play begun old.broker []) q → Comes old new (λ other. brought other event output.result) origins → steps.Settles old place q answer output new → Tells (Some who) old event output new
plays_out who place event origins old client begun q answer output new is p comes s =
    let bytes : output.bytes ≡ p.bytes = ap (λ (o : Output). o.bytes) s.answer ∙ p.out in record {
      origins = origins;
      utters = subst (λ (n : ℕ). Utters (Some n) origins old.broker output.bytes new.broker) is
          (heard_by begun.number origins old.broker output.bytes new.broker (becomes begun.number origins old.broker q.broker new.broker p.bytes output.bytes p.unfolds bytes s.broker));
      comes = comes;
      causes = talks old new s.stages s.faults (λ number.
          subst (λ (b : Broker). Alike (topic_at old.broker number) (topic_at b number)) (sym s.broker) (talked (topic_at old.broker number) _ _ (topic_at q.broker number) (p.unfolds.each number)));
    }

is_fed : (fault : Option Fault) → is_known (verdict_of fault) ≡ true
is_fed None = refl
is_fed (Some why) = refl

-- the bytes that an event brings to the session that it is for, and to the others
brings_own : (who : ℕ) (bytes : List ℕ) (answer : Verdict) → is_known answer ≡ true → brought who (event.Bytes who bytes) answer ≡ bytes
brings_own who bytes answer known =
    ap (λ (b : Bool). cond b (cond (nat_eq who who) bytes []) []) known ∙ ap (λ (b : Bool). cond b bytes []) (eq-eqb who who refl)

brings_others : (who other : ℕ) (bytes : List ℕ) (answer : Verdict) → is_known answer ≡ true → who ≢ other → brought other (event.Bytes who bytes) answer ≡ []
brings_others who other bytes answer known differs =
    ap (λ (b : Bool). cond b (cond (nat_eq who other) bytes []) []) known ∙ ap (λ (b : Bool). cond b bytes []) (ne_eqb who other differs)

feeds : (who place : ℕ) (old : State) (bytes : List ℕ) (output : Output) (new : State) → place_of old.sessions who ≡ Some place → steps.Feeds old place bytes output new → Tells (Some who) old (event.Bytes who bytes) output new
feeds who place old bytes output new is s =
    let f = fed who (old.faults < new.faults) (play s.client old.broker []) bytes s.result s.played (found_at old.sessions who place s.client is s.stands) s.step in
    let own : s.client.number ≡ who = found_at old.sessions who place s.client is s.stands in
    let known = ap (λ (o : Output). is_known o.result) s.settles.answer ∙ is_fed s.played.client.fault in
    let w = f.works in
    let serves : Serves old.sessions place s.client s.played.client (λ other. brought other (event.Bytes who bytes) output.result) (λ other. frames_in 0 other w.origins) = record {
      stands = s.stands;
      number = ap (λ (k : Known). k.number) w.plays.known;
      apart = λ other differs. (
        brings_others who other bytes output.result known (λ same. differs (own ∙ same)),
        no_other_frames who other f.frames w.origins (λ same. differs (own ∙ same)) w.are,
      );
      left = f.left;
      begins = subst (λ n. BeginsWith (s.client.progress.rest ++ brought n (event.Bytes who bytes) output.result) (frames_in 0 n w.origins) f.left) (sym own)
          (subst (λ (l : List ℕ). BeginsWith (s.client.progress.rest ++ l) (frames_in 0 who w.origins) f.left) (sym (brings_own who bytes output.result known))
          (subst (λ (fs : List Frame). BeginsWith (s.client.progress.rest ++ bytes) fs f.left) (sym (own_frames who f.frames w.origins w.are)) f.begins));
      kept = λ goes_on. ap (λ (k : Known). k.progress.rest) w.plays.known ∙ f.kept goes_on;
    } in
    plays_out who place (event.Bytes who bytes) w.origins old s.client (record s.client { progress = f.progress }) s.played _ output new own w.plays
    (session_comes old place s.client s.played _ output new (λ other. brought other (event.Bytes who bytes) output.result) w.origins (ask_so who f.frames w.origins w.are) (are_worked who f.frames w.origins w.are) serves s.settles)
    s.settles

bytes_come : (who : ℕ) (place : Option ℕ) (old : State) (bytes : List ℕ) (output : Output) (new : State) → place_of old.sessions who ≡ place → steps.BytesStep place old bytes output new → Tells (Some who) old (event.Bytes who bytes) output new
bytes_come who None old bytes output new is s = only (Some who) (event.Bytes who bytes) verdict.Unknown old output new (λ other. refl) s
bytes_come who (Some place) old bytes output new is s = feeds who place old bytes output new is s

pumps : (who : ℕ) (place : Option ℕ) (old : State) (output : Output) (new : State) → place_of old.sessions who ≡ place → steps.PumpStep place old output new → Tells (Some who) old (event.Pump who) output new
pumps who None old output new is s = only (Some who) (event.Pump who) verdict.Unknown old output new (λ other. refl) s
pumps who (Some place) old output new is s =
    let p = pumped (MayRefuse old.stages old.faults new.faults) s.client.fault (play s.client old.broker []) s.result s.played s.step in
    let serves : Serves old.sessions place s.client s.played.client (λ other. []) (λ other. frames_in 0 other []) = record {
      stands = s.stands;
      number = ap (λ (k : Known). k.number) p.known;
      apart = λ other differs. (refl, refl);
      left = s.client.progress.rest;
      begins = append-nil s.client.progress.rest;
      kept = λ goes_on. ap (λ (k : Known). k.progress.rest) p.known;
    } in
    plays_out who place (event.Pump who) [] old s.client s.client s.played _ output new (found_at old.sessions who place s.client is s.stands) p
    (session_comes old place s.client s.played _ output new (λ other. []) [] tt tt serves s.settles) s.settles

-- a session is gone
one_goes_away : (old : State) (place : ℕ) (client : Client) (new : State) → slice_get old.sessions place ≡ Some client → new.sessions ≡ remove old.sessions place → new.used ≡ old.used → Comes old new (λ who. []) []
one_goes_away old place client new there sessions used = record {
  asks = tt;
  worked = tt;
  numbered = λ numbered. subst (λ (cs : List Client). AreNumbered 0 cs new.used) (sym sessions)
      (subst (λ n. AreNumbered 0 (remove old.sessions place) n) (sym used) (gone_numbered old.sessions place client old.used there numbered));
  claims = λ numbered bytes frames claim. gone_claim old.sessions place client old.used there numbered bytes frames
      (subst (λ (cs : List Client). Claim cs old.used bytes frames) sessions (subst (λ n. Claim new.sessions n bytes frames) used claim));
}

closes : (who : ℕ) (place : Option ℕ) (old : State) (output : Output) (new : State) → steps.CloseStep place old output new → Tells None old (event.Close who) output new
closes who None old output new s = only None (event.Close who) verdict.Unknown old output new (λ other. refl) s
closes who (Some place) old output new s =
    let gone : (number : ℕ) → Talk (topic_at old.broker number) [] [] (topic_at new.broker number) =
    λ number. subst (λ (x : Broker). Talk (topic_at old.broker number) [] [] (topic_at x number)) (sym s.broker) (gone_each old.broker s.client.number number) in record {
      origins = [];
      utters = quietly None [] old.broker output.bytes new.broker (no_bytes verdict.Done output s.answer) (λ number. talk_goes (topic_at old.broker number) (topic_at new.broker number) (gone number));
      comes = one_goes_away old place s.client new s.stands s.sessions s.used;
      causes = talks old new s.stages s.faults (λ number. talked (topic_at old.broker number) [] [] (topic_at new.broker number) (gone number));
    }

-- one topic moves, and tells nothing
placed_each : (b c : Broker) (at : ℕ) (t : Topic) → Goes (topic_at b at) [] t → c ≡ with_topic b at t → (number : ℕ) → Goes (topic_at b number) [] (topic_at c number)
placed_each b c at t moved is = λ number.
    subst (λ (x : Broker). Goes (topic_at b number) [] (topic_at x number)) (sym is)
    (set_at (λ x y. Goes x [] y) still_goes b.topics at number t (fresh b.per_ledger) moved)

-- an event of a topic is one move of it, but a write, which is none
works_at : (e : TopicEvent) (p : steps.Spot) (told : Verdict) (q : steps.Spot) → steps.WorksAt e p told q → Goes p.topic [] q.topic
works_at on_topic.Flush p told q s = one_goes p.topic (Flush s.result) q.topic refl s.step
works_at on_topic.Take p told q s = one_goes p.topic (Take s.result) q.topic refl s.step
works_at on_topic.Write p told q s = subst (λ (t : Topic). Goes p.topic [] t) (sym s.same) (still_goes p.topic)
works_at on_topic.Finish p told q s = one_goes p.topic (Finish s.written s.result) q.topic refl s.step
works_at on_topic.Reopen p told q s = one_goes p.topic (Reopen s.result) q.topic refl s.step

works : (topic : ℕ) (e : TopicEvent) (place : Option ℕ) (old : State) (output : Output) (new : State) → steps.WorkStep e place old output new → Tells None old (event.OnTopic topic e) output new
works topic e None old output new s = only None (event.OnTopic topic e) verdict.Unknown old output new (λ other. refl) s
works topic e (Some at) old output new s = ⊎_elim
    (λ (w : (at < length old.broker.topics) × steps.WorksOn e old at output new). record {
      origins = [];
      utters = quietly None [] old.broker output.bytes new.broker (no_bytes w.1.told output w.1.answer) (placed_each old.broker new.broker at w.1.next (works_at e _ w.1.told _ w.1.step) w.1.moves.broker);
      comes = none_come old new (λ other. []) (λ other. refl) w.1.moves.sessions w.1.moves.used;
      causes = works_on e old at output new w.0 w.1;
    })
    (λ idle. only None (event.OnTopic topic e) verdict.Unknown old output new (λ other. refl) idle.1)
    s

pub event_tells : (old : State) (e : Event) (output : Output) (new : State) → steps.BrokerStep old e output new → Tells (hearer e) old e output new
event_tells old event.Open output new s = opens_session (is_full old) old output new s
event_tells old (event.Bytes who bytes) output new s = bytes_come who (place_of old.sessions who) old bytes output new refl s
event_tells old (event.Pump who) output new s = pumps who (place_of old.sessions who) old output new refl s
event_tells old (event.Close who) output new s = closes who (place_of old.sessions who) old output new s
event_tells old (event.OnTopic topic e) output new s = works topic e (place_in old.broker.topics topic) old output new s

-- ---- one thing after another

-- what is told, and what the moves come from
pub record Unfolding (origins : List Origin) (old : Broker) (hearers : List (Option ℕ)) (outputs : List Output) (new : Broker) : Type 0 where
  pub unfolds : RunUnfolds old hearers outputs new
  pub asks : (number : ℕ) → caused (unfolds.each number).moves ≡ moves_from number origins

-- nothing happens
no_event : (b c : Broker) → c ≡ b → Unfolding [] b [] [] c
no_event b c is = record {
  unfolds = record { said = []; spells = refl; bounded = tt; each = λ number. (same_put b c number is).course; at_once = tt };
  asks = λ number. (same_put b c number is).asks;
}

-- one thing, and then others
and_then : (who : Option ℕ) (now later : List Origin) (hearers : List (Option ℕ)) (output : Output) (outputs : List Output) (a b c : Broker) → Utters who now a output.bytes b → Unfolding later b hearers outputs c
    → Unfolding (now ++ later) a (who ∷ hearers) (output ∷ outputs) c
unfolding then_course
and_then who now later hearers output outputs a b c p f =
    let q = f.unfolds in
    record {
      unfolds = record {
        said = p.said ++ q.said;
        spells = (p.said, q.said, refl, p.written, p.heard, q.spells);
        bounded = bounded-append p.said q.said p.bounded q.bounded;
        each = λ number.
            then_course (topic_at a number) (topic_at b number) (topic_at c number) (from_topic number p.said) (from_topic number q.said) (from_topic number (p.said ++ q.said))
            (from_topic-append number p.said q.said) (p.each number) (q.each number);
        at_once = at_once-append (λ number. (p.each number).moves) (λ number. (q.each number).moves) p.said q.said p.at_once q.at_once;
      };
      asks = λ number. caused_both (p.each number).moves (q.each number).moves (moves_from number now) (moves_from number later) (p.asks number) (f.asks number) ∙ sym (moves_from-append number now later);
    }

-- so are they all
module _ {S X : Type 0} (Step : S → X → Output → S → Type 0) (broker_in : S → Broker) (hears : X → Option ℕ) (Come : S → X → Output → S → List Origin → Type 0) where
  record Uttered (a : S) (x : X) (o : Output) (b : S) : Type 0 where
    origins : List Origin
    utters : Utters (hears x) origins (broker_in a) o.bytes (broker_in b)
    comes : Come a x o b origins

  -- what comes, one thing after another
  abbrev pub ComesBy : S → List X → List Output → S → List Origin → Type 0
  ComesBy a [] [] b origins = origins ≡ []
  ComesBy a (x ∷ xs) (o ∷ os) b origins = (between : S) × (now : List Origin) × (later : List Origin) × (origins ≡ now ++ later) × Come a x o between now × ComesBy between xs os b later
  ComesBy a [] (o ∷ os) b origins = ⊥
  ComesBy a (x ∷ xs) [] b origins = ⊥

  pub record ChainUnfolds (a : S) (xs : List X) (os : List Output) (b : S) : Type 0 where
    pub origins : List Origin
    pub tells : Unfolding origins (broker_in a) (map (λ x. hears x) xs) os (broker_in b)
    pub comes : ComesBy a xs os b origins

  module _ (utters : (a : S) (x : X) (o : Output) (b : S) → Step a x o b → Uttered a x o b) where
    chain_unfolds : (a : S) (xs : List X) (os : List Output) (b : S) → Chain Step a xs os b → ChainUnfolds a xs os b
    chain_unfolds a [] [] b s = record { origins = []; tells = no_event (broker_in a) (broker_in b) (ap (λ (n : S). broker_in n) s); comes = refl }
    chain_unfolds a (x ∷ xs) (o ∷ os) b s =
        let first = utters a x o s.0 s.1 in
        let then = chain_unfolds s.0 xs os b s.2 in
        record {
          origins = first.origins ++ then.origins;
          tells = and_then (hears x) first.origins then.origins (map (λ x. hears x) xs) o os (broker_in a) (broker_in s.0) (broker_in b) first.utters then.tells;
          comes = (s.0, first.origins, then.origins, refl, first.comes, then.comes);
        }
    chain_unfolds a [] (o ∷ os) b s = absurd s
    chain_unfolds a (x ∷ xs) [] b s = absurd s

-- whatever comes
abbrev Any : {S X : Type 0} → S → X → Output → S → List Origin → Type 0
Any a x o b origins = Unit {0}

pub run_unfolds : (old : State) (events : List Event) (outputs : List Output) (new : State) → Run old events outputs new
    → RunUnfolds old.broker (map (λ e. hearer e) events) outputs new.broker
run_unfolds old events outputs new run =
    (chain_unfolds steps.BrokerStep (λ (n : State). n.broker) (λ e. hearer e) Any (λ a e o b s. let t = event_tells a e o b s in record { origins = t.origins; utters = t.utters; comes = tt }) old events outputs new run).tells.unfolds

-- ---- lives

-- of a node that is down it is said of no topic
pub record CausedIn (base : ℕ) (life : Life) (number : ℕ) : Type 0 where
  pub later : base ≤ life.state.faults
  pub caused : life.up ≡ true → Caused base (spot_at life.state number)

abbrev CausesIn : Life → Life → Type 0
CausesIn old new = (base number : ℕ) → CausedIn base old number → CausedIn base new number

-- what a life's sessions work from now on; those of a node that is down work nothing
pub record ClaimIn (life : Life) (bytes : ℕ → List ℕ) (frames : ℕ → List Frame) : Type 0 where
  pub up : life.up ≡ true → Claim life.state.sessions life.state.used bytes frames
  pub down : life.up ≡ false → (who : ℕ) → frames who ≡ []

abbrev pub NumberedIn : Life → Type 0
NumberedIn life = life.up ≡ true → AreNumbered 0 life.state.sessions life.state.used

pub silent_in : (life : Life) (bytes : ℕ → List ℕ) (frames : ℕ → List Frame) → ((who : ℕ) → frames who ≡ []) → ClaimIn life bytes frames
silent_in life bytes frames none = record { up = λ up. silent_claim life.state.sessions life.state.used bytes frames none; down = λ down. none }

-- what sessions work on a turn that is no opening, of the bytes that it brings them
pub record WorksOn (old : Life) (brings : ℕ → List ℕ) (origins : List Origin) (new : Life) : Type 0 where
  pub asks : AllByRecursion AsksSo origins
  pub worked : AreWorked origins
  pub numbered : NumberedIn old → NumberedIn new
  pub claims : NumberedIn old → (bytes : ℕ → List ℕ) (frames : ℕ → List Frame) → ClaimIn new bytes frames → ClaimIn old (λ who. brings who ++ bytes who) (λ who. frames_in 0 who origins ++ frames who)

-- an opening, behind which no session is open
pub record OpensNow (origins : List Origin) (new : Life) : Type 0 where
  pub only : origins ≡ Opened ∷ []
  pub up : new.up ≡ true
  pub none : new.state.sessions ≡ []

abbrev pub ComesIf : Bool → Life → (ℕ → List ℕ) → List Origin → Life → Type 0
ComesIf true old brings origins new = OpensNow origins new
ComesIf false old brings origins new = WorksOn old brings origins new

abbrev pub ComesIn : Life → Turn → Output → Life → List Origin → Type 0
ComesIn old turn output new origins = ComesIf (is_opening turn output.result) old (λ who. brought_in who turn output.result) origins new

-- what a turn tells, and what its moves come from
pub record Turns (who : Option ℕ) (old : Life) (output : Output) (new : Life) (Come : List Origin → Type 0) : Type 0 where
  pub origins : List Origin
  pub utters : Utters who origins old.state.broker output.bytes new.state.broker
  pub comes : Come origins
  pub causes : CausesIn old new

-- a crash with an opening is one move of each topic; a refused opening is none
record Opening (old : State) (answer : Verdict) (bytes : List ℕ) (new : Life) (Come : List Origin → Type 0) : Type 0 where
  origins : List Origin
  utters : Utters None origins old.broker bytes new.state.broker
  comes : Come origins

refused_comes : (old new : Life) → new.up ≡ false → WorksOn old (λ who. []) [] new
refused_comes old new down = record {
  asks = tt;
  worked = tt;
  numbered = λ numbered up. absurd (both_ways new.up down up);
  claims = λ numbered bytes frames claim. silent_in old bytes frames (claim.down down);
}

opening_tells : (answer : Verdict) (before : Life) (old : State) (bytes : List ℕ) (new : Life) → bytes ≡ [] → OpeningEnds answer old new
    → Opening old answer bytes new (λ origins. ComesIf (is_done answer) before (λ who. []) origins new)
opening_tells verdict.Done before old bytes new none s = record {
  origins = Opened ∷ [];
  utters = quietly None (Opened ∷ []) old.broker bytes new.state.broker none (λ number. one_goes (topic_at old.broker number) Crash (topic_at new.state.broker number) refl (s.crash.each number));
  comes = record { only = refl; up = s.up; none = s.crash.sessions };
}
opening_tells (verdict.Refused refusal.NoMemory) before old bytes new none s = record {
  origins = [];
  utters = unmoved None old.broker bytes new.state.broker none (ap (λ (n : State). n.broker) s.state);
  comes = refused_comes before new s.down;
}
opening_tells (verdict.Refused refusal.Device) before old bytes new none s = record {
  origins = [];
  utters = unmoved None old.broker bytes new.state.broker none (ap (λ (n : State). n.broker) s.0.state);
  comes = refused_comes before new s.0.down;
}
opening_tells _ before old bytes new none s = absurd s

-- no topic has failed behind it
opening_caused : (answer : Verdict) (old : State) (new : Life) (base number : ℕ) → base ≤ old.faults → OpeningEnds answer old new → CausedIn base new number
opening_caused verdict.Done old new base number was s =
    let left = s.crash.each number in
    let later : base ≤ new.state.faults = omega (arith, was, s.crash.faults) in
    record { later = later; caused = λ up. calm_now base (spot_at new.state number) later (ap (λ (x : Topic). x.failed) left.again) (λ at. ap (λ (x : Topic). is_some x.doubt) left.again) }
opening_caused (verdict.Refused refusal.NoMemory) old new base number was s = record { later = omega (arith, was, s.faults); caused = λ up. absurd (both_ways new.up s.down up) }
opening_caused (verdict.Refused refusal.Device) old new base number was s = record { later = omega (arith, was, s.0.faults); caused = λ up. absurd (both_ways new.up s.0.down up) }
opening_caused _ old new base number was s = absurd s

-- what happens to a machine
event_in_tells : (up : Bool) (old : Life) (e : Event) (output : Output) (new : Life) → old.up ≡ up → EventIn up old e output new
    → Turns (hearer e) old output new (λ origins. WorksOn old (λ who. brought who e output.result) origins new)
event_in_tells true old e output new is s =
    let t = event_tells old.state e output new.state s.1 in
    record {
      origins = t.origins;
      utters = t.utters;
      comes = record {
        asks = t.comes.asks;
        worked = t.comes.worked;
        numbered = λ numbered up. t.comes.numbered (numbered is);
        claims = λ numbered bytes frames claim. record {
          up = λ up. t.comes.claims (numbered is) bytes frames (claim.up s.0);
          down = λ down. absurd (both_ways old.up down is);
        };
      };
      causes = λ base number h. let caused = t.causes base number (h.caused is) in record { later = caused.later; caused = λ up. caused };
    }
event_in_tells false old e output new is s = record {
  origins = [];
  utters = unmoved (hearer e) old.state.broker output.bytes new.state.broker (no_bytes verdict.Unknown output s.0) (ap (λ (l : Life). l.state.broker) s.1);
  comes = record {
    asks = tt;
    worked = tt;
    numbered = λ numbered. subst (λ (l : Life). NumberedIn l) (sym s.1) numbered;
    claims = λ numbered bytes frames claim. silent_in old (λ who. brought who e output.result ++ bytes who) frames (claim.down (ap (λ (l : Life). l.up) s.1 ∙ is));
  };
  causes = λ base number h. subst (λ (l : Life). CausedIn base l number) (sym s.1) h;
}

pub happening_tells : (old : Life) (h : Happening) (output : Output) (new : Life) → HappeningStep old h output new → Turns (hearer_of h) old output new (ComesIn old (Whole h) output new)
happening_tells old (happening.Event e) output new s = event_in_tells old.up old e output new refl s
happening_tells old (happening.Crash) output new s =
    let t = opening_tells output.result old old.state output.bytes new s.0 s.1 in
    record { origins = t.origins; utters = t.utters; comes = t.comes; causes = λ base number h. opening_caused output.result old.state new base number h.later s.1 }

pub life_unfolds : (old : Life) (happenings : List Happening) (outputs : List Output) (new : Life) → AllowedRun old happenings outputs new
    → RunUnfolds old.state.broker (map (λ h. hearer_of h) happenings) outputs new.state.broker
life_unfolds old happenings outputs new run =
    (chain_unfolds HappeningStep (λ (l : Life). l.state.broker) (λ h. hearer_of h) Any (λ a h o b s. let t = happening_tells a h o b s in record { origins = t.origins; utters = t.utters; comes = tt }) old happenings outputs new run).tells.unfolds

-- a cut within an event is a move of its topic where that was flushed, and the opening after it another
utters_both : (origins : List Origin) (a b c : Broker) (bytes : List ℕ) → ((number : ℕ) → Goes (topic_at a number) [] (topic_at b number)) → Utters None origins b bytes c → Utters None origins a bytes c
unfolding then_course
utters_both origins a b c bytes first u = record {
  said = u.said;
  written = u.written;
  bounded = u.bounded;
  heard = u.heard;
  each = λ number. then_course (topic_at a number) (topic_at b number) (topic_at c number) [] (from_topic number u.said) (from_topic number u.said) refl (first number).course (u.each number);
  at_once = at_once_then (λ number. (first number).course.moves) (λ number. (u.each number).moves) u.said u.at_once;
  asks = λ number. caused_both (first number).course.moves (u.each number).moves [] (moves_from number origins) (first number).asks (u.asks number);
}

amid_goes : (e : TopicEvent) (t : Topic) (limit : ℕ) → IsTrimPoint t limit → Goes t [] (steps.amid_work e t limit)
amid_goes on_topic.Flush t limit point = one_goes t Cut (steps.in_flush t limit) refl (limit, point, refl)
amid_goes _ t limit point = still_goes t

until_cut : (sessions : List Client) (b : Broker) (e : Event) (c : Broker) → steps.Amid sessions b e c → (number : ℕ) → Goes (topic_at b number) [] (topic_at c number)
until_cut sessions b event.Open c is number = same_put b c number is
until_cut sessions b (event.Bytes who bytes) c is number =
    subst (λ (x : Broker). Goes (topic_at b number) [] (topic_at x number)) (sym is.holds.gained)
    (subst (λ (t : Topic). Goes (topic_at b number) [] t) (sym (more_at b.topics is.holds.more number (fresh b.per_ledger))) (still_goes (topic_at b number)))
until_cut sessions b (event.Pump who) c is number = same_put b c number is
until_cut sessions b (event.Close who) c is number = same_put b c number is
until_cut sessions b (event.OnTopic at e) c is number = placed_each b c at (steps.amid_work e (topic_at b at) is.0) (amid_goes e (topic_at b at) is.0 is.1) is.2 number

pub turn_tells : (old : Life) (t : Turn) (output : Output) (new : Life) → TurnStep old t output new → Turns (hearer_in t) old output new (ComesIn old t output new)
turn_tells old (Whole h) output new s = happening_tells old h output new s
turn_tells old (Within e) output new s =
    let at = cut_in old.state s.broker s.faults in
    let t = opening_tells output.result old at output.bytes new s.opening.0 s.opening.1 in
    record {
      origins = t.origins;
      utters = utters_both t.origins old.state.broker at.broker new.state.broker output.bytes (until_cut old.state.sessions old.state.broker e s.broker s.amid) t.utters;
      comes = t.comes;
      causes = λ base number h. opening_caused output.result at new base number (omega (arith, h.later, s.more)) s.opening.1;
    }

abbrev pub LifeComes : Life → List Turn → List Output → Life → List Origin → Type 0
LifeComes old turns outputs new origins = ComesBy TurnStep (λ (l : Life). l.state.broker) (λ t. hearer_in t) ComesIn old turns outputs new origins

pub cut_life_comes : (old : Life) (turns : List Turn) (outputs : List Output) (new : Life) → AllowedLife old turns outputs new
    → ChainUnfolds TurnStep (λ (l : Life). l.state.broker) (λ t. hearer_in t) ComesIn old turns outputs new
cut_life_comes old turns outputs new run =
    chain_unfolds TurnStep (λ (l : Life). l.state.broker) (λ t. hearer_in t) ComesIn (λ a t o b s. let told = turn_tells a t o b s in record { origins = told.origins; utters = told.utters; comes = told.comes }) old turns outputs new run

pub cut_life_unfolds : (old : Life) (turns : List Turn) (outputs : List Output) (new : Life) → AllowedLife old turns outputs new
    → RunUnfolds old.state.broker (map (λ t. hearer_in t) turns) outputs new.state.broker
cut_life_unfolds old turns outputs new run = (cut_life_comes old turns outputs new run).tells.unfolds
