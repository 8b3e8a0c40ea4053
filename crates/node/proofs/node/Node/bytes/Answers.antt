use Rattle.std.proofs.Common.{◌≡◌, inl, inr, ◌<◌, ℕ, Option, Some, Result, List, [], length, slice_get, refl, sym, subst, rules}
use Rattle.std.proofs.lemmas.Option.{slice_get_read}
use Rattle.session.specs.declared.fault.Fault.{Fault}
use Rattle.session.specs.Client.{Client, Play, play}
use Rattle.session.specs.Working.{FeedStep}
use Rattle.node.specs.State.{State, place_of, verdict_of}
use Rattle.session.proofs.Causes.{feed_caused}
use Rattle.node.specs.Standing.{broker_of, Fails}
use Rattle.node.specs.Steps.{Settles, BytesStep}
use Rattle.node.specs.Passing.{passes_nothing}
use Rattle.node.specs.Growing.{passes_works}
use Rattle.node.specs.declared.event.Output.{Output}
use Rattle.node.proofs.node.Node.bytes.Goals as goal

pub returns-in_default-clause-works : goal.returns-in_default-clause-works
returns-in_default-clause-works g c = record { names = []; asked = inl refl; holds = passes_works g.S.Shelf.disk [] _ _ (passes_nothing g.S.Shelf.disk c.args.self.now.topics) }

-- bytes come to the session that stands at this place
feeds : (old new : State) (who place : ℕ) (client : Client) (bytes : List ℕ) (result : Result (Unit {0}) Fault) (played : Play) (output : Output) → place_of old.sessions who ≡ Some place → slice_get old.sessions place ≡ Some client →
    FeedStep (old.faults < new.faults) (play client old.broker []) bytes result played → Settles old place played (verdict_of played.client.fault) output new → BytesStep (place_of old.sessions who) old bytes output new
feeds old new who place client bytes result played output at stands step settles =
    subst (λ (o : Option ℕ). BytesStep o old bytes output new) (sym at) (record { client = client; stands = stands; result = result; played = played; step = step; settles = settles })

pub returns-clause-step : goal.returns-clause-step
returns-clause-step g c = λ stands.
    let worked = c.feed.ensures.works.holds.1 stands in
    let played = play c.feed.new.self (broker_of c.feed.new.port) c.feed.new.out.items in
    let at : place_of c.args.self.now.sessions.items c.args.who ≡ Some c.in-Some.place = search rules in
    let sessions = c.args.self.now.sessions.items in
    let within : c.in-Some.place < length sessions = search rules in
    let here : slice_get sessions c.in-Some.place ≡ Some c.index_mut-session.result.now = slice_get_read sessions (length sessions) c.in-Some.place c.index_mut-session.result.now refl within c.index_mut-session.ensures.value in
    let disk = g.S.Shelf.disk in
    let Failed : Type 0 = (disk c.args.self.now.topics.shelf).faults < (disk c.feed.new.port.shelf).faults in
    let step : FeedStep Failed (play c.index_mut-session.result.now (broker_of c.args.self.now.topics) c.new-out.result.items) c.args.bytes.now c.feed.result played =
    feed_caused (Fails disk c.args.self.now.topics c.feed.new.port) Failed (λ failed. failed stands) _ _ _ _ (c.feed.ensures.step stands) in
    feeds _ _ _ c.in-Some.place c.index_mut-session.result.now _ c.feed.result played _ at here (rw c.new-out.ensures.items at step) (record {
      answer = search rules;
      broker = search rules;
      stages = worked.stages;
      sessions = search rules;
      used = search rules;
      faults = worked.faults;
    })

pub returns-clause-works : goal.returns-clause-works
returns-clause-works g c =
    let w = c.feed.ensures.works in
    let at : place_of c.args.self.now.sessions.items c.args.who ≡ Some c.in-Some.place = search rules in
    let sessions = c.args.self.now.sessions.items in
    let within : c.in-Some.place < length sessions = search rules in
    let here : slice_get sessions c.in-Some.place ≡ Some c.index_mut-session.result.now = slice_get_read sessions (length sessions) c.in-Some.place c.index_mut-session.result.now refl within c.index_mut-session.ensures.value in
    record { names = w.names; asked = inr (c.in-Some.place, c.index_mut-session.result.now, at, here, w.asked); holds = w.holds }
