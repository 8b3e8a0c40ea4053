use Rattle.std.proofs.Common.{◌≡◌, ◌<◌, ℕ, Option, Some, Result, [], length, slice_get, refl, ap, sym, subst, rules}
use Rattle.std.proofs.lemmas.Option.{slice_get_read}
use Rattle.gated_log.specs.declared.read_error.ReadError.{ReadError}
use Rattle.session.specs.Client.{Client, Play, play}
use Rattle.session.specs.Pumping as pumping
use Rattle.session.specs.declared.pumping.More.{More}
use Rattle.session.specs.declared.pumping.PumpFault.{PumpFault}
use Rattle.session.proofs.Serving.{pump_step-more}
use Rattle.node.specs.State.{State, stage_in, MayRefuse, place_of, verdict_of_pump}
use Rattle.node.specs.Standing.{broker_of, stages_of, Refuses}
use Rattle.node.specs.Steps.{Settles, PumpStep}
use Rattle.node.specs.declared.event.Output.{Output}
use Rattle.node.specs.Passing.{passes_nothing}
use Rattle.node.proofs.node.Node.pump.Goals as goal

-- a pump of the session that stands at this place
pumps : (old new : State) (who place : ℕ) (client : Client) (result : Result More PumpFault) (played : Play) (output : Output) → place_of old.sessions who ≡ Some place → slice_get old.sessions place ≡ Some client →
    pumping.PumpStep (MayRefuse old.stages old.faults new.faults) (play client old.broker []) result played → Settles old place played (verdict_of_pump result) output new → PumpStep (place_of old.sessions who) old output new
pumps old new who place client result played output at stands step settles =
    subst (λ (o : Option ℕ). PumpStep o old output new) (sym at) (record { client = client; stands = stands; result = result; played = played; step = step; settles = settles })

pub returns-clause-step : goal.returns-clause-step
returns-clause-step g c = λ stands.
    let disk = g.S.Shelf.disk in
    let before = c.args.self.now.topics in
    let after = c.pump-pumped.new.port in
    let passed = c.pump-pumped.ensures.passes.1 stands in
    let played = play c.pump-pumped.new.self (broker_of after) c.pump-pumped.new.out.items in
    let May : ℕ → ReadError → Type 0 = MayRefuse (stages_of before) (disk before.shelf).faults (disk after.shelf).faults in
    let step : pumping.PumpStep May (play c.index_mut-session.result.now (broker_of before) c.new-out.result.items) c.pump-pumped.result played =
    pump_step-more (λ number why. Refuses disk before number why after) May (λ number why refused. refused stands) _ _ _ (c.pump-pumped.ensures.step stands) in
    let at : place_of c.args.self.now.sessions.items c.args.who ≡ Some c.in-Some.place = search rules in
    let sessions = c.args.self.now.sessions.items in
    let within : c.in-Some.place < length sessions = search rules in
    let here : slice_get sessions c.in-Some.place ≡ Some c.index_mut-session.result.now = slice_get_read sessions (length sessions) c.in-Some.place c.index_mut-session.result.now refl within c.index_mut-session.ensures.value in
    pumps _ _ _ c.in-Some.place c.index_mut-session.result.now c.pump-pumped.result played _ at here (rw c.new-out.ensures.items at step) (record {
      answer = search rules;
      broker = search rules;
      stages = λ number. ap (λ ss. stage_in ss number) passed.stages;
      sessions = search rules;
      used = search rules;
      faults = passed.faults;
    })

pub returns-in_default-clause-passes : goal.returns-in_default-clause-passes
returns-in_default-clause-passes g c = passes_nothing g.S.Shelf.disk c.args.self.now.topics
