use Rattle.std.proofs.Common.{◌≡◌, ◌<◌, ℕ, Option, Some, length, slice_get, refl, ap, sym, subst, rules}
use Rattle.std.proofs.lemmas.Option.{slice_get_read}
use Rattle.node.specs.State.{State, stage_in, place_of}
use Rattle.node.specs.Steps.{Closes, CloseStep}
use Rattle.node.specs.Passing.{passes_nothing}
use Rattle.node.specs.declared.event.Output.{Output}
use Rattle.node.proofs.node.Node.close.Goals as goal

pub returns-in_default-clause-passes : goal.returns-in_default-clause-passes
returns-in_default-clause-passes g c = passes_nothing g.S.Shelf.disk c.args.self.now.topics

-- the session that stands at this place leaves
closes : (old new : State) (who place : ℕ) (output : Output) → place_of old.sessions who ≡ Some place → Closes old place output new → CloseStep (place_of old.sessions who) old output new
closes old new who place output at step = subst (λ (o : Option ℕ). CloseStep o old output new) (sym at) step

pub returns-clause-step : goal.returns-clause-step
returns-clause-step g c = λ stands.
    let passed = c.end.ensures.passes.1 stands in
    let at : place_of c.args.self.now.sessions.items c.args.who ≡ Some c.in-Some.place = search rules in
    let sessions = c.args.self.now.sessions.items in
    let within : c.in-Some.place < length sessions = search rules in
    let here : slice_get sessions c.in-Some.place ≡ Some c.remove-session.result = slice_get_read sessions (length sessions) c.in-Some.place c.remove-session.result refl within c.remove-session.ensures.value in
    closes _ _ _ c.in-Some.place _ at (record {
      client = c.remove-session.result;
      stands = here;
      answer = search rules;
      broker = search rules;
      stages = λ number. ap (λ ss. stage_in ss number) passed.stages;
      sessions = search rules;
      used = search rules;
      faults = passed.faults;
    })
