use Rattle.std.proofs.Common.{◌∙◌, ℕ, rules, sym, ap, subst}
use Rattle.gated_log.specs.declared.read_error.ReadError.{ReadError}
use Rattle.session.specs.Client.{Client, play}
use Rattle.session.specs.Listing.{Listing}
use Rattle.session.specs.Pumping.{ServeStep, pumped}
use Rattle.session.proofs.Serving.{serves_behind-more, serve_listed, pump_both, pumped_told-more}
use Rattle.session.proofs.listing.List.serve.Goals as goal

pub returns-clause-serves : goal.returns-clause-serves
returns-clause-serves g c = λ s client is.
    let port = g.met.P.Port in
    let looking = c.look_each.ensures in
    let serving = c.serve_behind.ensures in
    let last = c.serve_behind.new.port in
    let Told : ℕ → ReadError → Type 0 = λ topic why. g.P.Port.refuses c.args.port.now topic why last in
    let more : (topic : ℕ) (why : ReadError) → g.P.Port.refuses c.look_each.new.port topic why last → Told topic why = λ topic why h. port.refuses_within c.args.port.now c.look_each.new.port last last topic why looking.passes serving.passes (port.passes_nothing last) h in
    let none = ap (λ (l : Listing). l.fault) (sym c.self.view_is) ∙ c.in_default.is in
    let of = sym is.number ∙ ap (λ (l : Listing). l.number) (sym c.self.view_is) ∙ sym (ap (λ (v : Client). v.number) c.new-speaker.ensures) in
    let goes_on = sym is.fault ∙ none ∙ sym (ap (λ (v : Client). v.fault) c.new-speaker.ensures) in
    let step = serves_behind-more _ Told more _ _ _ _ (serving.step (port.passes_sole _ _ looking.passes s) client of goes_on (sym is.consumers)) in
    let new = play (pumped client c.serve_behind.result) (g.P.Port.broker last) c.serve_behind.new.out.items in
    let listed = serve_listed Told client (g.P.Port.broker c.args.port.now) _ c.args.out.now.items _ c.serve_behind.result new (looking.same s) (sym is.fault ∙ none) step in
    subst (λ (n : ℕ). ServeStep Told (play client (g.P.Port.broker c.args.port.now) c.args.out.now.items) n c.serve_behind.result new) (ap (λ (l : Listing). l.replies) c.self.view_is) listed

pub returns-clause-step : goal.returns-clause-step
returns-clause-step g c = λ s begun client is collected. pump_both _ begun _ _ _ _ collected (returns-clause-serves g c s client is)

pub returns-clause-told : goal.returns-clause-told
returns-clause-told g c =
    let port = g.met.P.Port in
    let last = c.serve_behind.new.port in
    let Told : ReadError → Type 0 = λ why. (topic : ℕ) × g.P.Port.refuses c.args.port.now topic why last in
    let more : (why : ReadError) → (topic : ℕ) × g.P.Port.refuses c.look_each.new.port topic why last → Told why = λ why h. (h.0, port.refuses_within c.args.port.now c.look_each.new.port last last h.0 why c.look_each.ensures.passes c.serve_behind.ensures.passes (port.passes_nothing last) h.1) in
    pumped_told-more _ Told more c.serve_behind.result c.serve_behind.ensures.told

pub returns-in-Some-clause-serves : goal.returns-in-Some-clause-serves
returns-in-Some-clause-serves g c = λ s client is. search rules

pub returns-in-Some-clause-step : goal.returns-in-Some-clause-step
returns-in-Some-clause-step g c = λ s begun client is collected. pump_both _ begun _ _ _ _ collected (returns-in-Some-clause-serves g c s client is)
