use Rattle.std.proofs.Common.{◌≡◌, ◌∙◌, ℕ, List, sym, ap, subst}
use Rattle.gated_log.specs.declared.read_error.ReadError.{ReadError}
use Rattle.session.specs.Broker.{Broker}
use Rattle.session.specs.declared.entry.Entry.{Entry}
use Rattle.session.specs.Client.{Client, play}
use Rattle.session.specs.Pumping.{PumpStep, pumped}
use Rattle.session.proofs.Serving.{pump_step-more, pumped_told-more}
use Rattle.session.proofs.session.Session.pump.Goals as goal

pub returns-clause-step : goal.returns-clause-step
returns-clause-step g c = λ s.
    let port = g.met.P.Port in
    let client = c.args.self.now in
    let looking = c.look.ensures in
    let pumping = c.pump-answer.ensures in
    let last = c.pump-answer.new.port in
    let Told : ℕ → ReadError → Type 0 = λ topic why. g.P.Port.refuses c.args.port.now topic why last in
    let more : (topic : ℕ) (why : ReadError) → g.P.Port.refuses c.look.new.port topic why last → Told topic why = λ topic why h. port.refuses_within c.args.port.now c.look.new.port last last topic why looking.passes pumping.passes (port.passes_nothing last) h in
    let step = pump_step-more _ Told more _ _ _ (pumping.step (port.passes_sole _ _ looking.passes s) client (sym (ap (λ (v : Client). v.number) c.self.view_is) ∙ sym (ap (λ (v : Client). v.number) c.new-speaker.ensures)) (sym (ap (λ (v : Client). v.fault) c.self.view_is) ∙ c.in_default.is) (sym (ap (λ (v : Client). v.consumers) c.self.view_is) ∙ sym looking.unchanged)) in
    let with : List Entry → Client = λ xs. record {
      number = c.self.inside.number;
      progress = c.self.inside.parser;
      connected = c.self.inside.connected;
      producers = c.self.inside.producers.items;
      consumers = xs;
      fault = c.self.inside.fault;
    } in
    let was : with c.look.new.self ≡ client = ap with looking.unchanged ∙ c.self.view_is in
    let went : c.end_as_served.new.self ≡ pumped client c.pump-answer.result = c.end_as_served.ensures.went_on c.in_default.is ∙ ap (λ (v : Client). pumped v c.pump-answer.result) was in
    let looked = subst (λ (b : Broker). PumpStep Told (play client b c.args.out.now.items) c.pump-answer.result (play (pumped client c.pump-answer.result) (g.P.Port.broker last) c.pump-answer.new.out.items)) (looking.same s) step in
    subst (λ (v : Client). PumpStep Told (play client (g.P.Port.broker c.args.port.now) c.args.out.now.items) c.pump-answer.result (play v (g.P.Port.broker last) c.pump-answer.new.out.items)) (sym went) looked

pub returns-clause-told : goal.returns-clause-told
returns-clause-told g c =
    let port = g.met.P.Port in
    let last = c.pump-answer.new.port in
    let Told : ReadError → Type 0 = λ why. (topic : ℕ) × g.P.Port.refuses c.args.port.now topic why last in
    let more : (why : ReadError) → (topic : ℕ) × g.P.Port.refuses c.look.new.port topic why last → Told why = λ why h. (h.0, port.refuses_within c.args.port.now c.look.new.port last last h.0 why c.look.ensures.passes c.pump-answer.ensures.passes (port.passes_nothing last) h.1) in
    pumped_told-more _ Told more c.pump-answer.result c.pump-answer.ensures.told
