use Rattle.std.proofs.Common.{◌≡◌, ◌∙◌, ℕ, Some, None, Result, Ok, Err, sym, ap, subst, rules}
use Rattle.std.specs.Prelude.{IfErr}
use Rattle.std.proofs.lemmas.Result.{err_from_is_err_and}
use Rattle.gated_log.specs.declared.read_error.ReadError.{ReadError}
use Rattle.session.specs.Client.{play}
use Rattle.session.specs.Pumping.{IsTold, pump_result}
use Rattle.session.specs.declared.pumping.More.TheVariants.{Yes, No}
use Rattle.session.specs.declared.pumping.PumpFault.TheVariants.{Ended}
use Rattle.session.specs.declared.pumping.PumpFault.{PumpFault}
use Rattle.session.proofs.Serving.{is_told-more}
use Rattle.session.proofs.Spoken.{serve_spoken}
use Rattle.session.proofs.speaker.Speaker.serve_behind.Goals as goal

pub returns-in-Some-clause-step : goal.returns-in-Some-clause-step
returns-in-Some-clause-step g c = λ s client number fault are.
    let port = g.met.P.Port in
    let Told : ℕ → ReadError → Type 0 = λ topic why. g.P.Port.refuses c.args.port.now topic why c.leave_if_ended.new.port in
    let serving = c.serve_if-messages.ensures in
    let served = play c.serve_if-messages.new.self (g.P.Port.broker c.serve_if-messages.new.port) c.serve_if-messages.new.out.items in
    let more : (topic : ℕ) (why : ReadError) → g.P.Port.refuses c.args.port.now topic why c.serve_if-messages.new.port → Told topic why =
    λ topic why h. port.refuses_within c.args.port.now c.args.port.now c.serve_if-messages.new.port c.leave_if_ended.new.port topic why (port.passes_nothing c.args.port.now) serving.passes c.leave_if_ended.ensures.passes h in
    let left = c.leave_if_ended.ensures.left (port.passes_sole _ _ serving.passes s) in
    let why : c.serve_if-messages.new.self.fault ≡ Some c.in-Some.why = sym c.leave_if_ended.ensures.fault ∙ c.in-Some.is in
    serve_spoken _ Told more c.args.self client _ _ _ c.args.replies _ c.serve_if-messages.result served (Err (Ended c.in-Some.why)) number fault are serving.speaks.number (serving.serves s) left serving.refused (sym (ap (λ f. pump_result f c.args.replies c.serve_if-messages.result) why))

pub returns-in_err-messages-clause-step : goal.returns-in_err-messages-clause-step
returns-in_err-messages-clause-step g c = λ s client number fault are.
    let port = g.met.P.Port in
    let Told : ℕ → ReadError → Type 0 = λ topic why. g.P.Port.refuses c.args.port.now topic why c.leave_if_ended.new.port in
    let serving = c.serve_if-messages.ensures in
    let served = play c.serve_if-messages.new.self (g.P.Port.broker c.serve_if-messages.new.port) c.serve_if-messages.new.out.items in
    let more : (topic : ℕ) (why : ReadError) → g.P.Port.refuses c.args.port.now topic why c.serve_if-messages.new.port → Told topic why =
    λ topic why h. port.refuses_within c.args.port.now c.args.port.now c.serve_if-messages.new.port c.leave_if_ended.new.port topic why (port.passes_nothing c.args.port.now) serving.passes c.leave_if_ended.ensures.passes h in
    let left = c.leave_if_ended.ensures.left (port.passes_sole _ _ serving.passes s) in
    let none : c.serve_if-messages.new.self.fault ≡ None = sym c.leave_if_ended.ensures.fault ∙ c.in_default.is in
    let p = err_from_is_err_and c.from_residual.result c.from_residual.ensures.1 in
    rw (p.1, p.2) (serve_spoken _ Told more c.args.self client _ _ _ c.args.replies _ c.serve_if-messages.result served (Err c.in_err-messages.field-0.0) number fault are serving.speaks.number (serving.serves s) left serving.refused (sym (ap (λ f. pump_result f c.args.replies c.serve_if-messages.result) none ∙ ap (λ m. pump_result None c.args.replies m) c.in_err-messages.was)))

pub returns-then-messages-eq-MOST_MESSAGES-clause-step : goal.returns-then-messages-eq-MOST_MESSAGES-clause-step
returns-then-messages-eq-MOST_MESSAGES-clause-step g c = λ s client number fault are.
    let port = g.met.P.Port in
    let Told : ℕ → ReadError → Type 0 = λ topic why. g.P.Port.refuses c.args.port.now topic why c.leave_if_ended.new.port in
    let serving = c.serve_if-messages.ensures in
    let served = play c.serve_if-messages.new.self (g.P.Port.broker c.serve_if-messages.new.port) c.serve_if-messages.new.out.items in
    let more : (topic : ℕ) (why : ReadError) → g.P.Port.refuses c.args.port.now topic why c.serve_if-messages.new.port → Told topic why =
    λ topic why h. port.refuses_within c.args.port.now c.args.port.now c.serve_if-messages.new.port c.leave_if_ended.new.port topic why (port.passes_nothing c.args.port.now) serving.passes c.leave_if_ended.ensures.passes h in
    let left = c.leave_if_ended.ensures.left (port.passes_sole _ _ serving.passes s) in
    let none : c.serve_if-messages.new.self.fault ≡ None = sym c.leave_if_ended.ensures.fault ∙ c.in_default.is in
    let is : Ok Yes ≡ pump_result None c.args.replies (Ok c.in_ok-messages.messages) = search rules in
    serve_spoken _ Told more c.args.self client _ _ _ c.args.replies _ c.serve_if-messages.result served (Ok Yes) number fault are serving.speaks.number (serving.serves s) left serving.refused (is ∙ sym (ap (λ f. pump_result f c.args.replies c.serve_if-messages.result) none ∙ ap (λ m. pump_result None c.args.replies m) c.in_ok-messages.was))

pub returns-else-messages-eq-MOST_MESSAGES-clause-step : goal.returns-else-messages-eq-MOST_MESSAGES-clause-step
returns-else-messages-eq-MOST_MESSAGES-clause-step g c = λ s client number fault are.
    let port = g.met.P.Port in
    let Told : ℕ → ReadError → Type 0 = λ topic why. g.P.Port.refuses c.args.port.now topic why c.leave_if_ended.new.port in
    let serving = c.serve_if-messages.ensures in
    let served = play c.serve_if-messages.new.self (g.P.Port.broker c.serve_if-messages.new.port) c.serve_if-messages.new.out.items in
    let more : (topic : ℕ) (why : ReadError) → g.P.Port.refuses c.args.port.now topic why c.serve_if-messages.new.port → Told topic why =
    λ topic why h. port.refuses_within c.args.port.now c.args.port.now c.serve_if-messages.new.port c.leave_if_ended.new.port topic why (port.passes_nothing c.args.port.now) serving.passes c.leave_if_ended.ensures.passes h in
    let left = c.leave_if_ended.ensures.left (port.passes_sole _ _ serving.passes s) in
    let none : c.serve_if-messages.new.self.fault ≡ None = sym c.leave_if_ended.ensures.fault ∙ c.in_default.is in
    let is : Ok No ≡ pump_result None c.args.replies (Ok c.in_ok-messages.messages) = search rules in
    serve_spoken _ Told more c.args.self client _ _ _ c.args.replies _ c.serve_if-messages.result served (Ok No) number fault are serving.speaks.number (serving.serves s) left serving.refused (is ∙ sym (ap (λ f. pump_result f c.args.replies c.serve_if-messages.result) none ∙ ap (λ m. pump_result None c.args.replies m) c.in_ok-messages.was))

pub returns-in_err-messages-clause-told : goal.returns-in_err-messages-clause-told
returns-in_err-messages-clause-told g c =
    let port = g.met.P.Port in
    let Told : ReadError → Type 0 = λ why. (topic : ℕ) × g.P.Port.refuses c.args.port.now topic why c.leave_if_ended.new.port in
    let serving = c.serve_if-messages.ensures in
    let Refused : ReadError → Type 0 = λ why. (topic : ℕ) × g.P.Port.refuses c.args.port.now topic why c.serve_if-messages.new.port in
    let more : (why : ReadError) → Refused why → Told why =
    λ why h. (h.0, port.refuses_within c.args.port.now c.args.port.now c.serve_if-messages.new.port c.leave_if_ended.new.port h.0 why (port.passes_nothing c.args.port.now) serving.passes c.leave_if_ended.ensures.passes h.1) in
    let told = subst (λ (r : Result ℕ PumpFault). IfErr r (λ fault. IsTold Refused fault)) c.in_err-messages.was serving.told in
    let p = err_from_is_err_and c.from_residual.result c.from_residual.ensures.1 in
    rw (p.1, p.2) (is_told-more Refused Told more c.in_err-messages.field-0.0 told)
