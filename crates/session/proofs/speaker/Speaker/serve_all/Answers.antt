use Rattle.std.proofs.Common.{ℕ, subst}
use Rattle.gated_log.specs.declared.read_error.ReadError.{ReadError}
use Rattle.session.specs.Noting.{AreQuiet}
use Rattle.session.proofs.Serving.{told-more, serves_all-more, serves_all-quiet, serves_all-asked}
use Rattle.session.proofs.speaker.Speaker.serve_all.Goals as goal

pub returns-in_default-clause-serves : goal.returns-in_default-clause-serves
returns-in_default-clause-serves g c = λ s.
    let b = g.P.Port.broker c.args.port.now in
    let topics = c.topics.result.now in
    serves_all-quiet _ (g.R.Roll.entries c.args.roll.now) topics 64 c.args.self.now b _ c.args.out.now.items (c.first_busy.ensures.same s)
    (subst (λ n. AreQuiet b n topics) c.number.ensures (c.in_default.ensures.none s)) c.topics.ensures

pub returns-clause-serves : goal.returns-clause-serves
returns-clause-serves g c = λ s.
    let port = g.met.P.Port in
    let e = c.serve_each.ensures in
    let asked = c.first_busy.ensures in
    let more : (topic : ℕ) (why : ReadError) → g.P.Port.refuses c.first_busy.new.port topic why c.serve_each.new.port → g.P.Port.refuses c.args.port.now topic why c.serve_each.new.port = λ topic why h.
    port.refuses_within c.args.port.now c.first_busy.new.port c.serve_each.new.port c.serve_each.new.port topic why asked.passes e.passes (port.passes_nothing c.serve_each.new.port) h in
    serves_all-asked _ (g.R.Roll.entries c.args.roll.now) 64 c.serve_each.result c.args.self.now _ _ _ _ (asked.same s)
    (serves_all-more _ _ more (g.R.Roll.entries c.args.roll.now) 64 c.serve_each.result _ _ (e.serves (port.passes_sole _ _ asked.passes s)))

pub returns-clause-told : goal.returns-clause-told
returns-clause-told g c =
    let port = g.met.P.Port in
    let last = c.serve_each.new.port in
    let Told : ReadError → Type 0 = λ why. (topic : ℕ) × g.P.Port.refuses c.args.port.now topic why last in
    let more : (why : ReadError) → (topic : ℕ) × g.P.Port.refuses c.first_busy.new.port topic why last → Told why = λ why h.
    (h.0, port.refuses_within c.args.port.now c.first_busy.new.port last last h.0 why c.first_busy.ensures.passes c.serve_each.ensures.passes (port.passes_nothing last) h.1) in
    told-more _ Told more c.serve_each.result c.serve_each.ensures.told
