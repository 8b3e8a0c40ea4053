use Rattle.std.proofs.Common.{ℕ, subst}
use Rattle.gated_log.specs.declared.read_error.ReadError.{ReadError}
use Rattle.session.specs.Broker.{IsQuiet}
use Rattle.session.specs.Asking.{Knows}
use Rattle.session.proofs.Serving.{serves_one-more, told-more, serves-passed, serves-asked}
use Rattle.session.proofs.speaker.Speaker.serve_or_pass.Goals as goal

pub returns-then-asked-clause-serves : goal.returns-then-asked-clause-serves
returns-then-asked-clause-serves g c = λ s knows.
    let b = g.P.Port.broker c.args.port.now in
    let quiet : IsQuiet b c.args.consumer.topic c.args.self.now.number =
    subst (λ n. Knows n b c.args.last.now → IsQuiet b c.args.consumer.topic n) c.number.ensures (λ k. c.ask-asked.ensures.none s k c.if-asked.true) knows in
    serves-passed _ c.args.consumer c.args.room c.args.self.now b _ c.args.out.now.items (c.ask-asked.ensures.same s) quiet

pub returns-clause-serves : goal.returns-clause-serves
returns-clause-serves g c = λ s knows.
    let port = g.met.P.Port in
    let more : (topic : ℕ) (why : ReadError) → g.P.Port.refuses c.ask-asked.new.port topic why c.serve.new.port → g.P.Port.refuses c.args.port.now topic why c.serve.new.port = λ topic why h.
    port.refuses_within c.args.port.now c.ask-asked.new.port c.serve.new.port c.serve.new.port topic why c.ask-asked.ensures.passes c.serve.ensures.passes (port.passes_nothing c.serve.new.port) h in
    serves-asked _ c.args.consumer c.args.room c.serve.result _ _ _ _ _ (c.ask-asked.ensures.same s)
    (serves_one-more _ _ more c.args.consumer c.args.room c.serve.result _ _ (c.serve.ensures.serves (port.passes_sole _ _ c.ask-asked.ensures.passes s)))

pub returns-clause-told : goal.returns-clause-told
returns-clause-told g c =
    let port = g.met.P.Port in
    let topic = c.args.consumer.topic in
    let more : (why : ReadError) → g.P.Port.refuses c.ask-asked.new.port topic why c.serve.new.port → g.P.Port.refuses c.args.port.now topic why c.serve.new.port = λ why h.
    port.refuses_within c.args.port.now c.ask-asked.new.port c.serve.new.port c.serve.new.port topic why c.ask-asked.ensures.passes c.serve.ensures.passes (port.passes_nothing c.serve.new.port) h in
    told-more _ _ more c.serve.result c.serve.ensures.told
