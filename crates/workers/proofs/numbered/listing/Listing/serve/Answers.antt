use Rattle.std.proofs.Common.{sym}
use Rattle.workers.proofs.Serving.{output_is, frames_behind, ended_as_listed, served_listed, served_step}
use Rattle.workers.proofs.numbered.listing.Listing.serve.Goals as goal

pub output_of-output-requires-clause-whole : goal.output_of-output-requires-clause-whole
output_of-output-requires-clause-whole g c = frames_behind c.args.self.bytes.items c.serve-answer.new.out.items c.args.self.whole c.serve-answer.ensures.writes

pub returns-clause-output : goal.returns-clause-output
returns-clause-output g c = output_is c.args.self.number c.serve-answer.new.out.items c.output_of-output.result c.output_of-output.ensures

pub returns-clause-serves : goal.returns-clause-serves
returns-clause-serves g c = λ sole client is.
    served_listed (λ topic why. g.P.Port.refuses c.args.port.now topic why c.serve-answer.new.port) c.args.self.list.fault client (g.P.Port.broker c.args.port.now) (g.P.Port.broker c.serve-answer.new.port)
    c.args.self.bytes.items c.serve-answer.new.out.items c.serve-answer.result c.args.self.number c.output_of-output.result (sym is.fault) c.serve-answer.ensures.ended c.output_of-output.ensures
    c.args.self.list.replies (c.serve-answer.ensures.serves sole client is)

pub returns-clause-step : goal.returns-clause-step
returns-clause-step g c = λ sole begun client is collected.
    served_step (λ topic why. g.P.Port.refuses c.args.port.now topic why c.serve-answer.new.port) c.args.self.list.fault client (g.P.Port.broker c.args.port.now) (g.P.Port.broker c.serve-answer.new.port)
    c.args.self.bytes.items c.serve-answer.new.out.items c.serve-answer.result c.args.self.number c.output_of-output.result (sym is.fault) c.serve-answer.ensures.ended c.output_of-output.ensures
    begun (c.serve-answer.ensures.step sole begun client is collected)

pub returns-clause-ended : goal.returns-clause-ended
returns-clause-ended g c =
    ended_as_listed c.args.self.list.fault c.serve-answer.result c.args.self.number c.args.self.bytes.items c.serve-answer.new.out.items c.output_of-output.result
    c.serve-answer.ensures.ended c.output_of-output.ensures
