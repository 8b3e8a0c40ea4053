use Rattle.std.proofs.Common.{◌≡◌, None, rules}
use Rattle.commands.specs.declared.reply.Reply.TheVariants.{Error}
use Rattle.topic_core.specs.declared.command.Answer.TheVariants.{Now, Later}
use Rattle.topic_core.specs.Steps.{subscribe_refusal, subscribed}
use Rattle.topic_core.proofs.Meeting.{effected, handed_on}
use Rattle.topic_core.proofs.topic.TopicCore.subscribe.Goals as goal

pub returns-clause-ok : goal.returns-clause-ok
returns-clause-ok g c =
    let t = c.args.self.now in
    let s = c.args.subscribe in
    let word = g.G.Gauge.word c.in-Ok.gauge in
    let none : subscribe_refusal t s ≡ None = search rules in
    let is : c.attach.new.self ≡ subscribed t c.args.who s word = search rules in (
      word,
      effected (subscribe_refusal t s) (λ error. Now (Error s.request_id error)) t (record { answer = Later; topic = subscribed t c.args.who s word }) c.attach.new.self none is,
      handed_on word c.fresh.new.granter c.args.granter.now c.lend.new.granter c.in-Ok.ensures.lent c.lend.ensures.some c.lend.ensures.none,
    )
