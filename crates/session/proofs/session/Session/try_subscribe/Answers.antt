use Rattle.std.proofs.Common.{rules, sym}
use Rattle.session.proofs.session.Session.try_subscribe.Goals as goal

pub returns-clause-ok : goal.returns-clause-ok
returns-clause-ok g c = λ s. record {
  named = c.requires.named;
  answer = c.hear-answer.result;
  step = rw (sym (c.subscribe_command.ensures c.requires.named), c.keep_if.ensures.same (g.met.P.Port.passes_sole _ _ c.command.ensures.passes s)) (search rules);
  answered = search rules;
}
