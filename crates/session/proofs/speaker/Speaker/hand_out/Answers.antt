use Rattle.std.proofs.Common.{rules}
use Rattle.session.proofs.Speaking.{speaks_says}
use Rattle.session.proofs.speaker.Speaker.hand_out.Goals as goal

pub returns-else-is_err-clause-speaks : goal.returns-else-is_err-clause-speaks
returns-else-is_err-clause-speaks c = speaks_says _ _ _ _ c.args.message.now (search rules)
