use Rattle.session.proofs.Noting.{noted-more}
use Rattle.session.proofs.consumers.note.Goals as goal

pub returns-in_err-push-clause-kept : goal.returns-in_err-push-clause-kept
returns-in_err-push-clause-kept c = λ consumers h. rw c.in_err-push.ensures.items h

pub returns-clause-kept : goal.returns-clause-kept
returns-clause-kept c = λ consumers h. rw c.in_ok-push.ensures.items (noted-more c.args.topics.now.items c.args.topic consumers h)
