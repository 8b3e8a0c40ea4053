use Rattle.std.proofs.Common.{◌≡◌, filter, rules}
use Rattle.std.proofs.lemmas.Fn.{filter_same}
use Rattle.session.specs.Table.{has_topic}
use Rattle.session.proofs.Noting.{noted-kept}
use Rattle.session.proofs.consumers.forget_topics.Goals as goal

pub returns : goal.returns
returns c = λ h.
    let kept : c.retain.new.self.items ≡ filter (has_topic c.args.consumers.now) c.args.topics.now.items =
    filter_same _ _ _ (λ x b f' k. search rules) _ _ c.retain.ensures.filtered in
    rw kept (noted-kept c.args.topics.now.items c.args.consumers.now h)
