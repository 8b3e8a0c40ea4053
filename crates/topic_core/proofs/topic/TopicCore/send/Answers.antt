use Rattle.std.proofs.Common.{◌≡◌, true, None, subst, rules}
use Rattle.commands.specs.Metadata.{entry_of}
use Rattle.topic_core.specs.declared.command.SentEntry.{SentEntry}
use Rattle.topic_core.specs.declared.command.SentEntry.TheVariants.{Plain}
use Rattle.topic_core.specs.Messages.{is_counted}
use Rattle.topic_core.specs.Steps.{first_standing, send_refusals, bytes_of}
use Rattle.topic_core.proofs.Sends.{takes_entry}
use Rattle.topic_core.proofs.topic.TopicCore.send.Goals as goal

pub accept-requires-clause-readable : goal.accept-requires-clause-readable
accept-requires-clause-readable g c =
    let none : first_standing (send_refusals c.args.self.now c.args.who c.args.send) ≡ None = search rules in
    let is : c.args.send.entry ≡ Plain c.in-Plain.entry = search rules in
    subst (λ (e : SentEntry). is_counted (entry_of (bytes_of e)) ≡ true) is (takes_entry c.args.self.now c.args.who c.args.send none).1
