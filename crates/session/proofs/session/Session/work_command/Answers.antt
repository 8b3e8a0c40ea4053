use Rattle.std.proofs.Common.{◌≡◌, refl, true}
use Rattle.commands.specs.declared.command.Command.{Command}
use Rattle.commands.specs.declared.command.Command.TheVariants as command
use Rattle.commands.specs.declared.producing.Send.{Send}
use Rattle.session.specs.Working.{is_alone}
use Rattle.session.proofs.session.Session.work_command.Goals as goal

-- each command but SEND
alone : (c : Command) → ((asked : Send) → c ≡ command.Send asked → ⊥) → is_alone c ≡ true
alone (command.Connect c) not_send = refl
alone (command.Producer c) not_send = refl
alone (command.Send c) not_send = absurd (not_send c refl)
alone (command.Subscribe c) not_send = refl
alone (command.Flow c) not_send = refl
alone (command.Ack c) not_send = refl
alone (command.Unsubscribe c) not_send = refl
alone (command.CloseProducer c) not_send = refl
alone (command.CloseConsumer c) not_send = refl
alone command.Ping not_send = refl
alone command.Pong not_send = refl
alone (command.RedeliverUnacknowledgedMessages c) not_send = refl
alone (command.PartitionedMetadata c) not_send = refl
alone (command.Lookup c) not_send = refl
alone (command.Other k) not_send = refl

pub work_alone-requires : goal.work_alone-requires
work_alone-requires g c = alone c.args.frame.command c.in_default.not-Send
