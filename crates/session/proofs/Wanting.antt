-- Which frames may end their session for want of memory.
use Rattle.std.proofs.Common.{◌≡◌, ℕ, Bool, true, false, Option, Some, None, List, Result, Ok, Err, refl, sym, ap, ◌∙◌}
use Rattle.commands.specs.declared.command.Command.{Command}
use Rattle.commands.specs.declared.command.Command.TheVariants as command
use Rattle.commands.specs.declared.consuming.Flow.{Flow}
use Rattle.commands.specs.declared.giving_back.CloseConsumer.{CloseConsumer}
use Rattle.commands.specs.declared.giving_back.Redeliver.{Redeliver}
use Rattle.commands.specs.declared.reply.Reply.{Reply}
use Rattle.commands.specs.declared.reply.Reply.TheVariants as reply
use Rattle.commands.specs.declared.server_error.ServerError.TheVariants.{ConsumerNotFound}
use Rattle.frames.specs.declared.frame.Frame.{Frame}
use Rattle.frames.specs.declared.frame.FrameEntry.{FrameEntry}
use Rattle.permits.specs.declared.plain.TooManyPermits.{TooManyPermits}
use Rattle.topic_core.specs.declared.command.Answer.{Answer}
use Rattle.topic_core.specs.declared.command.Answer.TheVariants.{Now, Later, Nothing, NoMemory}
use Rattle.topic_core.specs.Steps.{Fits}
use Rattle.topic_core.proofs.Steps.{step-fits}
use Rattle.session.specs.Broker.{topic_at}
use Rattle.session.specs.Client.{Client, Play, plain, Says, Answered, Ends}
use Rattle.session.specs.Consuming.{FlowIn, granting}
use Rattle.session.specs.Table.{topic_of}
use Rattle.session.specs.GivingBack.{close_consumer_command, redeliver_command, CloseConsumerIn, RedeliverIn}
use Rattle.session.specs.Working.{WorksCommand, Connects, FrameIn}
use Rattle.session.specs.Laws.{may_lack_memory}
use Rattle.session.specs.declared.fault.Fault.{Fault}
use Rattle.session.specs.declared.fault.Fault.TheVariants as fault

-- a REDELIVER is never answered
pub redelivers_silently : (asked : Redeliver) (a : Answer) (c d : Client) (x y : List ℕ) → Fits (redeliver_command asked) a → Answered c x a d y → (d ≡ c) × (y ≡ x)
redelivers_silently asked NoMemory c d x y fits h = absurd (let no : false ≡ true = fits in cc)
redelivers_silently asked (Now r) c d x y fits h = absurd fits
redelivers_silently asked Later c d x y fits h = absurd fits
redelivers_silently asked Nothing c d x y fits h = h

pub redelivers : (topic : Option ℕ) (old : Play) (asked : Redeliver) (new : Play) → RedeliverIn topic old asked new → (new.client ≡ old.client) × (new.out ≡ old.out)
redelivers None old asked new s = (ap (λ (p : Play). p.client) s, ap (λ (p : Play). p.out) s)
redelivers (Some topic) old asked new s =
    redelivers_silently asked s.answer old.client new.client old.out new.out
    (step-fits (topic_at old.broker topic) old.client.number (redeliver_command asked) s.answer (topic_at new.broker topic) s.step.step) s.answered

-- a CLOSE_CONSUMER always is
replies : (asked : CloseConsumer) (a : Answer) (c d : Client) (x y : List ℕ) → Fits (close_consumer_command asked) a → Answered c x a d y → (r : Reply) × Says c x (plain r) d y
replies asked NoMemory c d x y fits h = absurd (let no : false ≡ true = fits in cc)
replies asked (Now r) c d x y fits h = (r, h)
replies asked Later c d x y fits h = absurd fits
replies asked Nothing c d x y fits h = absurd fits

pub closes_consumer : (topic : Option ℕ) (old : Play) (asked : CloseConsumer) (new : Play) → CloseConsumerIn topic old asked new → (r : Reply) × Says old.client old.out (plain r) new.client new.out
closes_consumer None old asked new s = (reply.Error asked.request_id ConsumerNotFound, s.0)
closes_consumer (Some topic) old asked new s =
    replies asked s.answer old.client new.client old.out new.out
    (step-fits (topic_at old.broker topic) old.client.number (close_consumer_command asked) s.answer (topic_at new.broker topic) s.step.step) s.answered

-- a session that stays as it is doesn't end, and one that ends by another fault lacks no memory
goes_on : (old new : Play) → old.client.fault ≡ None → new.client ≡ old.client → new.client.fault ≡ Some fault.NoMemory → false ≡ true
goes_on old new none same some = let no : None ≡ Some fault.NoMemory = sym none ∙ ap (λ (c : Client). c.fault) (sym same) ∙ some in absurd cc

turns_out : (old new : Play) → Ends old fault.OutOfTurn new → new.client.fault ≡ Some fault.NoMemory → false ≡ true
turns_out old new s some = let no : Some fault.OutOfTurn ≡ Some fault.NoMemory = sym (ap (λ (p : Play). p.client.fault) s) ∙ some in absurd cc

unknown : (old new : Play) → Ends old fault.UnknownCommand new → new.client.fault ≡ Some fault.NoMemory → false ≡ true
unknown old new s some = let no : Some fault.UnknownCommand ≡ Some fault.NoMemory = sym (ap (λ (p : Play). p.client.fault) s) ∙ some in absurd cc

granted : (old new : Play) (result : Result (Unit {0}) TooManyPermits) → old.client.fault ≡ None → new.client ≡ granting old.client result → new.client.fault ≡ Some fault.NoMemory → false ≡ true
granted old new (Ok done) none is some = goes_on old new none is some
granted old new (Err why) none is some = let no : Some fault.TooManyPermits ≡ Some fault.NoMemory = sym (ap (λ (c : Client). c.fault) is) ∙ some in absurd cc

grants : (topic : Option ℕ) (old : Play) (asked : Flow) (new : Play) → old.client.fault ≡ None → FlowIn topic old asked new → new.client.fault ≡ Some fault.NoMemory → false ≡ true
grants None old asked new none s some = goes_on old new none (ap (λ (p : Play). p.client) s) some
grants (Some topic) old asked new none s some = granted old new s.result none s.client some

works : (old : Play) (c : Command) (entry : FrameEntry) (new : Play) → old.client.fault ≡ None → WorksCommand (Unit {0}) old c entry new → new.client.fault ≡ Some fault.NoMemory → may_lack_memory c ≡ true
works old (command.Connect c) entry new none s some = refl
works old (command.Producer c) entry new none s some = refl
works old (command.Send c) entry new none s some = refl
works old (command.Subscribe c) entry new none s some = refl
works old (command.Flow c) entry new none s some = grants (topic_of old.client.consumers c.consumer_id) old c new none s some
works old (command.Ack c) entry new none s some = refl
works old (command.Unsubscribe c) entry new none s some = refl
works old (command.CloseProducer c) entry new none s some = refl
works old (command.CloseConsumer c) entry new none s some = refl
works old command.Ping entry new none s some = refl
works old command.Pong entry new none s some = goes_on old new none (ap (λ (p : Play). p.client) s) some
works old (command.RedeliverUnacknowledgedMessages c) entry new none s some = goes_on old new none (redelivers (topic_of old.client.consumers c.consumer_id) old c new s).0 some
works old (command.PartitionedMetadata c) entry new none s some = refl
works old (command.Lookup c) entry new none s some = refl
works old (command.Other k) entry new none s some = unknown old new s some

connects : (old : Play) (c : Command) (new : Play) → Connects old c new → new.client.fault ≡ Some fault.NoMemory → may_lack_memory c ≡ true
connects old (command.Connect c) new s some = refl
connects old (command.Producer c) new s some = refl
connects old (command.Send c) new s some = refl
connects old (command.Subscribe c) new s some = refl
connects old (command.Flow c) new s some = turns_out old new s some
connects old (command.Ack c) new s some = refl
connects old (command.Unsubscribe c) new s some = refl
connects old (command.CloseProducer c) new s some = refl
connects old (command.CloseConsumer c) new s some = refl
connects old command.Ping new s some = refl
connects old command.Pong new s some = turns_out old new s some
connects old (command.RedeliverUnacknowledgedMessages c) new s some = turns_out old new s some
connects old (command.PartitionedMetadata c) new s some = refl
connects old (command.Lookup c) new s some = refl
connects old (command.Other k) new s some = unknown old new s some

pub frame_wants : (why : Option Fault) (connected : Bool) (old : Play) (frame : Frame) (new : Play) → why ≡ None → old.client.fault ≡ None → FrameIn (Unit {0}) why connected old frame new
    → new.client.fault ≡ Some fault.NoMemory → may_lack_memory frame.command ≡ true
frame_wants None true old frame new went none s some = works old frame.command frame.entry new none s some
frame_wants None false old frame new went none s some = connects old frame.command new s some
frame_wants (Some why) connected old frame new went none s some = let no : Some why ≡ None = went in absurd cc
