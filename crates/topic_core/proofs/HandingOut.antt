-- What commands leave of the receipts that were handed out.
use Rattle.std.proofs.Common.{◌≡◌, ℕ, refl, ap, ◌∙◌, Bool, true, false, cond, Option, Some, None}
use Rattle.commands.specs.declared.server_error.ServerError.{ServerError}
use Rattle.topic_core.specs.State.{Topic}
use Rattle.topic_core.specs.declared.command.TopicCommand.{TopicCommand}
use Rattle.topic_core.specs.declared.command.TopicCommand.TheVariants as asked
use Rattle.topic_core.specs.declared.command.Answer.{Answer}
use Rattle.topic_core.specs.declared.command.Answer.TheVariants as answers
use Rattle.topic_core.specs.Steps.{Outcome, TopicStep, refused_or, outcome_of, ack_accepted}
use Rattle.permits.specs.Ends.{Word}
use Rattle.topic_core.proofs.Meeting.{met}

-- the effect leaves them, and so does a refusal
handed_if : (o : Option ServerError) (f : ServerError → Answer) (old : Topic) (effect : Outcome) → effect.topic.handed ≡ old.handed → (refused_or o f old effect).topic.handed ≡ old.handed
handed_if None f old effect e = e
handed_if (Some error) f old effect e = refl

cond_handed : (b : Bool) (x y : Topic) → y.handed ≡ x.handed → (cond b x y).handed ≡ x.handed
cond_handed true x y e = refl
cond_handed false x y e = e

outcome_handed : (old : Topic) (who : ℕ) (c : TopicCommand) (word : Word) → (outcome_of old who c word).topic.handed ≡ old.handed
outcome_handed old who (asked.Producer id request name) word = handed_if _ _ old _ refl
outcome_handed old who (asked.Send send) word = handed_if _ _ old _ refl
outcome_handed old who (asked.Subscribe subscribe) word = handed_if _ _ old _ refl
outcome_handed old who (asked.Ack ack) word = handed_if _ _ old _ (of_ack ack.request_id)
  where
    of_ack : (o : Option ℕ) → (ack_accepted old who ack o).topic.handed ≡ old.handed
    of_ack None = refl
    of_ack (Some request) = refl
outcome_handed old who (asked.CloseProducer close) word = handed_if _ _ old _ refl
outcome_handed old who (asked.Unsubscribe unsubscribe) word = handed_if _ _ old _ refl
outcome_handed old who (asked.CloseConsumer close) word = handed_if _ _ old _ refl
outcome_handed old who (asked.Redeliver redeliver) word = cond_handed old.failed old _ refl

pub command_handed : (old : Topic) (who : ℕ) (c : TopicCommand) (answer : Answer) (new : Topic) → TopicStep old who c answer new → new.handed ≡ old.handed
command_handed old who c answers.NoMemory new step = ap (λ (t : Topic). t.handed) step.0
command_handed old who c answers.Nothing new step = let m = met old who c answers.Nothing new step in ap (λ (t : Topic). t.handed) m.1.1 ∙ outcome_handed old who c m.0
command_handed old who c (answers.Now reply) new step = let m = met old who c (answers.Now reply) new step in ap (λ (t : Topic). t.handed) m.1.1 ∙ outcome_handed old who c m.0
command_handed old who c answers.Later new step = let m = met old who c answers.Later new step in ap (λ (t : Topic). t.handed) m.1.1 ∙ outcome_handed old who c m.0
