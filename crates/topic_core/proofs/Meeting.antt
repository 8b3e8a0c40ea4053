-- What a command's outcome is, whichever command it is, and what it lends.
use Rattle.std.proofs.Common.{◌≡◌, ℕ, true, false, Option, Some, None, is_some, refl, sym, ap, subst}
use Rattle.std.specs.Prelude.{IsSomeAnd}
use Rattle.permits.specs.Ends.{Word, Grants, Lends}
use Rattle.topic_core.specs.State.{Topic}
use Rattle.topic_core.specs.declared.command.TopicCommand.{TopicCommand}
use Rattle.topic_core.specs.declared.command.TopicCommand.TheVariants as command
use Rattle.topic_core.specs.declared.command.Answer.{Answer}
use Rattle.commands.specs.declared.server_error.ServerError.{ServerError}
use Rattle.topic_core.specs.Steps.{IsMet, Meets, Outcome, outcome_of, refused_or}

-- by some word, the one of the consumer that it attaches
pub met : (old : Topic) (who : ℕ) (c : TopicCommand) (a : Answer) (new : Topic) → IsMet old who c a new → (word : Word) × Meets (outcome_of old who c word) a new
met old who (command.Producer id request name) a new m = (None, m)
met old who (command.Send send) a new m = (None, m)
met old who (command.Subscribe subscribe) a new m = m
met old who (command.Ack ack) a new m = (None, m)
met old who (command.CloseProducer close) a new m = (None, m)
met old who (command.Unsubscribe unsubscribe) a new m = (None, m)
met old who (command.CloseConsumer close) a new m = (None, m)
met old who (command.Redeliver redeliver) a new m = (None, m)

-- what is lent apart is handed on, where there is some
pub handed_on : (word : Word) (lent before after : Option Grants) → Lends word None lent → (is_some lent ≡ true → after ≡ lent) → (is_some lent ≡ false → after ≡ before) → Lends word before after
handed_on None lent before after none some same = same (ap (λ (o : Option Grants). is_some o) none)
handed_on (Some word) None before after lends some same = absurd lends
handed_on (Some word) (Some granter) before after lends some same = subst (λ (o : Option Grants). IsSomeAnd o (λ g. (g.word ≡ word) × (g.granted ≡ 0))) (sym (some refl)) lends

-- an effect is met where nothing is refused
pub effected : (o : Option ServerError) (refused : ServerError → Answer) (old : Topic) (effect : Outcome) (new : Topic) → o ≡ None → new ≡ effect.topic
    → (effect.answer ≡ (refused_or o refused old effect).answer) × (new ≡ (refused_or o refused old effect).topic)
effected None refused old effect new none is = (refl, is)
effected (Some error) refused old effect new none is = absurd (let no : Some error ≡ None = none in cc)
