-- Calls of a port, as the broker sees them.
use Rattle.std.proofs.Common.{◌≡◌, ◌⊎◌, inl, inr, ⊎_elim, ℕ, ◌<◌, List, [], ◌∷◌, Bool, true, false, Option, None, Some, Result, Ok, Err, IfErr, IsErr, IsErrOf, refl, sym, ap, subst, ◌∙◌}
use Rattle.std.proofs.lemmas.Bool.{true≢false}
use Rattle.reply_queues.specs.Replies.{due_to}
use Rattle.commands.specs.declared.reply.Reply.{Reply}
use Rattle.permits.specs.declared.plain.TooManyPermits.{TooManyPermits}
use Rattle.gated_log.specs.declared.read_error.ReadError.{ReadError}
use Rattle.gated_log.specs.declared.read_error.ReadError.TheVariants as read
use Rattle.topic_stores.specs.declared.error.WriteError.TheVariants as write
use Rattle.topic_stores.specs.Views.{StoreView}
use Rattle.topic_core.specs.Standing.{Match, Remembers}
use Rattle.topic_core.specs.declared.command.TopicCommand.{TopicCommand}
use Rattle.topic_core.specs.declared.command.Answer.{Answer}
use Rattle.topic_core.specs.declared.dispatch.Outgoing.{Outgoing}
use Rattle.topic_core.specs.State.{Topic}
use Rattle.topic_core.specs.Dispatch.{Admits, DispatchStep}
use Rattle.topic_core.specs.Steps.{TopicStep, Collects, GrantStep, key_of, left, collected}
use Rattle.session.specs.Broker.{Broker, CommandStep, GrantAt, DispatchAt, IsQuiet, CollectedAt, topic_at, with_topic, left_at}
use Rattle.node.specs.State.{Stage, Resting, Taken, Written, MayRefuse, MayRefuseOf, stage_in}
use Rattle.node.specs.Flights.{phase_at}
use Rattle.node.proofs.Frames.{same_topic}

-- the topic of a number becomes another
module _ (old new : Broker) (number : ℕ) (t u : Topic) (was : topic_at old number ≡ t) (is : topic_at new number ≡ u) (becomes : new ≡ with_topic old number u) where
  -- what holds of both
  of_both : (P : Topic → Topic → Type 0) → P t u → P (topic_at old number) (topic_at new number)
  of_both P step = subst (λ x. P x (topic_at new number)) (sym was) (subst (λ y. P t y) (sym is) step)

  others : new ≡ with_topic old number (topic_at new number)
  others = becomes ∙ ap (λ x. with_topic old number x) (sym is)

  -- it becomes what the old one does
  becomes_as : (f : Topic → Topic) → u ≡ f t → new ≡ with_topic old number (f (topic_at old number))
  becomes_as f same = becomes ∙ ap (λ x. with_topic old number x) (same ∙ ap f (sym was))

  pub commands : (who : ℕ) (c : TopicCommand) (a : Answer) → TopicStep t who c a u → CommandStep old number who c a new
  commands who c a step = record { step = of_both (λ x y. TopicStep x who c a y) step; others = others }

  pub grants : (who id permits : ℕ) (result : Result (Unit {0}) TooManyPermits) → GrantStep t who id permits result u → GrantAt old number who id permits result new
  grants who id permits result step = record { step = of_both (λ x y. GrantStep x who id permits result y) step; others = others }

  pub dispatches : (who id : ℕ) (result : Result (Option Outgoing) ReadError) → DispatchStep t who id result u → DispatchAt old number who id result new
  dispatches who id result step = record { step = of_both (λ x y. DispatchStep x who id result y) step; others = others }

  pub stays : u ≡ t → new ≡ old
  stays same = becomes_as (λ x. x) same ∙ same_topic old number

  pub quiet : (who : ℕ) → ((id i : ℕ) → Admits t (key_of who id) i → ⊥) → IsQuiet old number who
  quiet who none = subst (λ x. (id i : ℕ) → Admits x (key_of who id) i → ⊥) (sym was) none

  pub collects : (who : ℕ) (result : Option Reply) → Collects t who result u → CollectedAt old number who result new
  collects who None step = (of_both (λ x y. due_to who x.queues ≡ []) step.0, becomes_as (λ x. x) step.1 ∙ same_topic old number)
  collects who (Some r) step = (of_both (λ x y. due_to who x.queues ≡ r ∷ due_to who y.queues) step.0, becomes_as (λ x. collected x who r) step.1)

  pub leaves : (who : ℕ) → u ≡ left t who → new ≡ left_at old number who
  leaves who step = becomes_as (λ x. left x who) step

-- the topic of this number, of these, refuses so
pub refuses_at : (A B : Type 0) (stages : List Stage) (number : ℕ) (stage : Stage) (before after : ℕ) (result : Result (Option Outgoing) ReadError) → stage_in stages number ≡ stage → (B → A)
    → IfErr result (λ why. A → MayRefuseOf stage before after why) → IfErr result (λ why. B → MayRefuse stages before after number why)
refuses_at A B stages number stage before after (Ok message) is so refused = tt
refuses_at A B stages number stage before after (Err why) is so refused = λ b. subst (λ s. MayRefuseOf s before after why) (sym is) (refused (so b))

-- a topic that works has a store that works, unless the write of a flush that isn't finished has failed
works_unless : (failed : Bool) (stage : Stage) (t : Topic) (v : StoreView) → failed ≡ false → Remembers (phase_at failed stage) t v → (v.failed ≡ false) ⊎ (stage ≡ Written (Err write.Device))
works_unless true stage t v works h = absurd (true≢false works)
works_unless false Resting t v works h = inl h.works
works_unless false Taken t v works h = inl h.works
works_unless false (Written (Ok done)) t v works h = inl h.works
works_unless false (Written (Err write.NoMemory)) t v works h = inl h.works
works_unless false (Written (Err write.Device)) t v works h = inr refl

-- why a topic refuses a message
pub refusals : (Stood : Type 0) (stage : Stage) (before after : ℕ) (t new : Topic) (v : StoreView) (who id : ℕ) (result : Result (Option Outgoing) ReadError) → Match (phase_at t.failed stage) t v →
    (IsErr result → t.failed ≡ false) → (v.failed ≡ false → IsErrOf result read.Device → before < after) → (Stood → DispatchStep t who id result new) → IfErr result (λ why. Stood → MayRefuseOf stage before after why)
refusals Stood stage before after t new v who id (Ok message) match works cause step = tt
refusals Stood stage before after t new v who id (Err read.NoMemory) match works cause step = λ stood. tt
refusals Stood stage before after t new v who id (Err read.Device) match works cause step = λ stood.
    ⊎_elim (λ store. inl (cause store refl)) (λ written. inr written) (works_unless t.failed stage t v (works refl) match.remembers)
refusals Stood stage before after t new v who id (Err (read.Damaged file offset)) match works cause step = λ stood. absurd (step stood)
