-- Moves keep a topic sound.
use Rattle.std.proofs.Common.{◌≡◌, ◌∙◌, ℕ, ◌<◌, Bool, true, false, Option, None, Some, is_some, Ok, List, [], ◌∷◌, refl, sym, ap, subst, arith}
use Rattle.std.specs.Ordering.{nat_cmp}
use Rattle.std.specs.Cmp.Lexicographic.{slice_cmp}
use Rattle.std.specs.FinMap as map
use Rattle.managed_ledger.specs.Entries.{whole}
use Rattle.records.specs.Floors.{HaveBelow}
use Rattle.topic_core.specs.State.{Topic}
use Rattle.reply_queues.specs.Replies.{due_to}
use Rattle.topic_core.specs.Steps.{Collects, collected}
use Rattle.topic_core.specs.Soundness.{IsSoundTopic}
use Rattle.topic_core.proofs.Keeps.{command-sound, grant-sound, dispatch-sound, flush-sound, take-sound, handed_on-sound, finish-sound, reopen-sound, crash-sound, collected-sound, leave-sound}
use Rattle.subscriptions.specs.Marks.{no_marks}
use Rattle.topic_core.proofs.Slotted.{nothing_marked}
use Rattle.topic_core.proofs.Openings.{sound-opened, receipts-opened}
use Rattle.topic_core.proofs.Floors.{opened_acknowledged}
use Rattle.topic_core.specs.Flush.{IsTrimPoint, has_no_flush}
use Rattle.session.specs.Broker.{Broker, fresh, topic_at}
use Rattle.subscriptions.specs.Steps as subscriptions
use Rattle.subscriptions.specs.Laws.{AreDurable}
use Rattle.subscriptions.proofs.Durable.{are_kept}
use Rattle.cursor.specs.Positions.{Positions}
use Rattle.node.specs.State.{State, fresh_broker}
use Rattle.node.specs.Steps.{flushing}
use Rattle.node.specs.Runs.{Run, Life, AllowedRun}
use Rattle.node.specs.declared.event.Event.{Event}
use Rattle.node.specs.declared.event.Happening.{Happening}
use Rattle.node.specs.declared.event.Output.{Output}
use Rattle.node.specs.Cuts.{Turn, AllowedLife}
use Rattle.node.proofs.Unfolding.{run_unfolds, life_unfolds, cut_life_unfolds}
use Rattle.node.specs.Moves.{Handed, outgoing, Move, Command, Tell, Lose, Grant, Deliver, Miss, Leave, Flush, Take, Finish, Reopen, Crash, Cut, MoveStep, Moves, Takes}
use Rattle.node.specs.Telling.{RunUnfolds}
use Rattle.node.specs.Laws.{IsSoundBroker}
use Rattle.node.proofs.Carrying.{Respected, respects}

abbrev KeepsSound : Topic → List Move → Topic → Type 0
KeepsSound t moves u = IsSoundTopic t → IsSoundTopic u

takes_sound : (t u : Topic) (h : Handed) → Takes t h u → IsSoundTopic t → IsSoundTopic u
takes_sound t u h takes s =
    let c = collected t h.session h.reply in
    let step : Collects t h.session (Some h.reply) c = (takes.first ∙ ap (λ (x : Topic). h.reply ∷ due_to h.session x.queues) takes.taken, refl) in
    subst (λ (x : Topic). IsSoundTopic x) (sym takes.taken) (collected-sound t h.session (Some h.reply) c step s)

-- a topic within a flush is sound
flushing_sound : (failed nothing : Bool) (t : Topic) (p : ℕ) → IsTrimPoint t p → IsSoundTopic t → IsSoundTopic (flushing failed nothing t p)
flushing_sound true nothing t p point s = s
flushing_sound false true t p point s = s
flushing_sound false false t p point s = handed_on-sound t p point s

pub move_sound : (t : Topic) (m : Move) (u : Topic) → MoveStep t m u → IsSoundTopic t → IsSoundTopic u
move_sound t (Command who command answer) u step s = command-sound t who command answer u step s
move_sound t (Tell h) u step s = takes_sound t u h step s
move_sound t (Lose h) u step s = takes_sound t u h step s
move_sound t (Grant who id permits result) u step s = grant-sound t who id permits result u step s
move_sound t (Deliver id h) u step s = dispatch-sound t h.session id (Ok (Some (outgoing h))) u step s
move_sound t (Miss id h) u step s = dispatch-sound t h.session id (Ok (Some (outgoing h))) u step s
move_sound t (Leave who) u step s = subst (λ (x : Topic). IsSoundTopic x) (sym step) (leave-sound t who s)
move_sound t (Flush result) u step s = flush-sound t result u step s
move_sound t (Take result) u step s = take-sound t result u step s
move_sound t (Finish written result) u step s = finish-sound t written result u step s
move_sound t (Reopen result) u step s = reopen-sound t result u step s
move_sound t Crash u step s = crash-sound t u step s
move_sound t Cut u step s = subst (λ (x : Topic). IsSoundTopic x) (sym step.2) (flushing_sound t.failed (has_no_flush t) t step.0 step.1 s)

keeps_sound : Respected KeepsSound
keeps_sound = record {
  same = λ t s. s;
  then = λ t m u ms v step rest s. rest (move_sound t m u step s);
}

pub moves_sound : (t : Topic) (moves : List Move) (u : Topic) → Moves t moves u → IsSoundTopic t → IsSoundTopic u
moves_sound t moves u steps = respects KeepsSound keeps_sound t moves u steps

not_some : {X : Type 0} (o : Option X) → o ≡ None → is_some o ≡ true → ⊥
not_some None is some = cc
not_some (Some x) is some = cc

-- no durable subscription is there yet
durable_empty : AreDurable map.empty
durable_empty = record {
  few = omega (arith, map.len-empty (slice_cmp nat_cmp) Positions);
  named = λ name there. absurd (not_some _ (map.get-empty (slice_cmp nat_cmp) name) there);
}

none_have : HaveBelow 0 map.empty
none_have name acked there i low = absurd (omega (arith, low))

pub fresh_sound : (n : ℕ) → 0 < n → IsSoundTopic (fresh n)
fresh_sound n some = record {
  state = sound-opened n (whole []) no_marks map.empty some (omega arith) nothing_marked durable_empty;
  receipts = receipts-opened n (whole []) no_marks map.empty;
  counted = refl;
  kept = are_kept.mark 0 map.empty (subscriptions.opened map.empty) [] [] (are_kept.opened 0 map.empty durable_empty);
  marks = refl;
  acknowledged = opened_acknowledged n (whole []) no_marks map.empty none_have;
}

pub fresh_broker_sound : (n : ℕ) (url : List ℕ) → 0 < n → IsSoundBroker (fresh_broker n url)
fresh_broker_sound n url some = λ number. fresh_sound n some

pub unfolds_sound : (b : Broker) (hearers : List (Option ℕ)) (outputs : List Output) (c : Broker) → RunUnfolds b hearers outputs c → IsSoundBroker b → IsSoundBroker c
unfolds_sound b hearers outputs c u sound = λ number. let course = u.each number in moves_sound (topic_at b number) course.moves (topic_at c number) course.steps (sound number)

pub run_sound : (old : State) (events : List Event) (outputs : List Output) (new : State) → Run old events outputs new → IsSoundBroker old.broker → IsSoundBroker new.broker
run_sound old events outputs new run sound = unfolds_sound old.broker _ outputs new.broker (run_unfolds old events outputs new run) sound

pub life_sound : (old : Life) (happenings : List Happening) (outputs : List Output) (new : Life) → AllowedRun old happenings outputs new → IsSoundBroker old.state.broker → IsSoundBroker new.state.broker
life_sound old happenings outputs new run sound = unfolds_sound old.state.broker _ outputs new.state.broker (life_unfolds old happenings outputs new run) sound

pub cut_life_sound : (old : Life) (turns : List Turn) (outputs : List Output) (new : Life) → AllowedLife old turns outputs new → IsSoundBroker old.state.broker → IsSoundBroker new.state.broker
cut_life_sound old turns outputs new run sound = unfolds_sound old.state.broker _ outputs new.state.broker (cut_life_unfolds old turns outputs new run) sound
