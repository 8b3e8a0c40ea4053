-- Between two crashes receipts never outnumber the committed entries.
use Rattle.std.proofs.Common.{◌≡◌, ⊎_elim, ◌∙◌, ℕ, ◌+◌, ◌≤◌, true, false, Result, List, [], ◌∷◌, ◌++◌, refl, ap, arith}
use Rattle.std.specs.List.{AllByRecursion}
use Rattle.commands.specs.declared.reply.Reply.{Reply}
use Rattle.topic_core.specs.declared.command.Answer.{Answer}
use Rattle.topic_core.specs.declared.command.TopicCommand.{TopicCommand}
use Rattle.gated_log.specs.declared.refusal.Refusal.{Refusal}
use Rattle.managed_ledger.specs.Entries.{end_of}
use Rattle.topic_core.specs.State.{Topic, receipts_due}
use Rattle.topic_core.specs.Steps.{TopicStep, receipts_of}
use Rattle.topic_core.specs.Soundness.{IsSoundTopic}
use Rattle.topic_core.specs.Crashes.{ReopenStep}
use Rattle.node.specs.Moves.{Handed, Move, Command, Tell, Lose, Grant, Deliver, Miss, Leave, Flush, Take, Finish, Reopen, Crash, Cut, MoveStep, Moves, Takes, Sends, told_on, told_by, is_crash}
use Rattle.node.specs.Telling.{receipts_told}
use Rattle.node.proofs.Carrying.{Respected, respects}
use Rattle.node.proofs.Commands.{by_command, granted_topic}
use Rattle.node.proofs.Endings.{RespectedByFlushes, taking, finishing, flushing, reopen_cases, cutting}
use Rattle.node.proofs.Sound.{moves_sound}

-- the receipts that were told are among those that were collected
abbrev CountsTold : Topic → List Move → Topic → Type 0
CountsTold t moves u = AllByRecursion (λ m. is_crash m ≡ false) moves → receipts_told (told_by moves) + t.handed ≤ u.handed

told-append : (xs ys : List Handed) → receipts_told (xs ++ ys) ≡ receipts_told xs + receipts_told ys
told-append [] ys = omega arith
told-append (x ∷ xs) ys = omega (arith, told-append xs ys)

command_counts : (t : Topic) (who : ℕ) (c : TopicCommand) (a : Answer) (u : Topic) → TopicStep t who c a u → 0 + t.handed ≤ u.handed
command_counts t who c a u step = by_command t who (λ c a u. 0 + t.handed ≤ u.handed) (λ c a u none awaits. omega (arith, awaits.handed)) (λ send u works is. omega (arith, ap (λ (x : Topic). x.handed) is)) c a u step

takes_counts : (t u : Topic) (h : Handed) → Takes t h u → u.handed ≡ t.handed + receipts_of h.reply
takes_counts t u h takes = ap (λ (x : Topic). x.handed) takes.taken

-- no part of a flush is collected
abbrev SameHanded : Topic → Topic → Type 0
SameHanded t u = u.handed ≡ t.handed

flush_counts : RespectedByFlushes SameHanded
flush_counts = record { same = λ t. refl; then = λ t u v first second. second ∙ first; take = λ t p point. refl; finish = λ t b low. refl; take_back = λ t. refl; fail = λ t. refl }

reopen_counts : (t : Topic) (result : Result (Unit {0}) Refusal) (u : Topic) → ReopenStep t result u → u.handed ≡ t.handed
reopen_counts t result u s = ⊎_elim (λ is. ap (λ (x : Topic). x.handed) is) (λ again. ap (λ (x : Topic). x.handed) again.again) (reopen_cases t result u s)

-- a message is no receipt
message_counts : (t : Topic) (id : ℕ) (h : Handed) (u : Topic) → Sends t id h u → receipts_of h.reply ≡ 0
message_counts t id h u step = ap (λ (r : Reply). receipts_of r) step.1.reply

no_crash : true ≡ false → ⊥
no_crash is = cc

move_counts : (t : Topic) (m : Move) (u : Topic) → is_crash m ≡ false → MoveStep t m u → receipts_told (told_on m) + t.handed ≤ u.handed
move_counts t (Command who command answer) u is step = command_counts t who command answer u step
move_counts t (Tell h) u is step = omega (arith, takes_counts t u h step)
move_counts t (Lose h) u is step = omega (arith, takes_counts t u h step)
move_counts t (Grant who id permits result) u is step = omega (arith, (granted_topic result t who id permits u step).handed)
move_counts t (Deliver id h) u is step = omega (arith, message_counts t id h u step, ap (λ (x : Topic). x.handed) step.1.sent)
move_counts t (Miss id h) u is step = omega (arith, ap (λ (x : Topic). x.handed) step.1.sent)
move_counts t (Leave who) u is step = let same : u.handed ≡ t.handed = ap (λ (x : Topic). x.handed) step in omega (arith, same)
move_counts t (Flush result) u is step = omega (arith, flushing SameHanded flush_counts t result u step)
move_counts t (Take result) u is step = omega (arith, taking SameHanded flush_counts t result u step)
move_counts t (Finish written result) u is step = omega (arith, finishing SameHanded flush_counts t written result u step)
move_counts t (Reopen result) u is step = omega (arith, reopen_counts t result u step)
move_counts t Crash u is step = absurd (no_crash is)
move_counts t Cut u is step = omega (arith, cutting SameHanded flush_counts t u step)

counts_told : Respected CountsTold
counts_told = record {
  same = λ t none. omega arith;
  then = λ t m u ms v step rest none. omega (arith, move_counts t m u none.0 step, told-append (told_on m) (told_by ms), rest none.1);
}

pub moves_covered : (t : Topic) (moves : List Move) (u : Topic) → Moves t moves u → AllByRecursion (λ m. is_crash m ≡ false) moves → IsSoundTopic t
    → receipts_told (told_by moves) + receipts_due u.queues ≤ end_of u.ledger
moves_covered t moves u steps none sound =
    let s = moves_sound t moves u steps sound in
    omega (arith, respects CountsTold counts_told t moves u steps none, s.state.receipts, s.counted)
