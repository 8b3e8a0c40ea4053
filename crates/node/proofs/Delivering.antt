-- Each message that goes out was admitted, and is the entry of its position ever after.
use Rattle.std.proofs.Common.{◌≡◌, inr, ⊎_elim, ℕ, true, false, cond, not, List, [], ◌∷◌, ◌++◌, map, take, refl, sym, ap, subst}
use Rattle.std.specs.List.{AllByRecursion}
use Rattle.commands.specs.declared.reply.Reply.{Reply}
use Rattle.commands.specs.declared.reply.Reply.TheVariants.{Message}
use Rattle.managed_ledger.specs.Entries.{Ledger}
use Rattle.topic_core.specs.declared.command.Answer.{Answer}
use Rattle.topic_core.specs.declared.command.TopicCommand.{TopicCommand}
use Rattle.topic_core.specs.State.{Topic}
use Rattle.reply_queues.specs.Replies.{SessionReplies, is_for, due_to, queued, hand_on, make_due, take_back, refused, refuse_pending}
use Rattle.topic_core.specs.Steps.{TopicStep, receipt}
use Rattle.topic_core.proofs.Flushes.{all-taken, all-dropped}
use Rattle.topic_core.proofs.Keeps.{dispatch-admits}
use Rattle.topic_core.proofs.Queues.{all-queued, all-collected, all-filter, all-map}
use Rattle.topic_core.proofs.Receipts.{all-append, all-drop_one}
use Rattle.node.specs.Moves.{Handed, outgoing, Move, Command, Tell, Lose, Grant, Deliver, Miss, Leave, Flush, Take, Finish, Reopen, Crash, Cut, MoveStep, Moves, Takes, told_on, told_by}
use Rattle.node.specs.Telling.{is_message}
use Rattle.node.specs.Finding.{Keeps, IsQuiet}
use Rattle.node.specs.Delivering.{Delivers, DeliversEach}
use Rattle.node.proofs.Commands.{Awaits, by_command, granted_topic, sent_topic}
use Rattle.node.proofs.Endings.{RespectedByFlushes, taking, finishing, flushing, reopen_cases, cutting, Counts, move_grows, moves_grow, quiet_counts}
use Rattle.node.proofs.Extending.{grown_extends}

-- no message is owed: those go out at once
abbrev IsNoMessage : Reply → Type 0
IsNoMessage r = is_message r ≡ false

record HasNoMessage (q : SessionReplies) : Type 0 where
  due : AllByRecursion IsNoMessage q.due
  pending : AllByRecursion IsNoMessage q.pending

abbrev OweNoMessage : List SessionReplies → Type 0
OweNoMessage qs = AllByRecursion HasNoMessage qs

abbrev OwesNoMessage : Topic → Type 0
OwesNoMessage t = OweNoMessage t.queues

same_topic : (t u : Topic) → u ≡ t → OwesNoMessage t → OwesNoMessage u
same_topic t u is none = subst OwesNoMessage (sym is) none

-- one more reply that is none
queued_none : (who : ℕ) (r : Reply) (qs : List SessionReplies) → IsNoMessage r → OweNoMessage qs → OweNoMessage (queued who r qs)
queued_none who r qs one none = all-queued HasNoMessage HasNoMessage who r qs (λ q h. h)
    (λ q h. record { due = h.due; pending = all-append IsNoMessage q.pending (r ∷ []) h.pending (one, tt) })
    (record { due = tt; pending = (one, tt) }) none

due_none : (who : ℕ) (qs : List SessionReplies) (r : Reply) (rs : List Reply) → OweNoMessage qs → due_to who qs ≡ r ∷ rs → IsNoMessage r
due_none who [] r rs none is = absurd cc
due_none who (q ∷ qs) r rs none is = elim (is_for who q) as (λ b. cond b q.due (due_to who qs) ≡ r ∷ rs → IsNoMessage r) [
  | true ↦ λ due. (subst (λ (l : List Reply). AllByRecursion IsNoMessage l) due none.0.due).0
  | false ↦ λ later. due_none who qs r rs none.1 later
] is

-- what a failure makes of a reply that is no message is none
refused_none : (r : Reply) → IsNoMessage r → IsNoMessage (refused r)
refused_none (Message consumer_id id redelivery_count) isnt = isnt
refused_none _ isnt = refl

all_refused : (rs : List Reply) → AllByRecursion IsNoMessage rs → AllByRecursion IsNoMessage (map (λ r. refused r) rs)
all_refused [] none = tt
all_refused (r ∷ rs) none = (refused_none r none.0, all_refused rs none.1)

-- ---- moves

awaits : (who : ℕ) (t u : Topic) → Awaits who t u → OwesNoMessage t → OwesNoMessage u
awaits who t u a none = ⊎_elim
    (λ same. subst OweNoMessage (sym same) none)
    (λ more. subst OweNoMessage (sym more.3) (queued_none who more.0 t.queues more.1.no_message none))
    a.queues

commanded : (t : Topic) (who : ℕ) (c : TopicCommand) (a : Answer) (u : Topic) → TopicStep t who c a u → OwesNoMessage t → OwesNoMessage u
commanded t who c a u s none = by_command t who (λ c a u. OwesNoMessage u) (λ c a u unsent more. awaits who t u more none)
    (λ send u works is. subst OwesNoMessage (sym is) (queued_none who (receipt t send.producer_id send.sequence_id) t.queues refl none)) c a u s

takes : (t u : Topic) (h : Handed) → Takes t h u → OwesNoMessage t → OwesNoMessage u
takes t u h s none =
    subst OwesNoMessage (sym s.taken)
    (all-collected HasNoMessage HasNoMessage h.session t.queues (λ q n. n) (λ q n. record { due = all-drop_one IsNoMessage q.due n.due; pending = n.pending }) none)

abbrev KeepsNone : Topic → Topic → Type 0
KeepsNone t u = OwesNoMessage t → OwesNoMessage u

flush_keeps : RespectedByFlushes KeepsNone
flush_keeps = record {
  same = λ t none. none;
  then = λ t u v first second none. second (first none);
  take = λ t p point none. all-map HasNoMessage HasNoMessage hand_on t.queues (λ q n. record { due = n.due; pending = n.pending }) none;
  finish = λ t b low none. all-map HasNoMessage HasNoMessage make_due t.queues
      (λ q n. record {
        due = all-append IsNoMessage q.due (take q.handed_on q.pending) n.due (all-taken IsNoMessage q.handed_on q.pending n.pending);
        pending = all-dropped IsNoMessage q.handed_on q.pending n.pending;
      }) none;
  take_back = λ t none. all-map HasNoMessage HasNoMessage take_back t.queues (λ q n. record { due = n.due; pending = n.pending }) none;
  fail = λ t none. all-map HasNoMessage HasNoMessage refuse_pending t.queues
      (λ q n. record { due = all-append IsNoMessage q.due (map (λ r. refused r) q.pending) n.due (all_refused q.pending n.pending); pending = tt }) none;
}

moved : (t : Topic) (m : Move) (u : Topic) → MoveStep t m u → OwesNoMessage t → OwesNoMessage u
moved t (Command who c a) u s none = commanded t who c a u s none
moved t (Tell h) u s none = takes t u h s none
moved t (Lose h) u s none = takes t u h s none
moved t (Grant who id permits result) u s none = awaits who t u (granted_topic result t who id permits u s) none
moved t (Deliver id h) u s none = awaits h.session t u (sent_topic h.session t _ s.0 u s.1.sent) none
moved t (Miss id h) u s none = awaits h.session t u (sent_topic h.session t _ s.0 u s.1.sent) none
moved t (Leave who) u s none = subst OwesNoMessage (sym s) (all-filter HasNoMessage (λ q. not (is_for who q)) t.queues none)
moved t (Flush result) u s none = flushing KeepsNone flush_keeps t result u s none
moved t (Take result) u s none = taking KeepsNone flush_keeps t result u s none
moved t (Finish written result) u s none = finishing KeepsNone flush_keeps t written result u s none
moved t (Reopen result) u s none = ⊎_elim (λ is. same_topic t u is none) (λ again. subst OwesNoMessage (sym again.again) none) (reopen_cases t result u s)
moved t Crash u s none = subst OwesNoMessage (sym s.again) tt
moved t Cut u s none = cutting KeepsNone flush_keeps t u s none

not_message : (r : Reply) → is_message r ≡ false → is_message r ≡ true → ⊥
not_message r isnt is = cc

-- what goes out on the first of some moves
told_first : (t : Topic) (m : Move) (u : Topic) (ms : List Move) (v : Topic) → MoveStep t m u → Moves u ms v → Counts u → OwesNoMessage t → DeliversEach t (m ∷ ms) v.ledger (told_on m)
told_first t (Tell h) u ms v s rest counts none = (
  λ is. absurd (not_message h.reply (due_none h.session t.queues h.reply (due_to h.session u.queues) none s.first) is),
  tt,
)
told_first t (Deliver id h) u ms v s rest counts none = (
  λ is.
      let a = dispatch-admits t h.session id (outgoing h) u s in
      record {
        consumer = id;
        before = [];
        after = ms;
        splits = refl;
        there = t;
        steps = refl;
        position = a.0;
        admitted = a.1;
        stands = grown_extends u.ledger v.ledger (moves_grow u ms v rest counts).grown a.0 h.entry (subst (λ (x : Topic). Keeps x.ledger a.0 h.entry) (sym s.1.sent) (inr a.1.published));
      },
  tt,
)
told_first t _ u ms v s rest counts none = tt

-- one move before
later : (t : Topic) (m : Move) (u : Topic) (ms : List Move) (ledger : Ledger) (h : Handed) → MoveStep t m u → Delivers u ms ledger h → Delivers t (m ∷ ms) ledger h
later t m u ms ledger h s found = λ is.
    let f = found is in
    record {
      consumer = f.consumer;
      before = m ∷ f.before;
      after = f.after;
      splits = ap (λ (l : List Move). m ∷ l) f.splits;
      there = f.there;
      steps = (u, s, f.steps);
      position = f.position;
      admitted = f.admitted;
      stands = f.stands;
    }

each_later : (t : Topic) (m : Move) (u : Topic) (ms : List Move) (ledger : Ledger) (hs : List Handed) → MoveStep t m u → DeliversEach u ms ledger hs → DeliversEach t (m ∷ ms) ledger hs
each_later t m u ms ledger [] s all = tt
each_later t m u ms ledger (h ∷ hs) s all = (later t m u ms ledger h s all.0, each_later t m u ms ledger hs s all.1)

both : (t : Topic) (ms : List Move) (ledger : Ledger) (xs ys : List Handed) → DeliversEach t ms ledger xs → DeliversEach t ms ledger ys → DeliversEach t ms ledger (xs ++ ys)
both t ms ledger [] ys a b = b
both t ms ledger (x ∷ xs) ys a b = (a.0, both t ms ledger xs ys a.1 b)

delivered : (t : Topic) (moves : List Move) (u : Topic) → Moves t moves u → Counts t → OwesNoMessage t → DeliversEach t moves u.ledger (told_by moves)
delivered t [] u steps counts none = tt
delivered t (m ∷ ms) v steps counts none =
    let u = steps.0 in
    let then = (move_grows t m u steps.1 counts).counts in
    both t (m ∷ ms) v.ledger (told_on m) (told_by ms)
    (told_first t m u ms v steps.1 steps.2 then none)
    (each_later t m u ms v.ledger (told_by ms) steps.1 (delivered u ms v steps.2 then (moved t m u steps.1 none)))

pub moves_delivered : (t : Topic) (moves : List Move) (u : Topic) → Moves t moves u → IsQuiet t → DeliversEach t moves u.ledger (told_by moves)
moves_delivered t moves u steps quiet = delivered t moves u steps (quiet_counts t quiet) (subst OweNoMessage (sym quiet.queues) tt)
