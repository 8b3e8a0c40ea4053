-- Each reply that tells of an acceptance is the first answer that its session was owed, and what is left of its promise stands.
use Rattle.std.proofs.Common.{◌≡◌, ◌⊎◌, inl, inr, ⊎_elim, ◌∙◌, ℕ, Bool, true, false, cond, not, Option, Some, None, List, [], ◌∷◌, ◌++◌, filter, refl, sym, ap, subst}
use Rattle.std.specs.List.{AllByRecursion}
use Rattle.commands.specs.declared.reply.Reply.{Reply}
use Rattle.records.specs.Maps.{Kept}
use Rattle.reply_queues.specs.Replies.{refused}
use Rattle.topic_core.specs.declared.command.Answer.{Answer}
use Rattle.topic_core.specs.declared.command.Answer.TheVariants.{Now, Later, Nothing, NoMemory}
use Rattle.topic_core.specs.declared.command.TopicCommand.{TopicCommand}
use Rattle.topic_core.specs.State.{Topic}
use Rattle.topic_core.proofs.Receipts.{all-append}
use Rattle.node.specs.Moves.{Handed, Move, Command, Tell, Lose, Grant, Deliver, Miss, Leave, Flush, Take, Finish, Reopen, Crash, Cut, MoveStep, Moves, Sends, told_on, told_by}
use Rattle.node.specs.Promising.{Promise, IsKept, Release, Owed, Word, is_released, unless_released, released, first_owed, is_acceptance, promised, promised_by, word_after, word_by, IsInTurn, AreInTurn}
use Rattle.node.specs.Answering.{released_on, unless, left_of, IsAnswer, Answers, AnswersEach}
use Rattle.node.proofs.Turns.{refused_no_acceptance, to_each}

-- ---- lists

module _ {X : Type 0} (P : X → Type 0) where
  all_first : (xs ys : List X) → AllByRecursion P (xs ++ ys) → AllByRecursion P xs
  all_first [] ys all = tt
  all_first (x ∷ xs) ys all = (all.0, all_first xs ys all.1)

  all_then : (xs ys : List X) → AllByRecursion P (xs ++ ys) → AllByRecursion P ys
  all_then [] ys all = all
  all_then (x ∷ xs) ys all = all_then xs ys all.1

-- ---- what is left of promises

unless_none : (release : Option Release) → unless release None ≡ None
unless_none None = refl
unless_none (Some release) = refl

none_left : (t : Topic) (moves : List Move) (u : Topic) (steps : Moves t moves u) → left_of t moves u steps None ≡ None
none_left t [] u steps = refl
none_left t (m ∷ ms) v steps = ap (λ (p : Option Promise). left_of steps.0 ms v steps.2 p) (unless_none (released_on t m)) ∙ none_left steps.0 ms v steps.2

module _ (Q : Option Promise → Type 0) (none : Q None) where
  -- what was told and has Q behind a move had it before, where the move left it
  unreleased : (release : Release) (ps : List Promise) → AllByRecursion (λ p. Q (Some p)) (filter (λ p. not (is_released release p)) ps) → AllByRecursion (λ p. Q (unless_released release (Some p))) ps
  unreleased release [] all = tt
  unreleased release (p ∷ ps) all =
      elim (is_released release p) as (λ b. AllByRecursion (λ x. Q (Some x)) (cond (not b) (p ∷ filter (λ x. not (is_released release x)) ps) (filter (λ x. not (is_released release x)) ps))
      → Q (cond b None (Some p)) × AllByRecursion (λ x. Q (unless_released release (Some x))) ps) [
        | true ↦ λ others. (none, unreleased release ps others)
        | false ↦ λ both. (both.0, unreleased release ps both.1)
      ] all

  given_released : (release : Option Release) (word : Word) → AllByRecursion (λ p. Q (Some p)) (released release word).given → AllByRecursion (λ p. Q (unless release (Some p))) word.given
  given_released None word all = all
  given_released (Some release) word all = unreleased release word.given all

  given_answered : (t : Topic) (who : ℕ) (c : TopicCommand) (a : Answer) (word : Word) → AllByRecursion (λ p. Q (Some p)) (word_after t (Command who c a) word).given
      → AllByRecursion (λ p. Q (unless (released_on t (Command who c a)) (Some p))) word.given
  given_answered t who c (Now r) word all = all
  given_answered t who c Later word all = given_released (released_on t (Command who c Later)) word all
  given_answered t who c Nothing word all = all
  given_answered t who c NoMemory word all = all

  given_told : (b : Bool) (given more : List Promise) → AllByRecursion (λ p. Q (Some p)) (cond b (given ++ more) given) → AllByRecursion (λ p. Q (Some p)) given
  given_told true given more all = all_first (λ p. Q (Some p)) given more all
  given_told false given more all = all

  given_before : (t : Topic) (m : Move) (word : Word) → AllByRecursion (λ p. Q (Some p)) (word_after t m word).given → AllByRecursion (λ p. Q (unless (released_on t m) (Some p))) word.given
  given_before t (Command who c a) word all = given_answered t who c a word all
  given_before t (Tell h) word all = given_told (is_acceptance h.reply) word.given (promised_by (first_owed h.session word.owed)) all
  given_before t (Lose h) word all = all
  given_before t (Grant who id permits result) word all = all
  given_before t (Deliver id h) word all = all
  given_before t (Miss id h) word all = all
  given_before t (Leave who) word all = all
  given_before t (Flush result) word all = all
  given_before t (Take result) word all = all
  given_before t (Finish written result) word all = all
  given_before t (Reopen result) word all = all
  given_before t Crash word all = all
  given_before t Cut word all = all

-- ---- what goes out

-- a message tells of no acceptance
no_message : (t : Topic) (id : ℕ) (h : Handed) (u : Topic) → Sends t id h u → is_acceptance h.reply ≡ false
no_message t id h u step = ap (λ (r : Reply). is_acceptance r) step.1.reply

not_both : (b : Bool) → b ≡ false → b ≡ true → ⊥
not_both b isnt is = cc

-- a reply in its turn that tells of an acceptance is the one that is owed
is_owed : (h : Handed) (o : Option Reply) (r : Reply) → o ≡ Some r → (h.reply ≡ r) ⊎ (h.reply ≡ refused r) → is_acceptance h.reply ≡ true → o ≡ Some h.reply
is_owed h o r is same accepts = ⊎_elim
    (λ it. is ∙ ap (λ (x : Reply). Some x) (sym it))
    (λ failed. absurd (not_both (is_acceptance h.reply) (ap (λ (x : Reply). is_acceptance x) failed ∙ refused_no_acceptance r) accepts))
    same

module _ (kept : Kept) where
  abbrev Stand : Option Promise → Type 0
  Stand o = AllByRecursion (IsKept kept) (promised o)

  -- what moves leave of a promise stands
  abbrev StandsBehind : (t : Topic) (moves : List Move) (u : Topic) → Moves t moves u → Option Promise → Type 0
  StandsBehind t moves u steps o = Stand (left_of t moves u steps o)

  none_stands : (t : Topic) (moves : List Move) (u : Topic) (steps : Moves t moves u) → StandsBehind t moves u steps None
  none_stands t moves u steps = subst Stand (sym (none_left t moves u steps)) tt

  -- of each promise that was told
  given_stand : (t : Topic) (moves : List Move) (u : Topic) (steps : Moves t moves u) (word : Word) → AllByRecursion (IsKept kept) (word_by t moves u steps word).given
      → AllByRecursion (λ p. StandsBehind t moves u steps (Some p)) word.given
  given_stand t [] u steps word all = to_each (IsKept kept) (λ p. Stand (Some p)) (λ p is. (is, tt)) word.given all
  given_stand t (m ∷ ms) v steps word all =
      given_before (λ o. StandsBehind steps.0 ms v steps.2 o) (none_stands steps.0 ms v steps.2) t m word (given_stand steps.0 ms v steps.2 (word_after t m word) all)

  stands_if : (t : Topic) (moves : List Move) (u : Topic) (steps : Moves t moves u) (o : Option Promise) → AllByRecursion (λ p. StandsBehind t moves u steps (Some p)) (promised o) → StandsBehind t moves u steps o
  stands_if t moves u steps None all = none_stands t moves u steps
  stands_if t moves u steps (Some p) all = all.0

  -- an acceptance that is told in its turn, behind which these moves come
  tells : (t : Topic) (moves : List Move) (u : Topic) (steps : Moves t moves u) (word : Word) (h : Handed) → IsInTurn word h → is_acceptance h.reply ≡ true
      → AllByRecursion (λ p. StandsBehind t moves u steps (Some p)) (cond (is_acceptance h.reply) (word.given ++ promised_by (first_owed h.session word.owed)) word.given)
      → IsAnswer word (left_of t moves u steps) kept h
  tells t moves u steps word h turn accepts given =
      let P : Promise → Type 0 = λ p. StandsBehind t moves u steps (Some p) in
      let there : AllByRecursion P (word.given ++ promised turn.owed.promise) =
      subst (λ (x : Option Owed). AllByRecursion P (word.given ++ promised_by x)) turn.first
      (subst (λ (b : Bool). AllByRecursion P (cond b (word.given ++ promised_by (first_owed h.session word.owed)) word.given)) accepts given) in
      record {
        owed = turn.owed;
        first = turn.first;
        reply = is_owed h turn.owed.reply turn.reply turn.answers turn.same accepts;
        stands = stands_if t moves u steps turn.owed.promise (all_then P word.given (promised turn.owed.promise) there);
      }

told_first : (t : Topic) (m : Move) (u : Topic) (ms : List Move) (v : Topic) (steps : Moves u ms v) (word : Word) (step : MoveStep t m u) → AreInTurn t (m ∷ ms) v (u, step, steps) word
    → AllByRecursion (IsKept v.kept) (word_by u ms v steps (word_after t m word)).given → AnswersEach t (m ∷ ms) v (u, step, steps) word (told_on m)
told_first t (Tell h) u ms v steps word step turns all =
    (λ accepts. inl (refl, tells v.kept u ms v steps word h turns.0 accepts (given_stand v.kept u ms v steps (word_after t (Tell h) word) all)), tt)
told_first t (Deliver id h) u ms v steps word step turns all = (λ accepts. absurd (not_both (is_acceptance h.reply) (no_message t id h u step) accepts), tt)
told_first t _ u ms v steps word step turns all = tt

-- one move before
later : (t : Topic) (m : Move) (ms : List Move) (v : Topic) (steps : Moves t (m ∷ ms) v) (word : Word) (hs : List Handed) → AnswersEach steps.0 ms v steps.2 (word_after t m word) hs → AnswersEach t (m ∷ ms) v steps word hs
later t m ms v steps word [] all = tt
later t m ms v steps word (h ∷ hs) all = (λ accepts. inr (all.0 accepts), later t m ms v steps word hs all.1)

pub told_each : (t : Topic) (moves : List Move) (u : Topic) (steps : Moves t moves u) (word : Word) → AreInTurn t moves u steps word → AllByRecursion (IsKept u.kept) (word_by t moves u steps word).given
    → AnswersEach t moves u steps word (told_by moves)
told_each t [] u steps word turns all = tt
told_each t (m ∷ ms) v steps word turns all =
    all-append (λ h. Answers t (m ∷ ms) v steps word h) (told_on m) (told_by ms)
    (told_first t m steps.0 ms v steps.2 word steps.1 turns all)
    (later t m ms v steps word (told_by ms) (told_each steps.0 ms v steps.2 (word_after t m word) turns.1 all))
