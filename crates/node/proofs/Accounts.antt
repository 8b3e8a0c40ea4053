-- Each life of a node accounts for what its sessions were told.
use Rattle.std.proofs.Common.{◌≡◌, ℕ, ◌<◌, ◌+◌, ◌≤◌, false, Option, List, map, refl, sym, subst, arith}
use Rattle.std.specs.List.{AllByRecursion}
use Rattle.managed_ledger.specs.Entries.{end_of}
use Rattle.topic_core.specs.State.{Topic, receipts_due}
use Rattle.topic_core.specs.Soundness.{IsSoundTopic}
use Rattle.session.specs.Broker.{Broker, fresh, topic_at}
use Rattle.node.specs.State.{fresh_broker}
use Rattle.node.specs.Runs.{Life, AllowedRun}
use Rattle.node.specs.Moves.{Handed, is_crash}
use Rattle.node.specs.Telling.{Course, RunUnfolds, receipts_told, from_topic}
use Rattle.node.specs.Finding.{sends_by, FindsEach, IsQuiet}
use Rattle.node.specs.Delivering.{DeliversEach}
use Rattle.node.specs.Laws.{Account, Accounts, AccountsTo, IsAtStart}
use Rattle.node.specs.Cuts.{Turn, AllowedLife, hearer_in}
use Rattle.node.specs.declared.event.Happening.{Happening}
use Rattle.node.specs.declared.event.Output.{Output}
use Rattle.node.proofs.Sound.{moves_sound, fresh_broker_sound}
use Rattle.node.proofs.Covering.{moves_covered}
use Rattle.node.proofs.Finding.{moves_found, moves_publish}
use Rattle.node.proofs.Delivering.{moves_delivered}
use Rattle.node.proofs.Promising.{word_kept}
use Rattle.node.proofs.Hearing.{are_of}
use Rattle.node.proofs.Unfolding.{life_unfolds, cut_life_unfolds}

fresh_quiet : (n : ℕ) → IsQuiet (fresh n)
fresh_quiet n = record { queues = refl; waiting = refl; sure = refl; counted = refl; trims = omega arith }

pub fresh_at_start : (n : ℕ) (url : List ℕ) → 0 < n → IsAtStart (fresh_broker n url)
fresh_at_start n url some = record { sound = fresh_broker_sound n url some; quiet = λ number. fresh_quiet n }

unfoldable pub account : (t : Topic) (told : List Handed) (u : Topic) → Course t told u → IsSoundTopic t → IsQuiet t → Account t told u
account t told u course sound quiet = record {
  moves = course.moves;
  steps = course.steps;
  tells = course.tells;
  sound = moves_sound t course.moves u course.steps sound;
  published = moves_publish t course.moves u course.steps quiet;
  covered = λ (none : AllByRecursion (λ move. is_crash move ≡ false) course.moves).
      subst (λ (hs : List Handed). receipts_told hs + receipts_due u.queues ≤ end_of u.ledger) (sym course.tells) (moves_covered t course.moves u course.steps none sound);
  found = subst (λ (hs : List Handed). FindsEach (sends_by t course.moves u course.steps) u.ledger hs) (sym course.tells) (moves_found t course.moves u course.steps quiet);
  word = word_kept t course.moves u course.steps quiet sound;
  delivered = subst (λ (hs : List Handed). DeliversEach t course.moves u.ledger hs) (sym course.tells) (moves_delivered t course.moves u course.steps quiet);
}

unfoldable pub accounts_to : (old : Broker) (hearers : List (Option ℕ)) (outputs : List Output) (new : Broker) → RunUnfolds old hearers outputs new → IsAtStart old → AccountsTo old hearers outputs new
unfolding account
accounts_to old hearers outputs new u start = record {
  said = u.said;
  spells = u.spells;
  heard = λ who. are_of who hearers outputs u.said u.spells u.bounded;
  each = λ number. account (topic_at old number) (from_topic number u.said) (topic_at new number) (u.each number) (start.sound number) (start.quiet number);
  at_once = u.at_once;
}

pub life_accounts : (old : Life) (happenings : List Happening) (outputs : List Output) (new : Life) → AllowedRun old happenings outputs new → IsAtStart old.state.broker
    → Accounts old.state.broker happenings outputs new.state.broker
life_accounts old happenings outputs new run start = accounts_to old.state.broker _ outputs new.state.broker (life_unfolds old happenings outputs new run) start

pub cut_life_accounts : (old : Life) (turns : List Turn) (outputs : List Output) (new : Life) → AllowedLife old turns outputs new → IsAtStart old.state.broker
    → AccountsTo old.state.broker (map (λ turn. hearer_in turn) turns) outputs new.state.broker
cut_life_accounts old turns outputs new run start = accounts_to old.state.broker _ outputs new.state.broker (cut_life_unfolds old turns outputs new run) start
