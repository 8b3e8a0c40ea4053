-- Which messages go out.
use Rattle.std.specs.Prelude.{◌≡◌, ℕ, true, List, [], ◌∷◌, ◌++◌}
use Rattle.managed_ledger.specs.Entries.{Ledger}
use Rattle.topic_core.specs.State.{Topic}
use Rattle.topic_core.specs.Laws.{IsAdmitted}
use Rattle.node.specs.Moves.{Handed, outgoing, Move, Deliver, Moves}
use Rattle.node.specs.Finding.{Keeps}
use Rattle.node.specs.Telling.{is_message}

-- a message went out on moves: there its position was open and admitted to the session's consumer, and its entry, which
-- stood in the ledger, stands in it still, where no trim took it
pub record IsDelivered (old : Topic) (moves : List Move) (ledger : Ledger) (handed : Handed) : Type 0 where
  pub consumer : ℕ
  pub before : List Move
  pub after : List Move
  pub splits : moves ≡ before ++ Deliver consumer handed ∷ after
  pub there : Topic
  pub steps : Moves old before there
  pub position : ℕ
  pub admitted : IsAdmitted there handed.session consumer (outgoing handed) position
  pub stands : Keeps ledger position handed.entry

-- what is a message was delivered
abbrev pub Delivers : Topic → List Move → Ledger → Handed → Type 0
Delivers old moves ledger handed = is_message handed.reply ≡ true → IsDelivered old moves ledger handed

abbrev pub DeliversEach : Topic → List Move → Ledger → List Handed → Type 0
DeliversEach old moves ledger [] = Unit {0}
DeliversEach old moves ledger (handed ∷ more) = Delivers old moves ledger handed × DeliversEach old moves ledger more
