-- Runs, one event longer.
use Rattle.std.proofs.Common.{◌≡◌, inl, inr, List, [], ◌∷◌, ◌++◌, ℕ, length, take, refl, sym, ap, ◌∙◌, append_assoc}
use Rattle.std.proofs.Math.Seq.{take-append_seam}
use Rattle.disk.specs.Disk.{Disk, Image, Leaves}
use Rattle.disk.specs.Moments.{joins, starts}
use Rattle.managed_ledger.specs.Entries.{Ledger}
use Rattle.records.specs.Maps.{Kept}
use Rattle.node.specs.State.{State}
use Rattle.node.specs.Steps.{Amid}
use Rattle.node.specs.Standing.{StandsForBroker, StandsForSome}
use Rattle.node.specs.Runs.{Run, Reached}
use Rattle.node.specs.declared.event.Event.{Event}
use Rattle.node.specs.declared.event.Output.{Output}

-- one item more of a list
pub one_more : {A : Type 0} (all done : List A) (x : A) (rest rest' : List A) → all ≡ done ++ rest → rest ≡ x ∷ rest' → all ≡ (done ++ x ∷ []) ++ rest'
one_more all done x rest rest' is next = is ∙ ap (λ r. done ++ r) next ∙ sym (append_assoc done (x ∷ []) rest')

-- the front that has as many items
pub front_of : {A B : Type 0} (all done rest : List A) (answers : List B) → all ≡ done ++ rest → length answers ≡ length done → take (length answers) all ≡ done
front_of all done rest answers is same = ap (λ n. take n all) same ∙ ap (λ xs. take (length done) xs) is ∙ take-append_seam done rest

-- the files stand for what a crash leaves of a broker that a front of the events reaches
abbrev pub Crashed : (ℕ → Image → Ledger → Kept → Type 0) → State → List Event → Image → Type 0
Crashed files_stand old events files = StandsForSome files_stand (λ broker. Reached old events broker) files

module _ (files_stand : ℕ → Image → Ledger → Kept → Type 0) (old : State) (events : List Event) where
  -- before the first event
  pub crash_first : (disk : Disk) → ((files : Image) → disk.may_leave files → StandsForBroker files_stand old.broker files) → Leaves (Crashed files_stand old events) disk disk
  crash_first disk left = starts (Crashed files_stand old events) disk (λ files may.
      (old.broker, record { worked = []; rest = events; outputs = []; between = old; run = refl; front = refl; here = inl refl }, left files may))

  -- while one event more goes on
  pub crash_more : (worked : List Event) (outputs : List Output) (between : State) (event : Event) (rest later : List Event) (d0 d1 d2 : Disk) → Run old worked outputs between → events ≡ worked ++ rest → rest ≡ event ∷ later
      → Leaves (Crashed files_stand old events) d0 d1 → Leaves (StandsForSome files_stand (λ broker. Amid between.sessions between.broker event broker)) d1 d2 → Leaves (Crashed files_stand old events) d0 d2
  crash_more worked outputs between event rest later d0 d1 d2 run front next first second =
      joins (Crashed files_stand old events) (StandsForSome files_stand (λ broker. Amid between.sessions between.broker event broker)) (Crashed files_stand old events) d0 d1 d2 first second (λ files is. is)
      (λ files is. (is.0, record { worked = worked; rest = rest; outputs = outputs; between = between; run = run; front = front; here = inr (event, later, next, is.1) }, is.2))
