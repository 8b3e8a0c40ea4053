-- A flush that comes in parts, beside what else its topic does.
use Rattle.std.proofs.Common.{◌≡◌, ℕ, ◌≤◌, Bool, true, false, ◌&&◌, ◌||◌, not, nat_eq, min, is_some, Option, Some, None, Result, Err, length, refl, sym, ap, subst, ◌∙◌, arith}
use Rattle.std.proofs.lemmas.Bool.{true≢false, false≢true}
use Rattle.std.proofs.lemmas.Bool.Decides.{nat_tests}
use Rattle.std.proofs.lemmas.List.{length-take}
use Rattle.disk.specs.Disk.{Image}
use Rattle.managed_ledger.specs.Entries.{Entries, Ledger}
use Rattle.records.specs.Maps.{Kept}
use Rattle.topic_stores.specs.declared.batch.Batch.{Batch}
use Rattle.topic_stores.specs.declared.error.WriteError.{WriteError}
use Rattle.topic_stores.specs.declared.error.WriteError.TheVariants.{Device, NoMemory}
use Rattle.topic_stores.specs.Views.{StoreView}
use Rattle.topic_core.proofs.Standings.{match_goes_on, is_for_goes_on}
use Rattle.topic_core.specs.State.{Topic, floor, entries_of, changes_of}
use Rattle.topic_core.specs.Flush.{is_idle, has_no_flush, FlushStep, FlushIn, TakeStep}
use Rattle.topic_core.specs.Standing.{Phase, Before, phase_then, resting, IsFor, Match, GoesOn}
use Rattle.node.specs.Flights.{stage_of, phase_at, batch_of, IsUnderWay}
use Rattle.node.specs.declared.flight.Flight.{Flight}

-- ---- its topic

first_three : (failed in_doubt same more limit : Bool) → (not failed && in_doubt && same && more && limit) ≡ true → (failed ≡ false) × (in_doubt ≡ true) × (same ≡ true)
first_three true in_doubt same more limit h = absurd (false≢true h)
first_three false false same more limit h = absurd (false≢true h)
first_three false true false more limit h = absurd (false≢true h)
first_three false true true more limit h = (refl, refl, refl)

equal : (n m : ℕ) → nat_eq n m ≡ true → n ≡ m
equal n m h = grind (arith, nat_tests)

module _ (t : Topic) (batch : Batch) (is_for : IsFor t batch) where
  awaited : (t.failed ≡ false) × (is_some t.doubt ≡ true) × (nat_eq (entries_of t.doubt) (length batch.entries.items) ≡ true)
  awaited = first_three t.failed (is_some t.doubt) (nat_eq (entries_of t.doubt) (length batch.entries.items)) (nat_eq (changes_of t.doubt) (length batch.changes.items)) (nat_eq (floor t) batch.trim) is_for.awaited

  pub works : t.failed ≡ false
  works = awaited.0

  pub hands_on : is_some t.doubt ≡ true
  hands_on = awaited.1

  pub no_other : has_no_flush t ≡ true
  no_other = ap (λ b. b || is_idle t) awaited.1

  -- no more is in doubt than waits
  pub fits : entries_of t.doubt ≤ length t.waiting
  fits =
      let size : length batch.entries.items ≡ min (entries_of t.doubt) (length t.waiting) = ap (λ (e : Entries). length e) is_for.entries ∙ length-take (entries_of t.doubt) t.waiting in
      omega (arith, size, equal (entries_of t.doubt) (length batch.entries.items) awaited.2)

-- ---- other calls

-- a whole flush, or an opening of a failed topic
pub record Keeps (old new : Topic) (flight : Option Flight) : Type 0 where
  pub under_way : IsUnderWay new flight
  pub phase : phase_then old.failed new.failed (phase_at old.failed (stage_of flight)) ≡ phase_at new.failed (stage_of flight)

at_rest : (old new : Bool) → phase_then old new (resting old) ≡ resting new
at_rest true true = refl
at_rest true false = refl
at_rest false true = refl
at_rest false false = refl

same_phase : (failed : Bool) (phase : Phase) → phase_then failed failed phase ≡ phase
same_phase true phase = refl
same_phase false phase = refl

keeps : (old new : Topic) (flight : Option Flight) → IsUnderWay old flight → ((batch : Batch) → IsFor old batch → new ≡ old) → Keeps old new flight
keeps old new None u same = record { under_way = tt; phase = at_rest old.failed new.failed }
keeps old new (Some flight) u same =
    subst (λ (t : Topic). Keeps old t (Some flight)) (sym (same (batch_of flight) u)) (record { under_way = u; phase = same_phase old.failed (phase_at old.failed (stage_of (Some flight))) })

pub flush_keeps : (old new : Topic) (flight : Option Flight) (result : Result ℕ WriteError) → IsUnderWay old flight → FlushStep old result new → Keeps old new flight
flush_keeps old new flight result u step =
    keeps old new flight u (λ batch is.
    let P : Bool → Type 0 = λ b. FlushIn b (has_no_flush old) old result new in
    let Q : Bool → Type 0 = λ b. FlushIn false b old result new in
    (subst Q (no_other old batch is) (subst P (works old batch is) step)).1)

pub reopen_keeps : (old new : Topic) (flight : Option Flight) → IsUnderWay old flight → (old.failed ≡ false → new ≡ old) → Keeps old new flight
reopen_keeps old new flight u same = keeps old new flight u (λ batch is. same (works old batch is))

-- ---- Take

-- a batch is taken only where no flush is under way
pub takes_first : (t : Topic) (flight : Option Flight) → IsUnderWay t flight → has_no_flush t ≡ false → flight ≡ None
takes_first t None u some = refl
takes_first t (Some flight) u some = absurd (true≢false (sym (no_other t (batch_of flight) u) ∙ some))

pub takes_before : (t : Topic) (flight : Option Flight) → IsUnderWay t flight → t.failed ≡ false → has_no_flush t ≡ false → phase_at t.failed (stage_of flight) ≡ Before
takes_before t flight u works some = ap (λ f. phase_at t.failed (stage_of f)) (takes_first t flight u some) ∙ ap (λ b. resting b) works

-- a refusal changes nothing
pub untaken : (t : Topic) (why : WriteError) (new : Topic) → TakeStep t (Err why) new → new ≡ t
untaken t Device new step = step.1
untaken t NoMemory new step = step.2

-- ---- a call that leaves what is committed and in doubt

module _ (stands : ℕ → Image → Ledger → Kept → Type 0) (old new : Topic) (go : GoesOn old new) where
  pub matched_still : (flight : Option Flight) (v : StoreView) → Match (phase_at old.failed (stage_of flight)) old v → Match (phase_at new.failed (stage_of flight)) new v
  matched_still flight v m = subst (λ b. Match (phase_at b (stage_of flight)) new v) (sym go.failed) (match_goes_on stands (phase_at old.failed (stage_of flight)) old new v go m)

  pub under_way_still : (flight : Option Flight) → IsUnderWay old flight → IsUnderWay new flight
  under_way_still None u = tt
  under_way_still (Some flight) u = is_for_goes_on stands old new (batch_of flight) go u
