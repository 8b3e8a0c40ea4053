-- From a cut of the power to the opening after it.
use Rattle.std.proofs.Common.{◌≡◌, ◌∙◌, ℕ, ◌≤◌, ◌^◌, true, false, Some, List, [], ◌∷◌, ◌++◌, slice_get, refl, sym, subst, arith}
use Rattle.std.proofs.lemmas.Option.{get_or_from_slice_get}
use Rattle.disk.specs.Disk.{Image}
use Rattle.gated_log.specs.declared.refusal.Refusal.{Refusal}
use Rattle.managed_ledger.specs.Entries.{Ledger, end_of}
use Rattle.records.specs.Maps.{Kept}
use Rattle.topic_core.specs.State.{Topic}
use Rattle.session.specs.Broker.{Broker, fresh, topic_at}
use Rattle.node.specs.State.{State}
use Rattle.node.specs.Standing.{StandsForBroker}
use Rattle.node.specs.Opening.{IsJustOpened}
use Rattle.node.specs.Runs.{Life, StateCrash, AllowedRun}
use Rattle.node.specs.Cuts.{Turn, AllowedLife, uncut}
use Rattle.node.specs.Laws.{IsAtStart}
use Rattle.node.specs.Driving.{StandsAmidst}
use Rattle.node.specs.Resuming.{Resumes, CutsAreOpened, LivesGoOn}
use Rattle.node.specs.declared.event.Happening.{Happening}
use Rattle.node.specs.declared.event.Happening.TheVariants as happening
use Rattle.node.specs.declared.event.Output.{Output}
use Rattle.node.specs.declared.event.Verdict.TheVariants as verdict
use Rattle.node.proofs.Counting.{life_later}
use Rattle.node.proofs.Cutting.{cut_turn}
use Rattle.node.proofs.KeptNames.{amidst_keeps}
use Rattle.node.proofs.Opening.{state_crash, no_first_fault}

-- the entries of a sound topic can be counted
few_of : (b : Broker) → IsAtStart b → (number : ℕ) (t : Topic) → slice_get b.topics number ≡ Some t → end_of t.ledger ≤ 2 ^ 62
few_of b start number t is =
    let s = start.sound number in
    let few : end_of (topic_at b number).ledger ≤ 2 ^ 62 = omega (arith, s.state.entries, s.counted) in
    subst (λ (u : Topic). end_of u.ledger ≤ 2 ^ 62) (get_or_from_slice_get b.topics number t (fresh b.per_ledger) is) few

module _ (stands : ℕ → Image → Ledger → Kept → Type 0) (one : (t : ℕ) (files : Image) (one other : Ledger) (k j : Kept) → end_of one ≤ 2 ^ 62 → stands t files one k → stands t files other j → (one ≡ other) × (k ≡ j)) where
  is_crash : (old new : State) (files : Image) → StandsForBroker stands old.broker files → IsJustOpened stands files new → new.broker.service_url ≡ old.broker.service_url → old.faults ≤ new.faults → StateCrash old new
  is_crash old new files s opening url faults = state_crash stands one old new files s opening (few_of new.broker opening.start) url faults

  -- with another count of the device's failures
  recounted : (files : Image) (s : State) (faults : ℕ) → IsJustOpened stands files s → IsJustOpened stands files (record s { faults = faults })
  recounted files s faults o = record { names = o.names; formed = o.formed; sure = o.sure; topics = o.topics; start = o.start; stages = o.stages; sessions = o.sessions; used = o.used }

  resumes : (first : State) (happenings : List Happening) (files : Image) (opened : State) → StandsAmidst stands first happenings files → IsJustOpened stands files opened → opened.broker.service_url ≡ first.broker.service_url
      → Resumes first happenings opened
  resumes first happenings files opened is opening url =
      let start : Life = record { up = false; state = first } in
      let at = is.1 in
      let done : Output = record { bytes = []; result = verdict.Done } in
      let keeps = amidst_keeps start (happening.Crash ∷ happenings) is.0 at in
      record {
        worked = at.worked;
        rest = at.rest;
        front = at.front;
        outputs = at.outputs;
        failures = at.between.state.faults;
        life = λ faults more.
            let old : State = record at.between.state { broker = is.0; faults = faults } in
            let new : State = record opened { faults = faults } in
            cut_turn start (happening.Crash ∷ happenings) is.0 at faults done (record { up = true; state = new }) more
            (refl, record { up = refl; crash = is_crash old new files is.2 (recounted files opened faults opening) (url ∙ sym keeps.service_url) (omega arith) });
      }

pub cuts_opened : (stands : ℕ → Image → Ledger → Kept → Type 0) (faulty : ℕ → Image → Refusal → Type 0) → ((t : ℕ) (files : Image) (one other : Ledger) (k j : Kept) → end_of one ≤ 2 ^ 62 → stands t files one k → stands t files other j → (one ≡ other) × (k ≡ j))
    → ((t : ℕ) (files : Image) (ledger : Ledger) (k : Kept) (refusal : Refusal) → stands t files ledger k → ¬ faulty t files refusal) → CutsAreOpened stands faulty
cuts_opened stands faulty one sound = record {
  opened = is_crash stands one;
  sound = λ b files why s. no_first_fault stands faulty sound b files s why;
  any_moment = resumes stands one;
}

-- ---- lives go on

without_cuts : (old : Life) (happenings : List Happening) (outputs : List Output) (new : Life) → AllowedRun old happenings outputs new → AllowedLife old (uncut happenings) outputs new
without_cuts old [] [] new run = run
without_cuts old (h ∷ hs) (o ∷ os) new run = (run.0, run.1, without_cuts run.0 hs os new run.2)
without_cuts old [] (o ∷ os) new run = absurd run
without_cuts old (h ∷ hs) [] new run = absurd run

behind : (old : Life) (turns later : List Turn) (outputs others : List Output) (between new : Life) → AllowedLife old turns outputs between → AllowedLife between later others new
    → AllowedLife old (turns ++ later) (outputs ++ others) new
behind old [] later [] others between new first then = subst (λ (l : Life). AllowedLife l later others new) first then
behind old (t ∷ ts) later (o ∷ os) others between new first then = (first.0, first.1, behind first.0 ts later os others between new first.2 then)
behind old [] later (o ∷ os) others between new first then = absurd first
behind old (t ∷ ts) later [] others between new first then = absurd first

pub lives_go_on : LivesGoOn
lives_go_on = record { without = without_cuts; behind = behind; later = life_later }
