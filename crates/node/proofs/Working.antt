-- An event of one topic of a node, as a step of the node.
use Rattle.std.proofs.Common.{◌≡◌, ⊎_elim, inl, inr, ℕ, ◌<◌, ◌≤◌, Some, List, [], map, length, slice_get, slice_set, refl, sym, ap, subst, ◌∙◌, arith}
use Rattle.std.proofs.lemmas.List.{length-map}
use Rattle.topic_core.specs.State.{Topic}
use Rattle.topic_stores.specs.declared.store.TopicStore.{Ghosts as StoreMembers}
use Rattle.session.specs.Client.{Client}
use Rattle.session.specs.Broker.{Broker}
use Rattle.node.specs.declared.event.Output.{Output}
use Rattle.node.specs.declared.event.TopicEvent.{TopicEvent}
use Rattle.node.specs.declared.event.Verdict.{Verdict}
use Rattle.node.specs.declared.held.Held.{Held}
use Rattle.node.specs.Flights.{stage_of}
use Rattle.node.specs.State.{State, Stage, over, place_in, stage_at}
use Rattle.node.specs.Steps.{Spot, spot_at, WorksAt, IsIdle, HeldStep, WorkStep}
use Rattle.node.specs.Standing.{spot_of}
use Rattle.node.proofs.Frames.{placed, topic_was, stage_was, stage_now, becomes, stage_else, unchanged}

-- an answer without bytes
abbrev answer : Verdict → Output
answer result = record { bytes = []; result = result }

module _ {T : Type 0} {store : StoreMembers T} (b : Broker) (items : List (Held T store)) (k : ℕ) (h next : Held T store) (was : slice_get items k ≡ Some h) (low : k < length items) (sessions : List Client) (used f : ℕ) where
  abbrev state_with : Broker → List Stage → ℕ → State
  state_with broker stages faults = record { broker = broker; stages = stages; sessions = sessions; used = used; faults = faults }

  abbrev old : State
  old = state_with (over b (map (λ (x : Held T store). x.core) items)) (map (λ (x : Held T store). stage_of x.flight) items) f

  abbrev new : ℕ → State
  new f' = state_with (over b (map (λ (x : Held T store). x.core) (slice_set items k next))) (map (λ (x : Held T store). stage_of x.flight) (slice_set items k next)) f'

  within : k < length (map (λ (x : Held T store). x.core) items)
  within = omega (arith, length-map items (λ (x : Held T store). x.core), low)

  -- nothing changed
  as_before : (f' : ℕ) → spot_of next f' ≡ spot_of h f → new f' ≡ old
  as_before f' same =
      let u = unchanged b items k h next was (ap (λ (s : Spot). s.topic) same) (ap (λ (s : Spot). s.stage) same) in
      ap (λ x. state_with x (map (λ (x : Held T store). stage_of x.flight) (slice_set items k next)) f') u.0 ∙ ap (λ s. state_with old.broker s f') u.1 ∙ ap (λ n. state_with old.broker old.stages n) (ap (λ (s : Spot). s.faults) same)

  spot_was : spot_at old k ≡ spot_of h f
  spot_was =
      ap (λ (t : Topic). let x : Spot = record { topic = t; stage = stage_at old k; faults = f } in x) (topic_was b items k h next was)
      ∙ ap (λ (s : Stage). let x : Spot = record { topic = h.core; stage = s; faults = f } in x) (stage_was b items k h next was)

  pub worked : (event : TopicEvent) (f' : ℕ) → f ≤ f' → (told : Verdict) → HeldStep event (spot_of h f) told (spot_of next f') → WorkStep event (place_in (map (λ (x : Held T store). x.core) items) k) old (answer told) (new f')
  worked event f' more told step =
      subst (λ o. WorkStep event o old (answer told) (new f')) (sym (placed (map (λ (x : Held T store). x.core) items) k within))
      (⊎_elim
      (λ works. inl (
        within,
        record {
          told = told;
          answer = refl;
          next = next.core;
          reached = stage_of next.flight;
          moves = record {
            broker = becomes b items k h next was;
            stage = stage_now b items k h next was;
            others = stage_else b items k h next was;
            sessions = refl;
            used = refl;
            faults = more;
          };
          step = subst (λ (s : Spot). WorksAt event s told (spot_of next f')) (sym spot_was) works;
        },
      ))
      (λ idle. inr (subst (λ (s : Stage). IsIdle event s) (sym (stage_was b items k h next was)) idle.0, (ap answer idle.1, as_before f' idle.2)))
      step)
