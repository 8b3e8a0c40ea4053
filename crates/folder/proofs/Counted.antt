-- The topics of a node that was just opened have the segment files that are told of them.
use Rattle.std.proofs.Common.{◌≡◌, ◌<◌, ◌∙◌, ℕ, false, List, map, length, Some, sym, ap, subst, arith}
use Rattle.std.specs.Prelude.{slice_get, option_map}
use Rattle.std.proofs.lemmas.List.{length-map}
use Rattle.std.proofs.lemmas.Option.{slice_get-map, slice_get_within}
use Rattle.disk.specs.Areas.{served}
use Rattle.disk.specs.Disk.{Disk, Image}
use Rattle.managed_ledger.specs.Entries.{Ledger}
use Rattle.managed_ledger.specs.Laid.{IsLaidOut}
use Rattle.cursor_store.specs.Cursors.{StandsFor as SubscriptionsStand}
use Rattle.records.specs.Maps.{Kept}
use Rattle.topic_stores.specs.Views.{lay}
use Rattle.topic_stores.specs.declared.store.TopicStore.{Ghosts as StoreMembers}
use Rattle.topic_core.specs.State.{Topic}
use Rattle.topic_core.specs.Standing.{Phase, Before}
use Rattle.node.specs.State.{Resting}
use Rattle.node.specs.Flights.{stage_of, phase_at}
use Rattle.node.specs.Lists.{at_map, get_at}
use Rattle.node.specs.Standing.{state_of, phase_in, known_by}
use Rattle.node.specs.Opening.{IsJustOpened}
use Rattle.node.specs.Driving.{TellsSegments}
use Rattle.node.specs.declared.held.Held.{Held}
use Rattle.node.specs.declared.node.Node.{Node}
use Rattle.node.specs.declared.status.TopicStatus.{TopicStatus}
use Rattle.folder.specs.Looking.{AreTold, AreCounted, HaveSegments, AreFound}

-- the segments of a topic, as its stores over files have them
abbrev pub segments_laid : ℕ → Image → List ℕ → Type 0
segments_laid number = lay IsLaidOut SubscriptionsStand (served number)

module _ {T S : Type 0} {store : StoreMembers T} (disk : S → Disk) (files_stand : ℕ → Image → Ledger → Kept → Type 0) (files : Image) (node : Node T S store) (opened : IsJustOpened files_stand files (state_of disk node)) where
  -- its topics, with their stores
  abbrev held_in : List (Held T store)
  held_in = node.topics.held.items

  module _ (number : ℕ) (h : Held T store) (at : slice_get held_in number ≡ Some h) where
    works : h.core.failed ≡ false
    works =
        let there = slice_get-map (λ (x : Held T store). x.core) held_in number ∙ ap (option_map (λ (x : Held T store). x.core)) at in
        ap (λ (t : Topic). t.failed) (opened.topics number h.core there).1

    rests : stage_of h.flight ≡ Resting
    rests = sym (at_map (λ (x : Held T store). stage_of x.flight) held_in number h Resting at) ∙ opened.stages number

    -- the store has met no failure
    is_before : phase_in h ≡ Before
    is_before = ap (λ failed. phase_at failed (stage_of h.flight)) works ∙ ap (phase_at false) rests

  -- those that are told have as many as are told
  pub have_segments : (laid : ℕ → Image → List ℕ → Type 0) (statuses : List TopicStatus) → AreTold (state_of disk node) statuses → AreCounted laid held_in (disk node.topics.shelf).seen statuses
      → HaveSegments laid (disk node.topics.shelf).seen statuses
  have_segments laid statuses told counted number status is =
      let within = slice_get_within statuses number status is in
      let long = length-map held_in (λ (x : Held T store). x.core) in
      let all : length statuses ≡ length (map (λ (x : Held T store). x.core) held_in) = told.all in
      let low : number < length held_in = omega (arith, within, long, all) in
      let h = get_at held_in number low in
      subst (λ (phase : Phase). TellsSegments laid number phase (disk node.topics.shelf).seen (known_by h.0) status.segments) (is_before number h.0 h.1) (counted number status is h.0 h.1)

  -- and they are those of the files that were opened
  pub are_found : (laid : ℕ → Image → List ℕ → Type 0) (statuses : List TopicStatus) → (disk node.topics.shelf).seen ≡ files → AreTold (state_of disk node) statuses → AreCounted laid held_in (disk node.topics.shelf).seen statuses
      → AreFound files_stand laid files statuses
  are_found laid statuses same told counted =
      (state_of disk node, opened, told, subst (λ (f : Image). HaveSegments laid f statuses) same (have_segments laid statuses told counted))
