use Rattle.std.proofs.Common.{◌∙◌, refl, ap}
use Rattle.disk.specs.declared.file_id.TopicId.{TopicId}
use Rattle.two_slot.specs.Slots.{SlotsOf}
use Rattle.cursor_store.proofs.Passing.{leaves_on, begins_header, begun_heads, slots_synced, still_synced}
use Rattle.cursor_store.proofs.cursor_store.CursorStore.begin.Goals as goal

pub returns-in-Two-clause-begun : goal.returns-in-Two-clause-begun
returns-in-Two-clause-begun g c = λ honest.
    let mid = g.S.Shelf.disk c.read.new.shelf in
    let slots = c.in_ok-slots.slots in
    let are = c.in_ok-slots.ensures.heads honest in
    let two = ap (λ (t : TopicId). t.folder) c.in_ok-slots.ensures.topic ∙ c.in-Two.is in
    begun_heads _ mid mid are (begins_header slots.topic mid.seen c.start-start.result two (c.start-start.ensures mid.seen are.zero.is are.one.is)) refl

pub returns-in-Two-clause-synced : goal.returns-in-Two-clause-synced
returns-in-Two-clause-synced g c = λ honest ok. slots_synced c.in_ok-slots.slots c.args.topic (g.S.Shelf.disk c.read.new.shelf) c.in_ok-slots.ensures.topic (c.in_ok-slots.ensures.heads honest)

pub returns-in_ok-start-in-One-clause-begun : goal.returns-in_ok-start-in-One-clause-begun
returns-in_ok-start-in-One-clause-begun g c = λ honest.
    let mid = g.S.Shelf.disk c.read.new.shelf in
    let new = g.S.Shelf.disk c.front_of_counting.new.shelf in
    let then = c.read.ensures.kept.honest honest in
    let are = c.in_ok-slots.ensures.heads honest in
    let one = ap (λ (t : TopicId). t.folder) c.in_ok-slots.ensures.topic ∙ c.in-One.is in
    begun_heads _ mid new are (c.in_ok-start-in-One.ensures.begins one then are.zero.is are.one.is) (c.front_of_counting.ensures.seen then)

pub returns-in_ok-start-in-One-clause-any_moment : goal.returns-in_ok-start-in-One-clause-any_moment
returns-in_ok-start-in-One-clause-any_moment g c = λ honest.
    leaves_on (g.S.Shelf.disk c.args.shelf.now) (g.S.Shelf.disk c.read.new.shelf) (g.S.Shelf.disk c.front_of_counting.new.shelf) (c.read.ensures.any_moment honest) (c.front_of_counting.ensures.any_moment (c.read.ensures.kept.honest honest))

pub returns-in_ok-start-in-One-clause-synced : goal.returns-in_ok-start-in-One-clause-synced
returns-in_ok-start-in-One-clause-synced g c = λ honest ok.
    let mid = g.S.Shelf.disk c.read.new.shelf in
    let new = g.S.Shelf.disk c.front_of_counting.new.shelf in
    let then = c.read.ensures.kept.honest honest in
    still_synced (SlotsOf c.args.topic) mid new (c.front_of_counting.ensures.seen then) (c.front_of_counting.ensures.any_moment then)
    (slots_synced c.in_ok-slots.slots c.args.topic mid c.in_ok-slots.ensures.topic (c.in_ok-slots.ensures.heads honest))
