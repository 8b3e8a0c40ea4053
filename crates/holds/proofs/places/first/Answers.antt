use Rattle.holds.proofs.Listed.{IsFirstPlace, from_start, head_is, least_held, other_session, other_id}
use Rattle.holds.proofs.places.first.Goals as goal

pub returns-in_default-clause-none : goal.returns-in_default-clause-none
returns-in_default-clause-none c i = (c.range.ensures.in_range tt).5 c.in_default.ensures.steps.0 (c.args.consumer.session, c.args.consumer.id, i) (from_start c.args.consumer i, tt)

pub returns-then-session-consumer-clause-none : goal.returns-then-session-consumer-clause-none
returns-then-session-consumer-clause-none c i =
    let found = head_is _ _ _ _ c.in-Some.ensures.steps (c.range.ensures.in_range tt).1 in
    let least : IsFirstPlace c.args.places.now c.args.consumer c.in-Some.place.now = λ q from has. head_is _ _ _ _ c.in-Some.ensures.steps ((c.range.ensures.in_range tt).2 q from has) in
    other_session c.args.places.now c.args.consumer c.in-Some.place.now found.0.0 least c.if-session-consumer.true i

pub returns-then-id-consumer-clause-none : goal.returns-then-id-consumer-clause-none
returns-then-id-consumer-clause-none c i =
    let found = head_is _ _ _ _ c.in-Some.ensures.steps (c.range.ensures.in_range tt).1 in
    let least : IsFirstPlace c.args.places.now c.args.consumer c.in-Some.place.now = λ q from has. head_is _ _ _ _ c.in-Some.ensures.steps ((c.range.ensures.in_range tt).2 q from has) in
    other_id c.args.places.now c.args.consumer c.in-Some.place.now found.0.0 least c.if-id-consumer.true i

pub returns-clause-some : goal.returns-clause-some
returns-clause-some c =
    let found = head_is _ _ _ _ c.in-Some.ensures.steps (c.range.ensures.in_range tt).1 in
    let least : IsFirstPlace c.args.places.now c.args.consumer c.in-Some.place.now = λ q from has. head_is _ _ _ _ c.in-Some.ensures.steps ((c.range.ensures.in_range tt).2 q from has) in
    least_held c.args.places.now c.args.consumer c.in-Some.place.now found.1 least c.if-session-consumer.false c.if-id-consumer.false
