use Rattle.std.proofs.Common.{◌≡◌, Some, None, ap, rules}
use Rattle.std.specs.List.{position}
use Rattle.subscriptions.specs.Steps.{is_consumer, is_past, granted_to}
use Rattle.subscriptions.proofs.Granted.{grants_ok, grants_err, places_granted_at}
use Rattle.subscriptions.proofs.Places.{misses, stays}
use Rattle.subscriptions.proofs.consumers.Consumers.grant.Goals as goal

pub returns-in_default-clause-ok : goal.returns-in_default-clause-ok
returns-in_default-clause-ok g c =
    let at : position (is_consumer c.args.key) c.args.self.now ≡ None = search rules in (
      ap (is_past c.args.permits) (misses (is_consumer c.args.key) c.args.self.now at),
      stays (is_consumer c.args.key) (granted_to c.args.permits) c.args.self.now at,
    )

pub returns-clause-ok : goal.returns-clause-ok
returns-clause-ok g c =
    let cs = c.self.inside.list.items in
    let at : position (is_consumer c.args.key) cs ≡ Some c.in-Some.place = search rules in
    grants_ok c.args.key c.args.permits cs c.in-Some.place c.index_mut-consumer.result.now c.grant.new.self c.grant.result _ at c.index_mut-consumer.ensures.value c.self.view_is (c.grant.ensures.ok, c.grant.ensures.err)

pub returns-clause-err : goal.returns-clause-err
returns-clause-err g c =
    let cs = c.self.inside.list.items in
    let at : position (is_consumer c.args.key) cs ≡ Some c.in-Some.place = search rules in
    grants_err c.args.key c.args.permits cs c.in-Some.place c.index_mut-consumer.result.now c.grant.new.self c.grant.result _ at c.index_mut-consumer.ensures.value c.self.view_is (c.grant.ensures.ok, c.grant.ensures.err)

pub invariant_of-self : goal.invariant_of-self
invariant_of-self g c =
    let cs = c.self.inside.list.items in
    let at : position (is_consumer c.args.key) cs ≡ Some c.in-Some.place = search rules in
    places_granted_at c.args.key c.args.permits cs c.in-Some.place c.index_mut-consumer.result.now c.grant.new.self c.grant.result c.self.inside.places at c.index_mut-consumer.ensures.value (c.grant.ensures.ok, c.grant.ensures.err) c.self.invariant
