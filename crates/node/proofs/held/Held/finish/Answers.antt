use Rattle.std.proofs.Common.{◌≡◌, Some, sym, subst, rules}
use Rattle.std.specs.Prelude.{Option}
use Rattle.topic_core.specs.Standing.{Match}
use Rattle.topic_core.proofs.Standings.{finish_match}
use Rattle.node.specs.Flights.{stage_of, phase_at, IsUnderWay}
use Rattle.node.specs.declared.flight.Flight.{Flight}
use Rattle.node.specs.declared.flight.Flight.TheVariants as flight
use Rattle.node.proofs.UnderWay.{works}
use Rattle.node.proofs.held.Held.finish.Goals as goal

pub invariant_of-self : goal.invariant_of-self
invariant_of-self g c =
    let h = c.args.self.now in
    let u = c.finish.new.self in
    let v = g.T.TopicStore.view h.stores in
    let batch = c.in-Some-Written.batch in
    let written = c.in-Some-Written.written in
    let is : h.flight ≡ Some (flight.Written batch written) = search rules in
    let is_for = (subst (λ (f : Option Flight). IsUnderWay h.core f) is h.under_way) in
    record {
      matched = subst (λ (f : Option Flight). Match (phase_at u.failed (stage_of f)) u v) (sym c.take.ensures.after)
          (finish_match g.T.TopicStore.stands h.core (works h.core batch is_for) v written c.finish.result u (c.finish.ensures.step is_for.awaited)
          (subst (λ (f : Option Flight). Match (phase_at h.core.failed (stage_of f)) h.core v) is h.matched));
      under_way = subst (λ (f : Option Flight). IsUnderWay u f) (sym c.take.ensures.after) tt;
    }
