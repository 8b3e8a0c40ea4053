use Rattle.std.proofs.Common.{◌≡◌, ℕ, Some, length, sym, subst, rules}
use Rattle.std.specs.Prelude.{Option, IfOk}
use Rattle.managed_ledger.specs.Entries.{lengthened, trimmed}
use Rattle.records.specs.Records.{after_all}
use Rattle.topic_stores.specs.Views.{Settled}
use Rattle.topic_core.specs.Standing.{Match, Standing, phase_after}
use Rattle.topic_core.proofs.Standings.{batch_fits, written_standing, within_is}
use Rattle.node.specs.Flights.{stage_of, phase_at, IsUnderWay}
use Rattle.node.specs.declared.flight.Flight.{Flight}
use Rattle.node.specs.declared.flight.Flight.TheVariants as flight
use Rattle.node.specs.Standing.{StillKnows}
use Rattle.node.proofs.UnderWay.{fits}
use Rattle.node.proofs.Knowing.{write_knows}
use Rattle.node.proofs.held.Held.write.Goals as goal

pub write-written-requires : goal.write-written-requires
write-written-requires g c =
    let h = c.args.self.now in
    let v = g.T.TopicStore.view h.stores in
    let batch = c.in-Some-Taken.batch in
    let is : h.flight ≡ Some (flight.Taken batch) = search rules in
    let is_for = (subst (λ (f : Option Flight). IsUnderWay h.core f) is h.under_way) in
    record { fits = batch_fits g.T.TopicStore.stands h.core batch is_for (fits h.core batch is_for) v (subst (λ (f : Option Flight). Match (phase_at h.core.failed (stage_of f)) h.core v) is h.matched) }

pub returns-in-Some-Taken-clause-stands : goal.returns-in-Some-Taken-clause-stands
returns-in-Some-Taken-clause-stands g c =
    let h = c.args.self.now in
    let stands = g.T.TopicStore.stands in
    let v = g.T.TopicStore.view h.stores in
    let w = g.T.TopicStore.view c.write-written.new.self in
    let d0 = g.S.Shelf.disk c.args.shelf.now in
    let d1 = g.S.Shelf.disk c.write-written.new.shelf in
    let batch = c.in-Some-Taken.batch in
    let e = c.write-written.ensures in
    let is : h.flight ≡ Some (flight.Taken batch) = search rules in
    let is_for = (subst (λ (f : Option Flight). IsUnderWay h.core f) is h.under_way) in
    λ s.
    let now = subst (λ (f : Option Flight). Standing stands (phase_at h.core.failed (stage_of f)) h.core v d0) is s in
    written_standing stands h.core batch is_for (fits h.core batch is_for) v w d0 d1 e.topic c.write-written.result now e.kept e.remembers
    (λ base ok. subst (λ r. IfOk r (λ (b : ℕ). Settled w d1 (trimmed b (lengthened h.core.ledger batch.entries.items)) (after_all batch.changes.items h.core.kept))) ok (e.written h.core.ledger h.core.kept now.holds))
    (λ none. e.unwritten h.core.ledger h.core.kept now.holds none) (e.within h.core.ledger h.core.kept now.holds)

pub returns-in-Some-Taken-clause-within : goal.returns-in-Some-Taken-clause-within
returns-in-Some-Taken-clause-within g c =
    let h = c.args.self.now in
    let stands = g.T.TopicStore.stands in
    let v = g.T.TopicStore.view h.stores in
    let w = g.T.TopicStore.view c.write-written.new.self in
    let d0 = g.S.Shelf.disk c.args.shelf.now in
    let d1 = g.S.Shelf.disk c.write-written.new.shelf in
    let batch = c.in-Some-Taken.batch in
    let e = c.write-written.ensures in
    let is : h.flight ≡ Some (flight.Taken batch) = search rules in
    let is_for = (subst (λ (f : Option Flight). IsUnderWay h.core f) is h.under_way) in
    λ s.
    let now = subst (λ (f : Option Flight). Standing stands (phase_at h.core.failed (stage_of f)) h.core v d0) is s in
    within_is stands h.core batch is_for (fits h.core batch is_for) v w d0 d1 e.topic (e.within h.core.ledger h.core.kept now.holds)

pub returns-in-Some-Taken-clause-known : goal.returns-in-Some-Taken-clause-known
returns-in-Some-Taken-clause-known g c =
    let h = c.args.self.now in
    let v = g.T.TopicStore.view h.stores in
    let w = g.T.TopicStore.view c.write-written.new.self in
    let batch = c.in-Some-Taken.batch in
    let written = c.write-written.result in
    let is : h.flight ≡ Some (flight.Taken batch) = search rules in
    subst (λ (f : Option Flight). StillKnows (phase_at h.core.failed (stage_of f)) (phase_after written) (length v.counts) (length w.counts)) (sym is) (write_knows v w batch written c.write-written.ensures.remembers)
