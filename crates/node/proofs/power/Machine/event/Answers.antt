use Rattle.std.proofs.Common.{refl, sym, subst, true, ◌∙◌}
use Rattle.std.proofs.lemmas.Bool.{true≢false}
use Rattle.disk.specs.Disk.{Leaves}
use Rattle.node.specs.Standing.{state_of, StandsForSome}
use Rattle.node.specs.Cuts.{AmidEvent}
use Rattle.node.specs.Driving.{Holds, KnowsOn, segments_known, disk_in}
use Rattle.node.specs.Runs.{Life, EventIn}
use Rattle.node.specs.declared.power.Machine.TheVariants as machine
use Rattle.node.proofs.Knowing.{up_knows}
use Rattle.node.proofs.Restarts.{is_down, down_leaves_so}
use Rattle.node.proofs.power.Machine.event.Goals as goal

pub returns-in-Up-clause-step : goal.returns-in-Up-clause-step
returns-in-Up-clause-step g c = λ old holds.
    let h : Holds g.S.Shelf.disk (machine.Up c.in-Up.node) old = subst (λ m. Holds g.S.Shelf.disk m old) c.in-Up.is holds in
    let next = state_of g.S.Shelf.disk c.step.new.self in
    let life : Life = record { up = true; state = next } in (
      life,
      subst (λ (l : Life). EventIn l.up l c.args.event c.step.result life) (sym h.1) (refl, c.step.ensures.step h.0),
      (c.step.ensures.stands h.0, refl),
    )

pub returns-in-Up-clause-any_moment : goal.returns-in-Up-clause-any_moment
returns-in-Up-clause-any_moment g c = λ old holds.
    let stands = g.T.TopicStore.stands in
    let disk = g.S.Shelf.disk in
    let h : Holds disk (machine.Up c.in-Up.node) old = subst (λ m. Holds disk m old) c.in-Up.is holds in
    let d = disk c.step.new.self.topics.shelf in
    subst (λ m. Leaves (StandsForSome stands (λ broker. AmidEvent old.up old.state c.args.event broker)) (disk_in disk m) d) (sym c.in-Up.is)
    (subst (λ (l : Life). Leaves (StandsForSome stands (λ broker. AmidEvent l.up l.state c.args.event broker)) (disk c.in-Up.node.topics.shelf) d) (sym h.1) (c.step.ensures.any_moment h.0))

pub returns-in-Down-clause-any_moment : goal.returns-in-Down-clause-any_moment
returns-in-Down-clause-any_moment g c = λ old holds. down_leaves_so g.S.Shelf.disk c.args.self.now c.in-Down.field-0 old c.args.event c.in-Down.is holds

pub returns-in-Up-clause-known : goal.returns-in-Up-clause-known
returns-in-Up-clause-known g c = λ old new holds now up.
    let disk = g.S.Shelf.disk in
    let laid = g.T.TopicStore.laid in
    let next = c.step.new.self in
    let h : Holds disk (machine.Up c.in-Up.node) old = subst (λ m. Holds disk m old) c.in-Up.is holds in
    subst (λ m. KnowsOn laid (disk_in disk m).seen old.state new.state (segments_known m) (segments_known (machine.Up next))) (sym c.in-Up.is)
    (up_knows disk laid g.met.T.TopicStore.holds_laid c.in-Up.node next old new h now (c.step.ensures.known h.0))

pub returns-in-Down-clause-known : goal.returns-in-Down-clause-known
returns-in-Down-clause-known g c = λ old new holds now up. absurd (true≢false (sym up ∙ is_down g.S.Shelf.disk c.args.self.now c.in-Down.field-0 old c.in-Down.is holds))
