use Rattle.std.proofs.Common.{◌∙◌, ap, subst}
use Rattle.disk.specs.Disk.{Leaves}
use Rattle.disk.specs.Laid.{after_crash as burnt_by}
use Rattle.node.specs.Standing.{StandsForBroker}
use Rattle.node.specs.Driving.{disk_in}
use Rattle.node.proofs.Restarts.{after_crash, crash_leaves}
use Rattle.node.proofs.power.Machine.crash.Goals as goal

pub returns-clause-cut : goal.returns-clause-cut
returns-clause-cut g c =
    let cut = c.cut_power-shelf.ensures in
    let same = c.into_site-url.ensures.device in
    let laid = g.S.CrashShelf.laid in
    let left_as = g.S.CrashShelf.left_as in record {
      between = c.cut_power-shelf.result;
      left = subst (λ s. left_as (laid s).form s c.cut_power-shelf.result) same cut.form;
      burnt = cut.burnt ∙ ap (λ s. burnt_by (laid s)) same;
      seen = c.start.ensures.seen;
    }

pub returns-clause-step : goal.returns-clause-step
returns-clause-step g c = λ old h.
    let r = c.into_site-url.ensures.at_rest old h in
    c.start.ensures.step old.state
    (after_crash g.T.TopicStore.stands old.state (g.S.Shelf.disk c.into_site-url.result.shelf) (g.S.Shelf.disk c.cut_power-shelf.result) r.0 (c.cut_power-shelf.ensures.time r.0.honest) c.cut_power-shelf.ensures.kept)
    r.1

pub returns-clause-any_moment : goal.returns-clause-any_moment
returns-clause-any_moment g c = λ old h.
    let stands = g.T.TopicStore.stands in
    let disk = g.S.Shelf.disk in
    let d0 = disk c.into_site-url.result.shelf in
    let d1 = disk c.cut_power-shelf.result in
    let d2 = disk_in disk c.start.result.0 in
    let r = (c.into_site-url.ensures.at_rest old h).0 in
    let time = c.cut_power-shelf.ensures.time r.honest in
    let rest = after_crash stands old.state d0 d1 r time c.cut_power-shelf.ensures.kept in
    subst (λ s. Leaves (StandsForBroker stands old.state.broker) (disk s) d2) c.into_site-url.ensures.device
    (crash_leaves stands old.state d0 d1 d2 r time (c.start.ensures.any_moment old.state rest))
