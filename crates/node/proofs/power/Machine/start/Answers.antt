use Rattle.std.proofs.Common.{refl, true, ◌∙◌}
use Rattle.node.specs.Standing.{state_of}
use Rattle.node.proofs.Restarts.{down, refused_opening, rests_later, start_leaves}
use Rattle.node.proofs.power.Machine.start.Goals as goal

pub returns-in-Ok-clause-step : goal.returns-in-Ok-clause-step
returns-in-Ok-clause-step g c = λ old rest url.
    let h = c.in-Ok.ensures.opened old rest url in
    let state = state_of g.S.Shelf.disk c.in-Ok.node in (
      record { up = true; state = state },
      rw c.only.ensures (refl, record { up = refl; crash = h.1 }),
      (h.0, refl),
    )

pub returns-in-Err-clause-step : goal.returns-in-Err-clause-step
returns-in-Err-clause-step g c = λ old rest url.
    let h = c.in-Err.ensures.refused old rest in
    let d0 = g.S.Shelf.disk c.args.site.shelf in
    let d = g.S.Shelf.disk c.in-Err.site.shelf in (
      down old d,
      refused_opening old d0 d c.in-Err.why _ rest.faults h.0.faults h.1 c.only-in-Err.ensures,
      (rests_later g.T.TopicStore.stands old d h.0, refl, c.in-Err.ensures.url ∙ url),
    )

pub returns-in-Ok-clause-any_moment : goal.returns-in-Ok-clause-any_moment
returns-in-Ok-clause-any_moment g c = λ old rest.
    start_leaves g.T.TopicStore.stands old (g.S.Shelf.disk c.args.site.shelf) (g.S.Shelf.disk c.in-Ok.node.topics.shelf) rest (c.in-Ok.ensures.any_moment rest.honest)

pub returns-in-Err-clause-any_moment : goal.returns-in-Err-clause-any_moment
returns-in-Err-clause-any_moment g c = λ old rest.
    start_leaves g.T.TopicStore.stands old (g.S.Shelf.disk c.args.site.shelf) (g.S.Shelf.disk c.in-Err.site.shelf) rest (c.in-Err.ensures.any_moment rest.honest)
