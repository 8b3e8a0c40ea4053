use Rattle.workers.proofs.loops.feed_locked.Goals as goal

pub returns : goal.returns
returns g c =
    let fed = c.feed-goes_on.ensures.pushed in
    record { ring = c.feed-goes_on.ensures.ring; more = fed.0; pushed_more = fed.1 }
