use Rattle.std.proofs.Common.{◌≡◌, sym, subst, ◌∙◌}
use Rattle.topic_core.specs.Soundness.{IsSound}
use Rattle.topic_lock.proofs.places.SharedTopic.base.Goals as goal

pub returns : goal.returns
returns g c =
    let same : c.deref.result.now.core ≡ c.deref-2.result.now.core = λ k. ((c.deref.ensures ∙ sym c.deref-2.ensures) k).core in
    (c.deref-2.result.now.core, subst IsSound same c.show_sound.ensures, c.base.ensures)
