use Rattle.std.proofs.Common.{◌≡◌, ◌∙◌, ℕ, false, sym, ap, subst}
use Rattle.topic_core.specs.State.{Topic}
use Rattle.topic_core.specs.Soundness.{IsSound}
use Rattle.topic_core.specs.Flush.{IsTrimPoint, handed_on}
use Rattle.topic_core.specs.Standing.{IsFor}
use Rattle.topic_core.proofs.Standings.{taken_for}
use Rattle.topic_core.proofs.topic.TopicCore.take_batch.Goals as goal

pub returns-clause-batch : goal.returns-clause-batch
returns-clause-batch g c =
    let t = c.args.self.now in
    let batch = c.in_ok-batch.batch in
    let sound = subst (λ (k : Topic). IsSound k) c.self.view_is c.self.invariant.1 in
    let works : t.failed ≡ false = sym (ap (λ (k : Topic). k.failed) c.self.view_is) ∙ c.if-self.false in
    let limit = c.in_ok-batch.ensures.trim in
    let point = subst (λ (n : ℕ). IsTrimPoint t n) (sym limit) c.trim_point-trim.ensures in
    subst (λ (k : Topic). IsFor k batch) (sym (c.hand_on.ensures ∙ ap (λ (n : ℕ). handed_on t n) (sym limit)))
    (taken_for t batch sound works c.in_ok-batch.ensures.entries c.in_ok-batch.ensures.changes point)
