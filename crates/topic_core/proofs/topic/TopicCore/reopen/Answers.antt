use Rattle.std.proofs.Common.{◌≡◌, ◌≤◌, ◌^◌, true, false, refl, sym, ap, subst, ◌∙◌, inr, arith, Ok}
use Rattle.std.proofs.lemmas.Bool.{true≢false}
use Rattle.disk.specs.declared.file_id.FileId.TheVariants.{Segment}
use Rattle.disk.specs.Areas.{served}
use Rattle.gated_log.specs.declared.refusal.Refusal.TheVariants.{Damaged}
use Rattle.managed_ledger.specs.Entries.{end_of}
use Rattle.topic_core.specs.Messages.{marks_of}
use Rattle.topic_core.specs.State.{Topic}
use Rattle.topic_core.specs.Soundness.{HasFloor}
use Rattle.topic_core.specs.Crashes.{IsLeft, ReopenIn, reopened}
use Rattle.topic_core.specs.Standing.{phase_then, Standing}
use Rattle.topic_core.proofs.Standings.{reopened_standing, again_left, again_stands, left_more}
use Rattle.topic_core.proofs.topic.TopicCore.reopen.Goals as goal

pub returns-then-len-self-clause-step : goal.returns-then-len-self-clause-step
returns-then-len-self-clause-step g c = λ phase h.
    let d0 = g.S.Shelf.disk c.args.shelf.now in
    let d1 = g.S.Shelf.disk c.open_stores.new.shelf in
    let v = g.T.TopicStore.view c.args.stores.now in
    let again = c.in_ok-again.again in
    let v1 = g.T.TopicStore.view again.stores in
    let of = c.in_ok-again.ensures in
    let few : end_of again.durable.ledger ≤ 2 ^ 62 = omega (arith, of.added.0, c.len.ensures.len, c.len.ensures.few) in
    let left = again_left g.T.TopicStore.stands v v1 d0 d1 c.topic-topic.result again.durable.ledger (g.met.T.TopicStore.laws again.stores) (of.settled h.honest) of.topic c.topic-topic.ensures (of.seen h.honest (λ is. cc))
    g.met.T.TopicStore.stands_one c.args.self.now few (h.left d0.seen (g.met.S.Shelf.lawful c.args.shelf.now h.honest).leaves_seen) in
    let floored = subst (λ (k : Topic). HasFloor k) c.self.view_is c.self.invariant.1.trims in
    absurd (omega (arith, left_more c.args.self.now again.durable.ledger v1.kept floored left, h.counted, of.added.0, c.len.ensures.len, c.if-len-self.true, ap (λ (k : Topic). k.committed) c.self.view_is))

pub returns-then-len-self-clause-told : goal.returns-then-len-self-clause-told
returns-then-len-self-clause-told g c = λ honest.
    let again = c.in_ok-again.again in
    let v1 = g.T.TopicStore.view again.stores in
    let of = c.in_ok-again.ensures in
    inr (inr (inr (record {
      ledger = again.durable.ledger;
      kept = v1.kept;
      stands = again_stands g.T.TopicStore.stands (g.T.TopicStore.view c.args.stores.now) v1 (g.S.Shelf.disk c.args.shelf.now) (g.S.Shelf.disk c.open_stores.new.shelf) c.topic-topic.result again.durable.ledger (g.met.T.TopicStore.laws again.stores)
          (of.settled honest) of.topic c.topic-topic.ensures (of.seen honest (λ is. cc));
      fewer = omega (arith, of.added.0, c.len.ensures.len, c.if-len-self.true, ap (λ (k : Topic). k.committed) c.self.view_is);
      told = ap (λ t. Damaged (Segment t 0) 0) (c.served.ensures ∙ ap (λ n. served n) c.topic-topic.ensures);
    })))

pub returns-clause-step : goal.returns-clause-step
returns-clause-step g c = λ phase h.
    let t = c.args.self.now in
    let d0 = g.S.Shelf.disk c.args.shelf.now in
    let d1 = g.S.Shelf.disk c.open_stores.new.shelf in
    let v = g.T.TopicStore.view c.args.stores.now in
    let again = c.in_ok-again.again in
    let v1 = g.T.TopicStore.view again.stores in
    let of = c.in_ok-again.ensures in
    let was : t.failed ≡ true = sym (ap (λ (k : Topic). k.failed) c.self.view_is) ∙ c.if-not-self.false in
    let few : end_of again.durable.ledger ≤ 2 ^ 62 = omega (arith, of.added.0, c.len.ensures.len, c.len.ensures.few) in
    let left = again_left g.T.TopicStore.stands v v1 d0 d1 c.topic-topic.result again.durable.ledger (g.met.T.TopicStore.laws again.stores) (of.settled h.honest) of.topic c.topic-topic.ensures (of.seen h.honest (λ is. cc))
    g.met.T.TopicStore.stands_one t few (h.left d0.seen (g.met.S.Shelf.lawful c.args.shelf.now h.honest).leaves_seen) in
    subst (λ b. ReopenIn b t (Ok tt) c.restart.new.self) (sym was)
    (subst (λ (k : Topic). IsLeft t k.ledger k.kept × (k ≡ reopened t k.ledger (marks_of k.ledger) k.kept)) (sym c.restart.ensures.again) (left, refl))

pub returns-clause-standing : goal.returns-clause-standing
returns-clause-standing g c = λ phase h.
    let t = c.args.self.now in
    let t2 = c.restart.new.self in
    let again = c.in_ok-again.again in
    let stands = g.T.TopicStore.stands in
    let v1 = g.T.TopicStore.view again.stores in
    let d1 = g.S.Shelf.disk c.open_stores.new.shelf in
    let was : t.failed ≡ true = sym (ap (λ (k : Topic). k.failed) c.self.view_is) ∙ c.if-not-self.false in
    let works : t2.failed ≡ false = ap (λ (k : Topic). k.failed) c.restart.ensures.again in
    let below = g.met.T.TopicStore.stands_below v1.topic d1.seen again.durable.ledger v1.kept ((g.met.T.TopicStore.laws again.stores).stands d1.seen again.durable.ledger v1.kept (c.in_ok-again.ensures.settled h.honest).settled.now) in
    let end = reopened_standing stands t t2 v1 d1 again.durable.ledger v1.kept (g.met.T.TopicStore.laws again.stores) c.restart.ensures.again c.restart.ensures.matched below (c.in_ok-again.ensures.settled h.honest) in
    rw (c.restart.ensures.stores) (subst (λ b. Standing stands (phase_then b t2.failed phase) t2 v1 d1) (sym was) (subst (λ b. Standing stands (phase_then true b phase) t2 v1 d1) (sym works) end))

pub returns-clause-stores : goal.returns-clause-stores
returns-clause-stores g c = λ works. absurd (true≢false (sym (sym (ap (λ (k : Topic). k.failed) c.self.view_is) ∙ c.if-not-self.false) ∙ works))
