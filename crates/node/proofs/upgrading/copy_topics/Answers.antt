use Rattle.std.proofs.Common.{◌<◌, inl, inr, ⊎_elim, subst, sym, ◌∙◌, arith}
use Rattle.std.proofs.lemmas.Result.{err_from_is_err_and}
use Rattle.topic_stores.specs.Old.{IsOldFault}
use Rattle.node.proofs.NewFolder.{copying_first, copying_more, first_fault}
use Rattle.node.proofs.upgrading.copy_topics.Goals as goal

pub loop-number-init : goal.loop-number-init
loop-number-init g c = copying_first (g.S.Shelf.disk c.args.shelf.now)

pub loop-number-preserved : goal.loop-number-preserved
loop-number-preserved g c =
    let d0 = g.S.Shelf.disk c.args.shelf.now in
    let d = g.S.Shelf.disk c.loop-number.shelf in
    let e = g.S.Shelf.disk c.copy_topic.new.shelf in
    copying_more c.loop-number.number d0 d e c.loop-number.invariant c.copy_topic.ensures.kept (λ h. c.in_ok-copy_topic.ensures.seen h) (λ h. c.copy_topic.ensures.any_moment h) (λ h. c.in_ok-copy_topic.ensures.copied h)

pub returns-in_err-copy_topic-clause-refused : goal.returns-in_err-copy_topic-clause-refused
returns-in_err-copy_topic-clause-refused g c = λ honest.
    let i = c.loop-number.invariant in
    let d0 = g.S.Shelf.disk c.args.shelf.now in
    let d = g.S.Shelf.disk c.loop-number.shelf in
    let p = err_from_is_err_and c.from_residual.result c.from_residual.ensures.1 in
    rw (p.1) (⊎_elim (λ memory. inl (p.2 ∙ memory)) (λ rest. inr (⊎_elim (λ device. inl (p.2 ∙ device))
    (λ bad. inr (first_fault c.args.count c.loop-number.number d0 d _ i honest c.loop-number-test.true (subst (λ e. IsOldFault c.loop-number.number d.seen e) (sym p.2) bad))) rest))
    (c.in_err-copy_topic.ensures.refused (i.kept.honest honest)))

pub returns-clause-copied : goal.returns-clause-copied
returns-clause-copied g c = λ honest n low.
    let there : n < c.loop-number.number = omega (arith, low, c.loop-number-test.false) in
    c.loop-number.invariant.copied honest n there
