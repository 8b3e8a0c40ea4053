use Rattle.std.proofs.lemmas.Result.{err_from_is_err_and}
use Rattle.disk.specs.Areas.{apart}
use Rattle.gated_log.specs.declared.refusal.Refusal.TheVariants.{Device}
use Rattle.std.proofs.Common.{Err, inl, inr, ⊎_elim, ◌≡◌, ◌++◌, ◌∷◌, [], sym, ap, subst, ◌∙◌, arith, rules}
use Rattle.node.proofs.Making.{both_left}
use Rattle.node.proofs.AllOpening.{going_first, going_more, topic_fault}
use Rattle.node.proofs.open.open_topics.Goals as goal

pub loop-number-init : goal.loop-number-init
loop-number-init g c = going_first c.args.per_ledger (g.S.Shelf.disk c.args.shelf.now) _ c.new-held.ensures.items

pub loop-number-preserved : goal.loop-number-preserved
loop-number-preserved g c =
    let i = c.loop-number.invariant in
    let e = c.in_ok-opened.ensures in
    let disk = g.S.Shelf.disk in
    let pushed : c.push.new.self.items ≡ c.loop-number.held.items ++ c.in_ok-opened.opened ∷ [] = search rules in
    going_more {store = g.T.TopicStore} c.args.per_ledger (disk c.args.shelf.now) (disk c.loop-number.shelf) (disk c.open.new.shelf) c.loop-number.held.items c.loop-number.number i (λ h. e.seen h (λ no. cc)) e.any_moment e.kept
    c.in_ok-opened.opened c.push.new.self.items pushed e.numbered e.stands e.found e.few e.opened e.rests

pub returns-in_err-opened-clause-refused : goal.returns-in_err-opened-clause-refused
returns-in_err-opened-clause-refused g c = λ honest.
    let i = c.loop-number.invariant in
    let p = err_from_is_err_and c.from_residual-in_err-opened.result c.from_residual-in_err-opened.ensures.1 in
    rw (p.1) (⊎_elim (λ memory. inl (p.2 ∙ memory)) (λ other. inr (⊎_elim (λ device. inl (p.2 ∙ device))
    (λ fault. inr (topic_fault {store = g.T.TopicStore} c.args.per_ledger (g.S.Shelf.disk c.args.shelf.now) (g.S.Shelf.disk c.loop-number.shelf) c.loop-number.held.items c.loop-number.number i honest g.T.TopicStore.faulty c.args.count c.loop-number-test.true _
    (subst (λ e. g.T.TopicStore.faulty c.loop-number.number (g.S.Shelf.disk c.loop-number.shelf).seen e) (sym p.2) fault))) other))
    (c.in_err-opened.ensures.refused (i.kept.honest honest)))

pub returns-in_err-opened-clause-seen : goal.returns-in_err-opened-clause-seen
returns-in_err-opened-clause-seen g c = λ honest no.
    let i = c.loop-number.invariant in
    let p = err_from_is_err_and c.from_residual-in_err-opened.result c.from_residual-in_err-opened.ensures.1 in
    c.in_err-opened.ensures.seen (i.kept.honest honest) (λ device. let same : c.in_err-opened.field-0.0 ≡ Device = cc in no (p.1 ∙ ap (λ e. Err e) (p.2 ∙ same))) ∙ i.seen honest

pub returns-in_err-opened-clause-others : goal.returns-in_err-opened-clause-others
returns-in_err-opened-clause-others g c = λ honest number high f of.
    let i = c.loop-number.invariant in
    let low = c.loop-number-test.true in
    c.in_err-opened.ensures.others (i.kept.honest honest) f (apart c.loop-number.number number (λ is. omega (arith, is, high, low, c.requires.few)) f of) ∙ ap (λ (image : _). image f) (i.seen honest)

pub returns-in_err-opened-clause-any_moment : goal.returns-in_err-opened-clause-any_moment
returns-in_err-opened-clause-any_moment g c = λ honest.
    let i = c.loop-number.invariant in
    both_left (g.S.Shelf.disk c.args.shelf.now) (g.S.Shelf.disk c.loop-number.shelf) (g.S.Shelf.disk c.open.new.shelf) (i.moments honest) (c.in_err-opened.ensures.any_moment (i.kept.honest honest))
