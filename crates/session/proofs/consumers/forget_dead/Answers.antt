use Rattle.std.proofs.Common.{rules, sym, subst}
use Rattle.std.proofs.lemmas.Fn.{filter_same}
use Rattle.std.specs.Prelude.{Contains}
use Rattle.session.specs.declared.entry.Entry.{Entry}
use Rattle.session.specs.Table.{AreRising}
use Rattle.session.proofs.Noting.{all-where_true}
use Rattle.session.proofs.Ordered.{rising-some}
use Rattle.session.proofs.consumers.forget_dead.Goals as goal

pub returns-clause-live : goal.returns-clause-live
returns-clause-live g c = λ s. filter_same _ _ _ (λ x b f' k. search (rules, s)) _ _ c.retain.ensures.filtered

pub returns-clause-kept : goal.returns-clause-kept
returns-clause-kept g c = λ topics h.
    let f = c.retain.ensures.filtered in
    rw f.4 (all-where_true (λ (consumer : Entry). Contains topics consumer.topic) f.0 c.args.consumers.now.items h)

pub returns-clause-rising : goal.returns-clause-rising
returns-clause-rising g c = λ rise.
    let f = c.retain.ensures.filtered in
    subst AreRising (sym f.4) (rising-some f.0 c.args.consumers.now.items rise)
