use Rattle.std.proofs.Common.{◌≡◌, ◌∙◌, List, ap, subst, refl, true, false, String, Global, arith}
use Rattle.std.specs.String.{string_bytes}
use Rattle.cursor.specs.Positions.{Positions}
use Rattle.records.specs.Maps.{by_bytes}
use Rattle.cursor_store.proofs.Begins.{HaveCome, have_none, have_one, have_all, one_lacks}
use Rattle.cursor_store.proofs.told.have_below.Goals as goal

pub loop-shared-init : goal.loop-shared-init
loop-shared-init c =
    have_none c.args.base c.args.kept.now _
    (ap (λ (es : List (String Global × Positions)). by_bytes es) c.into_iter-shared-iterator.ensures.into_iter_gives ∙ c.iter-shared-items.ensures.rest)

pub returns-then-mark_delete-base : goal.returns-then-mark_delete-base
returns-then-mark_delete-base c =
    let lacks = one_lacks c.args.base c.mark_delete.result c.args.kept.now (string_bytes c.in-Some.field-0-0.now) c.in-Some.shared.now c.as_cursor.result.now (by_bytes c.next.new.self) c.as_cursor.ensures c.mark_delete.ensures (omega (arith, c.if-mark_delete-base.true))
    (subst (λ (es : List (String Global × Positions)). HaveCome c.args.base c.args.kept.now (by_bytes es)) c.in-Some.ensures.steps c.loop-shared.invariant) in
    (λ no. absurd (let e : false ≡ true = no in cc), λ have. absurd (lacks have))

pub loop-shared-preserved : goal.loop-shared-preserved
loop-shared-preserved c =
    have_one c.args.base c.mark_delete.result c.args.kept.now (string_bytes c.in-Some.field-0-0.now) c.in-Some.shared.now c.as_cursor.result.now (by_bytes c.next.new.self) c.as_cursor.ensures c.mark_delete.ensures (omega (arith, c.if-mark_delete-base.false))
    (subst (λ (es : List (String Global × Positions)). HaveCome c.args.base c.args.kept.now (by_bytes es)) c.in-Some.ensures.steps c.loop-shared.invariant)

pub returns : goal.returns
returns c =
    let have = have_all c.args.base c.args.kept.now (subst (λ (es : List (String Global × Positions)). HaveCome c.args.base c.args.kept.now (by_bytes es)) c.in-None.ensures.steps.0 c.loop-shared.invariant) in
    (λ _. have, λ _. refl)
