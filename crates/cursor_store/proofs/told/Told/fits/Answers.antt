use Rattle.std.proofs.Common.{◌≡◌, ◌+◌, ◌∙◌, ap, sym, true, false, drop, ◌∷◌, arith}
use Rattle.std.proofs.lemmas.List.{drop_more, drop_all}
use Rattle.records.specs.declared.record.Record.{Record}
use Rattle.records.specs.Floors.{StartFrom}
use Rattle.cursor_store.proofs.Begins.{from_behind, from_first, from_none}
use Rattle.cursor_store.proofs.told.Told.fits.Goals as goal

pub returns-then-not-starts_from : goal.returns-then-not-starts_from
returns-then-not-starts_from c =
    let changes = c.args.changes.now in
    let at = c.loop-change.change-index in
    let change = c.change-item.result in
    let more : drop at changes ≡ change ∷ drop (at + 1) changes = drop_more changes at change c.loop-change-test.true ∙ ap (λ (r : Record). r ∷ drop (at + 1) changes) (sym c.change-item.is) in (
      λ no. absurd (let e : false ≡ true = no in cc),
      λ both. sym c.if-not-starts_from.true ∙ c.starts_from.ensures.1 (from_first c.args.self.now.start.base change (drop at changes) (drop (at + 1) changes) more (c.loop-change.invariant.1 both.1)),
    )

pub loop-change-preserved : goal.loop-change-preserved
loop-change-preserved c =
    let changes = c.args.changes.now in
    let at = c.loop-change.change-index in
    let change = c.change-item.result in
    let more : drop at changes ≡ change ∷ drop (at + 1) changes = drop_more changes at change c.loop-change-test.true ∙ ap (λ (r : Record). r ∷ drop (at + 1) changes) (sym c.change-item.is) in
    from_behind c.args.self.now.start.base change (drop at changes) (drop (at + 1) changes) (StartFrom c.args.self.now.start.base changes) more (c.starts_from.ensures.0 c.if-not-starts_from.false) c.loop-change.invariant

pub returns : goal.returns
returns c =
    let from = c.loop-change.invariant.0 (from_none c.args.self.now.start.base _ (drop_all c.loop-change.change-index c.args.changes.now (omega arith))) in
    (λ yes. (c.are_formed.ensures.0 yes, from), λ both. c.are_formed.ensures.1 both.0)
