use Rattle.std.proofs.Common.{◌∙◌, ltb, ltb-true, ltb-false, sym, ap, arith, rules}
use Rattle.std.proofs.lemmas.List.Sorted.{IsPartitionPoint-from_clause}
use Rattle.session.specs.declared.entry.Entry.{Entry}
use Rattle.session.proofs.Searched.{parted, above_of, missing, found, passed, some_entry}
use Rattle.session.proofs.consumers.place_by_halves.Goals as goal

pub returns-then-place-consumers-clause-place : goal.returns-then-place-consumers-clause-place
returns-then-place-consumers-clause-place c =
    let xs = c.args.consumers.now in
    let point = IsPartitionPoint-from_clause (λ (e : Entry). ltb e.id c.args.id) _ _ c.partition_point-place.ensures.partitioned (parted xs c.args.id c.requires) (λ a r q k. search rules) in
    sym (missing xs c.args.id some_entry (λ k h same. omega (arith, same, ltb-true _ _ (point.0 k some_entry (omega arith) (omega (arith, h, c.if-place-consumers.true))))))

pub returns-then-entry-id-clause-place : goal.returns-then-entry-id-clause-place
returns-then-entry-id-clause-place c =
    let there = c.index-consumers-place in
    sym (found c.args.consumers.now c.args.id c.partition_point-place.result there.result c.requires (omega (arith, c.if-place-consumers.false))
    (sym (ap (λ (e : Entry). e.id) (c.entry.ensures ∙ there.is)) ∙ c.if-entry-id.true))

pub returns-else-entry-id-clause-place : goal.returns-else-entry-id-clause-place
returns-else-entry-id-clause-place c =
    let xs = c.args.consumers.now in
    let place = c.partition_point-place.result in
    let there = c.index-consumers-place in
    let point = IsPartitionPoint-from_clause (λ (e : Entry). ltb e.id c.args.id) _ _ c.partition_point-place.ensures.partitioned (parted xs c.args.id c.requires) (λ a r q k. search rules) in
    let behind = ltb-false _ _ (point.1 place there.result (omega arith) (omega (arith, c.if-place-consumers.false))) in
    sym (passed xs c.args.id place there.result c.requires (omega (arith, c.if-place-consumers.false))
    (λ k h. ltb-true _ _ (point.0 k there.result (omega arith) h))
    (above_of _ _ behind (λ same. c.if-entry-id.false (ap (λ (e : Entry). e.id) (c.entry.ensures ∙ there.is) ∙ same))))
