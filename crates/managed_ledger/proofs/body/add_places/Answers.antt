use Rattle.std.proofs.Common.{arith}
use Rattle.managed_ledger.proofs.Adding.{adding_unformed, adding_full, handing_none, handing_step, handing_done, handed_entry, handed_meta, first_there, first_not_there}
use Rattle.managed_ledger.proofs.body.add_places.Goals as goal

pub returns-then-first-len-ge-MOST_ENTRIES-clause-unformed :
    goal.returns-then-first-len-ge-MOST_ENTRIES-clause-unformed
returns-then-first-len-ge-MOST_ENTRIES-clause-unformed g c = λ _ entries is.
    adding_full c.args.body.now c.args.start c.args.first c.args.places.now.items c.loop-at.at c.loop-at.places.items c.loop-at.invariant.0 (omega arith) (omega (arith, c.len.ensures, c.if-first-len-ge-MOST_ENTRIES.true)) entries is

pub returns-in_default-clause-unformed : goal.returns-in_default-clause-unformed
returns-in_default-clause-unformed g c = λ _ entries is _.
    adding_unformed c.args.body.now c.args.start c.args.first c.args.places.now.items c.loop-at.at c.loop-at.places.items c.loop-at.invariant.0 (omega arith)
    (first_not_there c.loop-at.at c.args.body.now c.in_ok-found.field-0 c.in_default.is c.in_ok-found.ensures.first) entries is

pub loop-at-init : goal.loop-at-init
loop-at-init g c = handing_none (g.E.EntryFold.holds c.args.fold.now) c.args.body.now c.args.start c.args.first c.args.places.now.items (omega (arith, c.requires))

pub loop-at-preserved-in_ok-push : goal.loop-at-preserved-in_ok-push
loop-at-preserved-in_ok-push g c =
    let next = first_there c.loop-at.at c.args.body.now c.in_ok-found.field-0 c.in-Some.found c.in-Some.is c.in_ok-found.ensures.first in
    handing_step (g.E.EntryFold.holds c.args.fold.now) (g.E.EntryFold.holds c.loop-at.fold) (g.E.EntryFold.holds c.entry.new.self) c.args.body.now c.args.start c.args.first c.args.places.now.items c.loop-at.at c.loop-at.places.items
    c.loop-at.invariant (omega arith) c.in-Some.found.size next.0 (omega (arith, c.len.ensures, c.if-first-len-ge-MOST_ENTRIES.false)) c.push.new.self.items c.in_ok-push.ensures.items
    _ (handed_entry c.loop-at.at c.args.body.now c.in-Some.found.size) (λ entries held. c.in_ok-entry.ensures entries held (handed_meta c.loop-at.at c.args.body.now _ c.in-Some.found next (handed_entry c.loop-at.at c.args.body.now c.in-Some.found.size)))

pub loop-at-preserved : goal.loop-at-preserved
loop-at-preserved g c =
    let next = first_there c.loop-at.at c.args.body.now c.in_ok-found.field-0 c.in-Some.found c.in-Some.is c.in_ok-found.ensures.first in
    handing_step (g.E.EntryFold.holds c.args.fold.now) (g.E.EntryFold.holds c.loop-at.fold) (g.E.EntryFold.holds c.entry.new.self) c.args.body.now c.args.start c.args.first c.args.places.now.items c.loop-at.at c.loop-at.places.items
    c.loop-at.invariant (omega arith) c.in-Some.found.size next.0 (omega (arith, c.len.ensures, c.if-first-len-ge-MOST_ENTRIES.false)) c.push.new.self.items c.in_ok-push.ensures.items
    _ (handed_entry c.loop-at.at c.args.body.now c.in-Some.found.size) (λ entries held. c.in_ok-entry.ensures entries held (handed_meta c.loop-at.at c.args.body.now _ c.in-Some.found next (handed_entry c.loop-at.at c.args.body.now c.in-Some.found.size)))

pub returns-clause-added : goal.returns-clause-added
returns-clause-added g c = λ before held _.
    handing_done (g.E.EntryFold.holds c.args.fold.now) (g.E.EntryFold.holds c.loop-at.fold) c.args.body.now c.args.start c.args.first c.args.places.now.items c.loop-at.at c.loop-at.places.items c.loop-at.invariant (omega arith) (omega arith) before held
