use Rattle.std.proofs.Common.{◌∙◌, refl, sym, ap, length, arith}
use Rattle.std.proofs.lemmas.Result.{on_ok_weaker}
use Rattle.disk.specs.Contents.{at_err}
use Rattle.records.specs.Maps.{Kept}
use Rattle.records.specs.Records.{after_all}
use Rattle.cursor_store.specs.declared.told.Told.{Told}
use Rattle.cursor_store.specs.Items.{told_of}
use Rattle.cursor_store.specs.Cursors.{is_due, topic_of}
use Rattle.cursor_store.proofs.Changes.{records_grown}
use Rattle.cursor_store.proofs.Replacing.{first_within, first_doubt, both, left_then, counted_so}
use Rattle.cursor_store.proofs.cursor_store.CursorStore.append_records.Goals as goal

pub returns-in_err-replace_first-clause-appends : goal.returns-in_err-replace_first-clause-appends
returns-in_err-replace_first-clause-appends g c = λ entries start kept records is formed from s.
    let t = topic_of c.args.self.now in
    let d0 = g.S.Shelf.disk c.args.shelf.now in
    let d1 = g.S.Shelf.disk c.replace_first.new.shelf in
    let next = after_all records kept in
    let first = c.in_err-replace_first.ensures.replaces entries start kept is.snapshot s in
    at_err c.from_residual.result _ c.from_residual.ensures.1 (first_doubt _ t entries start d1 kept next (first.in_doubt refl)) (first_within t entries start d0 d1 kept next first.within)

pub returns-clause-appends : goal.returns-clause-appends
returns-clause-appends g c = λ entries start kept records is formed from s.
    let store = c.args.self.now in
    let d0 = g.S.Shelf.disk c.args.shelf.now in
    let d1 = g.S.Shelf.disk c.replace_first.new.shelf in
    let d2 = g.S.Shelf.disk c.append_batch.new.shelf in
    let first = c.in_ok-replace_first.ensures.replaces entries start kept is.snapshot s in
    let swapped = is.kept ∙ ap (λ (k : Kept). after_all records k) (sym (ap (λ (t : Told). t.kept) c.replace_first.ensures.told)) in
    let behind = c.append_batch.ensures.appends entries start kept records is.batch swapped formed from first.added in
    both (topic_of store) (topic_of c.replace_first.new.self) entries start d0 d1 d2 kept (after_all records kept) c.replace_first.ensures.topic first.within behind

pub returns-clause-content : goal.returns-clause-content
returns-clause-content g c = λ records is. on_ok_weaker c.append_batch.result (λ same. same ∙ is.kept) c.append_batch.ensures.content

pub returns-clause-count : goal.returns-clause-count
returns-clause-count g c = λ records is.
    on_ok_weaker c.append_batch.result
    (λ says. counted_so (is_due c.args.self.now) c.args.self.now c.replace_first.new.self _ c.args.prepared.count (length records) (c.in_ok-replace_first.ensures.replaced is.snapshot) says is.count)
    c.append_batch.ensures.count

pub returns-clause-remembered : goal.returns-clause-remembered
returns-clause-remembered g c = λ bad. c.append_batch.ensures.remembered bad ∙ ap (λ (t : Told). t.kept) c.replace_first.ensures.told

pub returns-clause-stays_failed : goal.returns-clause-stays_failed
returns-clause-stays_failed g c = λ was.
    let mid = c.replace_first.ensures.stays_failed was in
    let last = c.append_batch.ensures.stays_failed mid.0 in
    (last.0, last.1 ∙ mid.1)

pub returns-clause-cause : goal.returns-clause-cause
returns-clause-cause g c = λ works bad.
    let less = c.append_batch.ensures.cause (c.in_ok-replace_first.ensures.works ∙ works) bad in
    omega (arith, less, c.replace_first.ensures.kept.faults)

pub returns-clause-grows : goal.returns-clause-grows
returns-clause-grows g c = λ entries start kept records is s.
    let first = c.in_ok-replace_first.ensures.replaces entries start kept is.snapshot s in
    let base = c.in_ok-replace_first.ensures.base entries start kept is.snapshot s in
    on_ok_weaker c.append_batch.result (λ grown. records_grown (is_due c.args.self.now) (topic_of c.args.self.now).folder entries (told_of start kept) _ _ _ records base grown) (c.append_batch.ensures.grows entries start kept records is.batch first.added)

pub returns-clause-left : goal.returns-clause-left
returns-clause-left g c = λ records is.
    on_ok_weaker c.append_batch.result (λ works. left_then c.args.self.now c.replace_first.new.self _ (c.in_ok-replace_first.ensures.replaced is.snapshot) c.replace_first.ensures.topic c.append_batch.ensures.left) c.append_batch.ensures.works
