use Rattle.std.proofs.Common.{◌∙◌, sym, inr, true≢false}
use Rattle.std.proofs.lemmas.Result.{err_from_is_err_and}
use Rattle.catalog.proofs.Checking.{refused, read_open, bad_label}
use Rattle.catalog.proofs.headers.check_header.Goals as goal

pub returns-in_err-reader-clause-refused : goal.returns-in_err-reader-clause-refused
returns-in_err-reader-clause-refused g c = λ honest.
    let p = err_from_is_err_and c.from_residual-in_err-reader.result c.from_residual-in_err-reader.ensures.1 in
    let old = (g.S.Shelf.disk c.args.shelf.now).seen in
    let mid = (g.S.Shelf.disk c.read.new.shelf).seen in
    rw (p.1) (inr (refused c.in_ok-head.head.file old mid _ c.in_err-reader.field-0.0 c.in_ok-head.ensures.file (c.in_ok-head.ensures.seen honest) p.2 (c.in_err-reader.ensures.refused mid (c.in_ok-head.ensures.head honest).is)))

pub returns-then-not-is_label_of_names-clause-refused : goal.returns-then-not-is_label_of_names-clause-refused
returns-then-not-is_label_of_names-clause-refused g c = λ honest.
    let old = (g.S.Shelf.disk c.args.shelf.now).seen in
    let mid = (g.S.Shelf.disk c.read.new.shelf).seen in
    let is = read_open c.in_ok-reader.reader c.id.result old mid c.id.ensures (c.in_ok-reader.ensures.file ∙ c.in_ok-head.ensures.file) (c.in_ok-head.ensures.seen honest) (c.in_ok-reader.ensures.begun mid (c.in_ok-head.ensures.head honest).is) in
    inr (bad_label c.id.result.label _ is (λ good. true≢false (sym (c.is_label_of_names.ensures.1 good) ∙ c.if-not-is_label_of_names.true)))

pub returns-clause-sound : goal.returns-clause-sound
returns-clause-sound g c = λ honest.
    let old = (g.S.Shelf.disk c.args.shelf.now).seen in
    let mid = (g.S.Shelf.disk c.read.new.shelf).seen in
    (c.id.result.label, c.is_label_of_names.ensures.0 c.if-not-is_label_of_names.false, read_open c.in_ok-reader.reader c.id.result old mid c.id.ensures (c.in_ok-reader.ensures.file ∙ c.in_ok-head.ensures.file) (c.in_ok-head.ensures.seen honest) (c.in_ok-reader.ensures.begun mid (c.in_ok-head.ensures.head honest).is))
