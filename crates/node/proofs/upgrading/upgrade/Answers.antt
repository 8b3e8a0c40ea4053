use Rattle.std.proofs.Common.{◌≡◌, ℕ, List, ◌∷◌, drop, refl, sym, ◌∙◌, ap, subst}
use Rattle.std.proofs.lemmas.Result.{err_from_is_err_and}
use Rattle.disk.specs.declared.file_id.FileId.TheVariants.{Catalog}
use Rattle.disk.specs.declared.file_id.Folder.TheVariants.{One}
use Rattle.disk.specs.Disk.{Image}
use Rattle.gated_log.specs.Headers.{HasOpenHeader}
use Rattle.catalog.specs.Catalogs.{StandsIn, old_names, old_per_ledger}
use Rattle.node.specs.Upgrading.{AreCopied}
use Rattle.node.proofs.NewFolder.{both_leave, both_read, is_old, leaves_rest, list_rest, read_first, reads, writes_list, left_old, are_ready, as_many, synced_still, closes_all, closed, held_in, held_old, held_ready, counts_there, header_told, topics_told}
use Rattle.node.proofs.upgrading.upgrade.Goals as goal

pub returns-in_err-check_header-clause-refused : goal.returns-in_err-check_header-clause-refused
returns-in_err-check_header-clause-refused g c = λ honest.
    let p = err_from_is_err_and c.from_residual-in_err-check_header.result c.from_residual-in_err-check_header.ensures.1 in
    let d0 = g.S.Shelf.disk c.args.shelf.now in
    let d1 = g.S.Shelf.disk c.old_counts.new.shelf in
    let shut = c.in_ok-old_counts.ensures.shut honest c.if-not-branch.true in
    rw (p.1) (header_told _ c.in_err-check_header.field-0.0 d0.seen d1.seen p.2 (c.in_ok-old_counts.ensures.seen honest) shut (c.in_err-check_header.ensures.refused (c.old_counts.ensures.kept.honest honest)))

pub returns-then-not-branch-clause-done : goal.returns-then-not-branch-clause-done
returns-then-not-branch-clause-done g c = λ x honest was.
    let d0 = g.S.Shelf.disk c.args.shelf.now in
    absurd (c.in_ok-old_counts.ensures.shut honest c.if-not-branch.true (counts_there x d0 was (g.met.S.Shelf.lawful c.args.shelf.now honest).leaves_seen))

pub returns-in_err-copy_topics-clause-within : goal.returns-in_err-copy_topics-clause-within
returns-in_err-copy_topics-clause-within g c = λ x honest was.
    let disk = g.S.Shelf.disk in
    let d0 = disk c.args.shelf.now in
    let d1 = disk c.old_counts.new.shelf in
    let d2 = disk c.open.new.shelf in
    let d3 = disk c.copy_topics.new.shelf in
    let h1 = c.old_counts.ensures.kept.honest honest in
    let h2 = c.open.ensures.kept.honest h1 in
    let a01 = c.old_counts.ensures.any_moment honest in
    let s01 = c.in_ok-old_counts.ensures.seen honest in
    let counts = c.in_ok-old_counts.ensures.counts honest c.if-not-branch.false in
    let l13 = both_leave d1 d2 d3 (reads d1 d2 (c.open.ensures.any_moment h1)) (c.copy_topics.ensures.any_moment h2) in
    read_first x d0 d1 d3 was a01 (left_old x d1 d3 l13 (is_old x d0 d1 was a01 s01 counts (c.in_ok-old_counts.ensures.synced honest)))

pub returns-in_err-copy_topics-clause-refused : goal.returns-in_err-copy_topics-clause-refused
returns-in_err-copy_topics-clause-refused g c = λ honest.
    let disk = g.S.Shelf.disk in
    let d0 = disk c.args.shelf.now in
    let d1 = disk c.old_counts.new.shelf in
    let d2 = disk c.open.new.shelf in
    let h1 = c.old_counts.ensures.kept.honest honest in
    let h2 = c.open.ensures.kept.honest h1 in
    let s01 = c.in_ok-old_counts.ensures.seen honest in
    let s02 = c.in_ok-old.ensures.seen h1 (λ no. cc) ∙ s01 in
    let old = c.in_ok-old.old in
    let per_ledger = old_per_ledger old in
    let names = old_names old in
    let lists = subst (λ (i : Image). StandsIn One per_ledger i names) s02 (c.in_ok-old.ensures.opened h1 d2.seen (g.met.S.Shelf.lawful c.open.new.shelf h2).leaves_seen) in
    let counts = c.in_ok-old_counts.ensures.counts honest c.if-not-branch.false in
    let p = err_from_is_err_and c.from_residual-in_err-copy_topics.result c.from_residual-in_err-copy_topics.ensures.1 in
    rw (p.1) (topics_told _ c.in_err-copy_topics.field-0.0 c.len.result per_ledger names d0.seen d2.seen p.2 s02 counts lists c.len.ensures.count (c.in_err-copy_topics.ensures.refused h2))

pub returns-in_err-copy-clause-within : goal.returns-in_err-copy-clause-within
returns-in_err-copy-clause-within g c = λ x honest was.
    let disk = g.S.Shelf.disk in
    let d0 = disk c.args.shelf.now in
    let d1 = disk c.old_counts.new.shelf in
    let d2 = disk c.open.new.shelf in
    let d3 = disk c.copy_topics.new.shelf in
    let h1 = c.old_counts.ensures.kept.honest honest in
    let h2 = c.open.ensures.kept.honest h1 in
    let a01 = c.old_counts.ensures.any_moment honest in
    let s01 = c.in_ok-old_counts.ensures.seen honest in
    let counts = c.in_ok-old_counts.ensures.counts honest c.if-not-branch.false in
    let l13 = both_leave d1 d2 d3 (reads d1 d2 (c.open.ensures.any_moment h1)) (c.copy_topics.ensures.any_moment h2) in
    let d4 = disk c.copy.new.shelf in
    let h3 = c.copy_topics.ensures.kept.honest h2 in
    let w34 = c.copy.ensures.others h3 in
    let l14 = both_leave d1 d3 d4 l13 (writes_list d3 d4 w34) in
    read_first x d0 d1 d4 was a01 (left_old x d1 d4 l14 (is_old x d0 d1 was a01 s01 counts (c.in_ok-old_counts.ensures.synced honest)))

pub returns-in_err-close_old-clause-within : goal.returns-in_err-close_old-clause-within
returns-in_err-close_old-clause-within g c = λ x honest was.
    let disk = g.S.Shelf.disk in
    let d0 = disk c.args.shelf.now in
    let d1 = disk c.old_counts.new.shelf in
    let d2 = disk c.open.new.shelf in
    let d3 = disk c.copy_topics.new.shelf in
    let h1 = c.old_counts.ensures.kept.honest honest in
    let h2 = c.open.ensures.kept.honest h1 in
    let a01 = c.old_counts.ensures.any_moment honest in
    let l13 = both_leave d1 d2 d3 (reads d1 d2 (c.open.ensures.any_moment h1)) (c.copy_topics.ensures.any_moment h2) in
    let d4 = disk c.copy.new.shelf in
    let h3 = c.copy_topics.ensures.kept.honest h2 in
    let w34 = c.copy.ensures.others h3 in
    let l14 = both_leave d1 d3 d4 l13 (writes_list d3 d4 w34) in
    let s01 = c.in_ok-old_counts.ensures.seen honest in
    let s12 = c.in_ok-old.ensures.seen h1 (λ no. cc) in
    let old = c.in_ok-old.old in
    let per_ledger = old_per_ledger old in
    let names = old_names old in
    let lists = subst (λ (i : Image). StandsIn One per_ledger i names) s12 (c.in_ok-old.ensures.opened h1 d2.seen (g.met.S.Shelf.lawful c.open.new.shelf h2).leaves_seen) in
    let counts = c.in_ok-old_counts.ensures.counts honest c.if-not-branch.false in
    let d5 = disk c.close_old.new.shelf in
    let h4 = c.copy.ensures.kept.honest h3 in
    let copied = subst (λ (i : Image). AreCopied c.len.result i d3) s12 (c.in_ok-copy_topics.ensures.copied h2) in
    let may = (g.met.S.Shelf.lawful c.old_counts.new.shelf h1).leaves_seen in
    let was1 = is_old x d0 d1 was a01 s01 counts (c.in_ok-old_counts.ensures.synced honest) in
    let ready = are_ready x c.len.result per_ledger names d1 d3 d4 was1 may lists c.len.ensures.count copied w34 (c.in_ok-copy.ensures.copied h3) in
    let list = Catalog One in
    let list_is : d4.seen list ≡ d1.seen list = w34.seen list (λ is. cc) ∙ c.in_ok-copy_topics.ensures.seen h2 list (λ is. cc) ∙ ap (λ (i : Image). i list) s12 in
    let synced = synced_still d1 d4 l14 list_is (c.in_ok-old_counts.ensures.synced honest) in
    let w45 = c.close_old.ensures.within h4 synced (subst (λ (l : List ℕ). HasOpenHeader One l) (sym (list_is ∙ ap (λ (i : Image). i list) s01)) counts) in
    read_first x d0 d1 d5 was a01 (closes_all x d1 d4 d5 was1 l14 ready synced w45)

pub returns-clause-within : goal.returns-clause-within
returns-clause-within g c = λ x honest was.
    let disk = g.S.Shelf.disk in
    let d0 = disk c.args.shelf.now in
    let d1 = disk c.old_counts.new.shelf in
    let d2 = disk c.open.new.shelf in
    let d3 = disk c.copy_topics.new.shelf in
    let h1 = c.old_counts.ensures.kept.honest honest in
    let h2 = c.open.ensures.kept.honest h1 in
    let a01 = c.old_counts.ensures.any_moment honest in
    let l13 = both_leave d1 d2 d3 (reads d1 d2 (c.open.ensures.any_moment h1)) (c.copy_topics.ensures.any_moment h2) in
    let d4 = disk c.copy.new.shelf in
    let h3 = c.copy_topics.ensures.kept.honest h2 in
    let w34 = c.copy.ensures.others h3 in
    let l14 = both_leave d1 d3 d4 l13 (writes_list d3 d4 w34) in
    let s01 = c.in_ok-old_counts.ensures.seen honest in
    let s12 = c.in_ok-old.ensures.seen h1 (λ no. cc) in
    let old = c.in_ok-old.old in
    let per_ledger = old_per_ledger old in
    let names = old_names old in
    let lists = subst (λ (i : Image). StandsIn One per_ledger i names) s12 (c.in_ok-old.ensures.opened h1 d2.seen (g.met.S.Shelf.lawful c.open.new.shelf h2).leaves_seen) in
    let counts = c.in_ok-old_counts.ensures.counts honest c.if-not-branch.false in
    let d5 = disk c.close_old.new.shelf in
    let h4 = c.copy.ensures.kept.honest h3 in
    let copied = subst (λ (i : Image). AreCopied c.len.result i d3) s12 (c.in_ok-copy_topics.ensures.copied h2) in
    let may = (g.met.S.Shelf.lawful c.old_counts.new.shelf h1).leaves_seen in
    let was1 = is_old x d0 d1 was a01 s01 counts (c.in_ok-old_counts.ensures.synced honest) in
    let ready = are_ready x c.len.result per_ledger names d1 d3 d4 was1 may lists c.len.ensures.count copied w34 (c.in_ok-copy.ensures.copied h3) in
    let list = Catalog One in
    let list_is : d4.seen list ≡ d1.seen list = w34.seen list (λ is. cc) ∙ c.in_ok-copy_topics.ensures.seen h2 list (λ is. cc) ∙ ap (λ (i : Image). i list) s12 in
    let synced = synced_still d1 d4 l14 list_is (c.in_ok-old_counts.ensures.synced honest) in
    let w45 = c.close_old.ensures.within h4 synced (subst (λ (l : List ℕ). HasOpenHeader One l) (sym (list_is ∙ ap (λ (i : Image). i list) s01)) counts) in
    read_first x d0 d1 d5 was a01 (closes_all x d1 d4 d5 was1 l14 ready synced w45)

pub returns-clause-done : goal.returns-clause-done
returns-clause-done g c = λ x honest was.
    let disk = g.S.Shelf.disk in
    let d0 = disk c.args.shelf.now in
    let d1 = disk c.old_counts.new.shelf in
    let d2 = disk c.open.new.shelf in
    let d3 = disk c.copy_topics.new.shelf in
    let h1 = c.old_counts.ensures.kept.honest honest in
    let h2 = c.open.ensures.kept.honest h1 in
    let l01 = reads d0 d1 (c.old_counts.ensures.any_moment honest) in
    let l13 = both_leave d1 d2 d3 (reads d1 d2 (c.open.ensures.any_moment h1)) (c.copy_topics.ensures.any_moment h2) in
    let d4 = disk c.copy.new.shelf in
    let h3 = c.copy_topics.ensures.kept.honest h2 in
    let w34 = c.copy.ensures.others h3 in
    let l14 = both_leave d1 d3 d4 l13 (writes_list d3 d4 w34) in
    let l04 = both_leave d0 d1 d4 l01 l14 in
    let s01 = c.in_ok-old_counts.ensures.seen honest in
    let s02 = c.in_ok-old.ensures.seen h1 (λ no. cc) ∙ s01 in
    let old = c.in_ok-old.old in
    let per_ledger = old_per_ledger old in
    let names = old_names old in
    let lists = subst (λ (i : Image). StandsIn One per_ledger i names) s02 (c.in_ok-old.ensures.opened h1 d2.seen (g.met.S.Shelf.lawful c.open.new.shelf h2).leaves_seen) in
    let counts = c.in_ok-old_counts.ensures.counts honest c.if-not-branch.false in
    let d5 = disk c.close_old.new.shelf in
    let h4 = c.copy.ensures.kept.honest h3 in
    let copied = subst (λ (i : Image). AreCopied c.len.result i d3) s02 (c.in_ok-copy_topics.ensures.copied h2) in
    let may = (g.met.S.Shelf.lawful c.args.shelf.now honest).leaves_seen in
    let ready = are_ready x c.len.result per_ledger names d0 d3 d4 was may lists c.len.ensures.count copied w34 (c.in_ok-copy.ensures.copied h3) in
    let list = Catalog One in
    let list_is : d4.seen list ≡ d0.seen list = w34.seen list (λ is. cc) ∙ c.in_ok-copy_topics.ensures.seen h2 list (λ is. cc) ∙ ap (λ (i : Image). i list) s02 in
    let synced = synced_still d1 d4 l14 (list_is ∙ sym (ap (λ (i : Image). i list) s01)) (c.in_ok-old_counts.ensures.synced honest) in
    let w45 = c.close_old.ensures.within h4 synced (subst (λ (l : List ℕ). HasOpenHeader One l) (sym list_is) counts) in (
      c.len-2.result,
      refl,
      as_many x c.len-2.result per_ledger names d0 was may lists c.len-2.ensures.count,
      closed x d4 d5 ready w45 (c.in_ok-close_old.ensures.synced h4) (c.in_ok-close_old.ensures.closed h4),
    )

pub returns-clause-found : goal.returns-clause-found
returns-clause-found g c = λ honest n is.
    let disk = g.S.Shelf.disk in
    let d0 = disk c.args.shelf.now in
    let d1 = disk c.old_counts.new.shelf in
    let d2 = disk c.open.new.shelf in
    let d3 = disk c.copy_topics.new.shelf in
    let h1 = c.old_counts.ensures.kept.honest honest in
    let h2 = c.open.ensures.kept.honest h1 in
    let l01 = reads d0 d1 (c.old_counts.ensures.any_moment honest) in
    let l13 = both_leave d1 d2 d3 (reads d1 d2 (c.open.ensures.any_moment h1)) (c.copy_topics.ensures.any_moment h2) in
    let d4 = disk c.copy.new.shelf in
    let h3 = c.copy_topics.ensures.kept.honest h2 in
    let w34 = c.copy.ensures.others h3 in
    let l14 = both_leave d1 d3 d4 l13 (writes_list d3 d4 w34) in
    let l04 = both_leave d0 d1 d4 l01 l14 in
    let s01 = c.in_ok-old_counts.ensures.seen honest in
    let s02 = c.in_ok-old.ensures.seen h1 (λ no. cc) ∙ s01 in
    let old = c.in_ok-old.old in
    let per_ledger = old_per_ledger old in
    let names = old_names old in
    let lists = subst (λ (i : Image). StandsIn One per_ledger i names) s02 (c.in_ok-old.ensures.opened h1 d2.seen (g.met.S.Shelf.lawful c.open.new.shelf h2).leaves_seen) in
    let counts = c.in_ok-old_counts.ensures.counts honest c.if-not-branch.false in
    let d5 = disk c.close_old.new.shelf in
    let h4 = c.copy.ensures.kept.honest h3 in
    let copied = subst (λ (i : Image). AreCopied c.len.result i d3) s02 (c.in_ok-copy_topics.ensures.copied h2) in
    let many = c.len.ensures.count in
    let x = held_in per_ledger c.len.result names d0.seen d3 copied in
    let ready = held_ready per_ledger c.len.result names d0.seen d3 d4 copied many w34 (c.in_ok-copy.ensures.copied h3) in
    let list = Catalog One in
    let list_is : d4.seen list ≡ d0.seen list = w34.seen list (λ is. cc) ∙ c.in_ok-copy_topics.ensures.seen h2 list (λ is. cc) ∙ ap (λ (i : Image). i list) s02 in
    let synced = synced_still d1 d4 l14 (list_is ∙ sym (ap (λ (i : Image). i list) s01)) (c.in_ok-old_counts.ensures.synced honest) in
    let w45 = c.close_old.ensures.within h4 synced (subst (λ (l : List ℕ). HasOpenHeader One l) (sym list_is) counts) in
    let told : n ≡ c.len-2.result = cc is in (
      x,
      held_old per_ledger c.len.result names d0.seen d3 copied many lists,
      told ∙ c.len-2.ensures.count,
      closed x d4 d5 ready w45 (c.in_ok-close_old.ensures.synced h4) (c.in_ok-close_old.ensures.closed h4),
    )

pub returns-in_err-close_old-clause-beside : goal.returns-in_err-close_old-clause-beside
returns-in_err-close_old-clause-beside g c = λ honest shut.
    absurd (shut (c.in_ok-old_counts.ensures.counts honest c.if-not-branch.false))

pub returns-clause-beside : goal.returns-clause-beside
returns-clause-beside g c = λ honest shut.
    absurd (shut (c.in_ok-old_counts.ensures.counts honest c.if-not-branch.false))

pub returns-in_err-copy_topics-clause-rest : goal.returns-in_err-copy_topics-clause-rest
returns-in_err-copy_topics-clause-rest g c = λ honest.
    let disk = g.S.Shelf.disk in
    let d0 = disk c.args.shelf.now in
    let d1 = disk c.old_counts.new.shelf in
    let d2 = disk c.open.new.shelf in
    let d3 = disk c.copy_topics.new.shelf in
    let h1 = c.old_counts.ensures.kept.honest honest in
    let h2 = c.open.ensures.kept.honest h1 in
    let a01 = c.old_counts.ensures.any_moment honest in
    let a02 = both_read d0 d1 d2 a01 (c.open.ensures.any_moment h1) in
    let l03 = both_leave d0 d2 d3 (reads d0 d2 a02) (c.copy_topics.ensures.any_moment h2) in
    leaves_rest d0 d3 l03

pub returns-in_err-copy-clause-rest : goal.returns-in_err-copy-clause-rest
returns-in_err-copy-clause-rest g c = λ honest.
    let disk = g.S.Shelf.disk in
    let d0 = disk c.args.shelf.now in
    let d1 = disk c.old_counts.new.shelf in
    let d2 = disk c.open.new.shelf in
    let d3 = disk c.copy_topics.new.shelf in
    let d4 = disk c.copy.new.shelf in
    let h1 = c.old_counts.ensures.kept.honest honest in
    let h2 = c.open.ensures.kept.honest h1 in
    let h3 = c.copy_topics.ensures.kept.honest h2 in
    let a01 = c.old_counts.ensures.any_moment honest in
    let a02 = both_read d0 d1 d2 a01 (c.open.ensures.any_moment h1) in
    let l03 = both_leave d0 d2 d3 (reads d0 d2 a02) (c.copy_topics.ensures.any_moment h2) in
    let w34 = c.copy.ensures.others h3 in
    let l04 = both_leave d0 d3 d4 l03 (writes_list d3 d4 w34) in
    leaves_rest d0 d4 l04

pub returns-in_err-close_old-clause-rest : goal.returns-in_err-close_old-clause-rest
returns-in_err-close_old-clause-rest g c = λ honest.
    let disk = g.S.Shelf.disk in
    let d0 = disk c.args.shelf.now in
    let d1 = disk c.old_counts.new.shelf in
    let d2 = disk c.open.new.shelf in
    let d3 = disk c.copy_topics.new.shelf in
    let d4 = disk c.copy.new.shelf in
    let d5 = disk c.close_old.new.shelf in
    let h1 = c.old_counts.ensures.kept.honest honest in
    let h2 = c.open.ensures.kept.honest h1 in
    let h3 = c.copy_topics.ensures.kept.honest h2 in
    let h4 = c.copy.ensures.kept.honest h3 in
    let a01 = c.old_counts.ensures.any_moment honest in
    let a02 = both_read d0 d1 d2 a01 (c.open.ensures.any_moment h1) in
    let l03 = both_leave d0 d2 d3 (reads d0 d2 a02) (c.copy_topics.ensures.any_moment h2) in
    let w34 = c.copy.ensures.others h3 in
    let l04 = both_leave d0 d3 d4 l03 (writes_list d3 d4 w34) in
    list_rest _ d0 d4 d5 l04 (c.close_old.ensures.others h4)

pub returns-clause-rest : goal.returns-clause-rest
returns-clause-rest g c = λ honest.
    let disk = g.S.Shelf.disk in
    let d0 = disk c.args.shelf.now in
    let d1 = disk c.old_counts.new.shelf in
    let d2 = disk c.open.new.shelf in
    let d3 = disk c.copy_topics.new.shelf in
    let d4 = disk c.copy.new.shelf in
    let d5 = disk c.close_old.new.shelf in
    let h1 = c.old_counts.ensures.kept.honest honest in
    let h2 = c.open.ensures.kept.honest h1 in
    let h3 = c.copy_topics.ensures.kept.honest h2 in
    let h4 = c.copy.ensures.kept.honest h3 in
    let a01 = c.old_counts.ensures.any_moment honest in
    let a02 = both_read d0 d1 d2 a01 (c.open.ensures.any_moment h1) in
    let l03 = both_leave d0 d2 d3 (reads d0 d2 a02) (c.copy_topics.ensures.any_moment h2) in
    let w34 = c.copy.ensures.others h3 in
    let l04 = both_leave d0 d3 d4 l03 (writes_list d3 d4 w34) in
    list_rest _ d0 d4 d5 l04 (c.close_old.ensures.others h4)

pub returns-clause-closed : goal.returns-clause-closed
returns-clause-closed g c = λ honest n is.
    let disk = g.S.Shelf.disk in
    let d0 = disk c.args.shelf.now in
    let d2 = disk c.open.new.shelf in
    let d3 = disk c.copy_topics.new.shelf in
    let d4 = disk c.copy.new.shelf in
    let h1 = c.old_counts.ensures.kept.honest honest in
    let h2 = c.open.ensures.kept.honest h1 in
    let h3 = c.copy_topics.ensures.kept.honest h2 in
    let h4 = c.copy.ensures.kept.honest h3 in
    let w34 = c.copy.ensures.others h3 in
    let s02 = c.in_ok-old.ensures.seen h1 (λ no. cc) ∙ c.in_ok-old_counts.ensures.seen honest in
    let list = Catalog One in
    let list_is : d4.seen list ≡ d0.seen list = w34.seen list (λ is. cc) ∙ c.in_ok-copy_topics.ensures.seen h2 list (λ is. cc) ∙ ap (λ (i : Image). i list) s02 in
    (c.in_ok-close_old.ensures.gate h4 ∙ ap (λ (l : List ℕ). 0 ∷ drop 1 l) list_is, c.in_ok-close_old.ensures.synced h4)
