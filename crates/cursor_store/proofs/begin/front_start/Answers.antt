use Rattle.std.proofs.Common.{ℕ, ◌^◌, List, inr, refl, subst}
use Rattle.std.specs.Option.{option_map}
use Rattle.disk.specs.declared.file_id.Folder.TheVariants.{One}
use Rattle.gated_log.specs.Head.{head_file}
use Rattle.cursor_store.specs.declared.told.Told.{Told}
use Rattle.cursor_store.specs.ItemBytes.{IsItemsBody}
use Rattle.cursor_store.specs.Fronts.{IsNextWhole}
use Rattle.cursor_store.proofs.Passing.{asked_more, passes_more, says_end, says_bad, says_none}
use Rattle.cursor_store.proofs.begin.front_start.Goals as goal

pub returns-in_default-clause-begins : goal.returns-in_default-clause-begins
returns-in_default-clause-begins g c = λ one honest is.
    let seen = (g.S.Shelf.disk c.args.shelf.now).seen in
    let file = head_file c.args.head.now in
    inr (says_none file (seen file) c.in_default.field-0 one (c.in_default.ensures.refused seen is), refl)

pub returns-in_default-2-clause-begins : goal.returns-in_default-2-clause-begins
returns-in_default-2-clause-begins g c = λ one honest is.
    let first = g.S.Shelf.disk c.args.shelf.now in
    let mid = g.S.Shelf.disk c.bodies.shelf in
    let old = c.bodies.reader in
    says_end c.args.head.now first mid old c.bodies.told one c.bodies.invariant honest is
    (λ bodies h read. subst (λ o. IsNextWhole old c.next_whole.new.reader mid.seen bodies (option_map (λ body. body.items) o)) c.in_default-2.is (c.in_ok-body.ensures.next bodies h read))

pub returns-then-not-branch-clause-begins : goal.returns-then-not-branch-clause-begins
returns-then-not-branch-clause-begins g c = λ one honest is.
    let first = g.S.Shelf.disk c.args.shelf.now in
    let mid = g.S.Shelf.disk c.bodies.shelf in
    let old = c.bodies.reader in
    says_bad c.args.head.now first mid old c.next_whole.new.reader c.bodies.told c.in-Some.body.items one c.bodies.invariant honest is c.next_whole.ensures.id
    (λ bodies h read. subst (λ o. IsNextWhole old c.next_whole.new.reader mid.seen bodies (option_map (λ body. body.items) o)) c.in-Some.is (c.in_ok-body.ensures.next bodies h read))
    (subst (λ (l : List ℕ). (next : Told) → ¬ IsItemsBody One (2 ^ 62) c.bodies.told l next) c.deref.ensures.value (c.in_ok-read_items.ensures.unformed c.if-not-branch.true))

pub bodies-preserved : goal.bodies-preserved
bodies-preserved g c =
    let first = g.S.Shelf.disk c.args.shelf.now in
    let mid = g.S.Shelf.disk c.bodies.shelf in
    let new = g.S.Shelf.disk c.next_whole.new.shelf in
    let old = c.bodies.reader in
    let head = c.args.head.now in
    let asked = asked_more head first mid new old c.bodies.told c.bodies.invariant c.next_whole.ensures.kept c.next_whole.ensures.seen c.next_whole.ensures.any_moment in
    passes_more head first mid new old c.next_whole.new.reader c.bodies.told c.read_items.new.told c.in-Some.body.items c.bodies.invariant asked c.next_whole.ensures.id
    (λ bodies h read. subst (λ o. IsNextWhole old c.next_whole.new.reader mid.seen bodies (option_map (λ body. body.items) o)) c.in-Some.is (c.in_ok-body.ensures.next bodies h read))
    (subst (λ (l : List ℕ). IsItemsBody One (2 ^ 62) c.bodies.told l c.read_items.new.told) c.deref.ensures.value (c.in_ok-read_items.ensures.formed c.if-not-branch.false))
