use Rattle.std.proofs.Common.{◌≤◌, ℕ, [], ◌∷◌, length, sym, ap, subst}
use Rattle.std.proofs.lemmas.Result.{on_ok_weaker}
use Rattle.disk.specs.Areas.{folder_of}
use Rattle.disk.specs.Disk.{Overwritten}
use Rattle.two_slot.proofs.Closed.{shut, there, closed_within, closed_alone}
use Rattle.two_slot.proofs.replace.close.Goals as goal

pub returns-clause-shut : goal.returns-clause-shut
returns-clause-shut g c = λ generation honest is.
    let folder = folder_of c.args.file in
    let old = (g.S.Shelf.disk c.args.shelf.now).seen c.args.file in
    let new = (g.S.Shelf.disk c.persist.new.shelf).seen c.args.file in
    let at = subst (λ (p : ℕ × ℕ). p.0 ≤ length old) (sym c.closing-at.ensures) (there folder c.args.spare generation old is) in
    on_ok_weaker c.persist.result (λ written. shut folder c.args.spare generation old new is (subst (λ (p : ℕ × ℕ). Overwritten p.0 (p.1 ∷ []) old new) c.closing-at.ensures (written honest at).there)) c.persist.ensures.written

pub returns-clause-within : goal.returns-clause-within
returns-clause-within g c = λ generation honest left.
    closed_within c.args.file c.args.spare generation c.closing-at.result.0 _ _ (ap (λ (p : ℕ × ℕ). p.0) c.closing-at.ensures) left (c.persist.ensures.others honest) (c.persist.ensures.any_moment honest)

pub returns-clause-others : goal.returns-clause-others
returns-clause-others g c = λ honest. closed_alone c.args.file _ _ _ (c.persist.ensures.others honest) (c.persist.ensures.any_moment honest)
