use Rattle.std.proofs.Common.{◌≡◌, ◌∙◌, sym, subst}
use Rattle.disk.specs.Disk.{Image, Same}
use Rattle.gated_log.specs.declared.refusal.Refusal.TheVariants.{Device}
use Rattle.folder.specs.declared.fault.FolderFault.TheVariants.{AlreadyInitialised}
use Rattle.folder.specs.Making.{HasList, fault_of_making}
use Rattle.catalog.specs.Catalogs.{remembered, per_ledger}
use Rattle.catalog.specs.Laws.{holds_stands}
use Rattle.folder.proofs.Once.{names_listed, missing_unlisted, already_works, already_listed}
use Rattle.folder.proofs.making.init_on.Goals as goal

pub returns-in_err-init-clause-once : goal.returns-in_err-init-clause-once
returns-in_err-init-clause-once g c = λ honest listed. absurd (missing_unlisted (g.S.Shelf.disk c.args.shelf.now).seen _ c.in-Err-NotInitialised.field-0-is (c.in-Err-NotInitialised.ensures.refused honest) listed)

pub returns-clause-once : goal.returns-clause-once
returns-clause-once g c = λ honest listed. absurd (missing_unlisted (g.S.Shelf.disk c.args.shelf.now).seen _ c.in-Err-NotInitialised.field-0-is (c.in-Err-NotInitialised.ensures.refused honest) listed)

pub returns-in-Ok-clause-already : goal.returns-in-Ok-clause-already
returns-in-Ok-clause-already g c = λ honest told.
    let catalog = c.in-Ok.field-0 in
    let new = (g.S.Shelf.disk c.open_newest.new.shelf).seen in
    let same : Same (g.S.Shelf.disk c.args.shelf.now).seen new = c.in-Ok.ensures.seen honest (λ bad. let wrong : ⊥ = cc in wrong) in
    let listed : HasList new = names_listed (per_ledger catalog) new (remembered catalog) (holds_stands catalog new (remembered catalog) (c.in-Ok.ensures.opened honest).now) in
    (subst (λ (files : Image). HasList files) same listed, same)

pub returns-in-Err-clause-already : goal.returns-in-Err-clause-already
returns-in-Err-clause-already g c = λ honest told.
    let result : c.fault_of_making.result ≡ AlreadyInitialised = cc in
    let already : fault_of_making c.in-Err.refusal ≡ AlreadyInitialised = sym c.fault_of_making.ensures ∙ result in
    (already_listed c.in-Err.refusal already (g.S.Shelf.disk c.args.shelf.now).seen (c.in-Err.ensures.refused honest), c.in-Err.ensures.seen honest (λ failed. already_works c.in-Err.refusal already (let is : c.in-Err.refusal ≡ Device = cc in is)))
