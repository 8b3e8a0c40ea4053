use Rattle.std.proofs.Common.{inl, inr, ⊎_elim, ap}
use Rattle.gated_log.specs.declared.refusal.Refusal.{Refusal}
use Rattle.folder.specs.declared.fault.FolderFault.TheVariants.{Refused}
use Rattle.folder.proofs.Counted.{segments_laid, are_found}
use Rattle.folder.proofs.looking.statuses_on.Goals as goal

pub returns-clause-found : goal.returns-clause-found
returns-clause-found g c = λ honest.
    let found = c.in-Ok.ensures.found honest in
    are_found g.S.Shelf.disk _ _ c.in-Ok.node found.1 segments_laid _ (c.in-Ok.ensures.seen honest tt) (c.in_ok-told.ensures.told found.0) (c.in_ok-told.ensures.files found.0)

pub returns-in-Err-clause-refused : goal.returns-in-Err-clause-refused
returns-in-Err-clause-refused g c = λ honest.
    ⊎_elim (λ memory. inl (inl (ap (λ (why : Refusal). Refused why) memory))) (λ rest. ⊎_elim (λ device. inl (inr (ap (λ (why : Refusal). Refused why) device))) (λ fault. inr fault) rest) (c.in-Err.ensures.faulty honest)
