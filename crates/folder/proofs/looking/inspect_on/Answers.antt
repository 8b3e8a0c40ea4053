use Rattle.std.proofs.Common.{◌≡◌, inl, inr, Err, ap}
use Rattle.std.proofs.lemmas.Result.{err_from_is_err_and}
use Rattle.gated_log.specs.declared.refusal.Refusal.TheVariants.{Device}
use Rattle.folder.specs.declared.fault.FolderFault.{FolderFault}
use Rattle.folder.specs.declared.fault.FolderFault.TheVariants.{Refused}
use Rattle.folder.proofs.looking.inspect_on.Goals as goal

pub returns-in_err-statuses-clause-cause : goal.returns-in_err-statuses-clause-cause
returns-in_err-statuses-clause-cause g c =
    let p = err_from_is_err_and c.from_residual.result c.from_residual.ensures.1 in
    rw (p.1, p.2) (λ told. inl (c.in_err-statuses.ensures.cause (let is : c.in_err-statuses.field-0.0 ≡ Refused Device = cc in ap (λ (fault : FolderFault). Err fault) is)))

pub returns-clause-cause : goal.returns-clause-cause
returns-clause-cause g c = λ told. inr (c.write_lines.ensures.cause told, λ honest. (_, c.in_ok-statuses.ensures.found honest))
