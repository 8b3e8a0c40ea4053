use Rattle.std.proofs.lemmas.Result.{err_from_is_err_and, on_ok_weaker}
use Rattle.folder.proofs.Upgraded.{upgrades_by, fault_by}
use Rattle.folder.proofs.upgrading.upgrade_on.Goals as goal

pub returns-clause-upgrades : goal.returns-clause-upgrades
returns-clause-upgrades g c = λ honest.
    let u = c.in_ok-upgraded.upgraded in
    let became = upgrades_by (g.S.Shelf.disk c.args.shelf.now) (g.S.Shelf.disk c.upgrade.new.shelf) u (c.in_ok-upgraded.ensures.found honest) (c.in_ok-upgraded.ensures.already honest) in
    on_ok_weaker c.write_line.result (λ line. (u, became, line)) c.write_line.ensures.line

pub returns-in_err-upgraded-clause-refused : goal.returns-in_err-upgraded-clause-refused
returns-in_err-upgraded-clause-refused g c =
    let p = err_from_is_err_and c.from_residual.result c.from_residual.ensures.1 in
    rw (p.1, p.2) (λ honest. fault_by (g.S.Shelf.disk c.args.shelf.now).seen c.in_err-upgraded.field-0.0 (c.in_err-upgraded.ensures.refused honest))
