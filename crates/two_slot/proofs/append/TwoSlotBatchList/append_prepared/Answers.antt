use Rattle.std.proofs.Common.{refl}
use Rattle.disk.specs.Contents.{at_ok, at_err}
use Rattle.two_slot.proofs.Appending.{log_settled, append_within, append_doubt, append_settled}
use Rattle.two_slot.proofs.append.TwoSlotBatchList.append_prepared.Goals as goal

pub returns-in_err-append_prepared-clause-appends : goal.returns-in_err-append_prepared-clause-appends
returns-in_err-append_prepared-clause-appends g c = λ bodies body batch s.
    let d0 = g.S.Shelf.disk c.args.shelf.now in
    let log = c.in_err-append_prepared.ensures.appends bodies body batch (log_settled c.args.self.now d0 bodies s) in
    at_err c.from_residual.result _ c.from_residual.ensures.1 (append_doubt c.args.self.now c.append_prepared.new.self d0 _ bodies body s log.within (log.in_doubt refl)) (append_within c.args.self.now d0 _ bodies body s log.within)

pub returns-clause-appends : goal.returns-clause-appends
returns-clause-appends g c = λ bodies body batch s.
    let d0 = g.S.Shelf.disk c.args.shelf.now in
    let log = c.in_ok-append_prepared.ensures.appends bodies body batch (log_settled c.args.self.now d0 bodies s) in
    at_ok (append_settled c.args.self.now _ d0 _ bodies _ refl refl refl refl c.append_prepared.ensures.id s (c.append_prepared.ensures.others s.honest) log.added) (append_within c.args.self.now d0 _ bodies body s log.within)

pub returns-in_err-append_prepared-clause-remembered : goal.returns-in_err-append_prepared-clause-remembered
returns-in_err-append_prepared-clause-remembered g c = λ failed image. c.in_err-append_prepared.ensures.remembered refl image
