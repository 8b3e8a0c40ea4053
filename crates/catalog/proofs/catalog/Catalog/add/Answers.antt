use Rattle.std.proofs.Common.{inr, ℕ, List, [], ◌∷◌, ◌++◌, refl, ◌∙◌, ap, subst, Err}
use Rattle.std.proofs.lemmas.Result.{err_from_is_err_and}
use Rattle.gated_log.specs.declared.prepare_error.PrepareError.{PrepareError}
use Rattle.gated_log.specs.Logs.{IsBatchOf}
use Rattle.disk.specs.Contents.{at_ok, at_err}
use Rattle.catalog.specs.Names.{Names}
use Rattle.catalog.specs.Catalogs.{remembered}
use Rattle.catalog.proofs.Adding.{body_is, next_name, no_memory, names_are, label_is, ledgers_are, file_is, log_settled, added, in_doubt, within, unasked, others, stays}
use Rattle.catalog.proofs.catalog.Catalog.add.Goals as goal

pub returns-in_err-prepared-clause-no_memory : goal.returns-in_err-prepared-clause-no_memory
returns-in_err-prepared-clause-no_memory g c = λ is. (stays c.args.self.now _ refl c.reserve.ensures.keys, (refl, refl))

pub returns-in_err-prepared-clause-refusals : goal.returns-in_err-prepared-clause-refusals
returns-in_err-prepared-clause-refusals g c =
    let p = err_from_is_err_and c.from_residual-in_err-prepared.result c.from_residual-in_err-prepared.ensures.1 in
    let name_is = body_is c.in_ok-builder.builder c.extend_from_slice.new.self c.as_bytes-body.result.now c.as_str.result.now c.args.name c.in_ok-builder.ensures c.in_ok-extend_from_slice.ensures.extended c.as_bytes-body.ensures.value c.as_str.ensures.text in
    let next = next_name (remembered c.args.self.now) c.as_str.result.now c.args.name c.as_str.ensures.text c.as_str.ensures.good c.requires.new c.requires.room in
    rw (p.1) (inr (p.2 ∙ no_memory c.in_err-prepared.field-0.0 (remembered c.args.self.now) c.args.name c.extend_from_slice.new.self next name_is (λ large. c.in_err-prepared.ensures.too_large.0 (ap (λ (e : PrepareError). Err e) large))))

pub returns-in_err-reserve-clause-appends : goal.returns-in_err-reserve-clause-appends
returns-in_err-reserve-clause-appends g c = λ names s. unasked c.from_residual.result _ c.from_residual.ensures.1 c.args.self.now (g.S.Shelf.disk c.args.shelf.now) names _ s

pub returns-in_err-builder-clause-appends : goal.returns-in_err-builder-clause-appends
returns-in_err-builder-clause-appends g c = λ names s. unasked c.from_residual-in_err-builder.result _ c.from_residual-in_err-builder.ensures.1 c.args.self.now (g.S.Shelf.disk c.args.shelf.now) names _ s

pub returns-in_err-extend_from_slice-clause-appends : goal.returns-in_err-extend_from_slice-clause-appends
returns-in_err-extend_from_slice-clause-appends g c = λ names s. unasked c.from_residual-in_err-extend_from_slice.result _ c.from_residual-in_err-extend_from_slice.ensures.1 c.args.self.now (g.S.Shelf.disk c.args.shelf.now) names _ s

pub returns-in_err-prepared-clause-appends : goal.returns-in_err-prepared-clause-appends
returns-in_err-prepared-clause-appends g c = λ names s. unasked c.from_residual-in_err-prepared.result _ c.from_residual-in_err-prepared.ensures.1 c.args.self.now (g.S.Shelf.disk c.args.shelf.now) names _ s

pub returns-in_err-append_prepared-clause-appends : goal.returns-in_err-append_prepared-clause-appends
returns-in_err-append_prepared-clause-appends g c = λ names s.
    let name_is = body_is c.in_ok-builder.builder c.extend_from_slice.new.self c.as_bytes-body.result.now c.as_str.result.now c.args.name c.in_ok-builder.ensures c.in_ok-extend_from_slice.ensures.extended c.as_bytes-body.ensures.value c.as_str.ensures.text in
    let next = next_name (remembered c.args.self.now) c.as_str.result.now c.args.name c.as_str.ensures.text c.as_str.ensures.good c.requires.new c.requires.room in
    let is_for = subst (λ (b : List ℕ). IsBatchOf c.in_ok-prepared.prepared b) name_is c.in_ok-prepared.ensures.built in
    let d0 = g.S.Shelf.disk c.args.shelf.now in
    let d1 = g.S.Shelf.disk c.append_prepared.new.shelf in
    let log = c.in_err-append_prepared.ensures.appends names c.args.name is_for (log_settled c.args.self.now d0 names s) in
    at_err c.from_residual-in_err-append_prepared.result _ c.from_residual-in_err-append_prepared.ensures.1
    (in_doubt c.args.self.now c.args.self.now.log c.append_prepared.new.self c.args.name d0 d1 names next refl s (log.in_doubt refl))
    (within c.args.self.now c.args.self.now.log c.args.name d0 d1 names next refl s log.within)

pub returns-in_err-append_prepared-clause-others : goal.returns-in_err-append_prepared-clause-others
returns-in_err-append_prepared-clause-others g c = λ honest.
    others c.args.self.now c.args.self.now.log (g.S.Shelf.disk c.args.shelf.now) (g.S.Shelf.disk c.append_prepared.new.shelf) refl (c.append_prepared.ensures.others honest)

pub invariant_of-self-2 : goal.invariant_of-self-2
invariant_of-self-2 g c =
    let next = next_name (remembered c.args.self.now) c.as_str.result.now c.args.name c.as_str.ensures.text c.as_str.ensures.good c.requires.new c.requires.room in
    let id = c.append_prepared.ensures.id in
    record {
      are = names_are c.args.self.now c.put.new.names.keys c.args.name next (c.put.ensures.names ∙ ap (λ (l : Names). l ++ c.args.name ∷ []) c.reserve.ensures.keys);
      alone = label_is c.args.self.now c.append_prepared.new.self id;
      ledgers = ledgers_are c.args.self.now c.append_prepared.new.self id;
      file = file_is c.args.self.now c.append_prepared.new.self id;
    }

pub returns-clause-appends : goal.returns-clause-appends
returns-clause-appends g c = λ names s.
    let name_is = body_is c.in_ok-builder.builder c.extend_from_slice.new.self c.as_bytes-body.result.now c.as_str.result.now c.args.name c.in_ok-builder.ensures c.in_ok-extend_from_slice.ensures.extended c.as_bytes-body.ensures.value c.as_str.ensures.text in
    let next = next_name (remembered c.args.self.now) c.as_str.result.now c.args.name c.as_str.ensures.text c.as_str.ensures.good c.requires.new c.requires.room in
    let is_for = subst (λ (b : List ℕ). IsBatchOf c.in_ok-prepared.prepared b) name_is c.in_ok-prepared.ensures.built in
    let d0 = g.S.Shelf.disk c.args.shelf.now in
    let d1 = g.S.Shelf.disk c.append_prepared.new.shelf in
    let log = c.in_ok-append_prepared.ensures.appends names c.args.name is_for (log_settled c.args.self.now d0 names s) in
    at_ok
    (added c.args.self.now _ c.args.name d0 d1 names (c.put.ensures.names ∙ ap (λ (l : Names). l ++ c.args.name ∷ []) c.reserve.ensures.keys) s log.added)
    (within c.args.self.now c.args.self.now.log c.args.name d0 d1 names next refl s log.within)

pub returns-clause-others : goal.returns-clause-others
returns-clause-others g c = λ honest.
    others c.args.self.now c.args.self.now.log (g.S.Shelf.disk c.args.shelf.now) (g.S.Shelf.disk c.append_prepared.new.shelf) refl (c.append_prepared.ensures.others honest)
