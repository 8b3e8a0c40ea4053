use Rattle.std.proofs.Common.{◌≡◌, ◌∙◌, ℕ, List, ap, sym, subst, take, arith, Err}
use Rattle.std.specs.Prelude.{Some, slice_get}
use Rattle.std.proofs.lemmas.Option.{slice_get_within}
use Rattle.std.proofs.lemmas.Result.{err_from_is_err_and}
use Rattle.names.specs.Names.{is_topic_name}
use Rattle.gated_log.specs.Wholes.{Builds}
use Rattle.gated_log.specs.declared.prepare_error.PrepareError.{PrepareError}
use Rattle.gated_log.specs.declared.prepare_error.PrepareError.TheVariants.{TooLarge}
use Rattle.catalog.specs.Names.{Names}
use Rattle.catalog.proofs.Copying.{one_more, short}
use Rattle.catalog.proofs.old.OldCatalog.prepare.Goals as goal

pub returns-in_err-more-clause-fits : goal.returns-in_err-more-clause-fits
returns-in_err-more-clause-fits c = λ large.
    let p = err_from_is_err_and c.from_residual-in_err-more.result c.from_residual-in_err-more.ensures.1 in
    let same : p.0 ≡ TooLarge = let both = sym p.1 ∙ large in cc both in
    short c.as_bytes.result.now (ap is_topic_name c.as_bytes.ensures.value ∙ c.as_str.ensures.good) (c.in_err-more.ensures.too_large.0 (ap (λ (e : PrepareError). Err e) (sym p.2 ∙ same)))

pub names-preserved : goal.names-preserved
names-preserved c =
    let keys = c.args.self.now.names.keys in
    let body = c.as_bytes.result.now in
    let there : slice_get keys c.names.place ≡ Some body = sym c.in-Some.ensures.key ∙ ap (λ (l : List ℕ). Some l) (sym (c.as_bytes.ensures.value ∙ c.as_str.ensures.text)) in (
      omega (arith, slice_get_within keys c.names.place body there),
      c.in_ok-more.ensures.folder ∙ c.names.invariant.1,
      subst (λ (l : Names). Builds c.in_ok-more.more l) (one_more keys c.names.place body there) (c.in_ok-more.ensures.grown (take c.names.place keys) c.names.invariant.2),
    )
