use Rattle.std.proofs.Common.{ℕ, refl, subst}
use Rattle.std.specs.Prelude.{Option}
use Rattle.catalog.specs.Catalogs.{remembered}
use Rattle.topic_lock.specs.Finding.{NumberIn}
use Rattle.topic_lock.proofs.directory.SharedCatalog.find_or_make.Goals as goal

pub returns-in-Some-clause-named : goal.returns-in-Some-clause-named
returns-in-Some-clause-named g c =
    let names = remembered c.args.self.now.catalog in
    (names, subst (λ (o : Option ℕ). NumberIn o names c.args.name.now c.from.result names) c.in-Some.ensures.found (c.from.ensures, refl))
