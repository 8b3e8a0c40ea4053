use Rattle.std.proofs.Common.{◌≡◌, ℕ, None, refl, sym, subst, ◌∙◌}
use Rattle.std.specs.Prelude.{Option}
use Rattle.catalog.specs.Names.{number_of}
use Rattle.catalog.specs.Catalogs.{remembered}
use Rattle.topic_lock.specs.Finding.{NumberIn}
use Rattle.topic_lock.proofs.directory.SharedCatalog.find_new.Goals as goal

pub returns-in-Some-clause-named : goal.returns-in-Some-clause-named
returns-in-Some-clause-named g c =
    let names = remembered c.settle.new.self.catalog in
    (names, subst (λ (o : Option ℕ). NumberIn o names c.args.name.now c.from.result names) c.in-Some.ensures.found (c.from.ensures, refl))

pub returns-clause-named : goal.returns-clause-named
returns-clause-named g c =
    let names = remembered c.settle.new.self.catalog in
    let none : None ≡ number_of names c.args.name.now = sym c.in_default.is ∙ c.number.ensures.found in
    (names, subst (λ (o : Option ℕ). NumberIn o names c.args.name.now c.in_ok-number.number (remembered c.make.new.self.catalog)) none c.in_ok-number.ensures.named)
