use Rattle.std.proofs.Common.{◌≡◌, ◌∷◌, [], ◌<◌, Err, inl, inr, ⊎_elim, None, refl, sym, ap, subst, ◌∙◌, arith, rules, length}
use Rattle.catalog.specs.declared.catalog.Catalog.{Catalog}
use Rattle.catalog.specs.Catalogs.{remembered, per_ledger}
use Rattle.catalog.specs.Names.{number_of as place_of}
use Rattle.session.specs.Broker.{Broker, made as with_made, FindIn, IfFailed, number_of}
use Rattle.session.specs.declared.port.Found.{Found}
use Rattle.session.specs.declared.port.Found.TheVariants as found
use Rattle.node.specs.Standing.{broker_of, Fails}
use Rattle.node.specs.Passing.{count_is}
use Rattle.node.specs.Growing.{works_both}
use Rattle.node.proofs.Making.{works_same, same_parts}
use Rattle.node.proofs.topics.Topics.find_or_make.Goals as goal

pub returns-in-Err-clause-works : goal.returns-in-Err-clause-works
returns-in-Err-clause-works g c = c.settle.ensures.works (c.args.name.now ∷ [])

pub returns-in-Ok-Some-clause-works : goal.returns-in-Ok-Some-clause-works
returns-in-Ok-Some-clause-works g c =
    let disk = g.S.Shelf.disk in
    let plain = (c.find.ensures.plain c.in_default.ensures.sure).1 in
    let names = c.args.name.now ∷ [] in
    works_both disk names c.args.self.now c.settle.new.self _ (c.settle.ensures.works names) (works_same disk names c.settle.new.self _ refl plain.0 refl refl plain.1)

pub returns-then-is_full-clause-works : goal.returns-then-is_full-clause-works
returns-then-is_full-clause-works g c =
    let disk = g.S.Shelf.disk in
    let plain = (c.find.ensures.plain c.in_default.ensures.sure).1 in
    let names = c.args.name.now ∷ [] in
    works_both disk names c.args.self.now c.settle.new.self _ (c.settle.ensures.works names) (works_same disk names c.settle.new.self _ refl plain.0 refl refl plain.1)

pub returns-in-Ok-clause-step : goal.returns-in-Ok-clause-step
returns-in-Ok-clause-step g c = λ stands.
    let t = c.settle.new.self in
    let plain = (c.find.ensures.plain c.in_default.ensures.sure).1 in
    let b = broker_of t in
    let name = c.args.name.now in
    let here : place_of (remembered c.find.new.self) name ≡ None = search rules in
    let none : number_of b name ≡ None = ap (λ (k : Catalog). place_of (remembered k) name) (sym plain.0) ∙ here in
    let few : length (remembered c.find.new.self) < 64 = search rules in
    let room : length b.topics < 64 = omega (arith, few, ap (λ (k : Catalog). length (remembered k)) plain.0, t.named, count_is t) in
    let e = c.in-Ok.ensures in
    inr (
      b,
      c.in_default.ensures.settled stands,
      subst (λ there. FindIn there b name (found.Topic c.in-Ok.number) (broker_of c.make.new.self)) (sym none) (
        room,
        omega (arith, e.number.0, count_is t),
        e.made ∙ ap (λ (x : Broker). with_made x name) (same_parts (ap (λ (k : Catalog). per_ledger k) plain.0) refl (ap (λ (k : Catalog). remembered k) plain.0) refl refl),
      ),
    )

pub returns-in-Ok-clause-works : goal.returns-in-Ok-clause-works
returns-in-Ok-clause-works g c =
    let disk = g.S.Shelf.disk in
    let plain = (c.find.ensures.plain c.in_default.ensures.sure).1 in
    let names = c.args.name.now ∷ [] in
    works_both disk names c.args.self.now _ c.make.new.self (works_both disk names c.args.self.now c.settle.new.self _ (c.settle.ensures.works names) (works_same disk names c.settle.new.self _ refl plain.0 refl refl plain.1)) c.make.ensures.works

pub returns-in-Err-make-clause-works : goal.returns-in-Err-make-clause-works
returns-in-Err-make-clause-works g c =
    let disk = g.S.Shelf.disk in
    let plain = (c.find.ensures.plain c.in_default.ensures.sure).1 in
    let names = c.args.name.now ∷ [] in
    works_both disk names c.args.self.now _ c.make.new.self (works_both disk names c.args.self.now c.settle.new.self _ (c.settle.ensures.works names) (works_same disk names c.settle.new.self _ refl plain.0 refl refl plain.1)) c.make.ensures.works

pub returns-in-Err-make-clause-step : goal.returns-in-Err-make-clause-step
returns-in-Err-make-clause-step g c = λ stands.
    let t = c.settle.new.self in
    let plain = (c.find.ensures.plain c.in_default.ensures.sure).1 in
    let b = broker_of t in
    let name = c.args.name.now in
    let here : place_of (remembered c.find.new.self) name ≡ None = search rules in
    let none : number_of b name ≡ None = ap (λ (k : Catalog). place_of (remembered k) name) (sym plain.0) ∙ here in
    let few : length (remembered c.find.new.self) < 64 = search rules in
    let room : length b.topics < 64 = omega (arith, few, ap (λ (k : Catalog). length (remembered k)) plain.0, t.named, count_is t) in
    let made = broker_of c.make.new.self in
    let told = c.outage-in-Err-make.result in
    let e = c.outage-in-Err-make.ensures in
    inr (
      b,
      c.in_default.ensures.settled stands,
      subst (λ there. FindIn there b name told made) (sym none) (⊎_elim
          (λ memory. subst (λ r. FindIn None b name r made) (sym (e.memory memory.0)) (memory.1 ∙ same_parts (ap (λ (k : Catalog). per_ledger k) plain.0) refl (ap (λ (k : Catalog). remembered k) plain.0) refl refl))
          (λ device. subst (λ r. FindIn None b name r made) (sym (e.device device.0)) (room, ⊎_elim (λ still. inl (still ∙ same_parts (ap (λ (k : Catalog). per_ledger k) plain.0) refl (ap (λ (k : Catalog). remembered k) plain.0) refl refl)) (λ doubts. inr (doubts ∙ same_parts (ap (λ (k : Catalog). per_ledger k) plain.0) refl (ap (λ (k : Catalog). remembered k) plain.0) refl refl)) device.1))
          c.in-Err-make.ensures.refused),
    )

-- a failure has a cause where one that was told has
caused : (r : Found) (P : Type 0) → (r ≡ found.Failed → P) → IfFailed r P
caused (found.Topic number) P so = tt
caused found.TooMany P so = tt
caused found.NoMemory P so = tt
caused found.Failed P so = so refl

memory_isnt : (r : Found) → r ≡ found.NoMemory → r ≡ found.Failed → ⊥
memory_isnt r memory failed = let no : found.NoMemory ≡ found.Failed = sym memory ∙ failed in cc

pub returns-in-Err-make-clause-failed : goal.returns-in-Err-make-clause-failed
returns-in-Err-make-clause-failed g c =
    let disk = g.S.Shelf.disk in
    let plain = (c.find.ensures.plain c.in_default.ensures.sure).1 in
    let told = c.outage-in-Err-make.result in
    caused told (Fails disk c.args.self.now c.make.new.self) (λ failed stands. ⊎_elim
    (λ memory. absurd (memory_isnt told (c.outage-in-Err-make.ensures.memory memory.0) failed))
    (λ device. omega (arith, ((c.settle.ensures.works []).1 stands).faults, c.in-Err-make.ensures.cause (ap (λ e. Err e) device.0), ap (λ s. (disk s).faults) plain.1))
    c.in-Err-make.ensures.refused)
