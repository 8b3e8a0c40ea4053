use Rattle.std.proofs.Common.{subst, Option, ℕ}
use Rattle.records.specs.Present.{texts}
use Rattle.records.proofs.Present.{is_removed, IsPlaceOf}
use Rattle.records.proofs.name_set.Names.remove.Goals as goal

pub returns : goal.returns
returns c = λ kept are.
    is_removed kept c.args.self.now.names.items _ c.in-Some.place c.args.name.now are
    (subst (λ (o : Option ℕ). IsPlaceOf c.args.name.now (texts c.args.self.now) o) c.in-Some.is c.place_of.ensures) c.remove.ensures.items
