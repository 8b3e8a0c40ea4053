use Rattle.std.proofs.Common.{◌∙◌, ap, sym, Some, rules}
use Rattle.std.proofs.lemmas.Result.{on_ok_weaker, on_err_weaker}
use Rattle.std.specs.FinMap as map
use Rattle.records.specs.Maps.{map_of}
use Rattle.records.specs.Records.{acknowledged}
use Rattle.records.proofs.Maps.{inserted, put_back_at, changed_there, changed_absent}
use Rattle.records.proofs.kept.acknowledge_at.Goals as goal

pub returns-in-Some-clause-ok : goal.returns-in-Some-clause-ok
returns-in-Some-clause-ok c =
    on_ok_weaker c.acknowledge.result (λ is.
    inserted c.args.cursors.now (c.get_mut.follows.lender c.acknowledge.new.self) c.args.name.now c.acknowledge.new.self ((c.get_mut.follows.holds c.acknowledge.new.self).3 (search rules))
    ∙ ap (λ s. map.insert (map_of c.args.cursors.now.entries) c.args.name.now s) is
    ∙ sym (changed_there c.args.cursors.now.entries c.args.name.now _ (acknowledged c.args.change.now) (sym c.in-Some.ensures.value))) c.acknowledge.ensures.ok

pub returns-in-Some-clause-err : goal.returns-in-Some-clause-err
returns-in-Some-clause-err c =
    on_err_weaker c.acknowledge.result (λ is.
    put_back_at c.args.cursors.now (c.get_mut.follows.lender c.acknowledge.new.self) c.args.name.now c.acknowledge.new.self ((c.get_mut.follows.holds c.acknowledge.new.self).3 (search rules)) (ap Some is ∙ c.in-Some.ensures.value)) c.acknowledge.ensures.err

pub returns-in-None-clause-ok : goal.returns-in-None-clause-ok
returns-in-None-clause-ok c =
    ap (λ m. map_of m.entries) c.get_mut.follows.holds-at-none ∙ sym (changed_absent c.args.cursors.now.entries c.args.name.now (acknowledged c.args.change.now) (sym c.in-None.ensures.value))
