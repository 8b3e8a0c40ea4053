use Rattle.std.proofs.Common.{rules, sym}
use Rattle.std.specs.Prelude.{Some}
use Rattle.disk_mem.specs.FileState.{after_cut}
use Rattle.disk_mem.proofs.Keyed.{changes_at}
use Rattle.disk_mem.proofs.files.cut.Goals as goal

pub returns-in-Some : goal.returns-in-Some
returns-in-Some c =
    changes_at c.args.file (after_cut c.args.len) (Some c.in-Some.kept.now) c.cut.new.self c.args.files.now (c.get_mut.follows.lender c.cut.new.self)
    (sym c.in-Some.ensures.value) (λ q. ((c.get_mut.follows.holds c.cut.new.self).3 (search rules)).0 q) c.cut.ensures
