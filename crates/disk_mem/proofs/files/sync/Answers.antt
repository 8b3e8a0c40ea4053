use Rattle.std.proofs.Common.{rules, sym}
use Rattle.std.specs.Prelude.{Some}
use Rattle.disk_mem.specs.FileState.{FileState, settled}
use Rattle.disk_mem.proofs.Keyed.{changes_at}
use Rattle.disk_mem.proofs.files.sync.Goals as goal

pub returns-in-Some : goal.returns-in-Some
returns-in-Some c =
    changes_at c.args.file (λ (was : FileState). settled was.bytes) (Some c.in-Some.kept.now) c.sync.new.self c.args.files.now (c.get_mut.follows.lender c.sync.new.self)
    (sym c.in-Some.ensures.value) (λ q. ((c.get_mut.follows.holds c.sync.new.self).3 (search rules)).0 q) c.sync.ensures
