use Rattle.disk_mem.specs.declared.shelf.MemShelf.{MemShelf}
use Rattle.disk_mem.proofs.Calls.{crash_time}
use Rattle.disk_mem.proofs.crash.MemShelfCrashShelf.crash.Goals as goal

pub returns-clause-time : goal.returns-clause-time
returns-clause-time c = λ honest.
    let new : MemShelf = record c.args.self.now { files = c.crash.new.files; fuses = c.crash-2.new.self; past = c.and-self.result } in
    crash_time c.args.self.now.fuses.form c.args.self.now new c.and-self.ensures c.crash.ensures
