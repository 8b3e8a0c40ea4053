use Rattle.disk_mem.proofs.Calls.{sync_seen, sync_time, sync_torn}
use Rattle.disk_mem.proofs.device.MemShelfShelf.sync.Goals as goal

pub returns-clause-seen : goal.returns-clause-seen
returns-clause-seen c = sync_seen c.args.file c.args.self.now c.sync_step.new.self c.sync_step.result c.sync_step.ensures.counted

pub returns-clause-time : goal.returns-clause-time
returns-clause-time c = λ honest. sync_time c.args.file c.args.self.now c.sync_step.new.self c.sync_step.result c.sync_step.ensures.counted c.sync_step.ensures.noted

pub returns-clause-torn : goal.returns-clause-torn
returns-clause-torn c = λ honest. sync_torn c.args.file c.args.self.now c.sync_step.new.self c.sync_step.result c.sync_step.ensures.counted
