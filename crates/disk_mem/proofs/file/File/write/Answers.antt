use Rattle.std.proofs.Common.{rules, ◌≡◌, sym, subst}
use Rattle.disk_mem.specs.FileState.{FileState, IsSound, after_write}
use Rattle.disk_mem.specs.Files.{state}
use Rattle.disk_mem.proofs.Sound.{sound_write}
use Rattle.disk_mem.proofs.file.File.write.Goals as goal

pub invariant_of-self-2-clause-sound : goal.invariant_of-self-2-clause-sound
invariant_of-self-2-clause-sound c =
    let new : FileState = record {
      bytes = c.overwrite.new.bytes.items;
      synced = c.reserve-2.new.self.items;
      written = c.push_reserved.new.self.items;
      least = c.args.self.now.least;
      greatest = c.max-greatest.result;
    } in
    let written : new ≡ after_write c.args.offset c.args.bytes.now (state c.args.self.now) = search rules in
    subst IsSound (sym written) (sound_write c.args.offset c.args.bytes.now (state c.args.self.now) c.requires c.args.self.now.sound)
