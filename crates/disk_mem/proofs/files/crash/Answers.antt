use Rattle.std.proofs.Common.{rules}
use Rattle.disk_mem.specs.SameFile.{same_file}
use Rattle.disk_mem.proofs.Retained.{all_crash}
use Rattle.disk_mem.proofs.files.crash.Goals as goal

pub returns : goal.returns
returns c = λ f. all_crash _ c.args.form _ (λ k v b w f' t. search rules) (same_file f) _ _ c.retain.ensures.filtered
