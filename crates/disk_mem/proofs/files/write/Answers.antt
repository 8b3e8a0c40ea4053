use Rattle.std.proofs.Common.{rules, sym, ◌∙◌, ap, subst}
use Rattle.std.specs.Prelude.{Some, None}
use Rattle.std.specs.HashMap.{get}
use Rattle.disk_mem.specs.FileState.{after_write}
use Rattle.disk_mem.specs.Files.{Files, state_at, FileChanges}
use Rattle.disk_mem.specs.SameFile.{same_file}
use Rattle.disk_mem.proofs.Keyed.{changes_at, none_changes_at, on_ok, on_err}
use Rattle.disk_mem.proofs.files.write.Goals as goal

pub returns-in-Some-clause-ok : goal.returns-in-Some-clause-ok
returns-in-Some-clause-ok c = on_ok c.write.result _ _ (changes_at c.args.file (after_write c.args.offset c.args.bytes.now) (Some c.in-Some.kept.now) c.write.new.self c.args.files.now (c.get_mut.follows.lender c.write.new.self)
    (sym c.in-Some.ensures.value) (λ q. ((c.get_mut.follows.holds c.write.new.self).3 (search rules)).0 q)) c.write.ensures.ok

pub returns-in-Some-clause-err : goal.returns-in-Some-clause-err
returns-in-Some-clause-err c = on_err c.write.result _ _ (none_changes_at c.args.file (Some c.in-Some.kept.now) c.write.new.self c.args.files.now (c.get_mut.follows.lender c.write.new.self)
    (sym c.in-Some.ensures.value) (λ q. ((c.get_mut.follows.holds c.write.new.self).3 (search rules)).0 q)) c.write.ensures.err

pub returns-clause-ok : goal.returns-clause-ok
returns-clause-ok c =
    let same = c.get_mut.follows.holds-at-none in
    let old = c.get_mut.follows.lender-at-none in
    subst (λ (m : Files). FileChanges c.args.file (after_write c.args.offset c.args.bytes.now) (state_at m) (state_at c.insert.new.self)) same
    (changes_at c.args.file (after_write c.args.offset c.args.bytes.now) None c.write-2.new.self old c.insert.new.self
    (ap (λ (m : Files). get same_file m c.args.file) same ∙ sym c.in_default.ensures.value) (λ q. c.in_ok-insert.ensures.updates.0 q)
    (c.in_ok-write.ensures.ok ∙ ap (after_write c.args.offset c.args.bytes.now) c.new-made.ensures))
