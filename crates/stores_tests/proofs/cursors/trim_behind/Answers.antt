use Rattle.std.proofs.Common.{refl}
use Rattle.stores_tests.proofs.Trims.{one_left_behind}
use Rattle.stores_tests.proofs.cursors.trim_behind.Goals as goal

pub trim-requires-2 : goal.trim-requires-2
trim-requires-2 c =
    one_left_behind _ _ _ _ c.in_ok-trim.field-0 c.in-Some.trim _ _ c.args.start c.in-Some.is
    (c.in_ok-trim.ensures.prepared _ (c.args.changes.now, c.in_ok-prepared.ensures.prepared, refl)) (c.in_ok-append_prepared.ensures.replaces_left c.args.changes.now c.in_ok-prepared.ensures.prepared)
