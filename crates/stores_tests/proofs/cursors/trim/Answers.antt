use Rattle.std.proofs.Common.{refl}
use Rattle.stores_tests.proofs.Trims.{one_left}
use Rattle.stores_tests.proofs.cursors.trim.Goals as goal

pub trim-requires : goal.trim-requires
trim-requires c = one_left _ _ c.in_ok-trim.field-0 c.in-Some.trim _ _ c.args.start c.in-Some.is (c.in_ok-trim.ensures.prepared _ refl)
