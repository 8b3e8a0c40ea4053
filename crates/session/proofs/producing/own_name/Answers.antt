use Rattle.std.proofs.Common.{arith, ap, length}
use Rattle.session.proofs.Names.{length-own_name}
use Rattle.session.proofs.producing.own_name.Goals as goal

pub new-requires : goal.new-requires
new-requires c = omega (arith, ap length c.in_ok-format.ensures.ok, length-own_name c.args.who c.args.producer_id c.ranges.who.fits c.ranges.producer_id.fits, c.in_ok-format.field-0.bytes.ok)
