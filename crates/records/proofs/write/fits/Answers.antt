use Rattle.std.proofs.Common.{ap, length, arith}
use Rattle.std.proofs.lemmas.List.Folds.{length-flat_map-take}
use Rattle.records.specs.Bytes.{spelling}
use Rattle.records.proofs.write.fits.Goals as goal

pub returns-then-size-most : goal.returns-then-size-most
returns-then-size-most c =
    let long = length-flat_map-take spelling c.args.records.now c.loop-change.change-index c.change-item.result c.loop-change-test.true in
    let this = ap (λ r. length (spelling r)) c.change-item.is in
    (λ t. absurd cc, λ low. absurd (omega (arith, low, long, this, c.size_of-size.ensures.size, c.loop-change.invariant.size, c.if-size-most.true)))
