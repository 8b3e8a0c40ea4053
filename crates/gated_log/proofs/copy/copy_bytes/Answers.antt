use Rattle.std.proofs.Common.{◌≡◌, ℕ, List, length, ap, arith}
use Rattle.disk.specs.Areas.{both_within}
use Rattle.gated_log.proofs.Parts.{copied_on}
use Rattle.gated_log.proofs.copy.copy_bytes.Goals as goal

pub parts-preserved : goal.parts-preserved
parts-preserved g c =
    let i = c.parts.invariant in (
      omega arith,
      record {
        faults = omega (arith, i.1.faults, c.copy_part.ensures.kept.faults);
        honest = λ h. c.copy_part.ensures.kept.honest (i.1.honest h);
        not_honest = λ h. i.1.not_honest (c.copy_part.ensures.kept.not_honest h);
      },
      λ honest. both_within _ _ _ _ _ _ _ (λ image p. p) (λ image p. p) (i.2 honest) (c.copy_part.ensures.others (i.1.honest honest)),
      λ honest fits.
          let before = i.3 honest fits in
          let same : length ((g.S.Shelf.disk c.parts.shelf).seen c.args.from) ≡ length ((g.S.Shelf.disk c.args.shelf.now).seen c.args.from) = ap (λ (l : List ℕ). length l) (before.elsewhere c.args.from c.requires.other) in
          copied_on _ _ _ _ _ _ _ _ c.requires.other before (c.in_ok-copy_part.ensures.copied (i.1.honest honest) (omega (arith, same, fits))),
    )
