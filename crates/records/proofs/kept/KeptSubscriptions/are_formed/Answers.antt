use Rattle.std.proofs.Common.{◌≡◌, ◌+◌, ap, sym, subst, ◌∙◌, drop, Bool, ◌∷◌}
use Rattle.std.proofs.lemmas.List.{drop_more}
use Rattle.std.specs.Bool.{MatchBool}
use Rattle.records.specs.declared.record.Record.{Record}
use Rattle.records.specs.Records.{IsFormed, AreFormed, after}
use Rattle.records.specs.Present.{AreNamesOf, texts}
use Rattle.records.proofs.Present.{formed_behind}
use Rattle.records.proofs.kept.KeptSubscriptions.are_formed.Goals as goal

pub loop-change-preserved : goal.loop-change-preserved
loop-change-preserved c =
    let inv = c.loop-change.invariant in
    let change = c.change-item.result in
    let changes = c.args.changes.now in
    let at = c.loop-change.change-index in
    let passed = subst (λ (b : Bool). MatchBool b (IsFormed c.args.entries inv.0 change × AreNamesOf (after change inv.0) (texts c.pass.new.self)) (¬ IsFormed c.args.entries inv.0 change)) c.if-not-pass.false (c.pass.ensures inv.0 inv.1) in
    let more : drop at changes ≡ change ∷ drop (at + 1) changes = drop_more changes at change c.loop-change-test.true ∙ ap (λ (r : Record). r ∷ drop (at + 1) changes) (sym c.change-item.is) in
    (after change inv.0, passed.1, formed_behind c.args.entries inv.0 change (drop at changes) (drop (at + 1) changes) (AreFormed c.args.entries c.args.self.now changes) more passed.0 inv.2)
