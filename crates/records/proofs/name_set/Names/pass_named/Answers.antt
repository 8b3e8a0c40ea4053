use Rattle.std.proofs.Common.{◌≡◌, true, ap, sym, subst, ◌∙◌}
use Rattle.std.specs.Bool.{MatchBool}
use Rattle.std.specs.FinMap as map
use Rattle.records.specs.declared.record.Record.{Record}
use Rattle.records.specs.declared.record.Record.TheVariants.{Acknowledged, AcknowledgedThrough, AcknowledgedRange}
use Rattle.records.specs.Names.{is_subscription_name}
use Rattle.records.specs.Records.{IsFormed, after, acknowledged, name_of}
use Rattle.records.specs.Present.{AreNamesOf, texts}
use Rattle.records.proofs.Present.{passed, names_stay}
use Rattle.records.proofs.name_set.Names.pass_named.Goals as goal

pub returns-then-position-entries : goal.returns-then-position-entries
returns-then-position-entries c = λ kept are.
    let r = Acknowledged c.in-Acknowledged.name c.in-Acknowledged.position in
    let names = texts c.args.self.now in
    let good = subst (λ (x : Record). is_subscription_name (name_of x) ≡ true) c.in-Acknowledged.is c.requires in
    subst (λ (x : Record). MatchBool c.has.result (IsFormed c.args.entries kept x × AreNamesOf (after x kept) names) (¬ IsFormed c.args.entries kept x)) (sym c.in-Acknowledged.is)
    (passed c.args.entries kept r names c.has.result good (c.has.ensures kept are ∙ ap (λ n. map.contains_key kept n) c.as_str-then-position-entries.ensures) (λ there. (there, c.if-position-entries.true)) (λ placed. placed.0)
    (names_stay kept names c.in-Acknowledged.name (acknowledged r) are))

pub returns-then-position-entries-2 : goal.returns-then-position-entries-2
returns-then-position-entries-2 c = λ kept are.
    let r = AcknowledgedThrough c.in-AcknowledgedThrough.name c.in-AcknowledgedThrough.position in
    let names = texts c.args.self.now in
    let good = subst (λ (x : Record). is_subscription_name (name_of x) ≡ true) c.in-AcknowledgedThrough.is c.requires in
    subst (λ (x : Record). MatchBool c.has-then-position-entries-2.result (IsFormed c.args.entries kept x × AreNamesOf (after x kept) names) (¬ IsFormed c.args.entries kept x)) (sym c.in-AcknowledgedThrough.is)
    (passed c.args.entries kept r names c.has-then-position-entries-2.result good (c.has-then-position-entries-2.ensures kept are ∙ ap (λ n. map.contains_key kept n) c.as_str-then-position-entries-2.ensures) (λ there. (there, c.if-position-entries-2.true)) (λ placed. placed.0)
    (names_stay kept names c.in-AcknowledgedThrough.name (acknowledged r) are))

pub returns-then-last-entries : goal.returns-then-last-entries
returns-then-last-entries c = λ kept are.
    let r = AcknowledgedRange c.in-AcknowledgedRange.name c.in-AcknowledgedRange.first c.in-AcknowledgedRange.last in
    let names = texts c.args.self.now in
    let good = subst (λ (x : Record). is_subscription_name (name_of x) ≡ true) c.in-AcknowledgedRange.is c.requires in
    subst (λ (x : Record). MatchBool c.has-then-last-entries.result (IsFormed c.args.entries kept x × AreNamesOf (after x kept) names) (¬ IsFormed c.args.entries kept x)) (sym c.in-AcknowledgedRange.is)
    (passed c.args.entries kept r names c.has-then-last-entries.result good (c.has-then-last-entries.ensures kept are ∙ ap (λ n. map.contains_key kept n) c.as_str-then-last-entries.ensures) (λ there. (there, c.if-last-first.false, c.if-last-entries.true)) (λ placed. placed.0)
    (names_stay kept names c.in-AcknowledgedRange.name (acknowledged r) are))
