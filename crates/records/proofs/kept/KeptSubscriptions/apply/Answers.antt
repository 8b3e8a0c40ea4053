use Rattle.std.proofs.Common.{◌≡◌, ◌^◌, ◌∙◌, ap, sym, subst}
use Rattle.std.proofs.lemmas.Result.{on_ok_weaker, on_err_weaker}
use Rattle.std.specs.FinMap as map
use Rattle.cursor.specs.Positions.{below}
use Rattle.records.specs.declared.record.Record.{Record}
use Rattle.records.specs.declared.record.Record.TheVariants.{Made, Removed, Acknowledged, AcknowledgedThrough, AcknowledgedRange}
use Rattle.records.specs.Maps.{Kept, map_of, IsSound}
use Rattle.records.specs.Records.{IsFormed, after, changed, acknowledged}
use Rattle.records.proofs.Sound.{sound_after, either_sound}
use Rattle.records.proofs.kept.KeptSubscriptions.apply.Goals as goal

-- the record that was taken, at the fields
at_fields : (old now : Kept) (change r : Record) → old ≡ now → change ≡ r → IsFormed (2 ^ 62) now change → IsFormed (2 ^ 62) old r
at_fields old now change r view is formed = subst (λ (k : Kept). IsFormed (2 ^ 62) k r) (sym view) (subst (λ (x : Record). IsFormed (2 ^ 62) now x) is formed)

pub invariant_of-self : goal.invariant_of-self
invariant_of-self c =
    let old = map_of c.self.inside.cursors.entries in
    let r = Made c.in-Made.name c.in-Made.start in
    either_sound c.make.result old (map_of c.make.new.cursors.entries) (after r old)
    (on_ok_weaker c.make.result (λ e. e ∙ ap (λ n. map.insert old n (below c.in-Made.start)) c.as_str.ensures) c.make.ensures.ok)
    (on_err_weaker c.make.result (λ e. ap map_of e) c.make.ensures.err)
    (sound_after (2 ^ 62) old r (at_fields old c.args.self.now c.args.change.now r c.self.view_is c.in-Made.is c.requires) c.self.invariant) c.self.invariant

pub invariant_of-self-in-Removed : goal.invariant_of-self-in-Removed
invariant_of-self-in-Removed c =
    let old = map_of c.self.inside.cursors.entries in
    let r = Removed c.in-Removed.name in
    subst (λ (k : Kept). IsSound k) (sym (c.remove.ensures ∙ ap (λ n. map.remove old n) c.as_str-in-Removed.ensures))
    (sound_after (2 ^ 62) old r (at_fields old c.args.self.now c.args.change.now r c.self.view_is c.in-Removed.is c.requires) c.self.invariant)

pub invariant_of-self-in-Acknowledged : goal.invariant_of-self-in-Acknowledged
invariant_of-self-in-Acknowledged c =
    let old = map_of c.self.inside.cursors.entries in
    let r = Acknowledged c.in-Acknowledged.name c.in-Acknowledged.position in
    either_sound c.acknowledge_at.result old (map_of c.acknowledge_at.new.cursors.entries) (after r old)
    (on_ok_weaker c.acknowledge_at.result (λ e. e ∙ (λ i. changed old (c.as_str-in-Acknowledged.ensures i) (acknowledged (c.in-Acknowledged.is i)))) c.acknowledge_at.ensures.ok) c.acknowledge_at.ensures.err
    (sound_after (2 ^ 62) old r (at_fields old c.args.self.now c.args.change.now r c.self.view_is c.in-Acknowledged.is c.requires) c.self.invariant) c.self.invariant

pub invariant_of-self-in-AcknowledgedThrough : goal.invariant_of-self-in-AcknowledgedThrough
invariant_of-self-in-AcknowledgedThrough c =
    let old = map_of c.self.inside.cursors.entries in
    let r = AcknowledgedThrough c.in-AcknowledgedThrough.name c.in-AcknowledgedThrough.position in
    let call = c.acknowledge_at-in-AcknowledgedThrough in
    either_sound call.result old (map_of call.new.cursors.entries) (after r old)
    (on_ok_weaker call.result (λ e. e ∙ (λ i. changed old (c.as_str-in-AcknowledgedThrough.ensures i) (acknowledged (c.in-AcknowledgedThrough.is i)))) call.ensures.ok) call.ensures.err
    (sound_after (2 ^ 62) old r (at_fields old c.args.self.now c.args.change.now r c.self.view_is c.in-AcknowledgedThrough.is c.requires) c.self.invariant) c.self.invariant

pub invariant_of-self-in-AcknowledgedRange : goal.invariant_of-self-in-AcknowledgedRange
invariant_of-self-in-AcknowledgedRange c =
    let old = map_of c.self.inside.cursors.entries in
    let r = AcknowledgedRange c.in-AcknowledgedRange.name c.in-AcknowledgedRange.first c.in-AcknowledgedRange.last in
    let call = c.acknowledge_at-in-AcknowledgedRange in
    either_sound call.result old (map_of call.new.cursors.entries) (after r old)
    (on_ok_weaker call.result (λ e. e ∙ (λ i. changed old (c.as_str-in-AcknowledgedRange.ensures i) (acknowledged (c.in-AcknowledgedRange.is i)))) call.ensures.ok) call.ensures.err
    (sound_after (2 ^ 62) old r (at_fields old c.args.self.now c.args.change.now r c.self.view_is c.in-AcknowledgedRange.is c.requires) c.self.invariant) c.self.invariant
