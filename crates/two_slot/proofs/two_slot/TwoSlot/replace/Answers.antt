use Rattle.std.proofs.Common.{◌∙◌, ap, refl}
use Rattle.disk.specs.Areas.{weaken_within}
use Rattle.disk.specs.Contents.{at_ok, at_err}
use Rattle.gated_log.specs.declared.label.Label.{Label}
use Rattle.gated_log.specs.declared.log_id.LogId.{LogId}
use Rattle.two_slot.specs.TwoSlots.{generation_of}
use Rattle.two_slot.proofs.Replacing.{labelled, all_within, closing_within, written_within, doubt, replaced, slot_alone, both_alone, closing_at, writing_at, spare_at}
use Rattle.two_slot.proofs.two_slot.TwoSlot.replace.Goals as goal

pub returns-in_err-close-clause-replaces : goal.returns-in_err-close-clause-replaces
returns-in_err-close-clause-replaces g c = λ old new is s.
    let slots = c.args.self.now in
    let d0 = g.S.Shelf.disk c.args.shelf.now in
    let d1 = g.S.Shelf.disk c.close.new.shelf in
    let honest1 = c.close.ensures.kept.honest s.honest in
    let w1 = closing_at slots c.other_of-slot.result d0 d1 c.other_of-slot.ensures
    (c.close.ensures.within (generation_of slots) s.honest (λ i may. spare_at slots c.other_of-slot.result i old c.other_of-slot.ensures (s.left i may))) in
    let w = closing_within slots old new c.args.start c.requires.generation d0 s d1 w1 in
    at_err c.from_residual.result _ c.from_residual.ensures.1 (doubt slots old new c.args.start c.requires.generation d0 s d1 honest1 (g.met.S.Shelf.lawful c.close.new.shelf honest1) w) (all_within slots old new c.args.start c.requires.generation d0 s d1 w)

pub returns-in_err-close-clause-others : goal.returns-in_err-close-clause-others
returns-in_err-close-clause-others g c = λ honest. slot_alone _ c.other_of-slot.result _ _ (c.close.ensures.others honest)

pub returns-in_err-self-clause-replaces : goal.returns-in_err-self-clause-replaces
returns-in_err-self-clause-replaces g c = λ old new is s.
    let slots = c.args.self.now in
    let d0 = g.S.Shelf.disk c.args.shelf.now in
    let d1 = g.S.Shelf.disk c.close.new.shelf in
    let d2 = g.S.Shelf.disk c.overwrite.new.shelf in
    let honest1 = c.close.ensures.kept.honest s.honest in
    let honest2 = c.overwrite.ensures.kept.honest honest1 in
    let slot_is = c.other_of-slot.ensures in
    let w1 = closing_at slots c.other_of-slot.result d0 d1 slot_is (c.close.ensures.within (generation_of slots) s.honest (λ i may. spare_at slots c.other_of-slot.result i old slot_is (s.left i may))) in
    let shut = c.in_ok-close.ensures.shut (generation_of slots) s.honest (spare_at slots c.other_of-slot.result d0.seen old slot_is s.now) in
    let label = labelled slots c.args.start _ c.id.ensures in
    let w2 = writing_at slots c.other_of-slot.result _ c.args.start new d1 d2 slot_is label
    (c.overwrite.ensures.within new is honest1 (c.in_ok-close.ensures.synced s.honest) shut) in
    let w = written_within slots old new c.args.start c.requires.generation d0 s d1 d2 w1 w2 in
    at_err c.from_residual-in_err-self.result _ c.from_residual-in_err-self.ensures.1 (doubt slots old new c.args.start c.requires.generation d0 s d2 honest2 (g.met.S.Shelf.lawful c.overwrite.new.shelf honest2) w) (all_within slots old new c.args.start c.requires.generation d0 s d2 w)

pub returns-in_err-self-clause-others : goal.returns-in_err-self-clause-others
returns-in_err-self-clause-others g c = λ honest. both_alone _ c.other_of-slot.result _ _ _ (c.close.ensures.others honest) (c.overwrite.ensures.others (c.close.ensures.kept.honest honest))

pub returns-clause-replaces : goal.returns-clause-replaces
returns-clause-replaces g c = λ old new is s.
    let slots = c.args.self.now in
    let d0 = g.S.Shelf.disk c.args.shelf.now in
    let d1 = g.S.Shelf.disk c.close.new.shelf in
    let d2 = g.S.Shelf.disk c.overwrite.new.shelf in
    let honest1 = c.close.ensures.kept.honest s.honest in
    let slot_is = c.other_of-slot.ensures in
    let w1 = closing_at slots c.other_of-slot.result d0 d1 slot_is (c.close.ensures.within (generation_of slots) s.honest (λ i may. spare_at slots c.other_of-slot.result i old slot_is (s.left i may))) in
    let shut = c.in_ok-close.ensures.shut (generation_of slots) s.honest (spare_at slots c.other_of-slot.result d0.seen old slot_is s.now) in
    let label = labelled slots c.args.start _ c.id.ensures in
    let w2 = writing_at slots c.other_of-slot.result _ c.args.start new d1 d2 slot_is label
    (c.overwrite.ensures.within new is honest1 (c.in_ok-close.ensures.synced s.honest) shut) in
    let w = written_within slots old new c.args.start c.requires.generation d0 s d1 d2 w1 w2 in
    let id = c.in_ok-self.ensures.id in
    at_ok (
      ap (λ (i : LogId). i.label.start) id,
      replaced slots old new c.args.start c.requires.generation d0 s _ d2 refl slot_is refl refl (ap (λ (i : LogId). i.label.number) id ∙ ap (λ (l : Label). l.number) label) (weaken_within _ _ (λ i. Unit {0}) d0 d2 (λ i t. tt) w)
          (c.in_ok-self.ensures.written new is honest1 shut),
    ) (all_within slots old new c.args.start c.requires.generation d0 s d2 w)

pub returns-clause-others : goal.returns-clause-others
returns-clause-others g c = λ honest. both_alone _ c.other_of-slot.result _ _ _ (c.close.ensures.others honest) (c.overwrite.ensures.others (c.close.ensures.kept.honest honest))
