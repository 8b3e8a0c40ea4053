use Rattle.std.proofs.Common.{◌≡◌, true, sym, subst}
use Rattle.std.specs.Prelude.{nat_lt}
use Rattle.std.specs.List.{insert, position_or_len}
use Rattle.session.specs.declared.entry.Entry.{Entry}
use Rattle.session.specs.Table.{AreRising}
use Rattle.session.proofs.Noting.{noted-insert}
use Rattle.session.proofs.Ordered.{rising-with}
use Rattle.session.proofs.consumers.Consumers.insert.Goals as goal

pub invariant_of-self-in_err-insert : goal.invariant_of-self-in_err-insert
invariant_of-self-in_err-insert c = rw c.in_err-insert.ensures.items (c.note.ensures.kept c.self.inside.entries.items c.self.invariant.0, c.self.invariant.1)

pub invariant_of-self-2 : goal.invariant_of-self-2
invariant_of-self-2 c =
    let entries = c.self.inside.entries.items in
    let one : Entry = record { id = c.args.id; topic = c.args.topic } in
    let at : c.place_behind-place.result ≡ position_or_len (λ (entry : Entry). nat_lt c.args.id entry.id) entries =
    rw c.as_slice.ensures.value at c.place_behind-place.ensures.place in
    rw (c.in_ok-insert.ensures.items, c.new-entry.ensures) (
      noted-insert c.note.new.topics.items entries c.place_behind-place.result _ c.in_ok-note.ensures.ok (c.note.ensures.kept entries c.self.invariant.0),
      subst (λ place. AreRising (insert entries place one)) (sym at) (rising-with entries true c.args.id c.args.topic (rw (← c.self.view_is) at c.requires.fresh) c.self.invariant.1),
    )
