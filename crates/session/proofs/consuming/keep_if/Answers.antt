use Rattle.std.proofs.Common.{◌≡◌, ◌∙◌, List, ap, sym}
use Rattle.std.specs.Prelude.{nat_lt}
use Rattle.std.specs.List.{insert, remove, position_or_len}
use Rattle.session.specs.declared.entry.Entry.{Entry}
use Rattle.session.specs.Consuming.{with_entry}
use Rattle.session.proofs.Noting.{remove-insert}
use Rattle.session.proofs.Places.{position-within}
use Rattle.session.proofs.consuming.keep_if.Goals as goal

pub returns-then-not-accepted-clause-entry : goal.returns-then-not-accepted-clause-entry
returns-then-not-accepted-clause-entry g c = λ earlier id topic at is.
    let place = position_or_len (λ (entry : Entry). nat_lt id entry.id) earlier in
    let entry : Entry = record { id = id; topic = topic } in
    let gone : remove (insert earlier place entry) place ≡ earlier = remove-insert earlier place entry (position-within (λ (entry : Entry). nat_lt id entry.id) earlier) in
    c.remove.ensures ∙ ap (λ (xs : List Entry). remove xs c.args.place) is ∙ ap (λ n. remove (insert earlier place entry) n) at ∙ gone
    ∙ ap (λ b. with_entry earlier b id topic) (sym c.if-not-accepted.true)
