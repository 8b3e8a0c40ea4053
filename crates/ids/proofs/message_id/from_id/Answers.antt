use Rattle.std.proofs.Common.{◌≡◌, ℕ, ◌+◌, ◌*◌, ◌/◌, ◌%◌, ◌^◌, ◌<◌, ◌∙◌, ap, sym, Option, Some, None, arith}
use Rattle.std.proofs.lemmas.Nat.{div-mul-add, mod-mul-add}
use Rattle.std.specs.Option.{IfSome}
use Rattle.ids.specs.declared.message_id.MessageIdData.{MessageIdData}
use Rattle.ids.specs.Ids.{message_id_at, place_of, IsWholeEntry, Names}
use Rattle.ids.proofs.message_id.from_id.Goals as goal

-- ledger times n plus entry has that ledger and that entry
place_at : (id : MessageIdData) (n i : ℕ) → id.entry_id < n → i ≡ id.ledger_id * n + id.entry_id → place_of id ≡ message_id_at n i
place_at id n i within sum =
    let ledger : id.ledger_id ≡ i / n = sym (ap (λ x. x / n) sum ∙ div-mul-add id.ledger_id n id.entry_id within) in
    let entry : id.entry_id ≡ i % n = sym (ap (λ x. x % n) sum ∙ mod-mul-add id.ledger_id n id.entry_id within) in
    λ j. record { ledger_id = ledger j; entry_id = entry j }

named_by : (id : MessageIdData) (n : ℕ) (answer : Option ℕ) → IsWholeEntry id → id.entry_id < n →
    IfSome answer (λ i. (i < 2 ^ 63) × (i ≡ id.ledger_id * n + id.entry_id)) → IfSome answer (Names n id)
named_by id n None whole within found = tt
named_by id n (Some i) whole within found = record { whole = whole; place = place_at id n i within found.1; small = found.0 }

pub returns-clause-some : goal.returns-clause-some
returns-clause-some c =
    let within : c.args.id.now.entry_id < c.args.n = omega arith in
    named_by _ _ _ c.if-not-is_whole_entry.ensures within (rw c.from-n.ensures at c.position_of.ensures.some)
