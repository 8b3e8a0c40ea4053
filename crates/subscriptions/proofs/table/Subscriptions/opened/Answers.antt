use Rattle.std.proofs.Common.{◌≡◌, length, ap, sym, ◌∙◌, rules}
use Rattle.std.proofs.lemmas.List.{length-map}
use Rattle.subscriptions.specs.State.{Subscriptions}
use Rattle.subscriptions.specs.Steps.{opened_one}
use Rattle.subscriptions.proofs.Durable.{limits_opened, pairs}
use Rattle.subscriptions.proofs.Passed.{hints_opened}
use Rattle.subscriptions.proofs.Standing.{places_opened}
use Rattle.subscriptions.proofs.Noted.{notes_none}
use Rattle.subscriptions.proofs.table.Subscriptions.opened.Goals as goal

pub invariant_of-result : goal.invariant_of-result
invariant_of-result g c =
    let t : Subscriptions = record { subs = c.in_ok-open_all.field-0.items; changes = c.new.result.items; slots = c.args.marks.slots; messages = c.args.marks.messages } in
    let known : length c.in_ok-hints.hints.items ≡ length c.args.kept.items = search rules in
    let many : length t.subs ≡ length c.args.kept.items = ap length c.in_ok-open_all.ensures ∙ length-map (pairs c.args.kept.items) opened_one ∙ length-map c.args.kept.items _ in
    (limits_opened c.args.kept.items _ _ _ _ c.requires.few c.requires.distinct c.in_ok-open_all.ensures c.new.ensures.items, hints_opened t c.in_ok-hints.hints.items (known ∙ sym many) c.in_ok-hints.ensures.empty, places_opened (pairs c.args.kept.items) t.subs c.new-2.result c.in_ok-open_all.ensures c.new-2.ensures, notes_none t.subs c.new-3.result c.new-3.ensures)
