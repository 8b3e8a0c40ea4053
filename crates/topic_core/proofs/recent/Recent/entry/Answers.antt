use Rattle.std.proofs.Common.{◌≡◌, ◌-◌, ◌≤◌, ℕ, List, length, Some, rules, refl, sym, ap, ◌∙◌, arith}
use Rattle.std.specs.Prelude.{slice_get}
use Rattle.std.proofs.lemmas.Option.{slice_get_read}
use Rattle.managed_ledger.specs.Entries.{Ledger, end_of, entry_at}
use Rattle.topic_core.proofs.LastEntries.{found_last}
use Rattle.topic_core.proofs.recent.Recent.entry.Goals as goal

pub returns-clause-found : goal.returns-clause-found
returns-clause-found c = λ counted.
    let r = c.self.inside in
    let back = c.args.committed - c.args.position in
    let same : r.durable.ledger ≡ c.args.self.now.ledger = search rules in
    let last : c.len-last.result ≡ length r.entries.items = search rules in
    let low : back ≤ length r.entries.items = omega (arith, last, c.if-back-last.false) in
    let there : slice_get r.entries.items (length r.entries.items - back) ≡ Some c.in_ok-entry.entry =
    ap (λ (n : ℕ). slice_get r.entries.items (n - back)) (sym last)
    ∙ slice_get_read r.entries.items (length r.entries.items) (c.len-last.result - back) c.in-Some.found.now refl (omega (arith, last, low, c.if-committed-position.false)) c.in-Some.ensures.lookup
    ∙ ap (λ (e : List ℕ). Some e) (sym c.in_ok-entry.ensures.cases) in
    ap (λ (l : Ledger). entry_at l c.args.position) (sym same)
    ∙ found_last r.durable.ledger r.entries.items c.self.invariant c.args.committed c.args.position c.in_ok-entry.entry (ap (λ (l : Ledger). end_of l) same ∙ counted) (omega (arith, c.if-committed-position.false)) low there
