use Rattle.std.proofs.Common.{◌≡◌, ℕ, ◌∙◌, ap, sym, subst, Some, IfSome, IfNone, List}
use Rattle.std.specs.List.{find, position}
use Rattle.holds.specs.Backlog.{IsLeast, attached}
use Rattle.holds.specs.declared.consumer.Consumer.{Consumer}
use Rattle.holds.specs.Deliveries.{same_key}
use Rattle.holds.specs.declared.consumer.SlotRange.{SlotRange}
use Rattle.key_shared.specs.Ranges.{IsOpenFrom}
use Rattle.key_shared.proofs.At.{found_at, one_admits, none_admits}
use Rattle.key_shared.proofs.dispatcher.KeySharedDispatcher.pick_at.Goals as goal

pub returns-clause-some : goal.returns-clause-some
returns-clause-some g c = λ key at.
    let xs : List Consumer = c.args.self.now.consumers.items in
    let ys : List Consumer = c.deref.result.now in
    let x = c.in-Some.consumer.now in
    let b = g.P.Pending.backlog c.args.pending.now in
    let its = λ (c : Consumer). same_key c.key key in
    let same : ys ≡ xs = c.deref.ensures.value in
    let there : attached key xs ≡ Some x = ap (find its) (sym same) ∙ found_at its ys c.args.place x (ap (position its) same ∙ at) ∙ ap (λ c. Some c) (sym c.in-Some.ensures.lookup.1) in
    let given = subst (λ (ranges : List SlotRange). IfSome c.first_in.result (IsLeast (IsOpenFrom b ranges c.args.from))) c.as_slice.ensures c.first_in.ensures.some in
    one_admits c.first_in.result (attached key xs) x (λ c' i. IsLeast (IsOpenFrom b c'.ranges c.args.from) i) there given

pub returns-clause-none : goal.returns-clause-none
returns-clause-none g c = λ key at.
    let xs : List Consumer = c.args.self.now.consumers.items in
    let ys : List Consumer = c.deref.result.now in
    let x = c.in-Some.consumer.now in
    let b = g.P.Pending.backlog c.args.pending.now in
    let its = λ (c : Consumer). same_key c.key key in
    let same : ys ≡ xs = c.deref.ensures.value in
    let there : attached key xs ≡ Some x = ap (find its) (sym same) ∙ found_at its ys c.args.place x (ap (position its) same ∙ at) ∙ ap (λ c. Some c) (sym c.in-Some.ensures.lookup.1) in
    let given = subst (λ (ranges : List SlotRange). IfNone c.first_in.result ((i : ℕ) → IsOpenFrom b ranges c.args.from i → ⊥)) c.as_slice.ensures c.first_in.ensures.none in
    none_admits c.first_in.result (attached key xs) x (λ c' i. IsOpenFrom b c'.ranges c.args.from i) there given
