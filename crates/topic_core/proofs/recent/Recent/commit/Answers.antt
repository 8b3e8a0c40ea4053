use Rattle.std.proofs.Common.{◌≡◌, ◌++◌, ◌≤◌, List, ℕ, length, rules, refl, sym, ap, subst, ◌∙◌, arith}
use Rattle.managed_ledger.specs.Entries.{Ledger, lengthened, trimmed}
use Rattle.topic_core.specs.Recent.{AreLast}
use Rattle.topic_core.proofs.LastEntries.{none_last, more_last, rest_last, trimmed_last}
use Rattle.topic_core.proofs.recent.Recent.commit.Goals as goal

pub invariant_of-self : goal.invariant_of-self
invariant_of-self c = rw (c.clear.ensures.items) (none_last c.args.durable.ledger)

pub invariant_of-self-2 : goal.invariant_of-self-2
invariant_of-self-2 c =
    let r = c.self.inside in
    let long : Ledger = lengthened r.durable.ledger c.args.entries.items in
    let trim = c.requires.more.0 in
    let same : r.durable.ledger ≡ c.args.self.now.ledger = search rules in
    let is : trimmed trim long ≡ c.args.durable.ledger = ap (λ (l : Ledger). trimmed trim (lengthened l c.args.entries.items)) same ∙ sym c.requires.more.1 in
    let all : c.append-appended.new.self.items ≡ r.entries.items ++ c.args.entries.items = search rules in
    let grown = more_last r.durable.ledger r.entries.items c.self.invariant long c.args.entries.items refl c.requires.each_small in
    let now = subst (λ (xs : List (List ℕ)). AreLast long xs) (sym all) grown in
    let left = c.forget_trimmed-fewer.new.entries.items in
    let rest = rest_last long c.append-appended.new.self.items now left c.forget_trimmed-fewer.ensures.rest in
    let few : length left ≤ length (trimmed trim long).entries = omega (arith, c.forget_trimmed-fewer.ensures.few, c.requires.left, ap (λ (l : Ledger). length l.entries) is) in
    let last = subst (λ (l : Ledger). AreLast l left) is (trimmed_last long trim left rest few) in
    rest_last c.args.durable.ledger left last c.forget_first-self-inside.new.entries.items c.forget_first-self-inside.ensures
