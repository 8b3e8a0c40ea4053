use Rattle.std.proofs.Common.{◌≡◌, ◌≤◌, max, List, ℕ, length, take, rules, ap, sym, subst, ◌∙◌, arith}
use Rattle.std.specs.List.{sum_by}
use Rattle.std.proofs.lemmas.List.Sums.{sum_by-take-drop}
use Rattle.managed_ledger.specs.Entries.{Ledger, end_of, lengthened, trimmed}
use Rattle.records.specs.Records.{after_all}
use Rattle.subscriptions.specs.State.{Subscriptions}
use Rattle.topic_core.specs.State.{Topic, floor, entries_of, changes_of, entries_in_doubt, changes_in_doubt}
use Rattle.topic_core.specs.Held.{core_of}
use Rattle.topic_core.specs.Crashes.{longer}
use Rattle.topic_core.proofs.Floors.{trimmed_end}
use Rattle.topic_core.proofs.Flushes.{sound-finished, receipts-finished}
use Rattle.topic_core.proofs.topic.TopicCore.commit.Goals as goal

pub invariant_of-self : goal.invariant_of-self
invariant_of-self g c =
    let t = core_of c.self.inside in
    let trim = c.args.trim in
    let low : trim ≤ floor t = subst (λ (k : Topic). trim ≤ floor k) (sym c.self.view_is) c.requires.within in
    let count : c.entries_handed_on-count.result ≡ entries_of t.doubt = search rules in
    let changes : c.changes_handed_on-changes.result ≡ changes_of t.doubt = search rules in
    let ledger : c.commit.new.self.ledger ≡ trimmed trim (lengthened t.ledger (entries_in_doubt t)) = search rules in
    let kept : c.commit.new.self.kept ≡ after_all (changes_in_doubt t) t.kept = search rules in
    let as_many : length c.args.batch.entries.items ≡ entries_of t.doubt = search rules in
    let base : c.max-self-inside.result ≡ max t.ledger.base trim = c.max-self-inside.ensures ∙ ap (λ (n : ℕ). max n trim) c.self.invariant.3 in
    let bytes : c.bytes_in-bytes.result ≡ sum_by length (take c.entries_handed_on-count.result t.waiting) = search rules in
    let moved : c.bytes_in-bytes.result ≡ sum_by length (take (entries_of t.doubt) t.waiting) = bytes ∙ ap (λ n. sum_by length (take n t.waiting)) count in (
      rw (c.move_first.ensures.left, as_many) (omega (arith, moved, c.self.invariant.0, sum_by-take-drop length t.waiting (entries_of t.doubt))),
      rw (c.move_first.ensures.left, c.forget_below.ensures, c.settle.ensures, c.make_due.ensures, c.drop_closed.ensures, ledger, kept, as_many, count, changes, base) (sound-finished t c.self.invariant.1 trim low),
      rw (c.move_first.ensures.left, c.forget_below.ensures, c.settle.ensures, c.make_due.ensures, c.drop_closed.ensures, ledger, kept, as_many, count, changes, base) (receipts-finished t c.self.invariant.1 trim c.self.invariant.2),
      base ∙ sym (ap (λ (l : Ledger). l.base) ledger),
    )

pub commit-requires-clause-more : goal.commit-requires-clause-more
commit-requires-clause-more g c =
    let t = core_of c.self.inside in
    let trim = c.args.trim in
    let is : c.after-durable.result.ledger ≡ trimmed trim (lengthened t.ledger (take c.entries_handed_on-count.result t.waiting)) = search rules in
    let many : c.entries_handed_on-count.result ≡ length c.args.batch.entries.items = search rules in
    let moved : c.move_first.new.moved.items ≡ take (length c.args.batch.entries.items) t.waiting = search rules in
    (trim, is ∙ ap (λ (e : List (List ℕ)). trimmed trim (lengthened t.ledger e)) (ap (λ (n : ℕ). take n t.waiting) many ∙ sym moved))

pub commit-requires-clause-left : goal.commit-requires-clause-left
commit-requires-clause-left g c =
    let t = core_of c.self.inside in
    let trim = c.args.trim in
    let low : trim ≤ floor t = subst (λ (k : Topic). trim ≤ floor k) (sym c.self.view_is) c.requires.within in
    let few : entries_of t.doubt ≤ length t.waiting = omega (arith, c.self.invariant.1.promises) in
    let count : c.entries_handed_on-count.result ≡ entries_of t.doubt = search rules in
    let base : c.max-self-inside.result ≡ max t.ledger.base trim = c.max-self-inside.ensures ∙ ap (λ (n : ℕ). max n trim) c.self.invariant.3 in
    let read : c.after-durable.result.ledger ≡ trimmed trim (lengthened t.ledger (take c.entries_handed_on-count.result t.waiting)) = search rules in
    let is : c.after-durable.result.ledger ≡ trimmed trim (longer t) = read ∙ ap (λ (n : ℕ). trimmed trim (lengthened t.ledger (take n t.waiting))) count in
    omega (arith, ap (λ (l : Ledger). end_of l) is, ap (λ (l : Ledger). l.base) is, trimmed_end t trim few c.self.invariant.1.trims low, count, base)

pub forget_below-requires : goal.forget_below-requires
forget_below-requires g c =
    let t = core_of c.self.inside in
    let trim = c.args.trim in
    let low : trim ≤ floor t = subst (λ (k : Topic). trim ≤ floor k) (sym c.self.view_is) c.requires.within in
    let base : c.max-self-inside.result ≡ max t.ledger.base trim = c.max-self-inside.ensures ∙ ap (λ (n : ℕ). max n trim) c.self.invariant.3 in
    let slots : length c.settle.new.self.slots ≡ length t.subs.slots = ap (λ (s : Subscriptions). length s.slots) c.settle.ensures in
    omega (arith, base, slots, low, c.self.invariant.1.trims.rises, c.self.invariant.1.trims.committed, c.self.invariant.1.slotted)
