use Rattle.std.proofs.Common.{ap, drop, sym, subst, List, ℕ, ◌≡◌, ◌<◌, length, rules}
use Rattle.records.specs.Spelled.{AreBytes, bytes_dropped}
use Rattle.cursor_store.specs.declared.told.Told.{Told}
use Rattle.cursor_store.proofs.ItemReading.{HasApplied, none_applied, one_applied, bytes_behind, shorter, bad_next}
use Rattle.cursor_store.proofs.read.read_items.Goals as goal

pub returns-in_default-2-clause-unformed : goal.returns-in_default-2-clause-unformed
returns-in_default-2-clause-unformed c = λ _ after_it is.
    let some : 0 < length c.loop-rest.rest.now = search rules in
    bad_next c.args.folder c.args.entries c.args.told.now (drop 1 c.args.body.now) c.loop-rest.told c.loop-rest.rest.now c.requires c.loop-rest.invariant.applied some (rw c.in_default-2.is at c.in_ok-behind.ensures) is.items (ap (λ (l : List ℕ). drop 1 l) is.body_is) is.formed

pub loop-rest-init : goal.loop-rest-init
loop-rest-init c =
    let all : AreBytes c.args.body.now = search rules in
    let e : drop 1 c.args.body.now ≡ c.in-Some.items.now = search rules in
    record {
      applied = subst (λ (l : List ℕ). HasApplied c.args.folder c.args.entries c.args.told.now (drop 1 c.args.body.now) c.args.told.now l) e (none_applied c.args.folder c.args.entries c.args.told.now (drop 1 c.args.body.now));
      bytes = subst (λ (l : List ℕ). AreBytes l) e (bytes_dropped 1 c.args.body.now all);
    }

pub loop-rest-smaller : goal.loop-rest-smaller
loop-rest-smaller c =
    let one = rw c.in-Some-2.is at c.in_ok-behind.ensures in
    shorter c.args.folder c.loop-rest.rest.now one.first c.in-Some-2.behind.now c.loop-rest.invariant.bytes one.is_first

pub loop-rest-preserved : goal.loop-rest-preserved
loop-rest-preserved c =
    let one = rw c.in-Some-2.is at c.in_ok-behind.ensures in
    record {
      applied = subst (λ (t : Told). HasApplied c.args.folder c.args.entries c.args.told.now (drop 1 c.args.body.now) t c.in-Some-2.behind.now) (sym one.told_is)
          (one_applied c.args.folder c.args.entries c.args.told.now (drop 1 c.args.body.now) c.loop-rest.told c.loop-rest.rest.now one.first c.in-Some-2.behind.now c.loop-rest.invariant.bytes one.is_first one.formed c.loop-rest.invariant.applied);
      bytes = bytes_behind c.args.folder c.loop-rest.rest.now one.first c.in-Some-2.behind.now c.loop-rest.invariant.bytes one.is_first;
    }
