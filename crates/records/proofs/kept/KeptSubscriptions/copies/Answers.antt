use Rattle.std.proofs.Common.{◌≡◌, ◌++◌, ◌∙◌, ap, sym, List, ℕ, append-nil, subst}
use Rattle.std.specs.Prelude.{map as each}
use Rattle.std.specs.FinMap as map
use Rattle.cursor.specs.Positions.{Positions}
use Rattle.records.specs.declared.kept_cursor.KeptCursor.{KeptCursor}
use Rattle.records.specs.Maps.{Kept, by_bytes, IsSound}
use Rattle.records.proofs.Maps.{entries_text}
use Rattle.records.proofs.Sound.{copies_named, copies_few}
use Rattle.records.proofs.kept.KeptSubscriptions.copies.Goals as goal

-- all of the tree is copied
all_copied : (c : goal.In-None) → each (λ (k : KeptCursor). (k.name, k.acked)) c.loop-name.copies.items ≡ map.entries c.args.self.now
all_copied c =
    let copied : List (List ℕ × Positions) = each (λ (k : KeptCursor). (k.name, k.acked)) c.loop-name.copies.items in
    sym (append-nil copied) ∙ ap (λ es. copied ++ by_bytes es) (sym c.in-None.ensures.steps.0) ∙ c.loop-name.invariant
    ∙ sym (entries_text c.self.inside.cursors.entries c.into_iter-name-iterator.ensures.into_iter_gives.5) ∙ ap (λ (k : Kept). map.entries k) c.self.view_is

pub returns-clause-kept : goal.returns-clause-kept
returns-clause-kept c = all_copied c

pub returns-clause-few : goal.returns-clause-few
returns-clause-few c = copies_few c.args.self.now c.loop-name.copies.items (subst (λ (k : Kept). IsSound k) c.self.view_is c.self.invariant) (all_copied c)

pub returns-clause-named : goal.returns-clause-named
returns-clause-named c = copies_named c.args.self.now c.loop-name.copies.items (subst (λ (k : Kept). IsSound k) c.self.view_is c.self.invariant) (all_copied c)
