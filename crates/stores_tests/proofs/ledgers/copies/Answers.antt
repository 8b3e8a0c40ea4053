use Rattle.std.proofs.Common.{List, ℕ, ◌∷◌, ◌++◌, [], sym, subst}
use Rattle.managed_ledger.specs.Entries.{AreEntries, IsEntry}
use Rattle.managed_ledger.specs.Segments.{entries_append}
use Rattle.stores_tests.proofs.ledgers.copies.Goals as goal

pub copies-preserved : goal.copies-preserved
copies-preserved c =
    subst (λ (l : List (List ℕ)). AreEntries l) (sym c.in_ok-push.ensures.items) (entries_append c.copies.copies.items (c.in_ok-clone.field-0 ∷ []) c.copies.invariant (subst (λ (e : List ℕ). IsEntry e) (sym c.in_ok-clone.ensures.cases) c.requires, tt))
