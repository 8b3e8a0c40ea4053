-- Topics of a node go by their numbers.
use Rattle.std.specs.Prelude.{◌≡◌, ℕ, Some, List, slice_get}
use Rattle.std.specs.Coded.{Coded-set, coded_ℕ, ×_prop, Π_prop, →_prop}
use Rattle.topic_stores.specs.declared.store.TopicStore.{Ghosts as StoreMembers}
use Rattle.node.specs.declared.held.Held.{Held}

module _ {T : Type 0} {store : StoreMembers T} where
  -- its store is of the topic of this number, and a ledger id has so many entry ids
  abbrev pub IsNumbered : ℕ → ℕ → Held T store → Type 0
  IsNumbered per_ledger number held = ((store.view held.stores).topic ≡ number) × (held.core.per_ledger ≡ per_ledger)

  abbrev pub AreNumbered : ℕ → List (Held T store) → Type 0
  AreNumbered per_ledger topics = (number : ℕ) (held : Held T store) → slice_get topics number ≡ Some held → IsNumbered per_ledger number held

  abbrev pub StaysNumbered : Held T store → Held T store → Type 0
  StaysNumbered old new = ((store.view new.stores).topic ≡ (store.view old.stores).topic) × (new.core.per_ledger ≡ old.core.per_ledger)

  pub AreNumbered-prop : (per_ledger : ℕ) (topics : List (Held T store)) → IsProp (AreNumbered per_ledger topics)
  AreNumbered-prop per_ledger topics = Π_prop (λ number. Π_prop (λ held. →_prop (×_prop (Coded-set coded_ℕ _ _) (Coded-set coded_ℕ _ _))))
