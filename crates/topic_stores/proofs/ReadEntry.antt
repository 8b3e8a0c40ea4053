-- What a read gives of the entries of a store.
use Rattle.std.proofs.Common.{◌≡◌, ℕ, zero, suc, ◌-◌, ◌<◌, ◌≤◌, List, [], ◌∷◌, length, Option, None, Some, sym, ◌∙◌, subst}
use Rattle.std.specs.Prelude.{slice_get}
use Rattle.managed_ledger.specs.Entries.{Entries, Ledger, AreEntries, end_of, entry_at}
use Rattle.managed_ledger.specs.Trims.{there_is, there_within, entry_within}

none_some : {X : Type 0} (x : X) → (let o : Option X = None in o ≡ Some x) → ⊥
none_some x same = cc

-- there is one at each position from the first one on
pub not_missing : (ledger : Ledger) (position : ℕ) → ledger.base ≤ position → position < end_of ledger → (let none : Option (List ℕ) = None in none ≡ entry_at ledger position) → ⊥
not_missing ledger position there_still within is =
    let there = there_within ledger position there_still within in
    none_some there.0 (is ∙ there.1)

no_longer : (entries : Entries) (i : ℕ) (entry : List ℕ) → AreEntries entries → slice_get entries i ≡ Some entry → length entry ≤ 1048576
no_longer [] i entry are is = absurd (none_some entry is)
no_longer (e ∷ entries) zero entry are is =
    let same : e ≡ entry = cc in
    subst (λ (x : List ℕ). length x ≤ 1048576) same are.0.no_longer
no_longer (e ∷ entries) (suc i) entry are is = no_longer entries i entry are.1 is

-- none is longer than any that is accepted
pub not_long : (ledger : Ledger) (position : ℕ) (entry : List ℕ) → AreEntries ledger.entries → entry_at ledger position ≡ Some entry → length entry ≤ 1048576
not_long ledger position entry are is =
    no_longer ledger.entries (position - ledger.base) entry are (sym (there_is ledger position (entry_within ledger position entry is).0) ∙ is)
