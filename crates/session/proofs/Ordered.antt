-- Ids that rise, as entries come and go.
use Rattle.std.proofs.Common.{◌≡◌, ⊎_elim, ◌+◌, ◌<◌, ◌≤◌, ℕ, zero, suc, List, [], ◌∷◌, Bool, true, false, not, ◌||◌, nat_eq, nat_lt, cond, filter, refl, subst, arith}
use Rattle.std.proofs.lemmas.Bool.{cases_lt, ltb-false, eqb-false}
use borrow.Author.Tests.{ltb-true}
use Rattle.std.specs.List.{AllByRecursion, insert, remove, position_or_len, items_where_true}
use Rattle.session.specs.declared.entry.Entry.{Entry}
use Rattle.session.specs.Consuming.{with_entry}
use Rattle.session.specs.Table.{has_entry, AreRising}

-- all are greater than an id
abbrev pub AreAbove : ℕ → List Entry → Type 0
AreAbove id entries = AllByRecursion (λ other. id < other.id) entries

pub above-less : (a b : ℕ) (entries : List Entry) → a ≤ b → AreAbove b entries → AreAbove a entries
above-less a b [] h all = tt
above-less a b (e ∷ es) h all = (omega (arith, all.0), above-less a b es h all.1)

above-filter : (id : ℕ) (keep : Entry → Bool) (entries : List Entry) → AreAbove id entries → AreAbove id (filter keep entries)
above-filter id keep [] all = tt
above-filter id keep (e ∷ es) all = elim (keep e) as (λ b. AreAbove id (cond b (e ∷ filter keep es) (filter keep es))) [
  | true ↦ (all.0, above-filter id keep es all.1)
  | false ↦ above-filter id keep es all.1
]

pub rising-filter : (keep : Entry → Bool) (entries : List Entry) → AreRising entries → AreRising (filter keep entries)
rising-filter keep [] rise = tt
rising-filter keep (e ∷ es) rise = elim (keep e) as (λ b. AreRising (cond b (e ∷ filter keep es) (filter keep es))) [
  | true ↦ (above-filter e.id keep es rise.0, rising-filter keep es rise.1)
  | false ↦ rising-filter keep es rise.1
]

above-insert : (id : ℕ) (entries : List Entry) (place : ℕ) (one : Entry) → id < one.id → AreAbove id entries → AreAbove id (insert entries place one)
above-insert id [] zero one h all = (h, tt)
above-insert id [] (suc place) one h all = (h, tt)
above-insert id (e ∷ es) zero one h all = (h, all)
above-insert id (e ∷ es) (suc place) one h all = (all.0, above-insert id es place one h all.1)

or-left : (a b : Bool) → (a || b) ≡ false → a ≡ false
or-left true b h = h
or-left false b h = refl

or-right : (a b : Bool) → (a || b) ≡ false → b ≡ false
or-right true b h = absurd (let no : ⊥ = cc in no)
or-right false b h = h

-- one more, which isn't there, stands behind those with a smaller id
abbrev placed : Entry → List Entry → ℕ
placed one entries = position_or_len (λ entry. nat_lt one.id entry.id) entries

rising-at : (one e : Entry) (es : List Entry) (n : ℕ) (b : Bool) → nat_lt one.id e.id ≡ b → nat_eq e.id one.id ≡ false →
    AreRising (e ∷ es) → AreRising (insert es n one) → AreRising (insert (e ∷ es) (cond (not b) (1 + n) 0) one)
rising-at one e es n true is other rise rest =
    let below : one.id < e.id = ltb-true one.id e.id is in
    ((below, above-less one.id e.id es (omega arith) rise.0), rise)
rising-at one e es n false is other rise rest =
    let after : e.id ≤ one.id = ltb-false one.id e.id is in
    let apart : e.id ≡ one.id → ⊥ = eqb-false e.id one.id other in
    let below : e.id < one.id = ⊎_elim (λ (l : e.id < one.id). l) (λ (same : one.id ≤ e.id). absurd (apart (omega (arith, same, after)))) (cases_lt e.id one.id) in
    let P : ℕ → Type 0 = λ k. AreRising (insert (e ∷ es) k one) in
    let one_more : suc n ≡ 1 + n = omega arith in
    subst P one_more (above-insert e.id es n one below rise.0, rest)

rising-insert : (one : Entry) (entries : List Entry) → has_entry entries one.id ≡ false → AreRising entries → AreRising (insert entries (placed one entries) one)
rising-insert one [] fresh rise = (tt, tt)
rising-insert one (e ∷ es) fresh rise =
    rising-at one e es (placed one es) (nat_lt one.id e.id) refl (or-left _ _ fresh) rise (rising-insert one es (or-right _ _ fresh) rise.1)

pub rising-with : (entries : List Entry) (accepted : Bool) (id topic : ℕ) → has_entry entries id ≡ false → AreRising entries → AreRising (with_entry entries accepted id topic)
rising-with entries true id topic fresh rise = rising-insert (record { id = id; topic = topic }) entries fresh rise
rising-with entries false id topic fresh rise = rise

-- one of them fewer
above-remove : (id : ℕ) (entries : List Entry) (place : ℕ) → AreAbove id entries → AreAbove id (remove entries place)
above-remove id [] zero all = tt
above-remove id [] (suc place) all = tt
above-remove id (e ∷ es) zero all = all.1
above-remove id (e ∷ es) (suc place) all = (all.0, above-remove id es place all.1)

pub rising-remove : (entries : List Entry) (place : ℕ) → AreRising entries → AreRising (remove entries place)
rising-remove [] zero rise = tt
rising-remove [] (suc place) rise = tt
rising-remove (e ∷ es) zero rise = rise.1
rising-remove (e ∷ es) (suc place) rise = (above-remove e.id es place rise.0, rising-remove es place rise.1)

-- some of them
above-some : (id : ℕ) (bs : List Bool) (entries : List Entry) → AreAbove id entries → AreAbove id (items_where_true bs entries)
above-some id [] entries all = tt
above-some id (b ∷ bs) [] all = tt
above-some id (true ∷ bs) (e ∷ es) all = (all.0, above-some id bs es all.1)
above-some id (false ∷ bs) (e ∷ es) all = above-some id bs es all.1

pub rising-some : (bs : List Bool) (entries : List Entry) → AreRising entries → AreRising (items_where_true bs entries)
rising-some [] entries rise = tt
rising-some (b ∷ bs) [] rise = tt
rising-some (true ∷ bs) (e ∷ es) rise = (above-some e.id bs es rise.0, rising-some bs es rise.1)
rising-some (false ∷ bs) (e ∷ es) rise = rising-some bs es rise.1
