-- How far the reading of a body of items has come.
use Rattle.std.proofs.Common.{◌≡◌, ◌∙◌, ap, sym, refl, subst, ℕ, ◌<◌, ◌≤◌, ◌^◌, List, [], ◌∷◌, ◌++◌, Some, length, drop, append_assoc, append-nil, arith, length-append}
use Rattle.std.specs.List.{flat_map}
use Rattle.std.proofs.lemmas.List.{drop_at}
use Rattle.std.proofs.lemmas.List.Concat.{flat_map-append}
use Rattle.disk.specs.declared.file_id.Folder.{Folder}
use Rattle.records.specs.Spelled.{AreBytes, bytes_dropped}
use Rattle.cursor_store.specs.declared.told.Told.{Told}
use Rattle.cursor_store.specs.declared.item.Item.{Item}
use Rattle.cursor_store.specs.Items.{IsItem, AreItems, told_after, all_told}
use Rattle.cursor_store.specs.ItemBytes.{item_spelling, first_item, HasNoItem}
use Rattle.cursor_store.specs.ItemSpelled.{read_item, item_spelt, one_spelling}
use Rattle.cursor_store.specs.ItemMeaning.{item_some, no_item_spelt, item_in, item_named, item_numbers, one_more_told, one_more_item}

-- these items stand before the rest, and were applied
pub record HasApplied (folder : Folder) (entries : ℕ) (old : Told) (bytes : List ℕ) (told : Told) (rest : List ℕ) : Type 0 where
  pub done : List Item
  pub bytes_are : bytes ≡ flat_map item_spelling done ++ rest
  pub formed : AreItems folder entries old done
  pub told_is : told ≡ all_told done old

pub none_applied : (folder : Folder) (entries : ℕ) (old : Told) (bytes : List ℕ) → HasApplied folder entries old bytes old bytes
none_applied folder entries old bytes = record { done = []; bytes_are = refl; formed = tt; told_is = refl }

-- the rest, too, is bytes
pub bytes_behind : (folder : Folder) (rest : List ℕ) (item : Item) (behind : List ℕ) → AreBytes rest → first_item folder rest ≡ Some (item, behind) → AreBytes behind
bytes_behind folder rest item behind are first =
    let e = (item_spelt folder rest item behind are first).bytes_are in
    subst (λ (l : List ℕ). AreBytes l) (ap (λ (l : List ℕ). drop (length (item_spelling item)) l) e ∙ drop_at (item_spelling item) behind (length (item_spelling item)) refl) (bytes_dropped (length (item_spelling item)) rest are)

-- one item more
more_bytes : (done : List Item) (item : Item) (rest : List ℕ) → flat_map item_spelling done ++ (item_spelling item ++ rest) ≡ flat_map item_spelling (done ++ item ∷ []) ++ rest
more_bytes done item rest =
    sym (append_assoc (flat_map item_spelling done) (item_spelling item) rest)
    ∙ ap (λ (l : List ℕ). (flat_map item_spelling done ++ l) ++ rest) (sym (append-nil (item_spelling item)))
    ∙ ap (λ (l : List ℕ). l ++ rest) (sym (flat_map-append item_spelling done (item ∷ [])))

pub one_applied : (folder : Folder) (entries : ℕ) (old : Told) (bytes : List ℕ) (told : Told) (rest : List ℕ) (item : Item) (behind : List ℕ)
    → AreBytes rest → first_item folder rest ≡ Some (item, behind) → IsItem folder entries told item → HasApplied folder entries old bytes told rest → HasApplied folder entries old bytes (told_after item told) behind
one_applied folder entries old bytes told rest item behind are first formed so = record {
  done = so.done ++ item ∷ [];
  bytes_are = so.bytes_are ∙ ap (λ (l : List ℕ). flat_map item_spelling so.done ++ l) (item_spelt folder rest item behind are first).bytes_are ∙ more_bytes so.done item behind;
  formed = one_more_item folder entries old so.done item so.formed (subst (λ (t : Told). IsItem folder entries t item) so.told_is formed);
  told_is = ap (λ (t : Told). told_after item t) so.told_is ∙ sym (one_more_told so.done item old);
}

-- the rest is shorter
pub shorter : (folder : Folder) (rest : List ℕ) (item : Item) (behind : List ℕ) → AreBytes rest → first_item folder rest ≡ Some (item, behind) → length behind < length rest
shorter folder rest item behind are first = omega (arith, ap length (item_spelt folder rest item behind are first).bytes_are, length-append (item_spelling item) behind, item_some item)

-- ---- items that spell the same

-- behind these items stand others, of their form there
record AreBehind (folder : Folder) (entries : ℕ) (told : Told) (rest : List ℕ) : Type 0 where
  others : List Item
  bytes_are : rest ≡ flat_map item_spelling others
  formed : AreItems folder entries told others

others_behind : (folder : Folder) (entries : ℕ) (old : Told) (done items : List Item) (rest : List ℕ) → entries ≤ 2 ^ 62 → AreItems folder entries old done → AreItems folder entries old items → flat_map item_spelling done ++ rest ≡ flat_map item_spelling items → AreBehind folder entries (all_told done old) rest
others_behind folder entries old [] items rest low formed formed' same = record { others = items; bytes_are = same; formed = formed' }
others_behind folder entries old (d ∷ done) [] rest low formed formed' same = absurd (no_item_spelt d (flat_map item_spelling done ++ rest) (sym (append_assoc (item_spelling d) (flat_map item_spelling done) rest) ∙ same))
others_behind folder entries old (d ∷ done) (a ∷ items) rest low formed formed' same =
    let one = one_spelling d a (flat_map item_spelling done ++ rest) (flat_map item_spelling items)
    (item_named folder entries old d formed.0) (item_numbers folder entries old d low formed.0) (item_named folder entries old a formed'.0) (item_numbers folder entries old a low formed'.0)
    (sym (append_assoc (item_spelling d) (flat_map item_spelling done) rest) ∙ same) in
    others_behind folder entries (told_after d old) done items rest low formed.1 (subst (λ (x : Item). AreItems folder entries (told_after x old) items) (sym one.0) formed'.1) one.1

behind_applied : (folder : Folder) (entries : ℕ) (old : Told) (bytes : List ℕ) (told : Told) (rest : List ℕ) (items : List Item) → entries ≤ 2 ^ 62 → HasApplied folder entries old bytes told rest → bytes ≡ flat_map item_spelling items → AreItems folder entries old items → AreBehind folder entries told rest
behind_applied folder entries old bytes told rest items low so is formed =
    subst (λ (t : Told). AreBehind folder entries t rest) (sym so.told_is) (others_behind folder entries old so.done items rest low so.formed formed (sym so.bytes_are ∙ is))

-- where no item of its form stands next, there are no items of their form
bad_first : (folder : Folder) (entries : ℕ) (told : Told) (rest : List ℕ) (others : List Item) → entries ≤ 2 ^ 62 → 0 < length rest → HasNoItem folder entries told rest → rest ≡ flat_map item_spelling others → AreItems folder entries told others → ⊥
bad_first folder entries told rest [] low some bad is formed = omega (arith, some, ap length is)
bad_first folder entries told rest (a ∷ others) low some bad is formed =
    bad a (flat_map item_spelling others) (ap (λ (l : List ℕ). first_item folder l) is ∙ read_item folder a (flat_map item_spelling others) (item_in folder entries told a formed.0) (item_named folder entries told a formed.0) (item_numbers folder entries told a low formed.0)) formed.0

pub bad_next : (folder : Folder) (entries : ℕ) (old : Told) (bytes : List ℕ) (told : Told) (rest : List ℕ) → entries ≤ 2 ^ 62 → HasApplied folder entries old bytes told rest → 0 < length rest → HasNoItem folder entries told rest
    → (items : List Item) → bytes ≡ flat_map item_spelling items → ¬ AreItems folder entries old items
bad_next folder entries old bytes told rest low so some bad items is = λ formed.
    let behind = behind_applied folder entries old bytes told rest items low so is formed in
    bad_first folder entries told rest behind.others low some bad behind.bytes_are behind.formed
