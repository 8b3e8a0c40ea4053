-- Bodies of items mean one thing.
use Rattle.std.proofs.Common.{◌≡◌, ◌∙◌, ap, sym, refl, subst, ℕ, ◌<◌, ◌≤◌, ◌^◌, List, [], ◌∷◌, ◌++◌, drop, length, arith, length-append}
use Rattle.std.specs.List.{flat_map}
use Rattle.disk.specs.declared.file_id.Folder.{Folder}
use Rattle.disk.specs.declared.file_id.Folder.TheVariants as version
use Rattle.records.specs.Applied.{formed_positions, formed_longer}
use Rattle.records.specs.Meaning.{spelling_some}
use Rattle.cursor_store.specs.declared.told.Told.{Told}
use Rattle.cursor_store.specs.declared.item.Item.{Item}
use Rattle.cursor_store.specs.declared.item.Item.TheVariants.{Change, Trim}
use Rattle.cursor_store.specs.Items.{IsItem, AreItems, told_after, all_told}
use Rattle.cursor_store.specs.ItemBytes.{item_spelling, IsItemsBody, MeansItems}
use Rattle.cursor_store.specs.ItemSpelled.{IsIn, IsNamed, HasNumbers, one_spelling}

pub item_some : (item : Item) → 0 < length (item_spelling item)
item_some (Change change) = spelling_some change
item_some (Trim start) = omega arith

pub no_item_spelt : (item : Item) (rest : List ℕ) → item_spelling item ++ rest ≡ [] → ⊥
no_item_spelt item rest is = omega (arith, ap length is, length-append (item_spelling item) rest, item_some item)

-- ---- items of their form

pub item_named : (folder : Folder) (entries : ℕ) (told : Told) (item : Item) → IsItem folder entries told item → IsNamed item
item_named folder entries told (Change change) formed = formed.0.name_is
item_named version.One entries told (Trim start) formed = tt
item_named version.Two entries told (Trim start) formed = absurd formed

pub item_in : (folder : Folder) (entries : ℕ) (told : Told) (item : Item) → IsItem folder entries told item → IsIn folder item
item_in folder entries told (Change change) formed = tt
item_in version.One entries told (Trim start) formed = tt
item_in version.Two entries told (Trim start) formed = absurd formed

pub item_numbers : (folder : Folder) (entries : ℕ) (told : Told) (item : Item) → entries ≤ 2 ^ 62 → IsItem folder entries told item → HasNumbers item
item_numbers folder entries told (Change change) low formed = formed_positions entries told.kept change low formed.0
item_numbers version.Two entries told (Trim start) low formed = absurd formed
item_numbers version.One entries told (Trim start) low formed = (omega (arith, low, formed.within), omega (arith, formed.in_range))

item_longer : (folder : Folder) (entries more : ℕ) (told : Told) (item : Item) → entries ≤ more → IsItem folder entries told item → IsItem folder more told item
item_longer folder entries more told (Change change) low formed = (formed_longer entries more told.kept change low formed.0, formed.1)
item_longer version.Two entries more told (Trim start) low formed = absurd formed
item_longer version.One entries more told (Trim start) low formed = record { rises = formed.rises; within = omega (arith, low, formed.within); acknowledged = formed.acknowledged; in_range = formed.in_range }

items_longer : (folder : Folder) (entries more : ℕ) (told : Told) (items : List Item) → entries ≤ more → AreItems folder entries told items → AreItems folder more told items
items_longer folder entries more told [] low formed = tt
items_longer folder entries more told (item ∷ items) low formed = (item_longer folder entries more told item low formed.0, items_longer folder entries more (told_after item told) items low formed.1)

-- ---- one after the other

pub one_more_told : (items : List Item) (item : Item) (told : Told) → all_told (items ++ item ∷ []) told ≡ told_after item (all_told items told)
one_more_told [] item told = refl
one_more_told (first ∷ items) item told = one_more_told items item (told_after first told)

pub one_more_item : (folder : Folder) (entries : ℕ) (told : Told) (items : List Item) (item : Item) → AreItems folder entries told items → IsItem folder entries (all_told items told) item → AreItems folder entries told (items ++ item ∷ [])
one_more_item folder entries told [] item formed last = (last, tt)
one_more_item folder entries told (first ∷ items) item formed last = (formed.0, one_more_item folder entries (told_after first told) items item formed.1 last)

-- ---- a body means one thing

spelt_alike : (folder : Folder) (entries : ℕ) (old : Told) (items others : List Item) → entries ≤ 2 ^ 62 → AreItems folder entries old items → AreItems folder entries old others → flat_map item_spelling items ≡ flat_map item_spelling others → items ≡ others
spelt_alike folder entries old [] [] low formed formed' same = refl
spelt_alike folder entries old [] (b ∷ others) low formed formed' same = absurd (no_item_spelt b (flat_map item_spelling others) (sym same))
spelt_alike folder entries old (a ∷ items) [] low formed formed' same = absurd (no_item_spelt a (flat_map item_spelling items) same)
spelt_alike folder entries old (a ∷ items) (b ∷ others) low formed formed' same =
    let one = one_spelling a b (flat_map item_spelling items) (flat_map item_spelling others)
    (item_named folder entries old a formed.0) (item_numbers folder entries old a low formed.0) (item_named folder entries old b formed'.0) (item_numbers folder entries old b low formed'.0) same in
    let rest = spelt_alike folder entries (told_after a old) items others low formed.1 (subst (λ (x : Item). AreItems folder entries (told_after x old) others) (sym one.0) formed'.1) one.1 in
    λ i. one.0 i ∷ rest i

body_one : (folder : Folder) (entries : ℕ) (old : Told) (body : List ℕ) (a b : Told) → entries ≤ 2 ^ 62 → IsItemsBody folder entries old body a → IsItemsBody folder entries old body b → a ≡ b
body_one folder entries old body a b low is is' =
    let same : is.items ≡ is'.items = spelt_alike folder entries old is.items is'.items low is.formed is'.formed (ap (λ (l : List ℕ). drop 1 l) (sym is.body_is ∙ is'.body_is)) in
    is.new_is ∙ ap (λ (items : List Item). all_told items old) same ∙ sym is'.new_is

pub items_mean_one : (folder : Folder) (entries : ℕ) (old : Told) (bodies : List (List ℕ)) (a b : Told) → entries ≤ 2 ^ 62 → MeansItems folder entries old bodies a → MeansItems folder entries old bodies b → a ≡ b
items_mean_one folder entries old [] a b low is is' = is ∙ sym is'
items_mean_one folder entries old (body ∷ bodies) a b low is is' =
    let same = body_one folder entries old body is.0 is'.0 low is.1 is'.1 in
    items_mean_one folder entries is.0 bodies a b low is.2 (subst (λ (t : Told). MeansItems folder entries t bodies b) (sym same) is'.2)

-- a longer ledger changes nothing
body_longer : (folder : Folder) (entries more : ℕ) (old : Told) (body : List ℕ) (new : Told) → entries ≤ more → IsItemsBody folder entries old body new → IsItemsBody folder more old body new
body_longer folder entries more old body new low is = record { items = is.items; body_is = is.body_is; formed = items_longer folder entries more old is.items low is.formed; new_is = is.new_is }

pub items_mean_longer : (folder : Folder) (entries more : ℕ) (old : Told) (bodies : List (List ℕ)) (told : Told) → entries ≤ more → MeansItems folder entries old bodies told → MeansItems folder more old bodies told
items_mean_longer folder entries more old [] told low is = is
items_mean_longer folder entries more old (body ∷ bodies) told low is = (is.0, body_longer folder entries more old body is.0 low is.1, items_mean_longer folder entries more is.0 bodies told low is.2)

-- one body more
pub items_mean_more : (folder : Folder) (entries : ℕ) (old : Told) (bodies : List (List ℕ)) (told : Told) (body : List ℕ) (next : Told) → MeansItems folder entries old bodies told → IsItemsBody folder entries told body next → MeansItems folder entries old (bodies ++ body ∷ []) next
items_mean_more folder entries old [] told body next is more = (next, subst (λ (t : Told). IsItemsBody folder entries t body next) is more, refl)
items_mean_more folder entries old (b ∷ bodies) told body next is more = (is.0, is.1, items_mean_more folder entries is.0 bodies told body next is.2 more)
