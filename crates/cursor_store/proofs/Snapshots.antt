-- A snapshot grows.
use Rattle.std.proofs.Common.{◌≡◌, ℕ, ◌≤◌, List, [], ◌∷◌, ◌++◌, true, false, length, refl, sym, ◌∙◌, ap, subst, arith, append-nil, length-append, inl, inr}
use Rattle.std.proofs.lemmas.Bool.{cases_lt}
use Rattle.std.specs.FinMap as map
use Rattle.std.specs.List.{flat_map}
use Rattle.std.proofs.lemmas.List.Concat.{flat_map-append}
use Rattle.disk.specs.declared.file_id.Folder.TheVariants.{Two}
use Rattle.gated_log.specs.declared.prepared_log.LogBuilder.{LogBuilder}
use Rattle.gated_log.specs.declared.prepared_log.PreparedLog.{PreparedLog}
use Rattle.gated_log.specs.Wholes.{Builds, IsLogOf}
use Rattle.cursor.specs.Positions.{Positions, IsFirstOpen}
use Rattle.records.specs.declared.record.Record.{Record}
use Rattle.records.specs.declared.record.Record.TheVariants.{Made, AcknowledgedRange}
use Rattle.records.specs.Maps.{Kept, IsSound}
use Rattle.records.specs.Records.{IsFormed, IsNew}
use Rattle.records.specs.Names.{is_subscription_name}
use Rattle.records.specs.Snapshots.{Subscription, HasCome, come_none, come_one, come_all, come_there, come_named, come_new}
use Rattle.records.specs.Within.{AreBelow}
use Rattle.gated_log.specs.declared.start.Start.{Start}
use Rattle.cursor_store.specs.declared.told.Told.{Told}
use Rattle.cursor_store.specs.declared.item.Item.{Item}
use Rattle.cursor_store.specs.declared.item.Item.TheVariants.{Change}
use Rattle.cursor_store.specs.declared.snapshot_writer.SnapshotWriter.{SnapshotWriter}
use Rattle.records.specs.Floors.{HasBelow}
use Rattle.cursor_store.specs.Items.{FitsLedger, IsItem, told_after, all_told, told_of, untold}
use Rattle.cursor_store.specs.ItemBytes.{item_spelling, body_of_items, MeansItems}
use Rattle.cursor_store.specs.ItemMeaning.{items_mean_more, item_some, one_more_told, one_more_item}
use Rattle.cursor_store.specs.Snapshots.{HasWritten, IsSnapshot}

body_more : (items : List Item) (item : Item) → body_of_items (items ++ item ∷ []) ≡ body_of_items items ++ item_spelling item
body_more items item =
    ap (λ (l : List ℕ). 0 ∷ l) (flat_map-append item_spelling items (item ∷ []) ∙ ap (λ (l : List ℕ). flat_map item_spelling items ++ l) (append-nil (item_spelling item)))

-- before the first item
pub none_written : (entries : ℕ) (writer : SnapshotWriter) (start : Start) → Builds writer.log [] → writer.body.items ≡ 0 ∷ [] → HasWritten entries writer (untold start)
none_written entries writer start builds body = record { bodies = []; builds = builds; before = untold start; means = refl; items = []; body_is = body; formed = tt; told_is = refl }

-- one record more
pub one_written : (entries : ℕ) (old new : SnapshotWriter) (told : Told) (change : Record) → new.log ≡ old.log → new.body.items ≡ old.body.items ++ item_spelling (Change change) → HasWritten entries old told → IsItem Two entries told (Change change)
    → HasWritten entries new (told_after (Change change) told)
one_written entries old new told change log body h formed = record {
  bodies = h.bodies;
  builds = subst (λ (l : LogBuilder). Builds l h.bodies) (sym log) h.builds;
  before = h.before;
  means = h.means;
  items = h.items ++ Change change ∷ [];
  body_is = body ∙ ap (λ (l : List ℕ). l ++ item_spelling (Change change)) h.body_is ∙ sym (body_more h.items (Change change));
  formed = one_more_item Two entries h.before h.items (Change change) h.formed (subst (λ (t : Told). IsItem Two entries t (Change change)) h.told_is formed);
  told_is = ap (λ (t : Told). told_after (Change change) t) h.told_is ∙ sym (one_more_told h.items (Change change) h.before);
}

its_body : (entries : ℕ) (writer : SnapshotWriter) (told : Told) → (h : HasWritten entries writer told) → MeansItems Two entries (untold told.start) (h.bodies ++ writer.body.items ∷ []) told
its_body entries writer told h =
    items_mean_more Two entries (untold told.start) h.bodies h.before writer.body.items told h.means (record { items = h.items; body_is = h.body_is; formed = h.formed; new_is = h.told_is })

-- the body that grew is whole
pub body_written : (entries : ℕ) (old new : SnapshotWriter) (told : Told) → (h : HasWritten entries old told) → Builds new.log (h.bodies ++ old.body.items ∷ []) → new.body.items ≡ 0 ∷ [] → HasWritten entries new told
body_written entries old new told h builds body = record {
  bodies = h.bodies ++ old.body.items ∷ [];
  builds = builds;
  before = told;
  means = its_body entries old told h;
  items = [];
  body_is = body;
  formed = tt;
  told_is = refl;
}

no_items : (items : List Item) → length (body_of_items items) ≤ 1 → items ≡ []
no_items [] few = refl
no_items (item ∷ items) few = absurd (omega (arith, few, length-append (item_spelling item) (flat_map item_spelling items), item_some item))

-- all is written
pub all_written : (entries : ℕ) (writer : SnapshotWriter) (log : PreparedLog) (told : Told) → length writer.body.items ≤ 1 → (h : HasWritten entries writer told) → IsLogOf log h.bodies → IsSnapshot entries log told
all_written entries writer log told few h is =
    let none = no_items h.items (omega (arith, few, ap length h.body_is)) in
    record { bodies = h.bodies; is = is; means = subst (λ (t : Told). MeansItems Two entries (untold told.start) h.bodies t) (sym (h.told_is ∙ ap (λ (items : List Item). all_told items h.before) none)) h.means }

pub last_written : (entries : ℕ) (writer : SnapshotWriter) (log : PreparedLog) (told : Told) → (h : HasWritten entries writer told) → IsLogOf log (h.bodies ++ writer.body.items ∷ []) → IsSnapshot entries log told
last_written entries writer log told h is = record { bodies = h.bodies ++ writer.body.items ∷ []; is = is; means = its_body entries writer told h }

-- a subscription is made where the ledger begins, or later
mark_from : (b mark : ℕ) (s : Positions) → IsFirstOpen s 0 mark → HasBelow b s → b ≤ mark
mark_from b mark s is has = elim (cases_lt mark b) [
  | inl less ↦ absurd (let e : false ≡ true = sym is.missing ∙ has mark less in cc)
  | inr high ↦ high
]

pub made_item : (entries : ℕ) (told : Told) (name : List ℕ) (mark : ℕ) (s : Positions) → IsFirstOpen s 0 mark → HasBelow told.start.base s → IsFormed entries told.kept (Made name mark) → IsItem Two entries told (Change (Made name mark))
made_item entries told name mark s is has formed = (formed, mark_from told.start.base mark s is has)

pub range_item : (entries : ℕ) (told : Told) (name : List ℕ) (first last : ℕ) → IsFormed entries told.kept (AcknowledgedRange name first last) → IsItem Two entries told (Change (AcknowledgedRange name first last))
range_item entries told name first last formed = (formed, tt)

-- ---- subscription by subscription

-- the first ones are written, and these are left
pub record Came (kept : Kept) (writer : SnapshotWriter) (rest : List Subscription) : Type 0 where
  pub sofar : Kept
  pub come : HasCome kept sofar rest
  pub written : (entries : ℕ) (start : Start) → FitsLedger entries (told_of start kept) → HasWritten entries writer (told_of start sofar)

-- before the first one
pub came_none : (kept : Kept) (writer : SnapshotWriter) (rest : List Subscription) → rest ≡ map.entries kept → ((entries : ℕ) (start : Start) → HasWritten entries writer (untold start)) → Came kept writer rest
came_none kept writer rest all begun = record {
  sofar = map.empty;
  come = subst (λ (l : List Subscription). HasCome kept map.empty l) (sym all) (come_none kept);
  written = λ entries start fits. begun entries start;
}

-- one subscription more
abbrev pub Adds : SnapshotWriter → SnapshotWriter → List ℕ → Positions → Type 0
Adds old new name acked = (entries : ℕ) (start : Start) (sofar : Kept) → HasWritten entries old (told_of start sofar) → IsNew sofar name → AreBelow entries acked → HasBelow start.base acked → HasWritten entries new (told_of start (map.insert sofar name acked))

pub came_one : (kept : Kept) (old new : SnapshotWriter) (name name' : List ℕ) (acked acked' : Positions) (rest : List Subscription) → name' ≡ name → acked' ≡ acked → IsSound kept → (came : Came kept old ((name, acked) ∷ rest))
    → Adds old new name' acked' → Came kept new rest
came_one kept old new name name' acked acked' rest same same' sound came adds =
    let there = come_there kept came.sofar (name, acked) rest came.come in
    record {
      sofar = map.insert came.sofar name acked;
      come = come_one kept came.sofar (name, acked) rest came.come;
      written = λ entries start fits.
          subst (λ (n : List ℕ). Adds old new n acked) same (subst (λ (s : Positions). Adds old new name' s) same' adds)
          entries start came.sofar (came.written entries start fits) (come_new kept came.sofar (name, acked) rest sound came.come) (fits.within name acked there) (fits.begins.acknowledged name acked there);
    }

-- all are
pub came_all : (kept : Kept) (writer : SnapshotWriter) → (came : Came kept writer []) → (entries : ℕ) (start : Start) → FitsLedger entries (told_of start kept) → HasWritten entries writer (told_of start kept)
came_all kept writer came entries start fits = subst (λ (k : Kept). HasWritten entries writer (told_of start k)) (come_all kept came.sofar came.come) (came.written entries start fits)

-- the next one has a name
pub came_named : (kept : Kept) (writer : SnapshotWriter) (e : Subscription) (rest : List Subscription) → IsSound kept → Came kept writer (e ∷ rest) → is_subscription_name e.0 ≡ true
came_named kept writer e rest sound came = come_named kept came.sofar e rest sound came.come
