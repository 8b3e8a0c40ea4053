-- What the log of a catalog must be, why its file is refused, and what a fold of the log has taken.
use Rattle.std.proofs.Common.{◌≡◌, ◌⊎◌, ℕ, Bool, true, false, List, [], ◌∷◌, ◌++◌, sym, ◌∙◌, ap}
use Rattle.disk.specs.Areas.{catalog_file}
use Rattle.disk.specs.Disk.{Image}
use Rattle.gated_log.specs.declared.refusal.Refusal.{Refusal}
use Rattle.disk.specs.declared.file_id.Folder.{Folder}
use Rattle.disk.specs.declared.file_id.Folder.TheVariants.{Two}
use Rattle.disk.specs.declared.file_id.FileId.TheVariants.{Catalog}
use Rattle.gated_log.specs.declared.refusal.Refusal.TheVariants.{Version, Damaged}
use Rattle.gated_log.specs.declared.label.Label.{Label}
use Rattle.catalog.specs.Catalogs.{OldCounts, IsCatalogLabel}
use Rattle.gated_log.specs.Headers.{IsOpen}
use Rattle.gated_log.specs.Reading.{IsHeaderRefusal as IsFileRefusal}
use Rattle.gated_log.specs.Folds.{Link, grown, begun, IsFault as IsLogFault}
use Rattle.catalog.specs.Names.{Names, AreNames, can_follow}
use Rattle.catalog.specs.Growing.{no_names, names_more, names_less, next_of, last_next, next_can}

-- its number is one of entries a ledger, beside which its label says nothing, and its bodies are names
pub record IsOfNames (log : Link) : Type 0 where
  pub label : IsCatalogLabel log.label
  pub names_are : AreNames log.bodies

-- why the list of a folder of this version is refused: the first thing in it that no such log has
abbrev pub IsFaultIn : Folder → Image → Refusal → Type 0
IsFaultIn folder image refusal = IsLogFault IsOfNames (Catalog folder) (image (Catalog folder)) refusal

-- why the file is refused
abbrev pub IsFault : Image → Refusal → Type 0
IsFault = IsFaultIn Two

-- why a folder is refused, by its lists: one of version 1 counts, or where none does the file has that fault
abbrev pub IsNewestFault : Image → Refusal → Type 0
IsNewestFault image refusal = (OldCounts image × (refusal ≡ Version)) ⊎ ((¬ OldCounts image) × IsFault image refusal)

-- why it is refused as far as its header tells
abbrev pub IsHeaderFault : List ℕ → Refusal → Type 0
IsHeaderFault file refusal = IsFileRefusal catalog_file file refusal ⊎ (((label : Label) × IsOpen Two label file × (¬ IsCatalogLabel label)) × (refusal ≡ Damaged catalog_file 0))

-- one such log at most
abbrev pub AreCatalogs : List Link → Type 0
AreCatalogs [] = Unit {0}
AreCatalogs (log ∷ []) = IsOfNames log
AreCatalogs (log ∷ next ∷ logs) = ⊥

-- it is of names, and these are its bodies
pub record HasNames (names : Names) (log : Link) : Type 0 where
  pub is : IsOfNames log
  pub same : names ≡ log.bodies

-- the log began, and its bodies are these names
abbrev pub HasTaken : Bool → Names → List Link → Type 0
HasTaken false names [] = names ≡ []
HasTaken false names (log ∷ logs) = ⊥
HasTaken true names [] = ⊥
HasTaken true names (log ∷ []) = HasNames names log
HasTaken true names (log ∷ next ∷ logs) = ⊥

pub taken_form : (started : Bool) (names : Names) (logs : List Link) → HasTaken started names logs → AreCatalogs logs
taken_form false names [] held = tt
taken_form false names (log ∷ logs) held = absurd held
taken_form true names [] held = absurd held
taken_form true names (log ∷ []) held = held.is
taken_form true names (log ∷ next ∷ logs) held = held

pub catalogs_before : (logs : List Link) (log : Link) → AreCatalogs (logs ++ log ∷ []) → AreCatalogs logs
catalogs_before [] log is = tt
catalogs_before (l ∷ []) log is = absurd is
catalogs_before (l ∷ m ∷ logs) log is = is

pub less : (log : Link) (body : List ℕ) → IsOfNames (grown log body) → IsOfNames log
less log body is = record { label = is.label; names_are = names_less log.bodies body is.names_are }

pub catalogs_less : (logs : List Link) (log : Link) (body : List ℕ) → AreCatalogs (logs ++ grown log body ∷ []) → AreCatalogs (logs ++ log ∷ [])
catalogs_less [] log body is = less log body is
catalogs_less (l ∷ []) log body is = is
catalogs_less (l ∷ m ∷ logs) log body is = is

-- the first log may begin, where its label is of a list, and no other may
pub first_begins : (started : Bool) (names : Names) (logs : List Link) (label : Label) → started ≡ false → IsCatalogLabel label → HasTaken started names logs → HasTaken true names (logs ++ begun label ∷ [])
first_begins true names logs label is good held = cc
first_begins false names [] label is good held = record { is = record { label = good; names_are = no_names }; same = held }
first_begins false names (l ∷ logs) label is good held = absurd held

pub none_behind : (started : Bool) (names : Names) (logs : List Link) (log : Link) → started ≡ true → HasTaken started names logs → ¬ AreCatalogs (logs ++ log ∷ [])
none_behind false names logs log is held = cc
none_behind true names [] log is held = absurd held
none_behind true names (l ∷ []) log is held = λ bad. bad
none_behind true names (l ∷ m ∷ logs) log is held = absurd held

pub bad_label : (logs : List Link) (label : Label) → (¬ IsCatalogLabel label) → ¬ AreCatalogs (logs ++ begun label ∷ [])
bad_label [] label bad = λ is. bad is.label
bad_label (l ∷ []) label bad = λ is. is
bad_label (l ∷ m ∷ logs) label bad = λ is. is

-- a name more
pub takes_name : (started : Bool) (names new : Names) (logs : List Link) (log : Link) (body : List ℕ) → HasTaken started names (logs ++ log ∷ []) → can_follow names body ≡ true → new ≡ names ++ body ∷ [] → HasTaken started new (logs ++ grown log body ∷ [])
takes_name false names new [] log body held can grows = absurd held
takes_name false names new (l ∷ logs) log body held can grows = absurd held
takes_name true names new [] log body held can grows = record {
  is = record { label = held.is.label; names_are = names_more log.bodies body held.is.names_are (next_of log.bodies body (ap (λ (l : Names). can_follow l body) (sym held.same) ∙ can)) };
  same = grows ∙ ap (λ (l : Names). l ++ body ∷ []) held.same;
}
takes_name true names new (l ∷ []) log body held can grows = absurd held
takes_name true names new (l ∷ m ∷ logs) log body held can grows = absurd held

-- a body that is no name that may follow
pub refuses_body : (started : Bool) (names : Names) (logs : List Link) (log : Link) (body : List ℕ) → HasTaken started names (logs ++ log ∷ []) → can_follow names body ≡ false → ¬ AreCatalogs (logs ++ grown log body ∷ [])
refuses_body false names [] log body held wrong = absurd held
refuses_body false names (l ∷ logs) log body held wrong = absurd held
refuses_body true names [] log body held wrong = λ is.
    let can : can_follow names body ≡ true = ap (λ (l : Names). can_follow l body) held.same ∙ next_can log.bodies body (last_next log.bodies body is.names_are) in
    absurd (Prim.cc)
refuses_body true names (l ∷ []) log body held wrong = absurd held
refuses_body true names (l ∷ m ∷ logs) log body held wrong = absurd held

-- what was taken of one log
pub taken_names : (started : Bool) (names : Names) (log : Link) → HasTaken started names (log ∷ []) → HasNames names log
taken_names false names log held = absurd held
taken_names true names log held = held
