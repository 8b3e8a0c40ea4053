-- An upgrade is refused for one fault.
use Rattle.std.proofs.Common.{◌≡◌, ◌⊎◌, inl, inr, ℕ, ◌<◌, List, [], ◌∷◌, ◌++◌, length, drop, refl, sym, ap, subst, arith, length-append}
use Rattle.disk.specs.declared.file_id.FileId.TheVariants.{Catalog}
use Rattle.disk.specs.declared.file_id.Folder.TheVariants.{One, Two}
use Rattle.disk.specs.Disk.{Image}
use Rattle.disk.specs.Areas.{catalog_file}
use Rattle.gated_log.specs.declared.label.Label.{Label}
use Rattle.gated_log.specs.declared.refusal.Refusal.{Refusal}
use Rattle.gated_log.specs.Labels.{header, header_size, plain, IsLabel}
use Rattle.gated_log.specs.Headers.{IsHeaderDamaged}
use Rattle.gated_log.specs.Folds.{Link, IsLabelFault, IsFault}
use Rattle.gated_log.specs.One.{long_header}
use Rattle.gated_log.specs.OneFault.{fault_one, log_no_fault}
use Rattle.gated_log.specs.Reading.{IsHeaderRefusal}
use Rattle.managed_ledger.specs.Entries.{Ledger, Stands as EntriesStand}
use Rattle.managed_ledger.specs.Folded as ledger_faults
use Rattle.managed_ledger.specs.Settled as ledgers
use Rattle.cursor_store.specs.Cursors.{StandsFor as SubscriptionsStand}
use Rattle.cursor_store.specs.Folded as slot_faults
use Rattle.cursor_store.specs.Fronts.{Begins}
use Rattle.cursor_store.specs.FrontLaws.{begins_one, begins_stands}
use Rattle.cursor_store.specs.Laws as cursors
use Rattle.records.specs.Maps.{Kept}
use Rattle.catalog.specs.Names.{Names}
use Rattle.catalog.specs.Catalogs.{IsCatalogLabel, StandsIn}
use Rattle.catalog.specs.Folded.{IsOfNames, IsFaultIn, IsHeaderFault, less}
use Rattle.catalog.specs.Laws.{list_one, list_open}
use Rattle.topic_stores.specs.Laws as stores
use Rattle.topic_stores.specs.Old.{AreIn, IsOldFault, old}
use Rattle.node.specs.Lists.{get_at}
use Rattle.node.specs.Opening.{IsTopicFault}
use Rattle.node.specs.Upgrading.{Content, IsOld, IsNew, IsOldTopicFault, IsUpgradeFault}
use Rattle.node.specs.Folders.{UpgradesHaveOneFault}
use Rattle.node.proofs.OneFault.{topics_one}

-- ---- a topic of version 1

abbrev OldIn : ℕ → Image → Ledger → Kept → Type 0
OldIn number = AreIn (old number)

old_one : (number : ℕ) (c : Image) (one other : Refusal) → IsOldFault number c one → IsOldFault number c other → one ≡ other
old_one number = stores.fault_one Begins EntriesStand ledger_faults.IsFault slot_faults.IsFault ledgers.stand_one ledger_faults.ledger_no_fault ledger_faults.fault_one slot_faults.fault_one begins_one (old number)

old_sound : (number : ℕ) (c : Image) (ledger : Ledger) (kept : Kept) (why : Refusal) → OldIn number c ledger kept → ¬ IsOldFault number c why
old_sound number = stores.stand_sound Begins EntriesStand ledger_faults.IsFault slot_faults.IsFault ledgers.stand_one ledger_faults.ledger_no_fault SubscriptionsStand slot_faults.stands_sound cursors.stands_fits
    (λ t start image ledger stands. stands.ledger.few) begins_stands (old number)

topic_fault : (count : ℕ) (c : Image) (why : Refusal) → IsOldTopicFault count c why → IsTopicFault OldIn IsOldFault count c why
topic_fault count c why is = record { number = is.number; there = is.there; fault = is.fault; first = is.first }

-- ---- the list of version 1

no_list_fault : (number : ℕ) (c : Image) (names : Names) (why : Refusal) → StandsIn One number c names → ¬ IsFaultIn One c why
no_list_fault number c names why is =
    let log : Link = record { label = plain number; bodies = names } in
    λ bad. log_no_fault IsOfNames less log (Catalog One) (c (Catalog One)) why (record { label = record { alone = refl; ledgers = is.ledgers }; names_are = is.names_are }) is.log bad

-- what of a folder of version 1 is refused
abbrev OldFault : Image → Refusal → Type 0
OldFault c why = IsFaultIn One c why ⊎ ((per_ledger : ℕ) × (names : Names) × StandsIn One per_ledger c names × IsOldTopicFault (length names) c why)

old_fault_one : (c : Image) (one other : Refusal) → OldFault c one → OldFault c other → one ≡ other
old_fault_one c one other (inl is) (inl is') = fault_one IsOfNames less (Catalog One) (c (Catalog One)) one other is is'
old_fault_one c one other (inl is) (inr is') = absurd (no_list_fault is'.0 c is'.1 one is'.2 is)
old_fault_one c one other (inr is) (inl is') = absurd (no_list_fault is.0 c is.1 other is.2 is')
old_fault_one c one other (inr is) (inr is') =
    topics_one OldIn IsOldFault old_one old_sound (length is.1) (length is'.1) c one other (topic_fault (length is.1) c one is.3) (topic_fault (length is'.1) c other is'.3)

-- ---- the header of the list of version 2

-- a log whose label is of a list
abbrev IsLabelled : Link → Type 0
IsLabelled log = IsCatalogLabel log.label

keeps : (log : Link) (body : List ℕ) → IsLabelled (record log { bodies = log.bodies ++ body ∷ [] }) → IsLabelled log
keeps log body is = is

label_bad : (label : Label) (rest file : List ℕ) → IsLabel Two label → file ≡ header Two 1 label ++ rest → (¬ IsCatalogLabel label) → IsHeaderDamaged Two file ⊎ IsLabelFault Two IsLabelled file
label_bad label [] file good bytes bad =
    let long : length file ≡ header_size Two = omega (arith, ap length bytes, length-append (header Two 1 label) [], long_header Two label) in
    inl (record { rest = drop 1 (header Two 1 label) ++ []; bytes = bytes; whole = omega (arith, long) }, inr long)
label_bad label (gate ∷ rest) file good bytes bad = inr (record {
  label = label;
  long = omega (arith, ap length bytes, length-append (header Two 1 label) (gate ∷ rest), long_header Two label);
  is_open = record { rest = gate ∷ rest; in_range = good; bytes = bytes };
  bad = bad;
})

header_refused : (file : List ℕ) (why : Refusal) → IsHeaderRefusal catalog_file file why → IsFault IsLabelled catalog_file file why
header_refused file why (inl is) = subst (λ (e : Refusal). IsFault IsLabelled catalog_file file e) (sym is.0) is.1
header_refused file why (inr (inl is)) = subst (λ (e : Refusal). IsFault IsLabelled catalog_file file e) (sym is.0) is.1
header_refused file why (inr (inr is)) = subst (λ (e : Refusal). IsFault IsLabelled catalog_file file e) (sym is.0) (refl, inl (inl is.1, refl))

header_bad : (file : List ℕ) (why : Refusal) → IsHeaderFault file why → IsFault IsLabelled catalog_file file why
header_bad file why (inl is) = header_refused file why is
header_bad file why (inr is) =
    let there = is.0.1 in
    subst (λ (e : Refusal). IsFault IsLabelled catalog_file file e) (sym is.1) (refl, inl (label_bad is.0.0 there.rest file there.in_range there.bytes is.0.2, refl))

-- ---- both

fault_is_one : (c : Image) (one other : Refusal) → IsUpgradeFault c one → IsUpgradeFault c other → one ≡ other
fault_is_one c one other (inl is) (inl is') = old_fault_one c one other is.1 is'.1
fault_is_one c one other (inl is) (inr is') = absurd (is'.0 is.0)
fault_is_one c one other (inr is) (inl is') = absurd (is.0 is'.0)
fault_is_one c one other (inr is) (inr is') = fault_one IsLabelled keeps catalog_file (c catalog_file) one other (header_bad (c catalog_file) one is.1) (header_bad (c catalog_file) other is'.1)

sound_old : (x : Content) (c : Image) (why : Refusal) → IsOld x c → ¬ OldFault c why
sound_old x c why is (inl bad) = no_list_fault x.per_ledger c x.names why is.names bad
sound_old x c why is (inr bad) =
    let fault = bad.3 in
    let same = list_one One bad.0 x.per_ledger c bad.1 x.names bad.2 is.names in
    let there : fault.number < length x.topics = omega (arith, fault.there, ap (λ (l : Names). length l) same.1, is.as_many) in
    let part = get_at x.topics fault.number there in
    old_sound fault.number c part.0.0 part.0.1 why (is.topics fault.number part.0 part.1) fault.fault

sound : (c : Image) (x : Content) (why : Refusal) → IsOld x c ⊎ IsNew x c → ¬ IsUpgradeFault c why
sound c x why (inl is) (inl bad) = sound_old x c why is bad.1
sound c x why (inl is) (inr bad) = bad.0 (list_open One x.per_ledger c x.names is.names)
sound c x why (inr is) (inl bad) = is.newest bad.0
sound c x why (inr is) (inr bad) =
    let log : Link = record { label = plain x.per_ledger; bodies = x.names } in
    log_no_fault IsLabelled keeps log catalog_file (c catalog_file) why (record { alone = refl; ledgers = is.names.ledgers }) is.names.log (header_bad (c catalog_file) why bad.1)

pub one_fault_each : UpgradesHaveOneFault
one_fault_each c = record { one = fault_is_one c; none = sound c }
