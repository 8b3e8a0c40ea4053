-- What the log in the slots must be, why the slots are refused, and what a fold of the log has taken.
use Rattle.std.proofs.Common.{◌≡◌, ℕ, ◌≤◌, ◌^◌, Bool, true, false, List, [], ◌∷◌, ◌++◌, refl, sym, ap, subst}
use Rattle.disk.specs.declared.file_id.Folder.{Folder}
use Rattle.gated_log.specs.Starts.{untrimmed}
use Rattle.gated_log.specs.declared.label.Label.{Label}
use Rattle.gated_log.specs.Batches.{Bodies}
use Rattle.gated_log.specs.Folds.{Link, grown, begun}
use Rattle.disk.specs.declared.file_id.TopicId.{TopicId}
use Rattle.disk.specs.Disk.{Image}
use Rattle.gated_log.specs.declared.refusal.Refusal.{Refusal}
use Rattle.two_slot.specs.Faults.{IsSlotsFault}
use Rattle.two_slot.specs.One.{slots_fault_one}
use Rattle.two_slot.specs.Standing.{slots_no_fault}
use Rattle.records.specs.Maps.{Kept}
use Rattle.gated_log.specs.declared.start.Start.{Start}
use Rattle.cursor_store.specs.declared.told.Told.{Told}
use Rattle.cursor_store.specs.Items.{FitsLedger, untold, told_of}
use Rattle.cursor_store.specs.ItemBytes.{IsItemsBody, MeansItems}
use Rattle.cursor_store.specs.ItemMeaning.{items_mean_one, items_mean_more}
use Rattle.cursor_store.specs.Cursors.{StandsFor}

-- a ledger of so many entries may begin where its header says, and its bodies tell something
abbrev pub IsOfItems : Folder → ℕ → Link → Type 0
IsOfItems folder entries log = FitsLedger entries (untold log.label.start) × ((told : Told) × MeansItems folder entries (untold log.label.start) log.bodies told)

-- why the slots of a topic are refused, beside a ledger of so many entries: the first thing in them that no such log has
abbrev pub IsFault : TopicId → ℕ → Image → Refusal → Type 0
IsFault topic entries image refusal = IsSlotsFault (IsOfItems topic.folder entries) topic image refusal

-- one such log at most
abbrev pub AreOfItems : Folder → ℕ → List Link → Type 0
AreOfItems folder entries [] = Unit {0}
AreOfItems folder entries (log ∷ []) = IsOfItems folder entries log
AreOfItems folder entries (log ∷ next ∷ logs) = ⊥

-- it begun, and its bodies make this
abbrev pub HasTaken : Folder → ℕ → Bool → Told → List Link → Type 0
HasTaken folder entries false told [] = told ≡ untold untrimmed
HasTaken folder entries false told (log ∷ logs) = ⊥
HasTaken folder entries true told [] = ⊥
HasTaken folder entries true told (log ∷ []) = FitsLedger entries (untold log.label.start) × MeansItems folder entries (untold log.label.start) log.bodies told
HasTaken folder entries true told (log ∷ next ∷ logs) = ⊥

pub taken_form : (folder : Folder) (entries : ℕ) (started : Bool) (told : Told) (logs : List Link) → HasTaken folder entries started told logs → AreOfItems folder entries logs
taken_form folder entries false told [] held = tt
taken_form folder entries false told (log ∷ logs) held = absurd held
taken_form folder entries true told [] held = absurd held
taken_form folder entries true told (log ∷ []) held = (held.0, (told, held.1))
taken_form folder entries true told (log ∷ next ∷ logs) held = held

pub items_before : (folder : Folder) (entries : ℕ) (logs : List Link) (log : Link) → AreOfItems folder entries (logs ++ log ∷ []) → AreOfItems folder entries logs
items_before folder entries [] log is = tt
items_before folder entries (l ∷ []) log is = absurd is
items_before folder entries (l ∷ m ∷ logs) log is = is

-- the last of some bodies
pub record Last (folder : Folder) (entries : ℕ) (old : Told) (bodies : Bodies) (body : List ℕ) (end : Told) : Type 0 where
  pub told : Told
  pub means : MeansItems folder entries old bodies told
  pub is : IsItemsBody folder entries told body end

pub means_last : (folder : Folder) (entries : ℕ) (old : Told) (bodies : Bodies) (body : List ℕ) (end : Told) → MeansItems folder entries old (bodies ++ body ∷ []) end → Last folder entries old bodies body end
means_last folder entries old [] body end is = record { told = old; means = refl; is = subst (λ (k : Told). IsItemsBody folder entries old body k) (sym is.2) is.1 }
means_last folder entries old (b ∷ bodies) body end is =
    let rest = means_last folder entries is.0 bodies body end is.2 in
    record { told = rest.told; means = (is.0, is.1, rest.means); is = rest.is }

pub items_less : (folder : Folder) (entries : ℕ) (logs : List Link) (log : Link) (body : List ℕ) → AreOfItems folder entries (logs ++ grown log body ∷ []) → AreOfItems folder entries (logs ++ log ∷ [])
items_less folder entries [] log body is = let last = means_last folder entries (untold log.label.start) log.bodies body is.1.0 is.1.1 in (is.0, (last.told, last.means))
items_less folder entries (l ∷ []) log body is = is
items_less folder entries (l ∷ m ∷ logs) log body is = is

-- a log more may not begin
pub none_behind : (folder : Folder) (entries : ℕ) (started : Bool) (told : Told) (logs : List Link) (log : Link) → started ≡ true → HasTaken folder entries started told logs → ¬ AreOfItems folder entries (logs ++ log ∷ [])
none_behind folder entries false told logs log is held = cc
none_behind folder entries true told [] log is held = absurd held
none_behind folder entries true told (l ∷ []) log is held = λ bad. bad
none_behind folder entries true told (l ∷ m ∷ logs) log is held = absurd held

-- the first one begins where the header says, with what was kept before
abbrev pub started_at : Told → Start → Told
started_at told start = told_of start told.kept

pub first_begins : (folder : Folder) (entries : ℕ) (started : Bool) (told : Told) (logs : List Link) (label : Label) → started ≡ false → FitsLedger entries (untold label.start) → HasTaken folder entries started told logs
    → HasTaken folder entries true (started_at told label.start) (logs ++ begun label ∷ [])
first_begins folder entries true told logs label is fits held = cc
first_begins folder entries false told [] label is fits held = (fits, ap (λ (t : Told). started_at t label.start) held)
first_begins folder entries false told (l ∷ logs) label is fits held = absurd held

-- none begins where no such ledger may
pub none_begins : (folder : Folder) (entries : ℕ) (started : Bool) (told : Told) (logs : List Link) (label : Label) → started ≡ false → ¬ FitsLedger entries (untold label.start) → HasTaken folder entries started told logs
    → ¬ AreOfItems folder entries (logs ++ begun label ∷ [])
none_begins folder entries true told logs label is unfit held = cc
none_begins folder entries false told [] label is unfit held = λ log. unfit log.0
none_begins folder entries false told (l ∷ logs) label is unfit held = absurd held

-- a body more
pub takes_body : (folder : Folder) (entries : ℕ) (started : Bool) (told next : Told) (logs : List Link) (log : Link) (body : List ℕ) → HasTaken folder entries started told (logs ++ log ∷ []) → IsItemsBody folder entries told body next
    → HasTaken folder entries started next (logs ++ grown log body ∷ [])
takes_body folder entries false told next [] log body held is = absurd held
takes_body folder entries false told next (l ∷ logs) log body held is = absurd held
takes_body folder entries true told next [] log body held is = (held.0, items_mean_more folder entries (untold log.label.start) log.bodies told body next held.1 is)
takes_body folder entries true told next (l ∷ []) log body held is = absurd held
takes_body folder entries true told next (l ∷ m ∷ logs) log body held is = absurd held

-- a body that isn't of its form
pub refuses_body : (folder : Folder) (entries : ℕ) (started : Bool) (told : Told) (logs : List Link) (log : Link) (body : List ℕ) → entries ≤ 2 ^ 62 → HasTaken folder entries started told (logs ++ log ∷ [])
    → ((next : Told) → ¬ IsItemsBody folder entries told body next) → ¬ AreOfItems folder entries (logs ++ grown log body ∷ [])
refuses_body folder entries false told [] log body low held none = absurd held
refuses_body folder entries false told (l ∷ logs) log body low held none = absurd held
refuses_body folder entries true told [] log body low held none = λ is.
    let old = untold log.label.start in
    let last = means_last folder entries old log.bodies body is.1.0 is.1.1 in
    none is.1.0 (subst (λ (k : Told). IsItemsBody folder entries k body is.1.0) (items_mean_one folder entries old log.bodies last.told told low last.means held.1) last.is)
refuses_body folder entries true told (l ∷ []) log body low held none = absurd held
refuses_body folder entries true told (l ∷ m ∷ logs) log body low held none = absurd held

-- what one log makes
pub taken_means : (rule rule' : Folder × ℕ) (started : Bool) (told : Told) (log : Link) → rule' ≡ rule → HasTaken rule'.0 rule'.1 started told (log ∷ [])
    → FitsLedger rule.1 (untold log.label.start) × MeansItems rule.0 rule.1 (untold log.label.start) log.bodies told
taken_means rule rule' false told log same held = absurd held
taken_means rule rule' true told log same held = subst (λ (r : Folder × ℕ). FitsLedger r.1 (untold log.label.start) × MeansItems r.0 r.1 (untold log.label.start) log.bodies told) same held

-- The slots of a topic have one first fault, and those that stand for subscriptions have none.
pub fault_one : (topic : TopicId) (entries : ℕ) (image : Image) (one other : Refusal) → IsFault topic entries image one → IsFault topic entries image other → one ≡ other
fault_one topic entries image one other is is' = slots_fault_one (IsOfItems topic.folder entries) (items_less topic.folder entries []) topic image one other is is'

pub stands_sound : (topic : TopicId) (entries : ℕ) (start : Start) (image : Image) (kept : Kept) (refusal : Refusal) → StandsFor topic entries start image kept → ¬ IsFault topic entries image refusal
stands_sound topic entries start image kept refusal is = λ fault.
    let begins = is.stands.starts in
    let fits = subst (λ (s : Start). FitsLedger entries (untold s)) (sym begins) is.fits in
    let means = subst (λ (s : Start). MeansItems topic.folder entries (untold s) is.bodies (told_of start kept)) (sym begins) is.means in
    slots_no_fault (IsOfItems topic.folder entries) (items_less topic.folder entries []) topic image is.said is.bodies refusal is.stands (fits, (told_of start kept, means)) fault
