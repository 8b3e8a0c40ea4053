-- A folder is upgraded: its files of version 1 stay, until their list of topics is closed.
use Rattle.std.proofs.Common.{◌≡◌, ◌⊎◌, inl, inr, ⊎_elim, ℕ, zero, suc, ◌+◌, ◌<◌, List, [], ◌∷◌, ◌++◌, length, length-append, refl, sym, ◌∙◌, ap, subst, arith}
use Rattle.std.specs.Prelude.{Some, slice_get}
use Rattle.std.proofs.lemmas.Bool.{cases_eq}
use Rattle.std.proofs.lemmas.Option.{slice_get_within}
use Rattle.disk.specs.declared.file_id.FileId.{FileId}
use Rattle.disk.specs.declared.file_id.FileId.TheVariants.{Catalog, Segment, Slot}
use Rattle.disk.specs.declared.file_id.Folder.TheVariants.{One, Two}
use Rattle.disk.specs.declared.file_id.TopicId.{TopicId}
use Rattle.disk.specs.Areas.{Agree, catalog_file, FilesOf, InFolder, OfTopic, Within, apart, folder_of, served, widen_within}
use Rattle.disk.specs.Disk.{Disk, Image, Kept, Leaves, Outcome, Synced}
use Rattle.disk.specs.Moments.{joins, starts, weaken}
use Rattle.gated_log.specs.declared.refusal.Refusal.{Refusal}
use Rattle.gated_log.specs.declared.refusal.Refusal.TheVariants.{Device, NoMemory}
use Rattle.gated_log.specs.Batches.{IsLog}
use Rattle.gated_log.specs.Headers.{HasOpenHeader}
use Rattle.gated_log.specs.Labels.{plain}
use Rattle.managed_ledger.specs.Entries.{Ledger}
use Rattle.records.specs.Maps.{Kept as Subscriptions}
use Rattle.catalog.specs.Names.{Names}
use Rattle.catalog.specs.Catalogs.{Own, OldCounts, StandsIn}
use Rattle.catalog.specs.Folded.{IsHeaderFault}
use Rattle.catalog.specs.Laws.{list_one, list_open, own_file}
use Rattle.topic_stores.specs.Old.{AreIn, IsOldFault, old}
use Rattle.topic_stores.proofs.OldFaults.{fault_local}
use Rattle.topic_stores.proofs.OldTopics.{in_one, in_local}
use Rattle.node.specs.Upgrading.{AreCopied, AreNew, AreOld, Content, IsCopied, IsNew, IsOld, IsOldTopicFault, IsUpgradeFault}

abbrev list : FileId
list = Catalog One

-- ---- which files are whose

pub of_version_one : (number : ℕ) (f : FileId) → FilesOf (old number) f → ¬ InFolder Two f
of_version_one number (Catalog folder) own = λ two. own
of_version_one number (Segment topic n) own = λ two. let no : One ≡ Two = sym (ap (λ (t : TopicId). t.folder) own) ∙ two in cc
of_version_one number (Slot topic slot) own = λ two. let no : One ≡ Two = sym (ap (λ (t : TopicId). t.folder) own) ∙ two in cc

pub served_topic : (number : ℕ) (f : FileId) → FilesOf (served number) f → InFolder Two f
served_topic number (Catalog folder) own = absurd own
served_topic number (Segment topic n) own = ap (λ (t : TopicId). t.folder) own
served_topic number (Slot topic slot) own = ap (λ (t : TopicId). t.folder) own

not_list : (f : FileId) → InFolder Two f → ¬ (f ≡ list)
not_list f two = λ is. let no : One ≡ Two = sym (ap folder_of is) ∙ two in cc

list_is_old : ¬ InFolder Two list
list_is_old = λ two. cc

all_same : (from c : Image) → c list ≡ from list → ((f : FileId) → ¬ (f ≡ list) → c f ≡ from f) → (f : FileId) → c f ≡ from f
all_same from c same rest (Catalog One) = same
all_same from c same rest (Catalog Two) = rest (Catalog Two) (λ is. cc)
all_same from c same rest (Segment topic n) = rest (Segment topic n) (λ is. cc)
all_same from c same rest (Slot topic slot) = rest (Slot topic slot) (λ is. cc)

-- ---- the files of version 1 stay

pub old_local : (x : Content) (a b : Image) → Agree (λ f. ¬ InFolder Two f) a b → IsOld x a → IsOld x b
old_local x a b same is = record {
  as_many = is.as_many;
  names = record {
    log = subst (λ (l : List ℕ). IsLog One (plain x.per_ledger) x.names l) (sym (same list list_is_old)) is.names.log;
    ledgers = is.names.ledgers;
    names_are = is.names.names_are;
  };
  topics = λ number t at. in_local (old number) a b t.0 t.1 (λ f own. same f (of_version_one number f own)) (is.topics number t at);
}

abbrev pub Old : Content → Disk → Type 0
Old x d = (c : Image) → d.may_leave c → IsOld x c

-- what a call leaves of version 1
abbrev pub LeavesOld : Disk → Disk → Type 0
LeavesOld d e = Leaves (Outcome d (InFolder Two) (λ c. Unit {0})) d e

pub reads : (d e : Disk) → Leaves d.may_leave d e → LeavesOld d e
reads d e leaves = weaken _ _ d e leaves (λ c may. record { from = c; left = may; elsewhere = λ f other. refl; own = tt })

pub writes : (area : FileId → Type 0) (d e : Disk) → ((f : FileId) → area f → InFolder Two f) → Within area (λ c. Unit {0}) d e → LeavesOld d e
writes area d e new w = (widen_within area (InFolder Two) (λ c. Unit {0}) (λ c. Unit {0}) d e new (λ c out. tt) w).any_moment

pub writes_list : (d e : Disk) → Within Own (λ c. Unit {0}) d e → LeavesOld d e
writes_list d e w = writes Own d e (λ f own. ap folder_of own) w

pub both_leave : (d m e : Disk) → LeavesOld d m → LeavesOld m e → LeavesOld d e
both_leave d m e first second = joins _ _ _ d m e first second (λ c out. out) (λ c out.
    let was = first.now out.from out.left in
    record { from = was.from; left = was.left; elsewhere = λ f other. out.elsewhere f other ∙ was.elsewhere f other; own = tt })

pub left_old : (x : Content) (d e : Disk) → LeavesOld d e → Old x d → Leaves (λ c. IsOld x c ⊎ IsNew x c) d e
left_old x d e leaves was = weaken _ _ d e leaves (λ c out. inl (old_local x out.from c out.elsewhere (was out.from out.left)))

-- each crash leaves it in a folder of either version
abbrev pub Either : Content → Disk → Type 0
Either x d = (c : Image) → d.may_leave c → IsOld x c ⊎ IsNew x c

pub only_read : (x : Content) (d e : Disk) → Either x d → Leaves d.may_leave d e → Leaves (λ c. IsOld x c ⊎ IsNew x c) d e
only_read x d e was leaves = weaken _ _ d e leaves was

pub read_first : (x : Content) (d m e : Disk) → Either x d → Leaves d.may_leave d m → Leaves (λ c. IsOld x c ⊎ IsNew x c) m e → Leaves (λ c. IsOld x c ⊎ IsNew x c) d e
read_first x d m e was first second = joins _ _ _ d m e (only_read x d m was first) second (λ c p. p) (λ c p. p)

-- where a list of version 1 counts and is synced, the folder is one of version 1
pub is_old : (x : Content) (d e : Disk) → Either x d → Leaves d.may_leave d e → e.seen ≡ d.seen → OldCounts d.seen → Synced list e → Old x e
is_old x d e was leaves seen counts synced = λ c may. ⊎_elim (λ old. old)
    (λ new. absurd (new.newest (subst (λ (l : List ℕ). HasOpenHeader One l) (sym (synced c may ∙ ap (λ (i : Image). i list) seen)) counts))) (was c (leaves.now c may))

-- one call that reads after another
pub both_read : (d m e : Disk) → Leaves d.may_leave d m → Leaves m.may_leave m e → Leaves d.may_leave d e
both_read d m e first second = joins _ _ _ d m e first second (λ c may. may) (λ c may. first.now c may)

-- what a call leaves of version 1 but its list
abbrev pub LeavesRest : Disk → Disk → Type 0
LeavesRest d e = Leaves (Outcome d (λ f. InFolder Two f ⊎ (f ≡ list)) (λ c. Unit {0})) d e

pub leaves_rest : (d e : Disk) → LeavesOld d e → LeavesRest d e
leaves_rest d e leaves = weaken _ _ d e leaves (λ c out. record { from = out.from; left = out.left; elsewhere = λ f other. out.elsewhere f (λ two. other (inl two)); own = tt })

pub list_rest : (P : Image → Type 0) (d m e : Disk) → LeavesOld d m → Within (λ f. f ≡ list) P m e → LeavesRest d e
list_rest P d m e first w = joins _ _ _ d m e (leaves_rest d m first) w.any_moment (λ c out. out) (λ c out.
    let was = first.now out.from out.left in
    record { from = was.from; left = was.left; elsewhere = λ f other. out.elsewhere f (λ is. other (inr is)) ∙ was.elsewhere f (λ two. other (inl two)); own = tt })

pub old_still : (x : Content) (d e : Disk) → LeavesOld d e → Old x d → Old x e
old_still x d e leaves was = λ c may. let out = leaves.now c may in old_local x out.from c out.elsewhere (was out.from out.left)

pub synced_still : (d e : Disk) → LeavesOld d e → e.seen list ≡ d.seen list → Synced list d → Synced list e
synced_still d e leaves seen synced = λ c may. let out = leaves.now c may in out.elsewhere list list_is_old ∙ synced out.from out.left ∙ sym seen

-- ---- topic by topic

pub topic_leaves : (number : ℕ) (d e : Disk) → Leaves (Outcome d (OfTopic number) (λ c. Unit {0})) d e → LeavesOld d e
topic_leaves number d e leaves = weaken _ _ d e leaves (λ c out. record { from = out.from; left = out.left; elsewhere = λ f other. out.elsewhere f (λ own. other (served_topic number f own)); own = tt })

-- so many are copied
pub record AreCopying (d0 d : Disk) (number : ℕ) : Type 0 where
  pub kept : Kept d0 d
  pub seen : d0.honest → Agree (λ f. ¬ InFolder Two f) d0.seen d.seen
  pub leaves : d0.honest → LeavesOld d0 d
  pub copied : d0.honest → AreCopied number d0.seen d

pub copying_first : (d : Disk) → AreCopying d d 0
copying_first d = record {
  kept = record { faults = omega arith; honest = λ h. h; not_honest = λ h. h };
  seen = λ h f other. refl;
  leaves = λ h. starts _ d (λ c may. record { from = c; left = may; elsewhere = λ f other. refl; own = tt });
  copied = λ h n low. absurd (omega (arith, low));
}

-- one topic more
one_more : (number : ℕ) (files : Image) (d e : Disk) → AreCopied number files d → Agree (λ f. ¬ InFolder Two f) files d.seen → Leaves (Outcome d (OfTopic number) (λ c. Unit {0})) d e → IsCopied number d.seen e → AreCopied (number + 1) files e
one_more number files d e so_far same leaves it n low = elim (cases_eq n number) [
  | inl is ↦ subst (λ (m : ℕ). IsCopied m files e) (sym is)
      (record { ledger = it.ledger; kept = it.kept; was = in_local (old number) d.seen files it.ledger it.kept (λ f own. sym (same f (of_version_one number f own))) it.was; is = it.is })
  | inr differ ↦
      let before = so_far n (omega (arith, low, differ)) in
      record {
        ledger = before.ledger;
        kept = before.kept;
        was = before.was;
        is = λ c may. let out = leaves.now c may in in_local (served n) out.from c before.ledger before.kept (λ f own. out.elsewhere f (apart number n (λ is. differ (sym is)) f own)) (before.is out.from out.left);
      }
]

pub copying_more : (number : ℕ) (d0 d e : Disk) → AreCopying d0 d number → Kept d e → (d.honest → Agree (λ f. ¬ OfTopic number f) d.seen e.seen) → (d.honest → Leaves (Outcome d (OfTopic number) (λ c. Unit {0})) d e) → (d.honest → IsCopied number d.seen e)
    → AreCopying d0 e (number + 1)
copying_more number d0 d e so_far kept seen leaves it = record {
  kept = record { faults = omega (arith, so_far.kept.faults, kept.faults); honest = λ h. kept.honest (so_far.kept.honest h); not_honest = λ h. so_far.kept.not_honest (kept.not_honest h) };
  seen = λ h f other. seen (so_far.kept.honest h) f (λ own. other (served_topic number f own)) ∙ so_far.seen h f other;
  leaves = λ h. both_leave d0 d e (so_far.leaves h) (topic_leaves number d e (leaves (so_far.kept.honest h)));
  copied = λ h. one_more number d0.seen d e (so_far.copied h) (so_far.seen h) (leaves (so_far.kept.honest h)) (it (so_far.kept.honest h));
}

-- the first fault of all
pub first_fault : (count number : ℕ) (d0 d : Disk) (e : Refusal) → AreCopying d0 d number → d0.honest → number < count → IsOldFault number d.seen e → IsOldTopicFault count d0.seen e
first_fault count number d0 d e so_far honest low bad = record {
  number = number;
  there = low;
  fault = fault_local number d.seen d0.seen e (λ f own. sym (so_far.seen honest f (of_version_one number f own))) bad;
  first = λ before less. let was = so_far.copied honest before less in (was.ledger, was.kept, was.was);
}

-- ---- the files of version 2 come

-- what was copied is what is told of them
pub new_topics : (x : Content) (count : ℕ) (files : Image) (d : Disk) → length x.topics ≡ count → AreOld x files → AreCopied count files d → (c : Image) → d.may_leave c → AreNew x c
new_topics x count files d many was copied c may = λ number t at.
    let low : number < count = omega (arith, many, slice_get_within x.topics number t at) in
    let is = copied number low in
    let same = in_one (old number) files is.ledger t.0 is.kept t.1 is.was (was number t at) in
    subst (λ (k : Subscriptions). AreIn (served number) c t.0 k) same.1 (subst (λ (l : Ledger). AreIn (served number) c l is.kept) same.0 (is.is c may))

new_local : (x : Content) (a b : Image) → Agree (λ f. InFolder Two f × (¬ Own f)) a b → AreNew x a → AreNew x b
new_local x a b same is = λ number t at. in_local (served number) a b t.0 t.1 (λ f own. same f (served_topic number f own, topic_only number f own)) (is number t at)
  where
    topic_only : (number : ℕ) (f : FileId) → FilesOf (served number) f → ¬ Own f
    topic_only number (Catalog folder) own = absurd own
    topic_only number (Segment topic n) own = λ is. cc
    topic_only number (Slot topic slot) own = λ is. cc

-- the topics stay while the list of version 2 is written
pub topics_still : (x : Content) (d e : Disk) → Within Own (λ c. Unit {0}) d e → ((c : Image) → d.may_leave c → AreNew x c) → (c : Image) → e.may_leave c → AreNew x c
topics_still x d e w was c may = let out = w.any_moment.now c may in new_local x out.from c (λ f other. out.elsewhere f other.1) (was out.from out.left)

-- it has the names that were copied
pub new_names : (x : Content) (per_ledger : ℕ) (names : Names) (files : Image) (d : Disk) → IsOld x files → StandsIn One per_ledger files names → ((c : Image) → d.may_leave c → StandsIn Two per_ledger c names) → (c : Image) → d.may_leave c → StandsIn Two x.per_ledger c x.names
new_names x per_ledger names files d was is copied c may =
    let same = list_one One per_ledger x.per_ledger files names x.names is was.names in
    subst (λ (n : ℕ). StandsIn Two n c x.names) same.0 (subst (λ (l : Names). StandsIn Two per_ledger c l) same.1 (copied c may))

-- what was copied, altogether
pub record AreGathered (count : ℕ) (files : Image) (d : Disk) : Type 0 where
  pub topics : List (Ledger × Subscriptions)
  pub many : length topics ≡ count
  pub was : (number : ℕ) (t : Ledger × Subscriptions) → slice_get topics number ≡ Some t → AreIn (old number) files t.0 t.1
  pub is : (number : ℕ) (t : Ledger × Subscriptions) → slice_get topics number ≡ Some t → (c : Image) → d.may_leave c → AreIn (served number) c t.0 t.1

one_behind : {X : Type 0} (xs : List X) (y : X) (number : ℕ) (t : X) → slice_get (xs ++ y ∷ []) number ≡ Some t → ((number ≡ length xs) × (y ≡ t)) ⊎ (slice_get xs number ≡ Some t)
one_behind [] y zero t at = inl (refl, cc)
one_behind [] y (suc number) t at = absurd (omega (arith, slice_get_within (y ∷ []) (suc number) t at))
one_behind (x ∷ xs) y zero t at = inr at
one_behind (x ∷ xs) y (suc number) t at = ⊎_elim (λ here. inl (ap suc here.0, here.1)) (λ there. inr there) (one_behind xs y number t at)

pub gathered : (count : ℕ) (files : Image) (d : Disk) → AreCopied count files d → AreGathered count files d
gathered zero files d copied = record {
  topics = [];
  many = refl;
  was = λ number t at. absurd (omega (arith, slice_get_within [] number t at));
  is = λ number t at. absurd (omega (arith, slice_get_within [] number t at));
}
gathered (suc count) files d copied =
    let before = gathered count files d (λ number low. copied number (omega (arith, low))) in
    let last = copied count (omega arith) in
    record {
      topics = before.topics ++ (last.ledger, last.kept) ∷ [];
      many = omega (arith, length-append before.topics ((last.ledger, last.kept) ∷ []), before.many);
      was = λ number t at. ⊎_elim
          (λ here. subst (λ (n : ℕ). AreIn (old n) files t.0 t.1) (sym before.many ∙ sym here.0) (subst (λ (p : Ledger × Subscriptions). AreIn (old count) files p.0 p.1) here.1 last.was))
          (λ there. before.was number t there) (one_behind before.topics (last.ledger, last.kept) number t at);
      is = λ number t at c may. ⊎_elim
          (λ here. subst (λ (n : ℕ). AreIn (served n) c t.0 t.1) (sym before.many ∙ sym here.0) (subst (λ (p : Ledger × Subscriptions). AreIn (served count) c p.0 p.1) here.1 (last.is c may)))
          (λ there. before.is number t there c may) (one_behind before.topics (last.ledger, last.kept) number t at);
    }

-- ---- the list of version 1 is closed

pub record AreReady (x : Content) (d : Disk) : Type 0 where
  pub as_many : length x.topics ≡ length x.names
  pub names : (c : Image) → d.may_leave c → StandsIn Two x.per_ledger c x.names
  pub topics : (c : Image) → d.may_leave c → AreNew x c

is_new : (x : Content) (from c : Image) → length x.topics ≡ length x.names → StandsIn Two x.per_ledger from x.names → AreNew x from → ((f : FileId) → ¬ (f ≡ list) → c f ≡ from f) → (¬ OldCounts c) → IsNew x c
is_new x from c many names topics rest shut = record {
  as_many = many;
  newest = shut;
  names = own_file x.per_ledger from c x.names (λ f own. rest f (not_list f (ap folder_of own))) names;
  topics = new_local x from c (λ f new. rest f (not_list f new.0)) topics;
}

abbrev pub Closing : Disk → Image → Type 0
Closing d c = (c list ≡ d.seen list) ⊎ (¬ HasOpenHeader One (c list))

pub closes : (x : Content) (d e : Disk) → Old x d → AreReady x d → Synced list d → Within (λ f. f ≡ list) (Closing d) d e → Leaves (λ c. IsOld x c ⊎ IsNew x c) d e
closes x d e was ready synced w = weaken _ _ d e w.any_moment (λ c out.
    ⊎_elim
    (λ same. inl (old_local x out.from c (λ f other. all_same out.from c (same ∙ sym (synced out.from out.left)) out.elsewhere f) (was out.from out.left)))
    (λ shut. inr (is_new x out.from c ready.as_many (ready.names out.from out.left) (ready.topics out.from out.left) out.elsewhere shut)) out.own)

pub closed : (x : Content) (d e : Disk) → AreReady x d → Within (λ f. f ≡ list) (Closing d) d e → Synced list e → (¬ HasOpenHeader One (e.seen list)) → (c : Image) → e.may_leave c → IsNew x c
closed x d e ready w synced shut c may =
    let out = w.any_moment.now c may in
    is_new x out.from c ready.as_many (ready.names out.from out.left) (ready.topics out.from out.left) out.elsewhere (λ counts. shut (subst (λ (l : List ℕ). HasOpenHeader One l) (synced c may) counts))

-- it holds what was copied
pub are_ready : (x : Content) (count per_ledger : ℕ) (names : Names) (d0 d3 d4 : Disk) → Old x d0 → d0.may_leave d0.seen → StandsIn One per_ledger d0.seen names → count ≡ length names → AreCopied count d0.seen d3
    → Within Own (λ c. Unit {0}) d3 d4 → ((c : Image) → d4.may_leave c → StandsIn Two per_ledger c names) → AreReady x d4
are_ready x count per_ledger names d0 d3 d4 was may lists counts copied w named =
    let here = was d0.seen may in
    let same = list_one One per_ledger x.per_ledger d0.seen names x.names lists here.names in
    let many : length x.topics ≡ count = here.as_many ∙ sym (ap (λ (l : Names). length l) same.1) ∙ sym counts in
    record {
      as_many = here.as_many;
      names = new_names x per_ledger names d0.seen d4 here lists named;
      topics = topics_still x d3 d4 w (new_topics x count d0.seen d3 many here.topics copied);
    }

pub as_many : (x : Content) (count per_ledger : ℕ) (names : Names) (d0 : Disk) → Old x d0 → d0.may_leave d0.seen → StandsIn One per_ledger d0.seen names → count ≡ length names → count ≡ length x.names
as_many x count per_ledger names d0 was may lists counts = counts ∙ ap (λ (l : Names). length l) (list_one One per_ledger x.per_ledger d0.seen names x.names lists (was d0.seen may).names).1

-- all of it, once the list is written
pub closes_all : (x : Content) (d0 d4 d5 : Disk) → Old x d0 → LeavesOld d0 d4 → AreReady x d4 → Synced list d4 → Within (λ f. f ≡ list) (Closing d4) d4 d5 → Leaves (λ c. IsOld x c ⊎ IsNew x c) d0 d5
closes_all x d0 d4 d5 was leaves ready synced w = joins _ _ _ d0 d4 d5 (left_old x d0 d4 leaves was) (closes x d4 d5 (old_still x d0 d4 leaves was) ready synced w) (λ c p. p) (λ c p. p)

-- a folder of version 1 has a list that counts
pub counts_there : (x : Content) (d : Disk) → Old x d → d.may_leave d.seen → HasOpenHeader One (d.seen list)
counts_there x d was may = let here = was d.seen may in list_open One x.per_ledger d.seen x.names here.names

-- ---- a fault that is told

abbrev pub Told : Refusal → Type 0 → Type 0
Told e X = (e ≡ NoMemory) ⊎ ((e ≡ Device) ⊎ X)

pub header_told : (e e' : Refusal) (old new : Image) → e ≡ e' → new ≡ old → (¬ OldCounts old) → (e' ≡ Device) ⊎ IsHeaderFault (new catalog_file) e' → Told e (IsUpgradeFault old e)
header_told e e' old new same seen shut why =
    ⊎_elim (λ device. inr (inl (same ∙ device)))
    (λ bad. inr (inr (inr (shut, subst (λ (r : Refusal). IsHeaderFault (old catalog_file) r) (sym same) (subst (λ (i : Image). IsHeaderFault (i catalog_file) e') seen bad))))) why

pub topics_told : (e e' : Refusal) (count per_ledger : ℕ) (names : Names) (old new : Image) → e ≡ e' → new ≡ old → OldCounts old → StandsIn One per_ledger old names → count ≡ length names → Told e' (IsOldTopicFault count new e') → Told e (IsUpgradeFault old e)
topics_told e e' count per_ledger names old new same seen counts lists many why =
    ⊎_elim (λ memory. inl (same ∙ memory)) (λ rest. ⊎_elim (λ device. inr (inl (same ∙ device)))
    (λ bad.
    let there = subst (λ (r : Refusal). IsOldTopicFault (length names) old r) (sym same) (subst (λ (n : ℕ). IsOldTopicFault n old e') many (subst (λ (i : Image). IsOldTopicFault count i e') seen bad)) in
    inr (inr (inl (counts, inr (per_ledger, names, lists, there))))) rest) why

-- ---- whatever the files held

abbrev pub held_in : (per_ledger count : ℕ) (names : Names) (files : Image) (d3 : Disk) → AreCopied count files d3 → Content
held_in per_ledger count names files d3 copied = record { per_ledger = per_ledger; names = names; topics = (gathered count files d3 copied).topics }

pub held_old : (per_ledger count : ℕ) (names : Names) (files : Image) (d3 : Disk) (copied : AreCopied count files d3) → count ≡ length names → StandsIn One per_ledger files names → IsOld (held_in per_ledger count names files d3 copied) files
held_old per_ledger count names files d3 copied counts lists = let all = gathered count files d3 copied in record { as_many = all.many ∙ counts; names = lists; topics = all.was }

pub held_ready : (per_ledger count : ℕ) (names : Names) (files : Image) (d3 d4 : Disk) (copied : AreCopied count files d3) → count ≡ length names → Within Own (λ c. Unit {0}) d3 d4 → ((c : Image) → d4.may_leave c → StandsIn Two per_ledger c names)
    → AreReady (held_in per_ledger count names files d3 copied) d4
held_ready per_ledger count names files d3 d4 copied counts w named =
    let all = gathered count files d3 copied in
    let x = held_in per_ledger count names files d3 copied in
    record { as_many = all.many ∙ counts; names = named; topics = topics_still x d3 d4 w (λ c may number t at. all.is number t at c may) }
