-- Topics that are opened, one after another, each on its own device.
use Rattle.std.proofs.Common.{◌≡◌, ◌≢◌, ◌⊎◌, inl, inr, ⊎_elim, ℕ, zero, suc, ◌+◌, ◌<◌, Some, Err, List, [], ◌∷◌, ◌++◌, length, slice_get, slice_set, refl, sym, ap, subst, ◌∙◌, arith}
use Rattle.std.proofs.lemmas.Option.{same_Some, none-some, slice_get_within}
use Rattle.std.proofs.lemmas.List.{length-append}
use Rattle.std.proofs.lemmas.Result.{IfErr-at_err}
use Rattle.std.specs.Prelude.{IsErrOf}
use Rattle.std.specs.FinMap as finite
use Rattle.disk.specs.Disk.{Disk, Image, Same, Failed}
use Rattle.disk.specs.Areas.{Area, OfTopic}
use Rattle.disk.specs.Contents.{Settled}
use Rattle.disk.specs.Moments.{starts, joins}
use Rattle.gated_log.specs.declared.refusal.Refusal.{Refusal}
use Rattle.managed_ledger.specs.Entries.{Ledger, whole}
use Rattle.records.specs.Floors.{HaveBelow}
use Rattle.records.specs.Maps.{Kept}
use Rattle.topic_stores.specs.declared.store.TopicStore.{Ghosts as StoreMembers}
use Rattle.topic_stores.specs.Views.{StoreView, Settled as Holding, AreLaws}
use Rattle.subscriptions.specs.Marks.{no_marks}
use Rattle.topic_core.specs.Messages.{marks_of}
use Rattle.topic_core.specs.State.{Topic, opened}
use Rattle.topic_core.specs.Standing.{Before, Match, Standing}
use Rattle.topic_core.proofs.Standings.{reopened_standing}
use Rattle.catalog.specs.Names.{Names}
use Rattle.catalog.specs.declared.catalog.Catalog.{Catalog}
use Rattle.catalog.specs.Catalogs.{IsList, Holds, StandsFor as NamesStand, remembered, per_ledger}
use Rattle.catalog.specs.Laws.{holds_stands}
use Rattle.topic_lock.specs.declared.devices.Devices.{Devices}
use Rattle.topic_lock.specs.declared.part.OpenPart.{OpenPart}
use Rattle.topic_lock.specs.Opening.{IsOpened, IsCatalogOpened, OnlyReads, AreHonest, AreNumbered, AreOnlyRead, AllOnlyRead, AreOpened, FilesStand, OneFailed, IsTopicFault}

-- a topic over a store that was just opened
module _ (stands : ℕ → Image → Ledger → Kept → Type 0) (n : ℕ) (t : Topic) (v : StoreView) (as_opened : t ≡ opened n t.ledger (marks_of t.ledger) v.kept) where
  is_kept : t.kept ≡ v.kept
  is_kept = ap (λ (x : Topic). x.kept) as_opened

  -- it stands on its store
  pub opened_standing : (d : Disk) → AreLaws stands v → ((files : Image) (ledger : Ledger) (kept : Kept) → stands v.topic files ledger kept → HaveBelow ledger.base kept) → Holding v d t.ledger v.kept → Match Before t v → Standing stands Before t v d
  opened_standing d laws below hold matched =
      reopened_standing stands (opened n (whole []) no_marks finite.empty) t v d t.ledger v.kept laws as_opened matched (below d.seen t.ledger v.kept (laws.stands d.seen t.ledger v.kept hold.settled.now)) hold

  -- the files stood for what it has
  pub opened_found : (number : ℕ) (before d : Disk) → AreLaws stands v → v.topic ≡ number → Same before.seen d.seen → Holding v d t.ledger v.kept → IsOpened stands n number before.seen t
  opened_found number before d laws is same hold = record {
    stands = subst (λ (i : Image). stands number i t.ledger t.kept) same
        (subst (λ m. stands m d.seen t.ledger t.kept) is (subst (λ k. stands v.topic d.seen t.ledger k) (sym is_kept) (laws.stands d.seen t.ledger v.kept hold.settled.now)));
    opened = as_opened ∙ ap (λ k. opened n t.ledger (marks_of t.ledger) k) (sym is_kept);
  }

-- ---- lists

get_set : {X : Type 0} (xs : List X) (k j : ℕ) (y x : X) → slice_get (slice_set xs k y) j ≡ Some x → ((j ≡ k) × (x ≡ y)) ⊎ ((j ≢ k) × (slice_get xs j ≡ Some x))
get_set [] k j y x is = absurd (none-some x is)
get_set (a ∷ xs) zero zero y x is = inl (refl, sym (same_Some y x is))
get_set (a ∷ xs) zero (suc j) y x is = inr (λ e. omega (arith, e), is)
get_set (a ∷ xs) (suc k) zero y x is = inr (λ e. omega (arith, e), is)
get_set (a ∷ xs) (suc k) (suc j) y x is = ⊎_elim
    (λ at. inl (ap suc at.0, at.1))
    (λ other. inr (λ e. other.0 (omega (arith, e)), other.1))
    (get_set xs k j y x is)

got_set : {X : Type 0} (xs : List X) (k : ℕ) (x y : X) → slice_get xs k ≡ Some x → slice_get (slice_set xs k y) k ≡ Some y
got_set [] k x y is = absurd (none-some x is)
got_set (a ∷ xs) zero x y is = refl
got_set (a ∷ xs) (suc k) x y is = got_set xs k x y is

set_length : {X : Type 0} (xs : List X) (k : ℕ) (y : X) → length (slice_set xs k y) ≡ length xs
set_length [] k y = refl
set_length (a ∷ xs) zero y = refl
set_length (a ∷ xs) (suc k) y = ap suc (set_length xs k y)

get_push : {X : Type 0} (xs : List X) (y : X) (j : ℕ) (x : X) → slice_get (xs ++ y ∷ []) j ≡ Some x → ((j ≡ length xs) × (x ≡ y)) ⊎ ((j ≢ length xs) × (slice_get xs j ≡ Some x))
get_push [] y zero x is = inl (refl, sym (same_Some y x is))
get_push [] y (suc j) x is = absurd (none-some x is)
get_push (a ∷ xs) y zero x is = inr (λ e. omega (arith, e), is)
get_push (a ∷ xs) y (suc j) x is = ⊎_elim
    (λ at. inl (ap suc at.0, at.1))
    (λ other. inr (λ e. other.0 (omega (arith, e)), other.1))
    (get_push xs y j x is)

pub get_at : {X : Type 0} (xs : List X) (k : ℕ) → k < length xs → (x : X) × (slice_get xs k ≡ Some x)
get_at [] k low = absurd (omega (arith, low))
get_at (a ∷ xs) zero low = (a, refl)
get_at (a ∷ xs) (suc k) low = get_at xs k (omega (arith, low))

-- ---- devices that are only read

pub reads_none : (lost : Type 0) (own : Area) (d : Disk) → OnlyReads lost own d d
reads_none lost own d = record {
  seen = λ honest no. refl;
  others = λ honest f other. refl;
  any_moment = λ honest. starts d.may_leave d (λ c may. may);
  kept = record { faults = omega arith; honest = λ h. h; not_honest = λ h. h };
}

-- one call after another, of which the first one lost nothing
pub reads_both : (lost : Type 0) (own : Area) (a b c : Disk) → OnlyReads ⊥ own a b → OnlyReads lost own b c → OnlyReads lost own a c
reads_both lost own a b c first second = record {
  seen = λ honest no. second.seen (first.kept.honest honest) no ∙ first.seen honest (λ never. never);
  others = λ honest f other. second.others (first.kept.honest honest) f other ∙ ap (λ (i : Image). i f) (first.seen honest (λ never. never));
  any_moment = λ honest. joins a.may_leave b.may_leave a.may_leave a b c (first.any_moment honest) (second.any_moment (first.kept.honest honest)) (λ i may. may) (first.any_moment honest).now;
  kept = record {
    faults = omega (arith, first.kept.faults, second.kept.faults);
    honest = λ h. second.kept.honest (first.kept.honest h);
    not_honest = λ h. first.kept.not_honest (second.kept.not_honest h);
  };
}

pub reads_as : (lost lost' : Type 0) (own : Area) (a b : Disk) → (lost → lost') → OnlyReads lost own a b → OnlyReads lost' own a b
reads_as lost lost' own a b then r = record { seen = λ honest no. r.seen honest (λ is. no (then is)); others = r.others; any_moment = r.any_moment; kept = r.kept }

-- which error a refusal is, and the same in another result's words
pub err_is : {A E : Type 0} (why other : E) → IsErrOf {T = A} {E = E} (Err why) other → why ≡ other
err_is why other is = IfErr-at_err (λ y. why ≡ y) is refl

pub err_as : {A B E : Type 0} (why other : E) → IsErrOf {T = A} {E = E} (Err why) other → IsErrOf {T = B} {E = E} (Err why) other
err_as why other is = ap (λ e. Err e) (err_is why other is)

-- ---- the loop

-- Those that were opened so far, as many as this number: each is what its device held, and the devices were only read.
pub record Going {T S : Type 0} {store : StoreMembers T} (disk : S → Disk) (names : Names) (per_ledger : ℕ) (first now : List S) (parts : List (OpenPart T store)) (number : ℕ) : Type 0 where
  pub count : length parts ≡ number
  pub devices : length now ≡ length first
  pub numbered : AreNumbered names parts
  pub opened : AreOpened disk per_ledger first now parts
  pub read : AreOnlyRead disk ⊥ first now

pub going_first : {T S : Type 0} {store : StoreMembers T} (disk : S → Disk) (names : Names) (per_ledger : ℕ) (shelves : List S) (parts : List (OpenPart T store)) → parts ≡ [] → Going {store = store} disk names per_ledger shelves shelves parts 0
going_first {S = S} {store = store} disk names per_ledger shelves parts none = record {
  count = ap (λ (l : List (OpenPart _ _)). length l) none;
  devices = refl;
  numbered = λ j h is. absurd (none-some h (ap (λ (l : List (OpenPart _ _)). slice_get l j) (sym none) ∙ is));
  opened = λ j h before after is. absurd (none-some h (ap (λ (l : List (OpenPart _ _)). slice_get l j) (sym none) ∙ is));
  read = λ j before after was is. subst (λ (s : S). OnlyReads ⊥ (OfTopic j) (disk before) (disk s)) (same_Some before after (sym was ∙ is)) (reads_none ⊥ (OfTopic j) (disk before));
}

-- the devices after a call on that of the next number, which may have lost something
pub going_read : {T S : Type 0} {store : StoreMembers T} (disk : S → Disk) (names : Names) (per_ledger : ℕ) (first now : List S) (parts : List (OpenPart T store)) (number : ℕ) → Going {store = store} disk names per_ledger first now parts number
    → (lost : Type 0) (x y : S) → slice_get now number ≡ Some x → OnlyReads lost (OfTopic number) (disk x) (disk y) → AreOnlyRead disk lost first (slice_set now number y)
going_read {S = S} disk names per_ledger first now parts number g lost x y at step = λ j before after was is. ⊎_elim
    (λ here. subst (λ (s : S). OnlyReads lost (OfTopic j) (disk before) (disk s)) (sym here.1)
    (subst (λ k. OnlyReads lost (OfTopic k) (disk before) (disk y)) (sym here.0)
    (reads_both lost (OfTopic number) (disk before) (disk x) (disk y) (g.read number before x (subst (λ k. slice_get first k ≡ Some before) here.0 was) at) step)))
    (λ other. reads_as ⊥ lost (OfTopic j) (disk before) (disk after) (λ never. absurd never) (g.read j before after was other.1))
    (get_set now number j y after is)

-- where none was called
pub going_rest : {T S : Type 0} {store : StoreMembers T} (disk : S → Disk) (names : Names) (per_ledger : ℕ) (first now : List S) (parts : List (OpenPart T store)) (number : ℕ) → Going {store = store} disk names per_ledger first now parts number
    → (lost : Type 0) → AreOnlyRead disk lost first now
going_rest disk names per_ledger first now parts number g lost = λ j before after was is. reads_as ⊥ lost (OfTopic j) (disk before) (disk after) (λ never. absurd never) (g.read j before after was is)

module _ {T S : Type 0} {store : StoreMembers T} (disk : S → Disk) (names : Names) (per_ledger : ℕ) (first now : List S) (parts : List (OpenPart T store)) (number : ℕ) (g : Going {store = store} disk names per_ledger first now parts number)
    (x : S) (at : slice_get now number ≡ Some x) where
  was_low : number < length first
  was_low = subst (λ n. number < n) g.devices (slice_get_within now number x at)

  was : (b : S) × (slice_get first number ≡ Some b)
  was = get_at first number was_low

  went : OnlyReads ⊥ (OfTopic number) (disk was.0) (disk x)
  went = g.read number was.0 x was.1 at

  -- one more
  pub going_more : (y : S) (now' : List S) (h : OpenPart T store) (parts' : List (OpenPart T store)) → now' ≡ slice_set now number y → parts' ≡ parts ++ h ∷ [] → (h.number ≡ number) × (slice_get names number ≡ Some h.name)
      → ((disk x).honest → IsOpened store.stands per_ledger number (disk x).seen h.core) → ((disk x).honest → Standing store.stands Before h.core (store.view h.stores) (disk y))
      → OnlyReads ⊥ (OfTopic number) (disk x) (disk y) → Going {store = store} disk names per_ledger first now' parts' (number + 1)
  going_more y now' h parts' sets items named found stands step =
      let last : (j : ℕ) (part : OpenPart T store) → slice_get parts' j ≡ Some part → ((j ≡ number) × (part ≡ h)) ⊎ ((j < number) × (slice_get parts j ≡ Some part)) = λ j part is. ⊎_elim
      (λ here. inl (here.0 ∙ g.count, here.1))
      (λ other. inr (subst (λ n. j < n) g.count (slice_get_within parts j part other.1), other.1))
      (get_push parts h j part (ap (λ (l : List (OpenPart T store)). slice_get l j) (sym items) ∙ is)) in
      record {
        count = omega (arith, ap (λ (l : List (OpenPart T store)). length l) items, length-append parts (h ∷ []), g.count);
        devices = ap (λ (l : List S). length l) sets ∙ set_length now number y ∙ g.devices;
        numbered = λ j part is. ⊎_elim
            (λ here. subst (λ (p : OpenPart T store). (p.number ≡ j) × (slice_get names j ≡ Some p.name)) (sym here.1) (subst (λ k. (h.number ≡ k) × (slice_get names k ≡ Some h.name)) (sym here.0) named))
            (λ other. g.numbered j part other.1)
            (last j part is);
        opened = λ j part before after is old new honest.
            let set_at = get_set now number j y after (ap (λ (l : List S). slice_get l j) (sym sets) ∙ new) in
            let Here : ℕ → OpenPart T store → S → Type 0 = λ k p s. IsOpened store.stands per_ledger k (disk before).seen p.core × Standing store.stands Before p.core (store.view p.stores) (disk s) in
            ⊎_elim
            (λ here. ⊎_elim
            (λ set.
            let r = g.read number before x (subst (λ k. slice_get first k ≡ Some before) here.0 old) at in
            let true_so = r.kept.honest honest in
            subst (λ (s : S). Here j part s) (sym set.1) (subst (λ (p : OpenPart T store). Here j p y) (sym here.1) (subst (λ k. Here k h y) (sym here.0)
            (subst (λ (i : Image). IsOpened store.stands per_ledger number i h.core) (r.seen honest (λ never. never)) (found true_so), stands true_so))))
            (λ other. absurd (other.0 here.0))
            set_at)
            (λ before_it. ⊎_elim
            (λ set. absurd (omega (arith, set.0, before_it.0)))
            (λ other. g.opened j part before after before_it.1 old other.1 honest)
            set_at)
            (last j part is);
        read = subst (λ (l : List S). AreOnlyRead disk ⊥ first l) (sym sets) (going_read disk names per_ledger first now parts number g ⊥ x y at step);
      }

  -- the device of the next number failed
  pub one_failed : (y : S) (now' : List S) → now' ≡ slice_set now number y → Failed (disk x) (disk y) → OneFailed disk first now'
  one_failed y now' sets failed = record {
    number = number;
    before = was.0;
    after = y;
    was = was.1;
    is = ap (λ (l : List S). slice_get l number) sets ∙ got_set now number x y at;
    failed = omega (arith, went.kept.faults, failed);
  }

  pub now_honest : ((j : ℕ) (s : S) → slice_get first j ≡ Some s → (disk s).honest) → (disk x).honest
  now_honest all = went.kept.honest (all number was.0 was.1)

  -- a fault of the next one is the first fault
  pub topic_fault : ((j : ℕ) (s : S) → slice_get first j ≡ Some s → (disk s).honest) → (faulty : ℕ → Image → Refusal → Type 0) (count : ℕ) → number < count → (why : Refusal) → faulty number (disk x).seen why
      → IsTopicFault disk store.stands faulty count first why
  topic_fault all faulty count low why fault = record {
    number = number;
    there = low;
    shelf = was.0;
    own = was.1;
    fault = subst (λ (i : Image). faulty number i why) (went.seen (all number was.0 was.1) (λ never. never)) fault;
    first = λ before other less is.
        let h = get_at parts before (omega (arith, less, g.count)) in
        let a = get_at now before (omega (arith, less, was_low, g.devices)) in
        let o = (g.opened before h.0 other a.0 h.1 is a.1 (all before other is)).0 in
        (h.0.core.ledger, h.0.core.kept, o.stands);
  }

-- ---- all devices

-- nothing was asked of any
pub none_read : {S : Type 0} (disk : S → Disk) (lost : Type 0) (shelves : List S) → AreOnlyRead disk lost shelves shelves
none_read disk lost shelves j before after was is = subst (λ (s : _). OnlyReads lost (OfTopic j) (disk before) (disk s)) (same_Some before after (sym was ∙ is)) (reads_none lost (OfTopic j) (disk before))

pub all_as : {S : Type 0} (disk : S → Disk) (lost lost' : Type 0) (old new : List S) → (lost → lost') → AreOnlyRead disk lost old new → AreOnlyRead disk lost' old new
all_as disk lost lost' old new then read j before after was is = reads_as lost lost' (OfTopic j) (disk before) (disk after) then (read j before after was is)

pub no_device_read : {S : Type 0} (disk : S → Disk) (lost : Type 0) (devices : Devices S) → AllOnlyRead disk lost devices devices
no_device_read disk lost devices = record { catalog = reads_none lost IsList (disk devices.catalog); topics = none_read disk lost devices.topics.items }

pub devices_as : {S : Type 0} (disk : S → Disk) (lost lost' : Type 0) (old new : Devices S) → (lost → lost') → AllOnlyRead disk lost old new → AllOnlyRead disk lost' old new
devices_as disk lost lost' old new then read = record {
  catalog = reads_as lost lost' IsList (disk old.catalog) (disk new.catalog) then read.catalog;
  topics = all_as disk lost lost' old.topics.items new.topics.items then read.topics;
}

-- the names that a catalog found stood in its file
pub names_found : (catalog : Catalog) (before after : Disk) → Same before.seen after.seen → Settled (Holds catalog) after (remembered catalog) → NamesStand (per_ledger catalog) before.seen (remembered catalog)
names_found catalog before after same settled = subst (λ (i : Image). NamesStand (per_ledger catalog) i (remembered catalog)) same (holds_stands catalog after.seen (remembered catalog) settled.now)

-- what was opened stood in the files
pub files_stand : {T S : Type 0} {store : StoreMembers T} (disk : S → Disk) (old new : Devices S) (catalog : Catalog) (parts : List (OpenPart T store)) → IsCatalogOpened disk catalog old new → AreOpened disk (per_ledger catalog) old.topics.items new.topics.items parts
    → length parts ≡ length (remembered catalog) → length new.topics.items ≡ length old.topics.items → AreHonest disk old.topics.items → FilesStand disk store.stands old
files_stand disk old new catalog parts is found count same honest = record {
  per_ledger = per_ledger catalog;
  names = remembered catalog;
  named = is.named;
  topics = λ number shelf low at.
      let part = get_at parts number (omega (arith, low, count)) in
      let after = get_at new.topics.items number (omega (arith, slice_get_within old.topics.items number shelf at, same)) in
      let o = (found number part.0 shelf after.0 part.1 at after.1 (honest number shelf at)).0 in
      (part.0.core.ledger, part.0.core.kept, o.stands);
}
