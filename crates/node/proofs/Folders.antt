-- A folder holds one content, and a node that is opened over it has just this.
use Rattle.std.proofs.Common.{◌≡◌, inl, inr, ℕ, zero, suc, ◌-◌, ◌≤◌, max, Some, List, [], ◌∷◌, map, length, drop, slice_get, slice_index_or, refl, sym, ap, subst, ◌∙◌, arith}
use Rattle.std.proofs.lemmas.List.{length-map}
use Rattle.std.proofs.lemmas.Option.{same_Some, none-some}
use Rattle.disk.specs.declared.file_id.Folder.TheVariants.{One, Two}
use Rattle.disk.specs.declared.file_id.TopicId.{TopicId}
use Rattle.disk.specs.Disk.{Disk, Image}
use Rattle.disk.specs.Areas.{served}
use Rattle.managed_ledger.specs.Entries.{Ledger, lengthened, trimmed}
use Rattle.managed_ledger.specs.Trims.{lengthened_none}
use Rattle.records.specs.Maps.{Kept}
use Rattle.catalog.specs.Catalogs.{OldCounts}
use Rattle.catalog.specs.Names.{Names}
use Rattle.catalog.specs.Laws.{list_one, list_open}
use Rattle.topic_stores.specs.Old.{AreIn, old}
use Rattle.topic_stores.proofs.OldTopics.{in_one}
use Rattle.topic_core.specs.Crashes.{IsLeft, TopicCrash}
use Rattle.topic_core.specs.State.{Topic}
use Rattle.session.specs.Broker.{Broker, fresh, topic_at}
use Rattle.node.specs.State.{State}
use Rattle.node.specs.Lists.{get_map, at_map, at_each}
use Rattle.node.specs.Standing.{StandsForBroker}
use Rattle.node.specs.Opening.{IsJustOpened}
use Rattle.node.specs.Runs.{StateCrash}
use Rattle.node.specs.Upgrading.{Content, IsNew}
use Rattle.node.specs.Folders.{FoldersHoldOneContent, NewFoldersAreServed, topic_over, broker_over, state_over, content_of}

-- lists of one length whose elements are the same
same_lists : {X : Type 0} (xs ys : List X) → length xs ≡ length ys → ((k : ℕ) (x y : X) → slice_get xs k ≡ Some x → slice_get ys k ≡ Some y → x ≡ y) → xs ≡ ys
same_lists [] [] many same = refl
same_lists [] (y ∷ ys) many same = absurd (omega (arith, many))
same_lists (x ∷ xs) [] many same = absurd (omega (arith, many))
same_lists (x ∷ xs) (y ∷ ys) many same =
    let head : x ≡ y = same 0 x y refl refl in
    let tail : xs ≡ ys = same_lists xs ys (omega (arith, many)) (λ k a b. same (suc k) a b) in
    (λ i. head i ∷ tail i)

-- ---- one content

-- the files of these topics stand for these parts
abbrev Parts : (ℕ → TopicId) → List (Ledger × Kept) → Image → Type 0
Parts topic parts c = (number : ℕ) (t : Ledger × Kept) → slice_get parts number ≡ Some t → AreIn (topic number) c t.0 t.1

parts_one : (topic : ℕ → TopicId) (c : Image) (xs ys : List (Ledger × Kept)) → length xs ≡ length ys → Parts topic xs c → Parts topic ys c → xs ≡ ys
parts_one topic c xs ys many is is' = same_lists xs ys many (λ k a b at at'.
    let same = in_one (topic k) c a.0 b.0 a.1 b.1 (is k a at) (is' k b at') in
    (λ i. (same.0 i, same.1 i)))

many_one : (x y : Content) → length x.topics ≡ length x.names → length y.topics ≡ length y.names → x.names ≡ y.names → length x.topics ≡ length y.topics
many_one x y many many' same = many ∙ ap (λ (l : Names). length l) same ∙ sym many'

pub hold_one : FoldersHoldOneContent
hold_one c = record {
  old = λ x y is is'.
      let list = list_one One x.per_ledger y.per_ledger c x.names y.names is.names is'.names in
      let topics = parts_one old c x.topics y.topics (many_one x y is.as_many is'.as_many list.1) is.topics is'.topics in
      (λ i. record { per_ledger = list.0 i; names = list.1 i; topics = topics i });
  new = λ x y is is'.
      let list = list_one Two x.per_ledger y.per_ledger c x.names y.names is.names is'.names in
      let topics = parts_one served c x.topics y.topics (many_one x y is.as_many is'.as_many list.1) is.topics is'.topics in
      (λ i. record { per_ledger = list.0 i; names = list.1 i; topics = topics i });
  apart = λ x y is is'. is'.newest (list_open One x.per_ledger c x.names is.names);
}

-- ---- what is served

abbrev In : ℕ → Image → Ledger → Kept → Type 0
In number = AreIn (served number)

stands_over : (x : Content) (url : List ℕ) (c : Image) → IsNew x c → StandsForBroker In (broker_over x url) c
stands_over x url c is = record {
  formed = record {
    named = length-map x.topics (λ part. topic_over x.per_ledger part) ∙ is.as_many;
    ledgers = λ number. at_each (λ (t : Topic). t.per_ledger ≡ x.per_ledger) (λ part. topic_over x.per_ledger part) x.topics number (fresh x.per_ledger) refl (λ j part at. refl);
  };
  newest = is.newest;
  names = is.names;
  topics = λ number t at.
      let part = get_map (λ (part : Ledger × Kept). topic_over x.per_ledger part) x.topics number t at in
      record {
        ledger = part.0.0;
        kept = part.0.1;
        is_left = inl (sym (ap (λ (u : Topic). u.ledger) part.2), sym (ap (λ (u : Topic). u.kept) part.2));
        stands = is.topics number part.0 part.1;
      };
}

opens_over : (x : Content) (c : Image) (state : State) → IsNew x c → IsJustOpened In c state → state.broker ≡ broker_over x state.broker.service_url
opens_over x c state is o =
    let b = state.broker in
    let list = list_one Two b.per_ledger x.per_ledger c b.names x.names o.names is.names in
    let over : Ledger × Kept → Topic = λ part. topic_over x.per_ledger part in
    let many : length b.topics ≡ length (map over x.topics) = o.formed.named ∙ ap (λ (l : Names). length l) list.1 ∙ sym is.as_many ∙ sym (length-map x.topics over) in
    let topics : b.topics ≡ map over x.topics = same_lists b.topics (map over x.topics) many (λ k t u at at'.
    let part = get_map over x.topics k u at' in
    let there = o.topics k t at in
    let same = in_one (served k) c t.ledger part.0.0 t.kept part.0.1 there.0 (is.topics k part.0 part.1) in
    there.1 ∙ (λ i. topic_over (list.0 i) (same.0 i, same.1 i)) ∙ sym part.2) in
    (λ i. record { per_ledger = list.0 i; service_url = b.service_url; names = list.1 i; doubtful = o.sure i; topics = topics i })

-- a trim that may take nothing takes nothing
trims_none : (l : Ledger) (b : ℕ) → l.base ≤ b → b ≤ max l.base l.base → trimmed b l ≡ l
trims_none l b rises below =
    let base : max l.base b ≡ l.base = omega (arith, rises, below) in
    let gone : b - l.base ≡ 0 = omega (arith, rises, below) in
    (λ i. record { base = base i; entries = drop (gone i) l.entries })

-- what a crash leaves of a topic of which nothing is in doubt
left_same : (n : ℕ) (part : Ledger × Kept) (ledger : Ledger) (kept : Kept) → IsLeft (topic_over n part) ledger kept → (ledger ≡ part.0) × (kept ≡ part.1)
left_same n part ledger kept (inl same) = same
left_same n part ledger kept (inr (inl longer)) = (longer.0 ∙ lengthened_none part.0, longer.1)
left_same n part ledger kept (inr (inr both)) =
    let trim = both.0 in
    let whole = lengthened_none part.0 in
    let none : trimmed ledger.base (lengthened part.0 []) ≡ lengthened part.0 [] = trims_none (lengthened part.0 []) ledger.base trim.rises trim.below in
    (trim.is ∙ none ∙ whole, both.1)

crash_same : (n : ℕ) (part : Ledger × Kept) (t : Topic) → TopicCrash (topic_over n part) t → t ≡ topic_over n part
crash_same n part t c = let same = left_same n part t.ledger t.kept c.left in c.again ∙ (λ i. topic_over n (same.0 i, same.1 i))

index_at : {X : Type 0} (xs : List X) (k : ℕ) (x d : X) → slice_get xs k ≡ Some x → slice_index_or xs k d ≡ x
index_at [] k x d is = absurd (none-some x is)
index_at (a ∷ xs) zero x d is = same_Some a x is
index_at (a ∷ xs) (suc k) x d is = index_at xs k x d is

crashes_over : (x : Content) (url : List ℕ) (new : State) → StateCrash (state_over x url) new → new.broker ≡ broker_over x url
crashes_over x url new c =
    let b = new.broker in
    let n = x.per_ledger in
    let over : Ledger × Kept → Topic = λ part. topic_over n part in
    let many : length b.topics ≡ length (map over x.topics) = c.count ∙ ap (λ (old : Broker). length old.topics) c.settles in
    let topics : b.topics ≡ map over x.topics = same_lists b.topics (map over x.topics) many (λ k t u at at'.
    let part = get_map over x.topics k u at' in
    let was = at_map over x.topics k part.0 (fresh n) part.1 in
    let is = index_at b.topics k t (fresh b.per_ledger) at in
    let crash = subst (λ (v : Topic). TopicCrash v t) was (subst (λ (v : Topic). TopicCrash (topic_at (broker_over x url) k) v) is (c.each k)) in
    crash_same n part.0 t crash ∙ sym part.2) in
    let names : b.names ≡ x.names = c.names ∙ ap (λ (old : Broker). old.names) c.settles in
    (λ i. record { per_ledger = c.per_ledger i; service_url = c.service_url i; names = names i; doubtful = c.sure i; topics = topics i })

holds_opened : (c : Image) (state : State) → ¬ OldCounts c → IsJustOpened In c state → IsNew (content_of state.broker) c
holds_opened c state newest o = record {
  as_many = length-map state.broker.topics (λ (t : Topic). (t.ledger, t.kept)) ∙ o.formed.named;
  newest = newest;
  names = o.names;
  topics = λ number part at.
      let t = get_map (λ (t : Topic). (t.ledger, t.kept)) state.broker.topics number part at in
      subst (λ (p : Ledger × Kept). AreIn (served number) c p.0 p.1) (sym t.2) (o.topics number t.0 t.1).0;
}

pub served_all : {S : Type 0} (disk : S → Disk) → NewFoldersAreServed disk In
served_all disk = record {
  rests = λ x url shelf honest new. record { honest = honest; left = λ c may. stands_over x url c (new c may); faults = omega arith };
  crashes = crashes_over;
  opens = opens_over;
  holds = holds_opened;
}
