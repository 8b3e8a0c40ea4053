-- A name in doubt is settled: the catalog was opened again.
use Rattle.std.proofs.Common.{◌≡◌, ◌⊎◌, inl, inr, ℕ, suc, ◌+◌, ◌<◌, ◌≤◌, ◌^◌, true, Option, Some, None, List, [], ◌∷◌, ◌++◌, map, length, refl, sym, ap, subst, ◌∙◌, arith}
use Rattle.std.specs.Prelude.{is_some}
use Rattle.std.proofs.lemmas.Bool.{true≢false}
use Rattle.std.proofs.lemmas.List.{length-append}
use Rattle.disk.specs.Disk.{Disk, Image}
use Rattle.disk.specs.Contents.{Settled as SettledIn}
use Rattle.gated_log.specs.declared.refusal.Refusal.{Refusal}
use Rattle.managed_ledger.specs.Entries.{Ledger, end_of, whole}
use Rattle.records.specs.Maps.{Kept}
use Rattle.topic_stores.specs.declared.store.TopicStore.{Ghosts as StoreMembers}
use Rattle.subscriptions.specs.Marks.{no_marks}
use Rattle.topic_core.specs.Messages.{marks_of}
use Rattle.topic_core.specs.State.{Topic, opened}
use Rattle.topic_core.specs.Crashes.{IsLeft}
use Rattle.catalog.specs.declared.catalog.Catalog.{Catalog}
use Rattle.catalog.specs.Names.{Names}
use Rattle.catalog.specs.Catalogs.{StandsFor as NamesStand, Holds as NamesHeld, Follows, remembered, per_ledger, failed}
use Rattle.catalog.specs.Folded.{IsFault}
use Rattle.catalog.specs.Laws.{holds_stands}
use Rattle.session.specs.Broker.{Broker, fresh, sure, made, Settles}
use Rattle.node.specs.declared.held.Held.{Held}
use Rattle.node.specs.declared.topics.Topics.{Topics}
use Rattle.node.specs.Standing.{broker_of, TopicsStand}
use Rattle.node.specs.Passing.{stands_so, count_is}
use Rattle.std.proofs.lemmas.List.{get_or_past}
use Rattle.node.proofs.Opening.{Found, found, no_names_fault}
use Rattle.node.proofs.Making.{parts, same_parts, cores_push, fresh_only}

-- the broker that a settled name leaves, by how many topics it has
settled_without : (doubt : Option (List ℕ)) (b settled : Broker) → is_some doubt ≡ true → Settles doubt b settled → length settled.topics ≡ length b.topics → settled ≡ sure b
settled_without None b settled fails is count = absurd (true≢false (sym fails))
settled_without (Some name) b settled fails (inl is) count = is
settled_without (Some name) b settled fails (inr is) count = absurd (omega (arith, count, ap (λ (x : Broker). length x.topics) is, length-append b.topics (fresh b.per_ledger ∷ [])))

pub settled_with : (doubt : Option (List ℕ)) (b settled : Broker) → is_some doubt ≡ true → Settles doubt b settled → length settled.topics ≡ suc (length b.topics) → (name : List ℕ) × (doubt ≡ Some name) × (settled ≡ made (sure b) name)
settled_with None b settled fails is count = absurd (true≢false (sym fails))
settled_with (Some name) b settled fails (inl is) count = absurd (omega (arith, count, ap (λ (x : Broker). length x.topics) is))
settled_with (Some name) b settled fails (inr is) count = (name, refl, is)

counted : (doubt : Option (List ℕ)) (b settled : Broker) (names : Names) → Settles doubt b settled → names ≡ settled.names → (length names ≡ length b.names) ⊎ (length names ≡ length b.names + 1)
counted None b settled names is same = inl (ap (λ (l : Names). length l) (same ∙ ap (λ (x : Broker). x.names) is))
counted (Some name) b settled names (inl is) same = inl (ap (λ (l : Names). length l) (same ∙ ap (λ (x : Broker). x.names) is))
counted (Some name) b settled names (inr is) same = inr (ap (λ (l : Names). length l) (same ∙ ap (λ (x : Broker). x.names) is) ∙ length-append b.names (name ∷ []))

pub settles_without : (doubt : Option (List ℕ)) (b new : Broker) → is_some doubt ≡ true → new ≡ sure b → Settles doubt b new
settles_without None b new fails is = absurd (true≢false (sym fails))
settles_without (Some name) b new fails is = inl is

-- of the two counts it is the greater one
pub one_more_name : (again names held : ℕ) → (again ≡ names) ⊎ (again ≡ names + 1) → names ≡ held → held < again → again ≡ held + 1
one_more_name again names held (inl is) named more = absurd (omega (arith, is, named, more))
one_more_name again names held (inr is) named more = omega (arith, is, named)

pub opened_so : (core : Topic) (n m : ℕ) → n ≡ m → core ≡ opened n core.ledger (marks_of core.ledger) core.kept → core ≡ opened m core.ledger (marks_of core.ledger) core.kept
opened_so core n m is opens = opens ∙ ap (λ k. opened k core.ledger (marks_of core.ledger) core.kept) is

module _ {T S : Type 0} {store : StoreMembers T} (disk : S → Disk) (t : Topics T S store) (s : TopicsStand disk t) (lawful : (disk t.shelf).may_leave (disk t.shelf).seen) where
  -- the catalog's file has no fault
  pub no_fault_now : (why : Refusal) → ¬ IsFault (disk t.shelf).seen why
  no_fault_now why = no_names_fault store.stands t.doubtful (broker_of t) (disk t.shelf).seen why (s.names (disk t.shelf).seen lawful)

  module _ (fails : failed t.catalog ≡ true) (again : Catalog) (d1 : Disk) (seen : d1.seen ≡ (disk t.shelf).seen) (settled : SettledIn (NamesHeld again) d1 (remembered again)) where
    pub names_there : NamesStand (per_ledger again) (disk t.shelf).seen (remembered again)
    names_there = subst (λ (i : Image). NamesStand (per_ledger again) i (remembered again)) seen (holds_stands again d1.seen (remembered again) settled.now)

    abbrev pub f : Found store.stands t.doubtful (broker_of t) (disk t.shelf).seen (per_ledger again) (remembered again)
    f = found store.stands (broker_of t) (disk t.shelf).seen (stands_so disk t s (disk t.shelf).seen lawful) (per_ledger again) (remembered again) names_there

    pub doubts : is_some t.doubtful ≡ true
    doubts = t.doubted ∙ fails

    -- it has as many names as before, or one more
    pub follows : Follows t.catalog again
    follows = (f.per_ledger, counted t.doubtful (broker_of t) f.settled (remembered again) f.settles f.names_are)

    -- without the name
    pub broker_without : length (remembered again) ≤ length t.held.items → parts (per_ledger again) t.url (remembered again) None (map (λ (h : Held T store). h.core) t.held.items) ≡ sure (broker_of t)
    broker_without few =
        let is = settled_without t.doubtful (broker_of t) f.settled doubts f.settles (omega (arith, f.count, f.more, few, count_is t)) in
        same_parts
        f.per_ledger refl (f.names_are ∙ ap (λ (b : Broker). b.names) is) refl refl

    module _ (one : (k : ℕ) (files : Image) (one other : Ledger) (i j : Kept) → end_of one ≤ 2 ^ 62 → store.stands k files one i → store.stands k files other j → (one ≡ other) × (i ≡ j))
        (more : length (remembered again) ≡ length t.held.items + 1) where
      abbrev pub with_name : (name : List ℕ) × (t.doubtful ≡ Some name) × (f.settled ≡ made (sure (broker_of t)) name)
      with_name = settled_with t.doubtful (broker_of t) f.settled doubts f.settles (omega (arith, f.count, more, count_is t))

      -- the topic of the name is a fresh one
      pub fresh_there : (core : Topic) → core ≡ opened (per_ledger again) core.ledger (marks_of core.ledger) core.kept → end_of core.ledger ≤ 2 ^ 62 → store.stands (length t.held.items) d1.seen core.ledger core.kept → core ≡ fresh (per_ledger t.catalog)
      fresh_there core is few here =
          let n = length t.held.items in
          let x = f.topics n (omega (arith, more)) in
          let left = subst (λ (u : Topic). IsLeft u x.ledger x.kept) (get_or_past (broker_of t).topics n (fresh (per_ledger t.catalog)) (omega (arith, count_is t))) x.is_left in
          let none = fresh_only (per_ledger t.catalog) x.ledger x.kept left in
          let same = one n (disk t.shelf).seen core.ledger x.ledger core.kept x.kept few (subst (λ (i : Image). store.stands n i core.ledger core.kept) seen here) x.stands in
          is ∙ ap (λ m. opened m core.ledger (marks_of core.ledger) core.kept) f.per_ledger
          ∙ ap (λ (l : Ledger). opened (per_ledger t.catalog) l (marks_of l) core.kept) (same.0 ∙ none.0) ∙ ap (λ k. opened (per_ledger t.catalog) (whole []) no_marks k) (same.1 ∙ none.1)

      abbrev pub name_there : List ℕ
      name_there = with_name.0

      pub doubted_there : t.doubtful ≡ Some name_there
      doubted_there = with_name.1

      pub broker_with_name : (h : Held T store) (held : List (Held T store)) → held ≡ t.held.items ++ h ∷ [] → h.core ≡ fresh (per_ledger t.catalog)
          → parts (per_ledger again) t.url (remembered again) None (map (λ (h : Held T store). h.core) held) ≡ made (sure (broker_of t)) name_there
      broker_with_name h held items core =
          same_parts
          f.per_ledger refl (f.names_are ∙ ap (λ (b : Broker). b.names) with_name.2) refl
          (ap (λ (l : List (Held T store)). map (λ (h : Held T store). h.core) l) items ∙ cores_push t.held.items h ∙ ap (λ (u : Topic). map (λ (h : Held T store). h.core) t.held.items ++ u ∷ []) core)

      pub settles_with : (new : Broker) → new ≡ made (sure (broker_of t)) name_there → Settles t.doubtful (broker_of t) new
      settles_with new is = subst (λ d. Settles d (broker_of t) new) (sym with_name.1) (inr is)

    -- what the files of the next topic stand for
    pub no_topic_fault : (faulty : ℕ → Image → Refusal → Type 0) → ((k : ℕ) (files : Image) (ledger : Ledger) (kept : Kept) (why : Refusal) → store.stands k files ledger kept → ¬ faulty k files why)
        → length t.held.items < length (remembered again) → (why : Refusal) → ¬ faulty (length t.held.items) d1.seen why
    no_topic_fault faulty sound low why =
        let x = f.topics (length t.held.items) low in
        λ fault. sound (length t.held.items) (disk t.shelf).seen x.ledger x.kept why x.stands (subst (λ (i : Image). faulty (length t.held.items) i why) seen fault)
