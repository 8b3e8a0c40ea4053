-- A topic of a node is made or found again, and the others stay.
use Rattle.std.proofs.Common.{◌≡◌, inl, inr, ⊎_elim, ℕ, zero, suc, ◌<◌, ◌≤◌, true, false, Option, Some, None, List, [], ◌∷◌, ◌++◌, map, length, slice_get, refl, sym, ap, subst, ◌∙◌, append-nil, arith}
use Rattle.std.specs.Prelude.{is_some, Contains, IfSome}
use Rattle.std.proofs.lemmas.Bool.{true≢false}
use Rattle.std.proofs.lemmas.List.Elements.{All-nil, All-cons}
use Rattle.std.specs.FinMap as map_of
use Rattle.disk.specs.Disk.{Disk, Image, Leaves, Undisturbed, Kept as Counted}
use Rattle.disk.specs.Contents.{Settled as SettledIn, BeforeOrAfter}
use Rattle.disk.specs.Moments.{joins, weaken}
use Rattle.disk.specs.Areas.{OfTopic, Agree, Within, apart}
use Rattle.disk.specs.declared.file_id.FileId.{FileId}
use Rattle.disk.specs.declared.file_id.FileId.TheVariants as file_id
use Rattle.disk.specs.declared.file_id.Folder.TheVariants.{One}
use Rattle.managed_ledger.specs.Entries.{Ledger, whole}
use Rattle.records.specs.Maps.{Kept}
use Rattle.topic_stores.specs.declared.store.TopicStore.{Ghosts as StoreMembers}
use Rattle.topic_stores.specs.Views.{AreLaws}
use Rattle.topic_stores.specs.Writing.{StandsFor}
use Rattle.topic_core.specs.State.{Topic}
use Rattle.topic_core.specs.Crashes.{IsLeft}
use Rattle.topic_core.proofs.Floors.{trimmed_at}
use Rattle.catalog.specs.declared.catalog.Catalog.{Catalog}
use Rattle.catalog.specs.Names.{Names}
use Rattle.catalog.specs.Catalogs.{Own, StandsFor as NamesStand, Holds as NamesHeld, OldCounts, remembered, per_ledger, failed}
use Rattle.catalog.specs.Laws.{own_file, holds_stands}
use Rattle.session.specs.Broker.{Broker, fresh, topic_at, sure, doubting, made}
use Rattle.node.specs.declared.held.Held.{Held}
use Rattle.node.specs.declared.topics.Topics.{Topics}
use Rattle.node.specs.State.{Stage, Resting, stage_in}
use Rattle.node.specs.Flights.{stage_of}
use Rattle.node.specs.Numbers.{AreNumbered, IsNumbered}
use Rattle.node.specs.Naming.{IsOneOf, with_names, Gains, Grows}
use Rattle.node.specs.Standing.{StandsForBroker, StandsForSome, NamesLeft, view_in, phase_in, HeldStands, known_in, known_by, known_of, broker_of, stages_of, TopicsStand, Worked, Works}
use Rattle.node.specs.Passing.{stands_so, count_is, untouched, newest_moved, old_beside}
use Rattle.node.specs.Growing.{doubted_before, gains_none, gained_at}
use Rattle.node.specs.Brokers.{one_more_at}
use Rattle.node.specs.Lists.{get_push}
use Rattle.std.proofs.lemmas.Option.{slice_get_within}
use Rattle.node.proofs.Frames.{standing_still, same_files, undisturbed_else, names_alone, settled_still}

-- ---- what brokers become

-- nothing is in doubt any more
pub sure_is : (b : Broker) → sure b ≡ with_names b [] None
sure_is b =
    ap (λ (ns : List (List ℕ)). let x : Broker = record b { names = ns; doubtful = None } in x) (sym (append-nil b.names))
    ∙ ap (λ (ts : List Topic). let x : Broker = record b { names = b.names ++ []; doubtful = None; topics = ts } in x) (sym (append-nil b.topics))

pub doubting_is : (b : Broker) (name : List ℕ) → doubting b name ≡ with_names b [] (Some name)
doubting_is b name =
    ap (λ (ns : List (List ℕ)). let x : Broker = record b { names = ns; doubtful = Some name } in x) (sym (append-nil b.names))
    ∙ ap (λ (ts : List Topic). let x : Broker = record b { names = b.names ++ []; doubtful = Some name; topics = ts } in x) (sym (append-nil b.topics))

-- what a broker gains it grows by
gains_grows : (names : List (List ℕ)) (old new : Broker) → Gains names old new → Grows names old new
gains_grows names old new g = record {
  per_ledger = ap (λ (b : Broker). b.per_ledger) g.gained;
  service_url = ap (λ (b : Broker). b.service_url) g.gained;
  more = g.more;
  added = ap (λ (b : Broker). b.names) g.gained;
  asked = g.asked;
  doubted = subst (λ (d : Option (List ℕ)). IfSome d (IsOneOf names old)) (sym (ap (λ (b : Broker). b.doubtful) g.gained)) g.doubted;
  left = λ number l k is. subst (λ (t : Topic). IsLeft t l k) (gained_at old g.more g.doubt number) (subst (λ (b : Broker). IsLeft (topic_at b number) l k) g.gained is);
}

none_of : {X : Type 0} (o : Option X) → is_some o ≡ false → o ≡ None
none_of None is = refl
none_of (Some x) is = absurd (true≢false is)

some_of : {X : Type 0} (o : Option X) → is_some o ≡ true → (x : X) × (o ≡ Some x)
some_of None is = absurd (true≢false (sym is))
some_of (Some x) is = (x, refl)

-- a fresh topic leaves nothing in doubt
pub fresh_only : (n : ℕ) (l : Ledger) (k : Kept) → IsLeft (fresh n) l k → (l ≡ whole []) × (k ≡ map_of.empty)
fresh_only n l k (inl is) = is
fresh_only n l k (inr (inl is)) = is
fresh_only n l k (inr (inr is)) = (is.0.is ∙ trimmed_at (whole []) l.base (omega (arith, is.0.below)), is.1)

-- a broker is known by its parts
abbrev pub parts : ℕ → List ℕ → Names → Option (List ℕ) → List Topic → Broker
parts n url names doubt topics = record { per_ledger = n; service_url = url; names = names; doubtful = doubt; topics = topics }

pub same_parts : {n n' : ℕ} {u u' : List ℕ} {ns ns' : Names} {d d' : Option (List ℕ)} {ts ts' : List Topic} → n ≡ n' → u ≡ u' → ns ≡ ns' → d ≡ d' → ts ≡ ts' → parts n u ns d ts ≡ parts n' u' ns' d' ts'
same_parts {n} {n'} {u} {u'} {ns} {ns'} {d} {d'} {ts} {ts'} e0 e1 e2 e3 e4 =
    ap (λ x. parts x u ns d ts) e0 ∙ ap (λ x. parts n' x ns d ts) e1 ∙ ap (λ x. parts n' u' x d ts) e2 ∙ ap (λ x. parts n' u' ns' x ts) e3 ∙ ap (λ x. parts n' u' ns' d' x) e4

-- ---- files of a broker

module _ (stands : ℕ → Image → Ledger → Kept → Type 0) (local : (t : ℕ) (a b : Image) (ledger : Ledger) (k : Kept) → Agree (OfTopic t) a b → stands t a ledger k → stands t b ledger k) where
  -- the topics stand where their files are left alone
  topics_moved : (b : Broker) (a c : Image) → ((j : ℕ) → j < length b.topics → Agree (OfTopic j) a c) → ((j : ℕ) (t : Topic) → slice_get b.topics j ≡ Some t → StandsFor (stands j) (IsLeft t) a)
      → (j : ℕ) (t : Topic) → slice_get b.topics j ≡ Some t → StandsFor (stands j) (IsLeft t) c
  topics_moved b a c same each j t is = same_files stands local j (IsLeft t) a c (same j (slice_get_within b.topics j t is)) (each j t is)

  -- and the broker, where no name is in doubt
  pub broker_moved : (b : Broker) (a c : Image) → b.doubtful ≡ None → c (file_id.Catalog One) ≡ a (file_id.Catalog One) → Agree Own a c → ((j : ℕ) → j < length b.topics → Agree (OfTopic j) a c) → StandsForBroker stands b a → StandsForBroker stands b c
  broker_moved b a c none old own same s = record {
    formed = s.formed;
    newest = newest_moved a c old s.newest;
    names = subst (λ d. NamesLeft stands d b c) (sym none) (own_file b.per_ledger a c b.names own (subst (λ d. NamesLeft stands d b a) none s.names));
    topics = topics_moved b a c same s.topics;
  }

  -- a name may have been added, of a topic whose files stand for a fresh one
  pub broker_doubts : (names : List (List ℕ)) (b : Broker) (name : List ℕ) → Contains names name → (a c : Image) → c (file_id.Catalog One) ≡ a (file_id.Catalog One) → ((j : ℕ) → j < length b.topics → Agree (OfTopic j) a c) → StandsForBroker stands b a
      → BeforeOrAfter (NamesStand b.per_ledger) b.names (b.names ++ name ∷ []) c → stands (length b.topics) c (whole []) map_of.empty → StandsForSome stands (λ broker. Gains names b broker) c
  broker_doubts names b name asked a c old same s either new = (
    doubting b name,
    record { more = []; doubt = Some name; gained = doubting_is b name; asked = All-nil (IsOneOf names b); doubted = inl asked },
    record {
      formed = record { named = s.formed.named; ledgers = s.formed.ledgers };
      newest = newest_moved a c old s.newest;
      names = ⊎_elim (λ without. inl without) (λ more. inr (more, new)) either;
      topics = topics_moved b a c same s.topics;
    },
  )

-- ---- steps of the device

-- a call that reads leaves files alone
pub undisturbed_read : (area : FileId → Type 0) (old new : Disk) → Counted old new → Leaves old.may_leave old new → Agree area old.seen new.seen → Undisturbed area old new
undisturbed_read area old new kept leaves same = record { honest = kept.honest; seen = same; left = λ c may. (c, leaves.now c may, λ f own. refl) }

-- two calls that read, one after the other
pub both_kept : (a b c : Disk) → Counted a b → Counted b c → Counted a c
both_kept a b c k l = record { faults = omega (arith, k.faults, l.faults); honest = λ h. l.honest (k.honest h); not_honest = λ h. k.not_honest (l.not_honest h) }

pub both_left : (a b c : Disk) → Leaves a.may_leave a b → Leaves b.may_leave b c → Leaves a.may_leave a c
both_left a b c k l = joins a.may_leave b.may_leave a.may_leave a b c k l (λ i may. may) k.now

-- no file of a topic is the catalog's
pub not_own : (j : ℕ) (f : FileId) → OfTopic j f → ¬ Own f
not_own j f of own = let P : FileId → Type 0 = λ x. OfTopic j x in subst P own of

module _ {T : Type 0} {store : StoreMembers T} where
  map_push : (xs : List (Held T store)) (h : Held T store) → h.flight ≡ None → map (λ (x : Held T store). stage_of x.flight) (xs ++ h ∷ []) ≡ map (λ (x : Held T store). stage_of x.flight) xs ++ Resting ∷ []
  map_push [] h rests = ap (λ f. stage_of f ∷ []) rests
  map_push (x ∷ xs) h rests = ap (λ (l : List Stage). stage_of x.flight ∷ l) (map_push xs h rests)

  -- a topic more, at rest
  stage_more : (xs : List (Held T store)) (h : Held T store) (number : ℕ) → h.flight ≡ None → stage_in (map (λ (x : Held T store). stage_of x.flight) (xs ++ h ∷ [])) number ≡ stage_in (map (λ (x : Held T store). stage_of x.flight) xs) number
  stage_more xs h number rests =
      ap (λ (l : List Stage). stage_in l number) (map_push xs h rests)
      ∙ one_more_at (map (λ (x : Held T store). stage_of x.flight) xs) number Resting

  known_more : (xs : List (Held T store)) (h : Held T store) (number : ℕ) → number < length xs → known_in (map (λ (x : Held T store). known_by x) (xs ++ h ∷ [])) number ≡ known_in (map (λ (x : Held T store). known_by x) xs) number
  known_more [] h number low = absurd (omega (arith, low))
  known_more (x ∷ xs) h zero low = refl
  known_more (x ∷ xs) h (suc number) low = known_more xs h number (omega (arith, low))

  -- the files of a fresh topic that is held stand for one
  pub fresh_files : (h : Held T store) (n number : ℕ) (d : Disk) → h.core ≡ fresh n → (view_in h).topic ≡ number → HeldStands h d → (files : Image) → d.may_leave files → store.stands number files (whole []) map_of.empty
  fresh_files h n number d core topic here files may =
      let s = here.left files may in
      let none = fresh_only n s.ledger s.kept (subst (λ (u : Topic). IsLeft u s.ledger s.kept) core s.is_left) in
      subst (λ k. store.stands k files (whole []) map_of.empty) topic
      (subst (λ (l : Ledger). store.stands (view_in h).topic files l map_of.empty) none.0 (subst (λ k. store.stands (view_in h).topic files s.ledger k) none.1 s.stands))

  pub numbered_push : (xs : List (Held T store)) (h : Held T store) (n : ℕ) → AreNumbered n xs → IsNumbered n (length xs) h → AreNumbered n (xs ++ h ∷ [])
  numbered_push xs h n each here j x is = ⊎_elim
      (λ at. subst (λ k. IsNumbered n k x) (sym at.0) (subst (λ (y : Held T store). IsNumbered n (length xs) y) (sym at.1) here))
      (λ other. each j x other.1)
      (get_push xs h j x is)

  pub cores_push : (xs : List (Held T store)) (h : Held T store) → map (λ (x : Held T store). x.core) (xs ++ h ∷ []) ≡ map (λ (x : Held T store). x.core) xs ++ h.core ∷ []
  cores_push [] h = refl
  cores_push (x ∷ xs) h = ap (λ (l : List Topic). x.core ∷ l) (cores_push xs h)

module _ {T S : Type 0} {store : StoreMembers T} (disk : S → Disk) (asked : List (List ℕ)) where
  -- the stores that were there know what they knew
  abbrev pub KnowTheSame : Topics T S store → Topics T S store → Type 0
  KnowTheSame t new = (number : ℕ) → number < length t.held.items → known_in (known_of new) number ≡ known_in (known_of t) number

  known_same : (t new : Topics T S store) → new.held.items ≡ t.held.items → KnowTheSame t new
  known_same t new items number low = ap (λ (l : List (Held T store)). known_in (map (λ (x : Held T store). known_by x) l) number) items

  known_beside : (t new : Topics T S store) (h : Held T store) → new.held.items ≡ t.held.items ++ h ∷ [] → KnowTheSame t new
  known_beside t new h items number low = ap (λ (l : List (Held T store)). known_in (map (λ (x : Held T store). known_by x) l) number) items ∙ known_more t.held.items h number low

  -- what a call did that may search for these names, by the broker that it made
  pub worked_so : (t new : Topics T S store) → TopicsStand disk new → Gains asked (broker_of t) (broker_of new) → Leaves (StandsForSome store.stands (λ broker. Gains asked (broker_of t) broker)) (disk t.shelf) (disk new.shelf)
      → ((number : ℕ) → stage_in (stages_of new) number ≡ stage_in (stages_of t) number) → KnowTheSame t new → (disk t.shelf).faults ≤ (disk new.shelf).faults → Worked disk asked t new
  worked_so t new standing gains moments stages known faults = record { standing = standing; grows = gains_grows asked (broker_of t) (broker_of new) gains; any_moment = moments; stages = stages; known = known; faults = faults }

  -- nothing changed but the room of a list
  pub works_same : (t new : Topics T S store) → new.held.items ≡ t.held.items → new.catalog ≡ t.catalog → new.url ≡ t.url → new.doubtful ≡ t.doubtful → new.shelf ≡ t.shelf → Works disk asked t new
  works_same t new items catalog url doubtful shelf =
      let broker : broker_of new ≡ broker_of t = same_parts
      (ap (λ (c : Catalog). per_ledger c) catalog) url (ap (λ (c : Catalog). remembered c) catalog) doubtful (ap (λ (l : List (Held T store)). map (λ (h : Held T store). h.core) l) items) in (
        omega (arith, ap (λ (l : List (Held T store)). length l) items),
        λ s. worked_so t new
            (record {
              honest = subst (λ (x : S). (disk x).honest) (sym shelf) s.honest;
              each = subst (λ (x : S). (j : ℕ) (h : Held T store) → slice_get new.held.items j ≡ Some h → HeldStands h (disk x)) (sym shelf)
                  (subst (λ (l : List (Held T store)). (j : ℕ) (h : Held T store) → slice_get l j ≡ Some h → HeldStands h (disk t.shelf)) (sym items) s.each);
              newest = subst (λ (x : S). (files : Image) → (disk x).may_leave files → ¬ OldCounts files) (sym shelf) s.newest;
              names = subst (λ (x : S). (files : Image) → (disk x).may_leave files → NamesLeft store.stands new.doubtful (broker_of new) files) (sym shelf)
                  (λ files may. subst (λ (b : Broker). NamesLeft store.stands b.doubtful b files) (sym broker) (s.names files may));
              settled = subst (λ (x : S). failed new.catalog ≡ false → SettledIn (NamesHeld new.catalog) (disk x) (remembered new.catalog)) (sym shelf)
                  (subst (λ (c : Catalog). failed c ≡ false → SettledIn (NamesHeld c) (disk t.shelf) (remembered c)) (sym catalog) s.settled);
            })
            (subst (λ (b : Broker). Gains asked (broker_of t) b) (sym broker) (gains_none asked (broker_of t)))
            (weaken _ _ (disk t.shelf) (disk new.shelf) (untouched disk t new.shelf s shelf) (λ files is. (broker_of t, gains_none asked (broker_of t), is)))
            (λ number. ap (λ (l : List (Held T store)). stage_in (map (λ (x : Held T store). stage_of x.flight) l) number) items) (known_same t new items)
            (subst (λ (x : S). (disk t.shelf).faults ≤ (disk x).faults) (sym shelf) (omega arith)),
      )

  module _ (laws : (s : T) → AreLaws store.stands (store.view s)) (local : (k : ℕ) (a b : Image) (ledger : Ledger) (kept : Kept) → Agree (OfTopic k) a b → store.stands k a ledger kept → store.stands k b ledger kept) where
    -- a topic stands where its files are left alone
    pub held_still : (h : Held T store) (number : ℕ) (d0 d1 : Disk) → (view_in h).topic ≡ number → Undisturbed (OfTopic number) d0 d1 → HeldStands h d0 → HeldStands h d1
    held_still h number d0 d1 is u s = standing_still store.stands local (phase_in h) h.core (view_in h) (laws h.stores) d0 d1 (subst (λ k. Undisturbed (OfTopic k) d0 d1) (sym is) u) s

    module _ (t : Topics T S store) where
      -- so does each
      pub each_still : (d0 d1 : Disk) → ((j : ℕ) → j < length t.held.items → Undisturbed (OfTopic j) d0 d1) → ((j : ℕ) (x : Held T store) → slice_get t.held.items j ≡ Some x → HeldStands x d0)
          → (j : ℕ) (x : Held T store) → slice_get t.held.items j ≡ Some x → HeldStands x d1
      each_still d0 d1 u each j x is = held_still x j d0 d1 (t.numbered j x is).0 (u j (slice_get_within t.held.items j x is)) (each j x is)

      -- and one more
      pub each_push : (d : Disk) (h : Held T store) → HeldStands h d → ((j : ℕ) (x : Held T store) → slice_get t.held.items j ≡ Some x → HeldStands x d)
          → (j : ℕ) (x : Held T store) → slice_get (t.held.items ++ h ∷ []) j ≡ Some x → HeldStands x d
      each_push d h here each j x is = ⊎_elim (λ at. subst (λ (y : Held T store). HeldStands y d) (sym at.1) here) (λ other. each j x other.1) (get_push t.held.items h j x is)

      -- ---- calls that read alone

      module _ (new : Topics T S store) (s : TopicsStand disk t) (kept : Counted (disk t.shelf) (disk new.shelf)) (leaves : Leaves (disk t.shelf).may_leave (disk t.shelf) (disk new.shelf))
          (same : (j : ℕ) → j < length t.held.items → Agree (OfTopic j) (disk t.shelf).seen (disk new.shelf).seen) where
        read_each : (j : ℕ) (x : Held T store) → slice_get t.held.items j ≡ Some x → HeldStands x (disk new.shelf)
        read_each = each_still (disk t.shelf) (disk new.shelf) (λ j low. undisturbed_read (OfTopic j) (disk t.shelf) (disk new.shelf) kept leaves (same j low)) s.each

        read_moments : Leaves (StandsForSome store.stands (λ broker. Gains asked (broker_of t) broker)) (disk t.shelf) (disk new.shelf)
        read_moments = weaken _ _ (disk t.shelf) (disk new.shelf) leaves (λ files may. (broker_of t, gains_none asked (broker_of t), stands_so disk t s files may))

        -- nothing changed but what a failed sync leaves of the catalog's file, or of one of a topic that isn't held
        pub worked_reading : new.held.items ≡ t.held.items → broker_of new ≡ broker_of t → new.doubtful ≡ t.doubtful → failed new.catalog ≡ true → Worked disk asked t new
        worked_reading items broker doubtful fails = worked_so t new
            (record {
              honest = kept.honest s.honest;
              each = subst (λ (l : List (Held T store)). (j : ℕ) (x : Held T store) → slice_get l j ≡ Some x → HeldStands x (disk new.shelf)) (sym items) read_each;
              newest = λ files may. s.newest files (leaves.now files may);
              names = λ files may. subst (λ (b : Broker). NamesLeft store.stands b.doubtful b files) (sym broker) (s.names files (leaves.now files may));
              settled = λ works. absurd (true≢false (sym fails ∙ works));
            })
            (subst (λ (b : Broker). Gains asked (broker_of t) b) (sym broker) (gains_none asked (broker_of t))) read_moments
            (λ number. ap (λ (l : List (Held T store)). stage_in (map (λ (x : Held T store). stage_of x.flight) l) number) items) (known_same t new items) kept.faults

        -- the catalog was opened again, and the name in doubt isn't there
        pub worked_without : new.held.items ≡ t.held.items → broker_of new ≡ sure (broker_of t) → SettledIn (NamesHeld new.catalog) (disk new.shelf) (remembered new.catalog) → new.doubtful ≡ None → Worked disk asked t new
        worked_without items broker settled none = worked_so t new
            (record {
              honest = kept.honest s.honest;
              each = subst (λ (l : List (Held T store)). (j : ℕ) (x : Held T store) → slice_get l j ≡ Some x → HeldStands x (disk new.shelf)) (sym items) read_each;
              newest = λ files may. s.newest files (leaves.now files may);
              names = λ files may. subst (λ d. NamesLeft store.stands d (broker_of new) files) (sym none) (holds_stands new.catalog files (remembered new.catalog) (settled.left files may));
              settled = λ works. settled;
            })
            (record { more = []; doubt = None; gained = broker ∙ sure_is (broker_of t); asked = All-nil (IsOneOf asked (broker_of t)); doubted = tt }) read_moments
            (λ number. ap (λ (l : List (Held T store)). stage_in (map (λ (x : Held T store). stage_of x.flight) l) number) items) (known_same t new items) kept.faults

        -- it is there, and its topic was opened
        pub worked_with : (h : Held T store) (name : List ℕ) → (broker_of t).doubtful ≡ Some name → new.held.items ≡ t.held.items ++ h ∷ [] → h.flight ≡ None → HeldStands h (disk new.shelf) → broker_of new ≡ made (sure (broker_of t)) name
            → SettledIn (NamesHeld new.catalog) (disk new.shelf) (remembered new.catalog) → new.doubtful ≡ None → Worked disk asked t new
        worked_with h name doubted items rests here broker settled none = worked_so t new
            (record {
              honest = kept.honest s.honest;
              each = subst (λ (l : List (Held T store)). (j : ℕ) (x : Held T store) → slice_get l j ≡ Some x → HeldStands x (disk new.shelf)) (sym items) (each_push (disk new.shelf) h here read_each);
              newest = λ files may. s.newest files (leaves.now files may);
              names = λ files may. subst (λ d. NamesLeft store.stands d (broker_of new) files) (sym none) (holds_stands new.catalog files (remembered new.catalog) (settled.left files may));
              settled = λ works. settled;
            })
            (record { more = name ∷ []; doubt = None; gained = broker; asked = All-cons (IsOneOf asked (broker_of t)) name [] (inr doubted) (All-nil (IsOneOf asked (broker_of t))); doubted = tt }) read_moments
            (λ number. ap (λ (l : List (Held T store)). stage_in (map (λ (x : Held T store). stage_of x.flight) l) number) items ∙ stage_more t.held.items h number rests) (known_beside t new h items) kept.faults

      -- ---- a topic is made

      module _ (s : TopicsStand disk t) (works : failed t.catalog ≡ false) (d1 : Disk) (kept : Counted (disk t.shelf) d1) (w : Within (OfTopic (length t.held.items)) (λ c. Unit {0}) (disk t.shelf) d1) where
        none : t.doubtful ≡ None
        none = none_of t.doubtful (t.doubted ∙ works)

        beside : (j : ℕ) → j < length t.held.items → (f : FileId) → OfTopic j f → ¬ OfTopic (length t.held.items) f
        beside j low f of = apart (length t.held.items) j (λ e. omega (arith, e, low)) f of

        made_each : (j : ℕ) (x : Held T store) → slice_get t.held.items j ≡ Some x → HeldStands x d1
        made_each = each_still (disk t.shelf) d1 (λ j low. undisturbed_else (OfTopic (length t.held.items)) (OfTopic j) (λ c. Unit {0}) (disk t.shelf) d1 (kept.honest s.honest) (beside j low) w) s.each

        own_beside : (f : FileId) → Own f → ¬ OfTopic (length t.held.items) f
        own_beside f own of = not_own (length t.held.items) f of own

        made_names : (files : Image) → d1.may_leave files → NamesStand (per_ledger t.catalog) files (remembered t.catalog)
        made_names files may =
            let out = w.any_moment.now files may in
            own_file (per_ledger t.catalog) out.from files (remembered t.catalog) (λ f own. out.elsewhere f (own_beside f own)) (subst (λ d. NamesLeft store.stands d (broker_of t) out.from) none (s.names out.from out.left))

        made_newest : (files : Image) → d1.may_leave files → ¬ OldCounts files
        made_newest files may =
            let out = w.any_moment.now files may in
            newest_moved out.from files (out.elsewhere (file_id.Catalog One) (λ no. no)) (s.newest out.from out.left)

        pub made_settled : SettledIn (NamesHeld t.catalog) d1 (remembered t.catalog)
        made_settled = settled_still t.catalog (remembered t.catalog) (disk t.shelf) d1 (names_alone (length t.held.items) (λ c. Unit {0}) (disk t.shelf) d1 (kept.honest s.honest) w) (s.settled works)

        -- a crash in the making of its files leaves what it left before
        made_moments : Leaves (StandsForBroker store.stands (broker_of t)) (disk t.shelf) d1
        made_moments = weaken _ _ (disk t.shelf) d1 w.any_moment (λ files out.
            broker_moved store.stands local (broker_of t) out.from files none (out.elsewhere (file_id.Catalog One) (λ no. no)) (λ f own. out.elsewhere f (own_beside f own))
            (λ j low f of. out.elsewhere f (beside j (omega (arith, low, count_is t)) f of)) (stands_so disk t s out.from out.left))

        some_moments : Leaves (StandsForSome store.stands (λ broker. Gains asked (broker_of t) broker)) (disk t.shelf) d1
        some_moments = weaken _ _ (disk t.shelf) d1 made_moments (λ files is. (broker_of t, gains_none asked (broker_of t), is))

        -- its files weren't made, or no memory was left for its name
        pub worked_not : (new : Topics T S store) → disk new.shelf ≡ d1 → new.held.items ≡ t.held.items → broker_of new ≡ broker_of t
            → ((names : Names) → SettledIn (NamesHeld t.catalog) d1 names → SettledIn (NamesHeld new.catalog) d1 names) → Worked disk asked t new
        worked_not new is items broker again =
            worked_so t new
            (record {
              honest = subst (λ (d : Disk). d.honest) (sym is) (kept.honest s.honest);
              each = subst (λ (d : Disk). (j : ℕ) (x : Held T store) → slice_get new.held.items j ≡ Some x → HeldStands x d) (sym is)
                  (subst (λ (l : List (Held T store)). (j : ℕ) (x : Held T store) → slice_get l j ≡ Some x → HeldStands x d1) (sym items) made_each);
              newest = subst (λ (d : Disk). (files : Image) → d.may_leave files → ¬ OldCounts files) (sym is) made_newest;
              names = subst (λ (d : Disk). (files : Image) → d.may_leave files → NamesLeft store.stands new.doubtful (broker_of new) files) (sym is) (λ files may.
                  subst (λ (b : Broker). NamesLeft store.stands b.doubtful b files) (sym broker) (subst (λ d. NamesLeft store.stands d (broker_of t) files) (sym none) (made_names files may)));
              settled = λ _. subst (λ (d : Disk). SettledIn (NamesHeld new.catalog) d (remembered new.catalog)) (sym is)
                  (again (remembered new.catalog) (subst (λ (l : Names). SettledIn (NamesHeld t.catalog) d1 l) (sym (ap (λ (b : Broker). b.names) broker)) made_settled));
            })
            (subst (λ (b : Broker). Gains asked (broker_of t) b) (sym broker) (gains_none asked (broker_of t)))
            (subst (λ (d : Disk). Leaves (StandsForSome store.stands (λ broker. Gains asked (broker_of t) broker)) (disk t.shelf) d) (sym is) some_moments)
            (λ number. ap (λ (l : List (Held T store)). stage_in (map (λ (x : Held T store). stage_of x.flight) l) number) items) (known_same t new items)
            (subst (λ (d : Disk). (disk t.shelf).faults ≤ d.faults) (sym is) kept.faults)

        -- ---- and its name is added

        module _ (h : Held T store) (fresh_core : h.core ≡ fresh (per_ledger t.catalog)) (rests : h.flight ≡ None) (numbered : (view_in h).topic ≡ length t.held.items) (here : HeldStands h d1)
            (files_new : (files : Image) → d1.may_leave files → store.stands (length t.held.items) files (whole []) map_of.empty)
            (name : List ℕ) (is_asked : Contains asked name) (new : Topics T S store) (kept' : Counted d1 (disk new.shelf)) (w' : Within Own (BeforeOrAfter (NamesStand (per_ledger t.catalog)) (remembered t.catalog) (remembered t.catalog ++ name ∷ [])) d1 (disk new.shelf)) where
          d2_honest : (disk new.shelf).honest
          d2_honest = kept'.honest (kept.honest s.honest)

          alone : (j : ℕ) → Undisturbed (OfTopic j) d1 (disk new.shelf)
          alone j = undisturbed_else Own (OfTopic j) _ d1 (disk new.shelf) d2_honest (not_own j) w'

          added_each : (j : ℕ) (x : Held T store) → slice_get t.held.items j ≡ Some x → HeldStands x (disk new.shelf)
          added_each = each_still d1 (disk new.shelf) (λ j low. alone j) made_each

          added_here : HeldStands h (disk new.shelf)
          added_here = held_still h (length t.held.items) d1 (disk new.shelf) numbered (alone (length t.held.items)) here

          -- the files of the new topic, after it
          added_files : (from files : Image) → d1.may_leave from → ((f : FileId) → ¬ Own f → files f ≡ from f) → store.stands (length t.held.items) files (whole []) map_of.empty
          added_files from files may same = local (length t.held.items) from files (whole []) map_of.empty (λ f of. same f (not_own (length t.held.items) f of)) (files_new from may)

          added_newest : (files : Image) → (disk new.shelf).may_leave files → ¬ OldCounts files
          added_newest files may =
              let out = w'.any_moment.now files may in
              newest_moved out.from files (out.elsewhere (file_id.Catalog One) old_beside) (made_newest out.from out.left)

          added_moments : Leaves (StandsForSome store.stands (λ broker. Gains asked (broker_of t) broker)) (disk t.shelf) (disk new.shelf)
          added_moments = joins _ _ _ (disk t.shelf) d1 (disk new.shelf) some_moments w'.any_moment (λ files is. is) (λ files out.
              broker_doubts store.stands local asked (broker_of t) name is_asked out.from files (out.elsewhere (file_id.Catalog One) old_beside) (λ j low f of. out.elsewhere f (not_own j f of)) (made_moments.now out.from out.left) out.own
              (subst (λ n. store.stands n files (whole []) map_of.empty) (sym (count_is t)) (added_files out.from files out.left out.elsewhere)))

          -- the device failed in it: the name is in doubt
          pub worked_doubting : new.held.items ≡ t.held.items → broker_of new ≡ doubting (broker_of t) name → failed new.catalog ≡ true → Worked disk asked t new
          worked_doubting items broker fails =
              worked_so t new
              (record {
                honest = d2_honest;
                each = subst (λ (l : List (Held T store)). (j : ℕ) (x : Held T store) → slice_get l j ≡ Some x → HeldStands x (disk new.shelf)) (sym items) added_each;
                newest = added_newest;
                names = λ files may. subst (λ (b : Broker). NamesLeft store.stands b.doubtful b files) (sym broker)
                    (let out = w'.any_moment.now files may in ⊎_elim (λ without. inl without) (λ more. inr (more, subst (λ n. store.stands n files (whole []) map_of.empty) (sym (count_is t)) (added_files out.from files out.left out.elsewhere))) out.own);
                settled = λ works'. absurd (true≢false (sym fails ∙ works'));
              })
              (record { more = []; doubt = Some name; gained = broker ∙ doubting_is (broker_of t) name; asked = All-nil (IsOneOf asked (broker_of t)); doubted = inl is_asked }) added_moments
              (λ number. ap (λ (l : List (Held T store)). stage_in (map (λ (x : Held T store). stage_of x.flight) l) number) items) (known_same t new items)
              (omega (arith, kept.faults, kept'.faults))

          -- it is added
          pub worked_making : new.held.items ≡ t.held.items ++ h ∷ [] → broker_of new ≡ made (broker_of t) name → SettledIn (NamesHeld new.catalog) (disk new.shelf) (remembered new.catalog) → Worked disk asked t new
          worked_making items broker settled =
              let sure_now : new.doubtful ≡ None = ap (λ (b : Broker). b.doubtful) broker ∙ none in
              worked_so t new
              (record {
                honest = d2_honest;
                each = subst (λ (l : List (Held T store)). (j : ℕ) (x : Held T store) → slice_get l j ≡ Some x → HeldStands x (disk new.shelf)) (sym items) (each_push (disk new.shelf) h added_here added_each);
                newest = added_newest;
                names = λ files may. subst (λ d. NamesLeft store.stands d (broker_of new) files) (sym sure_now) (holds_stands new.catalog files (remembered new.catalog) (settled.left files may));
                settled = λ _. settled;
              })
              (record {
                more = name ∷ [];
                doubt = t.doubtful;
                gained = broker;
                asked = All-cons (IsOneOf asked (broker_of t)) name [] (inl is_asked) (All-nil (IsOneOf asked (broker_of t)));
                doubted = doubted_before asked (broker_of t) t.doubtful refl;
              }) added_moments
              (λ number. ap (λ (l : List (Held T store)). stage_in (map (λ (x : Held T store). stage_of x.flight) l) number) items ∙ stage_more t.held.items h number rests) (known_beside t new h items)
              (omega (arith, kept.faults, kept'.faults))
