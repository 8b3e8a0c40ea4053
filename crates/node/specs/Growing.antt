-- Calls of a port that make topics, one after another.
use Rattle.std.proofs.Common.{◌≡◌, ◌≤◌, inl, inr, ℕ, length, Option, Some, None, List, [], ◌++◌, map, refl, sym, ap, subst, ◌∙◌, append-nil, append_assoc, arith}
use Rattle.std.specs.Prelude.{All, Contains, IfSome}
use Rattle.std.proofs.lemmas.List.{length-map, length-append}
use Rattle.std.proofs.lemmas.List.Elements.{All-nil, All-append, All-weaker}
use Rattle.disk.specs.Disk.{Disk, Image}
use Rattle.disk.specs.Moments.{joins, weaken}
use Rattle.managed_ledger.specs.Entries.{Ledger}
use Rattle.records.specs.Maps.{Kept}
use Rattle.topic_stores.specs.declared.store.TopicStore.{Ghosts as StoreMembers}
use Rattle.topic_core.specs.State.{Topic}
use Rattle.topic_core.specs.Crashes.{IsLeft}
use Rattle.catalog.specs.declared.catalog.Catalog.{Catalog}
use Rattle.catalog.specs.Catalogs.{remembered, per_ledger}
use Rattle.session.specs.Broker.{Broker, fresh, topic_at}
use Rattle.node.specs.declared.topics.Topics.{Topics}
use Rattle.node.specs.State.{Stage, stage_in}
use Rattle.node.specs.Naming.{IsFormed, IsOneOf, with_names, Gains, Grows}
use Rattle.node.specs.Standing.{StandsForBroker, StandsForSome, broker_of, known_in, Passed, Passes, Worked, Works, Fails}
use Rattle.node.specs.Passing.{formed_of, stands_before}
use Rattle.node.specs.Brokers.{more_at}

-- the name in doubt is that one
pub doubted_before : (names : List (List ℕ)) (b : Broker) (doubt : Option (List ℕ)) → b.doubtful ≡ doubt → IfSome doubt (IsOneOf names b)
doubted_before names b None is = tt
doubted_before names b (Some name) is = inr is

-- a broker that gains nothing
pub gains_none : (names : List (List ℕ)) (b : Broker) → Gains names b b
gains_none names b = record {
  more = [];
  doubt = b.doubtful;
  asked = All-nil (IsOneOf names b);
  doubted = doubted_before names b b.doubtful refl;
  gained =
      ap (λ (ns : List (List ℕ)). let x : Broker = record b { names = ns } in x) (sym (append-nil b.names))
      ∙ ap (λ (ts : List Topic). let x : Broker = record b { names = b.names ++ []; topics = ts } in x) (sym (append-nil b.topics));
}

-- what a broker that has grown may be asked for, the one before it may
one_of_before : (names : List (List ℕ)) (a b : Broker) → Grows names a b → (name : List ℕ) → IsOneOf names b name → IsOneOf names a name
one_of_before names a b g name (inl is) = inl is
one_of_before names a b g name (inr is) = subst (λ (d : Option (List ℕ)). IfSome d (IsOneOf names a)) is g.doubted

doubted_earlier : (names : List (List ℕ)) (a b : Broker) → Grows names a b → (doubt : Option (List ℕ)) → IfSome doubt (IsOneOf names b) → IfSome doubt (IsOneOf names a)
doubted_earlier names a b g None is = tt
doubted_earlier names a b g (Some name) is = one_of_before names a b g name is

asked_both : (names : List (List ℕ)) (a b : Broker) (g : Grows names a b) (more : List (List ℕ)) → All (IsOneOf names b) more → All (IsOneOf names a) (g.more ++ more)
asked_both names a b g more asked = All-append (IsOneOf names a) g.more more g.asked (All-weaker (IsOneOf names b) (IsOneOf names a) (one_of_before names a b g) more asked)

grow_both : (names : List (List ℕ)) (a b c : Broker) → Grows names a b → Grows names b c → Grows names a c
grow_both names a b c g h = record {
  per_ledger = h.per_ledger ∙ g.per_ledger;
  service_url = h.service_url ∙ g.service_url;
  more = g.more ++ h.more;
  added = h.added ∙ ap (λ (ns : List (List ℕ)). ns ++ h.more) g.added ∙ append_assoc a.names g.more h.more;
  asked = asked_both names a b g h.more h.asked;
  doubted = doubted_earlier names a b g c.doubtful h.doubted;
  left = λ number l k is. g.left number l k (h.left number l k is);
}

-- the topics that are made are as those that weren't there
pub gained_at : (b : Broker) (more : List (List ℕ)) (doubt : Option (List ℕ)) (number : ℕ) → topic_at (with_names b more doubt) number ≡ topic_at b number
gained_at b more doubt number = more_at b.topics more number (fresh b.per_ledger)

pub formed_with : (b : Broker) (more : List (List ℕ)) (doubt : Option (List ℕ)) → IsFormed b → IsFormed (with_names b more doubt)
formed_with b more doubt formed = record {
  named = omega (arith, length-append b.topics (map (λ _. fresh b.per_ledger) more), length-map more (λ (_ : List ℕ). fresh b.per_ledger), length-append b.names more, formed.named);
  ledgers = λ number. ap (λ (t : Topic). t.per_ledger) (gained_at b more doubt number) ∙ formed.ledgers number;
}

-- What a broker that has grown may gain, the one before it may.
pub regained : (files_stand : ℕ → Image → Ledger → Kept → Type 0) (names : List (List ℕ)) (a b : Broker) (files : Image) → IsFormed a → Grows names a b → StandsForSome files_stand (λ broker. Gains names b broker) files
    → StandsForSome files_stand (λ broker. Gains names a broker) files
regained files_stand names a b files formed g is =
    let e = is.1 in
    let x = with_names b e.more e.doubt in
    let y = with_names a (g.more ++ e.more) e.doubt in
    let s = subst (λ (z : Broker). StandsForBroker files_stand z files) e.gained is.2 in (
      y,
      record { more = g.more ++ e.more; doubt = e.doubt; gained = refl; asked = asked_both names a b g e.more e.asked; doubted = doubted_earlier names a b g e.doubt e.doubted },
      stands_before files_stand x y files (formed_with a (g.more ++ e.more) e.doubt formed) (sym g.per_ledger)
          (sym (ap (λ (ns : List (List ℕ)). ns ++ e.more) g.added ∙ append_assoc a.names g.more e.more)) refl
          (λ number l k left. subst (λ (t : Topic). IsLeft t l k) (sym (gained_at a (g.more ++ e.more) e.doubt number)) (g.left number l k (subst (λ (t : Topic). IsLeft t l k) (gained_at b e.more e.doubt number) left)))
          s,
    )

module _ (few more : List (List ℕ)) (within : (name : List ℕ) → Contains few name → Contains more name) (b : Broker) where
  one_of_more : (name : List ℕ) → IsOneOf few b name → IsOneOf more b name
  one_of_more name (inl is) = inl (within name is)
  one_of_more name (inr is) = inr is

  doubted_more : (doubt : Option (List ℕ)) → IfSome doubt (IsOneOf few b) → IfSome doubt (IsOneOf more b)
  doubted_more None is = tt
  doubted_more (Some name) is = one_of_more name is

  gains_more : (new : Broker) → Gains few b new → Gains more b new
  gains_more new g = record { more = g.more; doubt = g.doubt; gained = g.gained; asked = All-weaker (IsOneOf few b) (IsOneOf more b) one_of_more g.more g.asked; doubted = doubted_more g.doubt g.doubted }

  grows_more : (new : Broker) → Grows few b new → Grows more b new
  grows_more new g = record {
    per_ledger = g.per_ledger;
    service_url = g.service_url;
    more = g.more;
    added = g.added;
    asked = All-weaker (IsOneOf few b) (IsOneOf more b) one_of_more g.more g.asked;
    doubted = doubted_more new.doubtful g.doubted;
    left = g.left;
  }

module _ {T S : Type 0} {store : StoreMembers T} (disk : S → Disk) where
  worked_more : (few more : List (List ℕ)) (a b : Topics T S store) → ((name : List ℕ) → Contains few name → Contains more name) → Worked disk few a b → Worked disk more a b
  worked_more few more a b within p = record {
    standing = p.standing;
    grows = grows_more few more within (broker_of a) (broker_of b) p.grows;
    any_moment = weaken _ _ (disk a.shelf) (disk b.shelf) p.any_moment (λ files is. (is.0, gains_more few more within (broker_of a) is.0 is.1, is.2));
    stages = p.stages;
    known = p.known;
    faults = p.faults;
  }

  passed_worked : (names : List (List ℕ)) (a b : Topics T S store) → Passed disk a b → Worked disk names a b
  passed_worked names a b p = record {
    standing = p.standing;
    grows = record {
      per_ledger = ap (λ (c : Catalog). per_ledger c) p.catalog;
      service_url = p.url;
      more = [];
      added = ap (λ (c : Catalog). remembered c) p.catalog ∙ sym (append-nil (remembered a.catalog));
      asked = All-nil (IsOneOf names (broker_of a));
      doubted = doubted_before names (broker_of a) (broker_of b).doubtful (sym p.doubtful);
      left = p.left;
    };
    any_moment = weaken _ _ (disk a.shelf) (disk b.shelf) p.any_moment (λ files is. (broker_of a, gains_none names (broker_of a), is));
    stages = λ number. ap (λ (ss : List Stage). stage_in ss number) p.stages;
    known = λ number low. ap (λ (ks : List ℕ). known_in ks number) p.known;
    faults = p.faults;
  }

  pub passes_works : (names : List (List ℕ)) (a b : Topics T S store) → Passes disk a b → Works disk names a b
  passes_works names a b passes = (passes.0, λ standing. passed_worked names a b (passes.1 standing))

  worked_both : (names : List (List ℕ)) (a b c : Topics T S store) → length a.held.items ≤ length b.held.items → Worked disk names a b → Worked disk names b c → Worked disk names a c
  worked_both names a b c longer p q = record {
    standing = q.standing;
    grows = grow_both names (broker_of a) (broker_of b) (broker_of c) p.grows q.grows;
    any_moment = joins _ _ _ (disk a.shelf) (disk b.shelf) (disk c.shelf) p.any_moment q.any_moment (λ files is. is) (λ files is. regained store.stands names (broker_of a) (broker_of b) files (formed_of a) p.grows is);
    stages = λ number. q.stages number ∙ p.stages number;
    known = λ number low. q.known number (omega (arith, low, longer)) ∙ p.known number low;
    faults = omega (arith, p.faults, q.faults);
  }

  pub works_both : (names : List (List ℕ)) (a b c : Topics T S store) → Works disk names a b → Works disk names b c → Works disk names a c
  works_both names a b c first second = (omega (arith, first.0, second.0), λ standing. let p = first.1 standing in worked_both names a b c first.0 p (second.1 p.standing))

  pub works_more : (few more : List (List ℕ)) (a b : Topics T S store) → ((name : List ℕ) → Contains few name → Contains more name) → Works disk few a b → Works disk more a b
  works_more few more a b within works = (works.0, λ standing. worked_more few more a b within (works.1 standing))

  pub fails_within : (names : List (List ℕ)) (a b c d : Topics T S store) → Works disk names a b → Works disk names b c → Works disk names c d → Fails disk b c → Fails disk a d
  fails_within names a b c d first second third failed = λ standing.
      let p = first.1 standing in
      let q = second.1 p.standing in
      let r = third.1 q.standing in
      omega (arith, p.faults, failed p.standing, r.faults)
