-- How what is kept is made anew: subscription by subscription in the order of the names' bytes, and of each its ranges.
use Rattle.std.proofs.Common.{◌≡◌, ◌∙◌, ap, sym, refl, subst, ℕ, zero, suc, Less, Equal, Greater, ◌+◌, ◌<◌, ◌≤◌, List, [], ◌∷◌, ◌++◌, Bool, true, false, ◌||◌, ◌&&◌, cond, T, not, Some, None, Option, length, nat_lt, arith, append_assoc, append-nil, length-append}
use Rattle.std.specs.Option.{is_some}
use Rattle.std.specs.declared.cmp.Ordering.{Ordering}
use Rattle.std.specs.Ordering.{nat_cmp, eq_by_cmp, is_eq, is_lt}
use Rattle.std.specs.Cmp.{tied_itself, eq_by_cmp_equiv, nat_cmp_total}
use Rattle.std.specs.Cmp.Lexicographic.{slice_cmp, nat_list_cmp_total}
use Rattle.std.specs.FinMap as map
use Rattle.std.specs.FinMap.{find, is_sorted}
use Rattle.std.specs.FinMap.Entries.{below_all}
use Rattle.std.specs.FinSet as set
use Rattle.std.proofs.lemmas.Bool.Decides.{nat_tests}
use Rattle.cursor.specs.Positions.{Positions, below, between, IsFirstOpen, IsRun, has_union, has_below, has_between, same_positions}
use Rattle.records.specs.declared.record.Record.TheVariants.{Made, AcknowledgedRange}
use Rattle.records.specs.Names.{is_subscription_name}
use Rattle.records.specs.Maps.{Kept, IsSound}
use Rattle.records.specs.Records.{changed, changed_at, after, acknowledged, IsNew, IsFormed}
use Rattle.records.specs.Within.{AreBelow}

abbrev pub Subscription : Type 0
Subscription = List ℕ × Positions

-- the first ones are done, and these are left
pub record HasCome (kept sofar : Kept) (rest : List Subscription) : Type 0 where
  pub done : List Subscription
  pub split : done ++ rest ≡ map.entries kept
  pub sofar_is : sofar ≡ map.from_entries done

-- the positions of s below n
abbrev pub front : Positions → ℕ → Positions
front s n = set.intersection s (below n)

-- ---- one subscription after another

abbrev cmp : List ℕ → List ℕ → Ordering
cmp = slice_cmp nat_cmp

same_kept : (a b : Kept) → ((q : List ℕ) → map.get a q ≡ map.get b q) → a ≡ b
same_kept a b same = map.same_map nat_list_cmp_total (map.slice_cmp-IsAntisymmetric map.nat_cmp-IsAntisymmetric) a b same

first : (a b : Bool) → T (a && b) → T a
first true b p = tt
first false b p = p

second : (a b : Bool) → T (a && b) → T b
second true b p = p
second false b p = absurd p

less : (o : Ordering) → T (is_lt o) → is_eq o ≡ false
less Less p = refl
less Equal p = absurd p
less Greater p = absurd p

below_there : (d : List ℕ) (done : List Subscription) (e : Subscription) (rest : List Subscription) → T (below_all cmp d (done ++ e ∷ rest)) → T (is_lt (cmp d e.0))
below_there d [] e rest is = first _ _ is
below_there d (x ∷ done) e rest is = below_there d done e rest (second _ _ is)

none_found : (done : List Subscription) (e : Subscription) (rest : List Subscription) → T (is_sorted cmp (done ++ e ∷ rest)) → find cmp e.0 done ≡ None
none_found [] e rest sorted = refl
none_found (d ∷ done) e rest sorted =
    let apart : eq_by_cmp cmp e.0 d.0 ≡ false = (eq_by_cmp_equiv nat_list_cmp_total).symm e.0 d.0 ∙ less (cmp d.0 e.0) (below_there d.0 done e rest (first _ _ sorted)) in
    ap (λ (b : Bool). cond b (Some d.1) (find cmp e.0 done)) apart ∙ none_found done e rest (second _ _ sorted)

found_there : (done : List Subscription) (e : Subscription) (rest : List Subscription) → find cmp e.0 done ≡ None → find cmp e.0 (done ++ e ∷ rest) ≡ Some e.1
found_there [] e rest none = ap (λ (o : Ordering). cond (is_eq o) (Some e.1) (find cmp e.0 rest)) (tied_itself nat_list_cmp_total e.0)
found_there (d ∷ done) e rest none = by_test (eq_by_cmp cmp e.0 d.0) (λ is. found_there done e rest is) none
  where
    by_test : (b : Bool) → (find cmp e.0 done ≡ None → find cmp e.0 (done ++ e ∷ rest) ≡ Some e.1) → cond b (Some d.1) (find cmp e.0 done) ≡ None → cond b (Some d.1) (find cmp e.0 (done ++ e ∷ rest)) ≡ Some e.1
    by_test true further is = absurd (let x : Some d.1 ≡ None = is in cc)
    by_test false further is = further is

few_made : (done : List Subscription) → map.len (map.from_entries {R = cmp} done) ≤ length done
few_made [] = let e = map.len-empty cmp Positions in omega (arith, e)
few_made (d ∷ done) = by_test (map.contains_key (map.from_entries {R = cmp} done) d.0) (few_made done) (map.len-insert nat_list_cmp_total (map.from_entries {R = cmp} done) d.0 d.1)
  where
    by_test : (b : Bool) → map.len (map.from_entries {R = cmp} done) ≤ length done
        → map.len (map.insert (map.from_entries {R = cmp} done) d.0 d.1) ≡ cond b (map.len (map.from_entries {R = cmp} done)) (map.len (map.from_entries {R = cmp} done) + 1)
        → map.len (map.insert (map.from_entries {R = cmp} done) d.0 d.1) ≤ suc (length done)
    by_test true few e = omega (arith, e, few)
    by_test false few e = omega (arith, e, few)

none_yet : (kept sofar : Kept) (e : Subscription) (rest : List Subscription) → (come : HasCome kept sofar (e ∷ rest)) → find cmp e.0 come.done ≡ None
none_yet kept sofar e rest come = none_found come.done e rest (subst (λ (l : List Subscription). T (is_sorted cmp l)) (sym come.split) (map.entries_sorted kept))

-- before the first one
pub come_none : (kept : Kept) → HasCome kept map.empty (map.entries kept)
come_none kept = record { done = []; split = refl; sofar_is = refl }

-- one more
pub come_one : (kept sofar : Kept) (e : Subscription) (rest : List Subscription) → HasCome kept sofar (e ∷ rest) → HasCome kept (map.insert sofar e.0 e.1) rest
come_one kept sofar e rest come = record {
  done = come.done ++ e ∷ [];
  split = append_assoc come.done (e ∷ []) rest ∙ come.split;
  sofar_is = ap (λ (k : Kept). map.insert k e.0 e.1) come.sofar_is
      ∙ sym (map.from_entries_push nat_list_cmp_total (map.slice_cmp-IsAntisymmetric map.nat_cmp-IsAntisymmetric) come.done e.0 e.1 (none_yet kept sofar e rest come));
}

-- all are done
pub come_all : (kept sofar : Kept) → HasCome kept sofar [] → sofar ≡ kept
come_all kept sofar come =
    let all : come.done ≡ map.entries kept = sym (append-nil come.done) ∙ come.split in
    come.sofar_is ∙ ap (λ (l : List Subscription). map.from_entries l) all
    ∙ same_kept _ _ (λ q. map.get-from_entries nat_list_cmp_total (map.entries kept) q ∙ sym (map.get-entries kept q))

-- the next one is kept, and it isn't made yet
pub come_there : (kept sofar : Kept) (e : Subscription) (rest : List Subscription) → HasCome kept sofar (e ∷ rest) → map.get kept e.0 ≡ Some e.1
come_there kept sofar e rest come =
    map.get-entries kept e.0 ∙ ap (λ (l : List Subscription). find cmp e.0 l) (sym come.split) ∙ found_there come.done e rest (none_yet kept sofar e rest come)

pub come_named : (kept sofar : Kept) (e : Subscription) (rest : List Subscription) → IsSound kept → HasCome kept sofar (e ∷ rest) → is_subscription_name e.0 ≡ true
come_named kept sofar e rest sound come = sound.named e.0 (ap is_some (come_there kept sofar e rest come))

pub come_new : (kept sofar : Kept) (e : Subscription) (rest : List Subscription) → IsSound kept → HasCome kept sofar (e ∷ rest) → IsNew sofar e.0
come_new kept sofar e rest sound come = record {
  not_there = ap (λ (k : Kept). map.get k e.0) come.sofar_is ∙ map.get-from_entries nat_list_cmp_total come.done e.0 ∙ none_yet kept sofar e rest come;
  few =
      let all : length come.done + suc (length rest) ≡ map.len kept = sym (length-append come.done (e ∷ rest)) ∙ ap length come.split ∙ sym (map.len-entries kept) in
      omega (arith, all, sound.few, few_made come.done, ap (λ (k : Kept). map.len k) come.sofar_is);
}

-- ---- one range after another

has_front : (s : Positions) (n q : ℕ) → set.contains (front s n) q ≡ (set.contains s q && nat_lt q n)
has_front s n q = set.contains-intersection nat_cmp_total s (below n) q ∙ ap (λ (b : Bool). set.contains s q && b) (has_below n q)

-- all below the mark-delete position
pub front_mark : (s : Positions) (mark : ℕ) → IsFirstOpen s 0 mark → front s mark ≡ below mark
front_mark s mark is = same_positions _ _ (λ q. has_front s mark q ∙ by_test q (nat_lt q mark) refl ∙ sym (has_below mark q))
  where
    by_test : (q : ℕ) (b : Bool) → nat_lt q mark ≡ b → (set.contains s q && b) ≡ b
    by_test q true e = ap (λ (c : Bool). c && true) (is.least q (omega arith) (grind (arith, nat_tests)))
    by_test q false e = and_false (set.contains s q)
      where
        and_false : (c : Bool) → (c && false) ≡ false
        and_false true = refl
        and_false false = refl

tests : (has : Bool) (q next first last : ℕ) → next ≤ first → first ≤ last → (next ≤ q → q < first → has ≡ false) → (first ≤ q → q ≤ last → has ≡ true)
    → (has && nat_lt q (last + 1)) ≡ ((has && nat_lt q next) || (nat_lt q (last + 1) && not (nat_lt q first)))
tests true q next first last low rises before inside = grind (arith, nat_tests)
tests false q next first last low rises before inside = grind (arith, nat_tests)

-- a run more
pub front_run : (s : Positions) (next first last : ℕ) → IsRun s next first last → front s (last + 1) ≡ set.union (front s next) (between first (last + 1))
front_run s next first last run = same_positions _ _ (λ q.
    has_front s (last + 1) q
    ∙ tests (set.contains s q) q next first last run.from_here run.rises (run.before q) (run.inside q)
    ∙ sym (has_union (front s next) (between first (last + 1)) q ∙ (λ i. has_front s next q i || has_between first (last + 1) q i)))

-- no run is left
pub front_all : (s : Positions) (next : ℕ) → ((i : ℕ) → next ≤ i → set.contains s i ≡ false) → front s next ≡ s
front_all s next none = same_positions _ _ (λ q. has_front s next q ∙ by_test q (set.contains s q) (nat_lt q next) refl refl)
  where
    by_test : (q : ℕ) (has b : Bool) → set.contains s q ≡ has → nat_lt q next ≡ b → (has && b) ≡ has
    by_test q true true e f = refl
    by_test q true false e f = absurd (let n = none q (grind (arith, nat_tests)) in cc)
    by_test q false b e f = refl

-- ---- the records

mark_low : (entries : ℕ) (s : Positions) (mark : ℕ) → IsFirstOpen s 0 mark → AreBelow entries s → mark ≤ entries
mark_low entries s zero is low = omega arith
mark_low entries s (suc m) is low = omega (arith, low m (is.least m (omega arith) (omega arith)))

pub made_formed : (entries : ℕ) (sofar : Kept) (name : List ℕ) (s : Positions) (mark : ℕ) → is_subscription_name name ≡ true → IsNew sofar name → IsFirstOpen s 0 mark → AreBelow entries s → IsFormed entries sofar (Made name mark)
made_formed entries sofar name s mark named new is low = record { name_is = named; placed = (new, mark_low entries s mark is low) }

pub made_after : (sofar : Kept) (name : List ℕ) (s : Positions) (mark : ℕ) → IsFirstOpen s 0 mark → after (Made name mark) sofar ≡ map.insert sofar name (front s mark)
made_after sofar name s mark is = ap (λ (t : Positions). map.insert sofar name t) (sym (front_mark s mark is))

twice : (b : Bool) (x y z : Option Positions) → cond b x (cond b y z) ≡ cond b x z
twice true x y z = refl
twice false x y z = refl

insert_insert : (kept : Kept) (name : List ℕ) (s t : Positions) → map.insert (map.insert kept name s) name t ≡ map.insert kept name t
insert_insert kept name s t =
    same_kept _ _ (λ q.
    map.get-insert nat_list_cmp_total (map.insert kept name s) name t q
    ∙ ap (λ r. cond (eq_by_cmp cmp q name) (Some t) r) (map.get-insert nat_list_cmp_total kept name s q)
    ∙ twice (eq_by_cmp cmp q name) (Some t) (Some s) (map.get kept q)
    ∙ sym (map.get-insert nat_list_cmp_total kept name t q))

get_inserted : (kept : Kept) (name : List ℕ) (s : Positions) → map.get (map.insert kept name s) name ≡ Some s
get_inserted kept name s =
    map.get-insert nat_list_cmp_total kept name s name
    ∙ ap (λ r. cond (is_eq r) (Some s) (map.get kept name)) (tied_itself nat_list_cmp_total name)

changed_inserted : (kept : Kept) (name : List ℕ) (s : Positions) (change : Positions → Positions) → changed (map.insert kept name s) name change ≡ map.insert kept name (change s)
changed_inserted kept name s change = ap (λ o. changed_at o (map.insert kept name s) name change) (get_inserted kept name s) ∙ insert_insert kept name s (change s)

pub range_formed : (entries : ℕ) (sofar : Kept) (name : List ℕ) (s t : Positions) (next first last : ℕ) → is_subscription_name name ≡ true → IsRun s next first last → AreBelow entries s → IsFormed entries (map.insert sofar name t) (AcknowledgedRange name first last)
range_formed entries sofar name s t next first last named run low = record {
  name_is = named;
  placed = (ap is_some (get_inserted sofar name t), run.rises, low last (run.inside last run.rises (omega arith)));
}

pub range_after : (sofar : Kept) (name : List ℕ) (s : Positions) (next first last : ℕ) → IsRun s next first last → after (AcknowledgedRange name first last) (map.insert sofar name (front s next)) ≡ map.insert sofar name (front s (last + 1))
range_after sofar name s next first last run =
    changed_inserted sofar name (front s next) (acknowledged (AcknowledgedRange name first last)) ∙ ap (λ (t : Positions). map.insert sofar name t) (sym (front_run s next first last run))
