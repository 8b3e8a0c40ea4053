-- The names that are there, as the map changes.
use Rattle.std.proofs.Common.{◌≡◌, ◌∙◌, ap, sym, refl, subst, ℕ, zero, suc, ◌+◌, ◌-◌, ◌≤◌, ◌<◌, List, [], ◌∷◌, ◌++◌, ◌↔◌, Bool, true, false, cond, T, ◌||◌, ◌&&◌, Less, Equal, Greater, Some, None, Option, length, take, get_or, Bor, bytes_eq, MatchOption, MatchBool, length-append, arith}
use Rattle.std.proofs.lemmas.List.Folds.{list_any-append}
use Rattle.std.proofs.lemmas.Map.Text.{is_eq-slice_cmp}
use Rattle.std.proofs.lemmas.Slice.Eq.{bytes_eq-Decides}
use Rattle.std.specs.Option.{is_some}
use Rattle.std.specs.Prelude.{map as each}
use Rattle.std.specs.List.{slice_get, remove}
use Rattle.std.specs.declared.cmp.Ordering.{Ordering}
use Rattle.std.specs.Ordering.{nat_cmp, eq_by_cmp, is_eq, is_lt}
use Rattle.std.specs.Cmp.Lexicographic.{slice_cmp, nat_list_cmp_total}
use Rattle.std.specs.Cmp.{tied_itself, eq_by_cmp_equiv}
use Rattle.std.specs.FinMap as map
use Rattle.std.specs.FinMap.{is_sorted}
use Rattle.std.specs.FinMap.Entries.{below_all}
use Rattle.cursor.specs.Positions.{Positions}
use Rattle.records.specs.declared.record.Record.{Record}
use Rattle.records.specs.Names.{is_subscription_name}
use Rattle.records.specs.Maps.{Kept, IsSound}
use Rattle.records.specs.Records.{changed, changed_at, name_of, after, IsNew, IsThere, IsPlaced, IsFormed, AreFormed}
use Rattle.records.specs.Present.{is_among, AreApart, AreNamesOf}
use Rattle.records.proofs.Sound.{same_name}

abbrev same : List ℕ → List ℕ → Bool
same a b = eq_by_cmp (slice_cmp nat_cmp) a b

itself : (a : List ℕ) → same a a ≡ true
itself a = ap is_eq (tied_itself nat_list_cmp_total a)

flip : (a b : List ℕ) → same a b ≡ same b a
flip a b = (eq_by_cmp_equiv nat_list_cmp_total).symm a b

first : (a b : Bool) → T (a && b) → T a
first true b p = tt
first false b p = p

second : (a b : Bool) → T (a && b) → T b
second true b p = p
second false b p = absurd p

less : (o : Ordering) → T (is_lt o) → is_eq o ≡ false
less Less p = refl
less Equal p = absurd p
less Greater p = absurd p

left_false : (a b : Bool) → (a || b) ≡ false → a ≡ false
left_false true b e = e
left_false false b e = refl

right_false : (a b : Bool) → (a || b) ≡ false → b ≡ false
right_false true b e = absurd (Prim.cc)
right_false false b e = e

both_false : (a b : Bool) → a ≡ false → b ≡ false → (a || b) ≡ false
both_false a b x y = ap (λ (z : Bool). z || b) x ∙ y

-- ---- the names at the start

module _ where
  not_below : (k : List ℕ) (es : List (List ℕ × Positions)) → T (below_all (slice_cmp nat_cmp) k es) → is_among k (each (λ (e : List ℕ × Positions). e.0) es) ≡ false
  not_below k [] h = refl
  not_below k (e ∷ es) h = both_false (same k e.0) _ (less (slice_cmp nat_cmp k e.0) (first _ _ h)) (not_below k es (second _ _ h))

  sorted_apart : (es : List (List ℕ × Positions)) → T (is_sorted (slice_cmp nat_cmp) es) → AreApart (each (λ (e : List ℕ × Positions). e.0) es)
  sorted_apart [] h = tt
  sorted_apart (e ∷ es) h = (not_below e.0 es (first _ _ h), sorted_apart es (second _ _ h))

  length_names : (es : List (List ℕ × Positions)) → length (each (λ (e : List ℕ × Positions). e.0) es) ≡ length es
  length_names [] = refl
  length_names (e ∷ es) = ap suc (length_names es)

  pub names_of : (kept : Kept) → AreNamesOf kept (map.keys kept)
  names_of kept = record {
    there = λ q. map.contains_key-keys kept q;
    count = map.len-entries kept ∙ sym (length_names (map.entries kept));
    apart = sorted_apart (map.entries kept) (map.entries_sorted kept);
  }

-- ---- a name more

apart_more : (names : List (List ℕ)) (n : List ℕ) → AreApart names → is_among n names ≡ false → AreApart (names ++ n ∷ [])
apart_more [] n apart new = (refl, tt)
apart_more (m ∷ ms) n apart new = (
  list_any-append (same m) ms (n ∷ []) ∙ both_false (is_among m ms) _ apart.0 (both_false (same m n) false (flip m n ∙ left_false (same n m) _ new) refl),
  apart_more ms n apart.1 (right_false (same n m) _ new),
)

length_more : {X : Type 0} (xs : List X) (x : X) → length (xs ++ x ∷ []) ≡ length xs + 1
length_more [] x = refl
length_more (y ∷ ys) x = let e = length_more ys x in omega (arith, e)

either : (a b : Bool) (acked : Positions) (o : Option Positions) → is_some o ≡ a → is_some (cond b (Some acked) o) ≡ (a || (b || false))
either true true acked o e = refl
either true false acked o e = e
either false true acked o e = refl
either false false acked o e = e

pub name_made : (kept : Kept) (names : List (List ℕ)) (n : List ℕ) (acked : Positions) → AreNamesOf kept names → is_among n names ≡ false → AreNamesOf (map.insert kept n acked) (names ++ n ∷ [])
name_made kept names n acked are new = record {
  there = λ q. ap is_some (map.get-insert nat_list_cmp_total kept n acked q) ∙ either (is_among q names) (same q n) acked (map.get kept q) (are.there q) ∙ sym (list_any-append (same q) names (n ∷ []));
  count =
      let l : map.len (map.insert kept n acked) ≡ map.len kept + 1 = map.len-insert nat_list_cmp_total kept n acked ∙ ap (λ (b : Bool). cond b (map.len kept) (map.len kept + 1)) (are.there n ∙ new) in
      let c = are.count in
      let m = length_more names n in
      omega (arith, l, c, m);
  apart = apart_more names n are.apart new;
}

-- ---- a name less

among_at : (names : List (List ℕ)) (i : ℕ) (n : List ℕ) → slice_get names i ≡ Some n → is_among n names ≡ true
among_at [] i n is = absurd (Prim.cc)
among_at (m ∷ ms) zero n is = let e : m ≡ n = cc in ap (λ (x : List ℕ). same n x || is_among n ms) e ∙ ap (λ (b : Bool). b || is_among n ms) (itself n)
among_at (m ∷ ms) (suc i) n is = any_second (same n m) _ (among_at ms i n is)
  where
    any_second : (a b : Bool) → b ≡ true → (a || b) ≡ true
    any_second true b e = refl
    any_second false b e = e

without : List (List ℕ) → ℕ → List (List ℕ)
without [] i = []
without (m ∷ ms) zero = ms
without (m ∷ ms) (suc i) = m ∷ without ms i

removed_is : (names : List (List ℕ)) (i : ℕ) → remove names i ≡ without names i
unfolding without
removed_is [] zero = refl
removed_is [] (suc i) = refl
removed_is (m ∷ ms) zero = refl
removed_is (m ∷ ms) (suc i) = ap (λ (l : List (List ℕ)). m ∷ l) (removed_is ms i)

length_without : (names : List (List ℕ)) (i : ℕ) (n : List ℕ) → slice_get names i ≡ Some n → length (without names i) + 1 ≡ length names
unfolding without
length_without [] i n is = absurd (Prim.cc)
length_without (m ∷ ms) zero n is = omega arith
length_without (m ∷ ms) (suc i) n is = let e = length_without ms i n is in omega (arith, e)

fewer : (names : List (List ℕ)) (i : ℕ) (q : List ℕ) → is_among q names ≡ false → is_among q (without names i) ≡ false
unfolding without
fewer [] i q e = e
fewer (m ∷ ms) zero q e = right_false (same q m) _ e
fewer (m ∷ ms) (suc i) q e = both_false (same q m) _ (left_false (same q m) _ e) (fewer ms i q (right_false (same q m) _ e))

apart_without : (names : List (List ℕ)) (i : ℕ) → AreApart names → AreApart (without names i)
unfolding without
apart_without [] i apart = apart
apart_without (m ∷ ms) zero apart = apart.1
apart_without (m ∷ ms) (suc i) apart = (fewer ms i m apart.0, apart_without ms i apart.1)

-- what is the same as a name that stands behind isn't the first
not_first : (q m n : List ℕ) (ms : List (List ℕ)) → is_among m ms ≡ false → is_among n ms ≡ true → same q n ≡ true → same q m ≡ false
not_first q m n ms apart there is = by_test (same q m) refl
  where
    by_test : (b : Bool) → same q m ≡ b → b ≡ false
    by_test true e =
        let q_is = same_name q n is in
        let m_is = same_name q m e in
        absurd (let both : is_among m ms ≡ true = ap (λ (x : List ℕ). is_among x ms) (sym m_is ∙ q_is) ∙ there in cc)
    by_test false e = refl

among_without : (names : List (List ℕ)) (i : ℕ) (n q : List ℕ) → AreApart names → slice_get names i ≡ Some n → is_among q (without names i) ≡ cond (same q n) false (is_among q names)
unfolding without
among_without [] i n q apart is = absurd (Prim.cc)
among_without (m ∷ ms) zero n q apart is = let e : m ≡ n = cc in subst (λ (x : List ℕ). is_among q ms ≡ cond (same q x) false (same q m || is_among q ms)) e (by_test (same q m) refl)
  where
    by_test : (b : Bool) → same q m ≡ b → is_among q ms ≡ cond b false (b || is_among q ms)
    by_test true e = ap (λ (x : List ℕ). is_among x ms) (same_name q m e) ∙ apart.0
    by_test false e = refl
among_without (m ∷ ms) (suc i) n q apart is = ap (λ (b : Bool). same q m || b) (among_without ms i n q apart.1 is) ∙ by_test (same q n) refl
  where
    by_test : (b : Bool) → same q n ≡ b → (same q m || cond b false (is_among q ms)) ≡ cond b false (same q m || is_among q ms)
    by_test true e = both_false (same q m) false (not_first q m n ms apart.0 (among_at ms i n is) e) refl
    by_test false e = refl

neither : (b : Bool) (o : Option Positions) (c : Bool) → is_some o ≡ c → is_some (cond b None o) ≡ cond b false c
neither true o c e = refl
neither false o c e = e

pub name_removed : (kept : Kept) (names : List (List ℕ)) (i : ℕ) (n : List ℕ) → AreNamesOf kept names → slice_get names i ≡ Some n → AreNamesOf (map.remove kept n) (remove names i)
name_removed kept names i n are is = subst (λ (l : List (List ℕ)). AreNamesOf (map.remove kept n) l) (sym (removed_is names i)) (record {
  there = λ q. ap is_some (map.get-remove nat_list_cmp_total kept n q) ∙ neither (same q n) (map.get kept q) (is_among q names) (are.there q) ∙ sym (among_without names i n q are.apart is);
  count =
      let l : map.len (map.remove kept n) ≡ map.len kept - 1 = map.len-remove nat_list_cmp_total kept n ∙ ap (λ (b : Bool). cond b (map.len kept - 1) (map.len kept)) (are.there n ∙ among_at names i n is) in
      let c = are.count in
      let m = length_without names i n is in
      omega (arith, l, c, m);
  apart = apart_without names i are.apart;
})

-- ---- the same names

pub names_stay : (kept : Kept) (names : List (List ℕ)) (n : List ℕ) (change : Positions → Positions) → AreNamesOf kept names → AreNamesOf (changed kept n change) names
names_stay kept names n change are = by_found (map.get kept n) refl
  where
    put_back : (acked : Positions) → map.get kept n ≡ Some acked → (q : List ℕ) → map.contains_key (map.insert kept n (change acked)) q ≡ is_among q names
    put_back acked found q = ap is_some (map.get-insert nat_list_cmp_total kept n (change acked) q) ∙ by_test (same q n) refl
      where
        by_test : (b : Bool) → same q n ≡ b → is_some (cond b (Some (change acked)) (map.get kept q)) ≡ is_among q names
        by_test true e = sym (ap is_some (ap (λ (x : List ℕ). map.get kept x) (same_name q n e) ∙ found)) ∙ are.there q
        by_test false e = are.there q

    by_found : (o : Option Positions) → map.get kept n ≡ o → AreNamesOf (changed_at o kept n change) names
    by_found None found = are
    by_found (Some acked) found = record {
      there = put_back acked found;
      count =
          let l : map.len (map.insert kept n (change acked)) ≡ map.len kept = map.len-insert nat_list_cmp_total kept n (change acked) ∙ ap (λ (b : Bool). cond b (map.len kept) (map.len kept + 1)) (ap is_some found) in
          l ∙ are.count;
      apart = are.apart;
    }

-- ---- the place of a name

abbrev pub Text : Type 0
Text = Bor (List ℕ)

abbrev pub blank : Text
blank = record { ref_ptr = (0, 0); now = [] }

abbrev pub texts_of : List Text → List (List ℕ)
texts_of names = each (λ (name : Text). name.now) names

pub found_text : (names : List Text) (i : ℕ) (name : List ℕ) → i < length names → bytes_eq (get_or names i blank).now name ≡ true → slice_get (texts_of names) i ≡ Some name
found_text [] i name low is = absurd (omega (arith, low))
found_text (k ∷ ks) zero name low is = ap (λ (x : List ℕ). Some x) ((bytes_eq-Decides k.now name).0 is)
found_text (k ∷ ks) (suc i) name low is = found_text ks i name (omega (arith, low)) is

none_more : (names : List Text) (i : ℕ) (name : List ℕ) → i < length names → bytes_eq (get_or names i blank).now name ≡ false → is_among name (take i (texts_of names)) ≡ false → is_among name (take (suc i) (texts_of names)) ≡ false
none_more [] i name low is none = absurd (omega (arith, low))
none_more (k ∷ ks) zero name low is none = both_false (same name k.now) false (flip name k.now ∙ is_eq-slice_cmp k.now name ∙ is) refl
none_more (k ∷ ks) (suc i) name low is none = both_false (same name k.now) _ (left_false (same name k.now) _ none) (none_more ks i name (omega (arith, low)) is (right_false (same name k.now) _ none))

pub none_further : (names : List Text) (i : ℕ) (name : List ℕ) → i < length names → bytes_eq (get_or names i blank).now name ≡ false → is_among name (take i (texts_of names)) ≡ false → is_among name (take (i + 1) (texts_of names)) ≡ false
none_further names i name low is none = let e : suc i ≡ i + 1 = omega arith in subst (λ (n : ℕ). is_among name (take n (texts_of names)) ≡ false) e (none_more names i name low is none)

abbrev pub IsPlaceOf : List ℕ → List (List ℕ) → Option ℕ → Type 0
IsPlaceOf name names found = MatchOption found (is_among name names ≡ false) (λ place. slice_get names place ≡ Some name)

pub found_among : (name : List ℕ) (names : List (List ℕ)) (found : Option ℕ) → IsPlaceOf name names found → is_some found ≡ is_among name names
found_among name names None none = sym none
found_among name names (Some place) is = sym (among_at names place name is)

absent : (o : Option Positions) → is_some o ≡ false → o ≡ None
absent None e = refl
absent (Some acked) e = absurd (Prim.cc)

pub not_new : (kept : Kept) (name : List ℕ) (names : List (List ℕ)) (found : Option ℕ) → AreNamesOf kept names → IsPlaceOf name names found → is_some found ≡ true → ¬ IsNew kept name
not_new kept name names found are place there is_new =
    let e : map.contains_key kept name ≡ true = are.there name ∙ sym (found_among name names found place) ∙ there in
    let n : map.contains_key kept name ≡ false = ap is_some is_new.not_there in
    absurd (let b : true ≡ false = sym e ∙ n in cc)

pub is_new : (kept : Kept) (name : List ℕ) (names : List (List ℕ)) (found : Option ℕ) → AreNamesOf kept names → IsPlaceOf name names found → is_some found ≡ false → length names < 64 → IsNew kept name
is_new kept name names found are place there low = record {
  not_there = absent (map.get kept name) (are.there name ∙ sym (found_among name names found place) ∙ there);
  few = let c = are.count in omega (arith, c, low);
}

pub is_made : (kept : Kept) (name : List ℕ) (names : List (List ℕ)) (found : Option ℕ) (acked : Positions) → AreNamesOf kept names → IsPlaceOf name names found → is_some found ≡ false → AreNamesOf (map.insert kept name acked) (names ++ name ∷ [])
is_made kept name names found acked are place there = name_made kept names name acked are (sym (found_among name names found place) ∙ there)

texts_without : (names : List Text) (i : ℕ) → texts_of (remove names i) ≡ remove (texts_of names) i
texts_without [] zero = refl
texts_without [] (suc i) = refl
texts_without (k ∷ ks) zero = refl
texts_without (k ∷ ks) (suc i) = ap (λ (l : List (List ℕ)). k.now ∷ l) (texts_without ks i)

pub is_removed : (kept : Kept) (names new : List Text) (i : ℕ) (name : List ℕ) → AreNamesOf kept (texts_of names) → slice_get (texts_of names) i ≡ Some name → new ≡ remove names i → (map.contains_key kept name ≡ true) × AreNamesOf (map.remove kept name) (texts_of new)
is_removed kept names new i name are is same_new = (
  are.there name ∙ among_at (texts_of names) i name is,
  subst (λ (l : List (List ℕ)). AreNamesOf (map.remove kept name) l) (sym (ap texts_of same_new ∙ texts_without names i)) (name_removed kept (texts_of names) i name are is),
)

-- ---- a record that acknowledges

pub passed : (entries : ℕ) (kept : Kept) (r : Record) (names : List (List ℕ)) (there : Bool) → is_subscription_name (name_of r) ≡ true → there ≡ map.contains_key kept (name_of r)
    → (IsThere kept (name_of r) → IsPlaced entries kept r) → (IsPlaced entries kept r → IsThere kept (name_of r)) → AreNamesOf (after r kept) names
    → MatchBool there (IsFormed entries kept r × AreNamesOf (after r kept) names) (¬ IsFormed entries kept r)
passed entries kept r names true good is placed back are = (record { name_is = good; placed = placed (sym is) }, are)
passed entries kept r names false good is placed back are = λ formed. absurd (let e : false ≡ true = is ∙ back formed.placed in cc)

-- ---- all of the names

keys_first : (es : List (List ℕ × Positions)) (names rest : List (List ℕ)) (name : List ℕ) (n : ℕ) → names ++ name ∷ rest ≡ each (λ (e : List ℕ × Positions). e.0) es → length es ≤ n → length names < n
keys_first es names rest name n is low =
    let a = length-append names (name ∷ rest) in
    let b = ap length is in
    let c = length_names es in
    omega (arith, a, b, c, low)

pub room_for_name : (kept : Kept) (es : List (List ℕ × Positions)) (names rest : List (List ℕ)) (name : List ℕ) → IsSound kept → map.entries kept ≡ es → names ++ name ∷ rest ≡ each (λ (e : List ℕ × Positions). e.0) es → length names < 64
room_for_name kept es names rest name sound is all =
    keys_first es names rest name 64 all (let e = map.len-entries kept ∙ ap length is in let f = sound.few in omega (arith, e, f))

pub all_names : (kept : Kept) (es : List (List ℕ × Positions)) (names : List (List ℕ)) → map.entries kept ≡ es → names ≡ each (λ (e : List ℕ × Positions). e.0) es → AreNamesOf kept names
all_names kept es names is all =
    subst (λ (l : List (List ℕ)). AreNamesOf kept l) (sym (all ∙ ap (λ (l : List (List ℕ × Positions)). each (λ (e : List ℕ × Positions). e.0) l) (sym is))) (names_of kept)

pub length_texts : (names : List Text) → length (texts_of names) ≡ length names
length_texts [] = refl
length_texts (k ∷ ks) = ap suc (length_texts ks)

-- ---- one record after the other

pub formed_behind : (entries : ℕ) (now : Kept) (change : Record) (changes rest : List Record) (P : Type 0) → changes ≡ change ∷ rest → IsFormed entries now change → (AreFormed entries now changes ↔ P) → (AreFormed entries (after change now) rest ↔ P)
formed_behind entries now change changes rest P same_list formed iff = (
  λ behind. iff.0 (subst (λ (l : List Record). AreFormed entries now l) (sym same_list) (formed, behind)),
  λ p. (subst (λ (l : List Record). AreFormed entries now l) same_list (iff.1 p)).1,
)

pub not_formed : (entries : ℕ) (now : Kept) (change : Record) (changes rest : List Record) (P : Type 0) → changes ≡ change ∷ rest → ¬ IsFormed entries now change → (AreFormed entries now changes ↔ P) → ¬ P
not_formed entries now change changes rest P same_list bad iff = λ p. bad (subst (λ (l : List Record). AreFormed entries now l) same_list (iff.1 p)).0
