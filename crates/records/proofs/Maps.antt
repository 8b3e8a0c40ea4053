-- A map that is kept as a tree's entries, by text.
use Rattle.std.proofs.Common.{◌≡◌, ◌∙◌, ap, sym, subst, refl, ◌&&◌, ℕ, suc, List, [], ◌∷◌, Bool, true, false, cond, T, Some, None, Option, length}
use Rattle.std.proofs.lemmas.Slice.Eq.{bytes_eq-Decides}
use Rattle.std.proofs.lemmas.Map.Text.{is_eq-slice_cmp, btree_map_updates_text}
use Rattle.std.proofs.lemmas.Bool.Decides.{same_from_decides, Decides-like}
use Rattle.std.specs.Prelude.{String}
use Rattle.std.specs.String.{string_bytes, string_cmp}
use Rattle.std.specs.List.{AllZip, AllByRecursion}
use Rattle.std.specs.List.Sorted.{IsStrictlySortedBy}
use Rattle.std.specs.Ordering.{nat_cmp, is_lt, eq_by_cmp}
use Rattle.std.specs.declared.cmp.Ordering.{Ordering}
use Rattle.std.specs.declared.cmp.Ordering.TheVariants.{Less}
use Rattle.std.specs.Cmp.Lexicographic.{slice_cmp, nat_list_cmp_total}
use Rattle.std.specs.Map.{update, lookup, keys_of}
use Rattle.std.specs.Str.{bytes_eq}
use Rattle.std.specs.BTreeMap.{BTreeMap, is_at, get_by_text, UpdatesBy}
use Rattle.std.specs.FinMap as map
use Rattle.std.specs.FinMap.{find, is_sorted}
use Rattle.std.specs.FinMap.Entries.{below_all}
use Rattle.cursor.specs.Positions.{Positions}
use Rattle.records.specs.Maps.{Kept, by_bytes, map_of}
use Rattle.records.specs.Records.{changed, changed_at}

-- maps that answer alike are equal
pub same_kept : (a b : Kept) → ((q : List ℕ) → map.get a q ≡ map.get b q) → a ≡ b
same_kept a b same = map.same_map nat_list_cmp_total (map.slice_cmp-IsAntisymmetric map.nat_cmp-IsAntisymmetric) a b same

flip : (a b : List ℕ) → bytes_eq a b ≡ bytes_eq b a
flip a b = same_from_decides (bytes_eq a b) (bytes_eq b a) (bytes_eq-Decides a b) (Decides-like (bytes_eq b a) sym sym (bytes_eq-Decides b a))

-- what is put back at its own name changes nothing
put_back : (f : List ℕ → Option Positions) (name q : List ℕ) (w : Option Positions) → w ≡ f name → update bytes_eq f name w q ≡ f q
put_back f name q w is = by_test (bytes_eq name q) refl
  where
    by_test : (b : Bool) → bytes_eq name q ≡ b → cond b w (f q) ≡ f q
    by_test true e = is ∙ ap f ((bytes_eq-Decides name q).0 e)
    by_test false e = refl

both_hold : (a b : Bool) → T a → T b → T (a && b)
both_hold true b p q = q
both_hold false b p q = p

module _ {X : Type 0} where
  find_text : (es : List (String X × Positions)) (q : List ℕ) → find (slice_cmp nat_cmp) q (by_bytes es) ≡ lookup (is_at (λ k. slice_cmp nat_cmp q (string_bytes k))) es
  find_text [] q = refl
  find_text (e ∷ es) q = ap (λ r. cond (eq_by_cmp (slice_cmp nat_cmp) q (string_bytes e.0)) (Some e.1) r) (find_text es q)

  -- the map gives what the tree gives at a text
  pub get_text : (es : List (String X × Positions)) (q : List ℕ) → map.get (map_of es) q ≡ lookup (is_at (λ k. slice_cmp nat_cmp q (string_bytes k))) es
  get_text es q = map.get-from_entries nat_list_cmp_total (by_bytes es) q ∙ find_text es q

  updated : (old new : BTreeMap (String X) Positions) (name : List ℕ) (w : Option Positions) → UpdatesBy string_cmp (λ k. slice_cmp nat_cmp name (string_bytes k)) old new w → (q : List ℕ)
      → map.get (map_of new.entries) q ≡ cond (eq_by_cmp (slice_cmp nat_cmp) q name) w (map.get (map_of old.entries) q)
  updated old new name w updates q =
      get_text new.entries q
      ∙ btree_map_updates_text name old new w updates q
      ∙ (λ i. cond (flip name q i) w (sym (get_text old.entries q) i))
      ∙ ap (λ b. cond b w (map.get (map_of old.entries) q)) (sym (is_eq-slice_cmp q name))

  -- the name has this set after the change
  pub inserted : (old new : BTreeMap (String X) Positions) (name : List ℕ) (acked : Positions) → UpdatesBy string_cmp (λ k. slice_cmp nat_cmp name (string_bytes k)) old new (Some acked)
      → map_of new.entries ≡ map.insert (map_of old.entries) name acked
  inserted old new name acked updates = same_kept _ _ (λ q. updated old new name (Some acked) updates q ∙ sym (map.get-insert nat_list_cmp_total (map_of old.entries) name acked q))

  -- the name is gone after it
  pub taken_out : (old new : BTreeMap (String X) Positions) (name : List ℕ) → UpdatesBy string_cmp (λ k. slice_cmp nat_cmp name (string_bytes k)) old new None
      → map_of new.entries ≡ map.remove (map_of old.entries) name
  taken_out old new name updates = same_kept _ _ (λ q. updated old new name None updates q ∙ sym (map.get-remove nat_list_cmp_total (map_of old.entries) name q))

  -- the set of a name that is there was put back
  pub put_back_at : (old new : BTreeMap (String X) Positions) (name : List ℕ) (acked : Positions) → UpdatesBy string_cmp (λ k. slice_cmp nat_cmp name (string_bytes k)) old new (Some acked) → Some acked ≡ get_by_text old name
      → map_of new.entries ≡ map_of old.entries
  put_back_at old new name acked updates is = same_kept _ _ (λ q. get_text new.entries q ∙ btree_map_updates_text name old new (Some acked) updates q ∙ put_back (get_by_text old) name q (Some acked) is ∙ sym (get_text old.entries q))

  -- what a change of a name that is there does
  pub changed_there : (es : List (String X × Positions)) (name : List ℕ) (acked : Positions) (change : Positions → Positions) → lookup (is_at (λ k. slice_cmp nat_cmp name (string_bytes k))) es ≡ Some acked
      → changed (map_of es) name change ≡ map.insert (map_of es) name (change acked)
  changed_there es name acked change is = ap (λ o. changed_at o (map_of es) name change) (get_text es name ∙ is)

  -- and of one that isn't
  pub changed_absent : (es : List (String X × Positions)) (name : List ℕ) (change : Positions → Positions) → lookup (is_at (λ k. slice_cmp nat_cmp name (string_bytes k))) es ≡ None
      → changed (map_of es) name change ≡ map_of es
  changed_absent es name change is = ap (λ o. changed_at o (map_of es) name change) (get_text es name ∙ is)

  -- ---- in the order of the names

  below_text : (k : String X) (es : List (String X × Positions)) → AllByRecursion (λ y. string_cmp k y ≡ Less) (keys_of es) → T (below_all (slice_cmp nat_cmp) (string_bytes k) (by_bytes es))
  below_text k [] all = tt
  below_text k (e ∷ es) all = both_hold _ _ (subst (λ (o : Ordering). T (is_lt o)) (sym all.0) tt) (below_text k es all.1)

  sorted_text : (es : List (String X × Positions)) → IsStrictlySortedBy string_cmp (keys_of es) → T (is_sorted (slice_cmp nat_cmp) (by_bytes es))
  unfolding IsStrictlySortedBy
  sorted_text [] all = tt
  sorted_text (e ∷ es) all = both_hold _ _ (below_text e.0 es all.0) (sorted_text es all.1)

  -- the entries of the map are the tree's
  pub entries_text : (es : List (String X × Positions)) → IsStrictlySortedBy string_cmp (keys_of es) → map.entries (map_of es) ≡ by_bytes es
  entries_text es ordered =
      let sorted = sorted_text es ordered in
      let same : map_of es ≡ map.from_sorted (by_bytes es) = same_kept _ _ (λ q. map.get-from_entries nat_list_cmp_total (by_bytes es) q ∙ sym (map.get-from_sorted (slice_cmp nat_cmp) (by_bytes es) q sorted)) in
      ap (λ m. map.entries m) same ∙ map.entries-from_sorted (slice_cmp nat_cmp) (by_bytes es) sorted

  length_bytes : (es : List (String X × Positions)) → length (by_bytes es) ≡ length es
  length_bytes [] = refl
  length_bytes (e ∷ es) = ap suc (length_bytes es)

  pub len_text : (es : List (String X × Positions)) → IsStrictlySortedBy string_cmp (keys_of es) → map.len (map_of es) ≡ length es
  len_text es ordered = map.len-entries (map_of es) ∙ ap length (entries_text es ordered) ∙ length_bytes es

  -- a clone has the same names and sets
  pub cloned_text : (es fs : List (String X × Positions)) → AllZip (λ (p q : String X × Positions). (string_bytes q.0 ≡ string_bytes p.0) × (q.1 ≡ p.1)) es fs → by_bytes fs ≡ by_bytes es
  cloned_text [] [] all = refl
  cloned_text [] (f ∷ fs) all = absurd all
  cloned_text (e ∷ es) [] all = absurd all
  cloned_text (e ∷ es) (f ∷ fs) all = λ i. (all.0.0 i, all.0.1 i) ∷ cloned_text es fs all.1 i
