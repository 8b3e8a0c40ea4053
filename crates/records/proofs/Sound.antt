-- The map stays sound.
use Rattle.std.proofs.Common.{◌≡◌, ◌∙◌, ap, sym, refl, subst, ℕ, suc, Less, Equal, Greater, ◌+◌, ◌-◌, ◌≤◌, List, [], ◌∷◌, Bool, true, false, cond, ◌||◌, Some, None, Option, length, arith, Result, Ok, Err, OnOk, OnErr}
use Rattle.std.specs.Option.{is_some}
use Rattle.std.specs.Prelude.{map as each}
use Rattle.std.specs.List.{AllByRecursion, list_any}
use Rattle.std.specs.Ordering.{nat_cmp, eq_by_cmp, is_eq}
use Rattle.std.specs.Cmp.Lexicographic.{slice_cmp, nat_list_cmp_total}
use Rattle.std.specs.Cmp.{tied_itself}
use Rattle.std.specs.FinMap as map
use Rattle.cursor.specs.Positions.{Positions, below}
use Rattle.records.specs.declared.record.Record.{Record}
use Rattle.records.specs.declared.record.Record.TheVariants.{Made, Removed, Acknowledged, AcknowledgedThrough, AcknowledgedRange}
use Rattle.records.specs.declared.kept_cursor.KeptCursor.{KeptCursor}
use Rattle.records.specs.Names.{is_subscription_name}
use Rattle.records.specs.Maps.{Kept, IsSound}
use Rattle.records.specs.Records.{changed, changed_at, acknowledged, after, IsFormed}

pub sound_empty : IsSound map.empty
sound_empty = record {
  few = let e = map.len-empty (slice_cmp nat_cmp) Positions in omega (arith, e);
  named = λ q is. absurd (let e : is_some (map.get (map.empty {K = List ℕ} {X = Positions} {R = slice_cmp nat_cmp}) q) ≡ false = ap is_some (map.get-empty (slice_cmp nat_cmp) q) in cc);
}

pub same_name : (q name : List ℕ) → eq_by_cmp (slice_cmp nat_cmp) q name ≡ true → q ≡ name
same_name q name is = map.slice_cmp-IsAntisymmetric map.nat_cmp-IsAntisymmetric q name (equal _ is)
  where
    equal : (o : _) → is_eq o ≡ true → o ≡ Equal
    equal Less is' = absurd (Prim.cc)
    equal Equal is' = refl
    equal Greater is' = absurd (Prim.cc)

insert_named : (kept : Kept) (name : List ℕ) (acked : Positions) → is_subscription_name name ≡ true → ((q : List ℕ) → is_some (map.get kept q) ≡ true → is_subscription_name q ≡ true) → (q : List ℕ) → is_some (map.get (map.insert kept name acked) q) ≡ true → is_subscription_name q ≡ true
insert_named kept name acked good named q is = by_test (eq_by_cmp (slice_cmp nat_cmp) q name) refl (sym (ap is_some (map.get-insert nat_list_cmp_total kept name acked q)) ∙ is)
  where
    by_test : (b : Bool) → eq_by_cmp (slice_cmp nat_cmp) q name ≡ b → is_some (cond b (Some acked) (map.get kept q)) ≡ true → is_subscription_name q ≡ true
    by_test true same is' = ap is_subscription_name (same_name q name same) ∙ good
    by_test false same is' = named q is'

remove_named : (kept : Kept) (name : List ℕ) → ((q : List ℕ) → is_some (map.get kept q) ≡ true → is_subscription_name q ≡ true) → (q : List ℕ) → is_some (map.get (map.remove kept name) q) ≡ true → is_subscription_name q ≡ true
remove_named kept name named q is = by_test (eq_by_cmp (slice_cmp nat_cmp) q name) (sym (ap is_some (map.get-remove nat_list_cmp_total kept name q)) ∙ is)
  where
    by_test : (b : Bool) → is_some (cond b None (map.get kept q)) ≡ true → is_subscription_name q ≡ true
    by_test true is' = absurd (Prim.cc)
    by_test false is' = named q is'

insert_few : (kept : Kept) (name : List ℕ) (acked : Positions) (n : ℕ) → map.len kept + 1 ≤ n → map.len (map.insert kept name acked) ≤ n
insert_few kept name acked n low = by_test (map.contains_key kept name) (map.len-insert nat_list_cmp_total kept name acked)
  where
    by_test : (b : Bool) → map.len (map.insert kept name acked) ≡ cond b (map.len kept) (map.len kept + 1) → map.len (map.insert kept name acked) ≤ n
    by_test true e = omega (arith, e, low)
    by_test false e = omega (arith, e, low)

replace_few : (kept : Kept) (name : List ℕ) (acked old : Positions) (n : ℕ) → map.get kept name ≡ Some old → map.len kept ≤ n → map.len (map.insert kept name acked) ≤ n
replace_few kept name acked old n there low =
    let e : map.contains_key kept name ≡ true = ap is_some there in
    let l : map.len (map.insert kept name acked) ≡ map.len kept = map.len-insert nat_list_cmp_total kept name acked ∙ ap (λ (b : Bool). cond b (map.len kept) (map.len kept + 1)) e in
    omega (arith, l, low)

remove_few : (kept : Kept) (name : List ℕ) (n : ℕ) → map.len kept ≤ n → map.len (map.remove kept name) ≤ n
remove_few kept name n low = by_test (map.contains_key kept name) (map.len-remove nat_list_cmp_total kept name)
  where
    by_test : (b : Bool) → map.len (map.remove kept name) ≡ cond b (map.len kept - 1) (map.len kept) → map.len (map.remove kept name) ≤ n
    by_test true e = omega (arith, e, low)
    by_test false e = omega (arith, e, low)

changed_sound : (kept : Kept) (name : List ℕ) (change : Positions → Positions) → is_subscription_name name ≡ true → IsSound kept → IsSound (changed kept name change)
changed_sound kept name change good sound = by_found (map.get kept name) refl
  where
    by_found : (o : Option Positions) → map.get kept name ≡ o → IsSound (changed_at o kept name change)
    by_found None there = sound
    by_found (Some acked) there = record { few = replace_few kept name (change acked) acked 64 there sound.few; named = insert_named kept name (change acked) good sound.named }

pub sound_after : (n : ℕ) (kept : Kept) (r : Record) → IsFormed n kept r → IsSound kept → IsSound (after r kept)
sound_after n kept (Made name start) formed sound = record { few = insert_few kept name (below start) 64 (omega (arith, formed.placed.0.few)); named = insert_named kept name (below start) formed.name_is sound.named }
sound_after n kept (Removed name) formed sound = record { few = remove_few kept name 64 sound.few; named = remove_named kept name sound.named }
sound_after n kept (Acknowledged name position) formed sound = changed_sound kept name (acknowledged (Acknowledged name position)) formed.name_is sound
sound_after n kept (AcknowledgedThrough name position) formed sound = changed_sound kept name (acknowledged (AcknowledgedThrough name position)) formed.name_is sound
sound_after n kept (AcknowledgedRange name first last) formed sound = changed_sound kept name (acknowledged (AcknowledgedRange name first last)) formed.name_is sound

-- ---- each name among the entries

any_first : (a b : Bool) → a ≡ true → (a || b) ≡ true
any_first a b is = rw is refl

any_second : (a b : Bool) → b ≡ true → (a || b) ≡ true
any_second true b is = refl
any_second false b is = is

each_key : (P : List ℕ → Type 0) (keys : List (List ℕ)) → ((q : List ℕ) → list_any (eq_by_cmp (slice_cmp nat_cmp) q) keys ≡ true → P q) → AllByRecursion P keys
each_key P [] all = tt
each_key P (k ∷ keys) all = (all k (any_first _ _ (ap is_eq (tied_itself nat_list_cmp_total k))), each_key P keys (λ q is. all q (any_second (eq_by_cmp (slice_cmp nat_cmp) q k) _ is)))

named_keys : (kept : Kept) → IsSound kept → AllByRecursion (λ k. is_subscription_name k ≡ true) (map.keys kept)
named_keys kept sound = each_key _ (map.keys kept) (λ q is. sound.named q (map.contains_key-keys kept q ∙ is))

copied_names : (copies : List KeptCursor) (entries : List (List ℕ × Positions)) → each (λ (c : KeptCursor). (c.name, c.acked)) copies ≡ entries → AllByRecursion (λ k. is_subscription_name k ≡ true) (each (λ (e : List ℕ × Positions). e.0) entries)
    → AllByRecursion (λ (c : KeptCursor). is_subscription_name c.name ≡ true) copies
copied_names [] entries same all = tt
copied_names (c ∷ copies) [] same all = absurd (Prim.cc)
copied_names (c ∷ copies) (e ∷ entries) same all =
    let first : (c.name, c.acked) ≡ e = cc in
    let rest : each (λ (x : KeptCursor). (x.name, x.acked)) copies ≡ entries = cc in
    (ap (λ (p : List ℕ × Positions). is_subscription_name p.0) first ∙ all.0, copied_names copies entries rest all.1)

pub copies_named : (kept : Kept) (copies : List KeptCursor) → IsSound kept → each (λ (c : KeptCursor). (c.name, c.acked)) copies ≡ map.entries kept → AllByRecursion (λ (c : KeptCursor). is_subscription_name c.name ≡ true) copies
copies_named kept copies sound same = copied_names copies (map.entries kept) same (named_keys kept sound)

abbrev pair_of : KeptCursor → List ℕ × Positions
pair_of c = (c.name, c.acked)

length_copies : (copies : List KeptCursor) → length (each pair_of copies) ≡ length copies
length_copies [] = refl
length_copies (c ∷ copies) = ap suc (length_copies copies)

pub copies_few : (kept : Kept) (copies : List KeptCursor) → IsSound kept → each (λ (c : KeptCursor). (c.name, c.acked)) copies ≡ map.entries kept → length copies ≤ 64
copies_few kept copies sound same =
    let e : length (each pair_of copies) ≡ length (map.entries kept) = ap (λ (es : List (List ℕ × Positions)). length es) same in
    omega (arith, sound.few, map.len-entries kept, e, length_copies copies)

-- a call that changes nothing where it fails
pub either_sound : {E : Type 0} (r : Result (Unit {0}) E) (old new wanted : Kept) → OnOk r (new ≡ wanted) → OnErr r (new ≡ old) → IsSound wanted → IsSound old → IsSound new
either_sound (Ok u) old new wanted ok err good sound = subst (λ (k : Kept). IsSound k) (sym ok) good
either_sound (Err e) old new wanted ok err good sound = subst (λ (k : Kept). IsSound k) (sym err) sound
