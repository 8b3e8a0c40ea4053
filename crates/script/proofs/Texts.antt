-- What follows a front, and what stands around a byte.
use Rattle.std.proofs.Common.{◌≡◌, ◌≢◌, ℕ, ◌+◌, ◌<◌, Bool, true, false, cond, eqb, List, [], ◌∷◌, ◌++◌, length, get_or, take, drop, length-drop, length-append, take-append-drop, add-one, Option, Some, None, refl, sym, ap, ◌∙◌, arith}
use Rattle.std.specs.Prelude.{◌==◌, nat_lt, option_map, MatchOption}
use Rattle.std.specs.Borrow.{Bor}
use Rattle.std.specs.List.{slice_split, position_or_len, before_first, after_first}
use Rattle.std.proofs.lemmas.Bool.{eqb-true, eq-eqb, ne_eqb, lt-ltb, ltb-true, ltb-false}
use Rattle.std.proofs.lemmas.Option.{cond_some}
use Rattle.std.proofs.lemmas.List.Sums.{fails_before_first, passes_at_first, position_or_len_is}
use Rattle.std.proofs.Math.Seq.{drop-cons, take-append_seam, drop-append-add, get_or-append_seam}
use Rattle.std.proofs.Math.ListN.{get_or-append}
use Rattle.std.proofs.lemmas.List.Splits.{slice_split_first, slice_split_none}
use Rattle.script.specs.Script.{is_line_feed}
use Rattle.script.specs.Reading.{after, around}

pub after-append : (front rest : List ℕ) → after front (front ++ rest) ≡ Some rest
unfolding after
after-append [] rest = refl
after-append (c ∷ front) rest = rw (eq-eqb c c refl) (after-append front rest)

-- what a test and a value show
guard_some : {X : Type 0} (b : Bool) (o : Option X) (x : X) → cond b o None ≡ Some x → (b ≡ true) × (o ≡ Some x)
guard_some true o x h = (refl, h)
guard_some false o x h = cc h

guard_none : {X : Type 0} (b : Bool) (x : X) → cond b (Some x) None ≡ None → b ≡ false
guard_none true x h = cc h
guard_none false x h = refl

pub after-some : (front text rest : List ℕ) → after front text ≡ Some rest → text ≡ front ++ rest
unfolding after
after-some [] text rest h = ap (λ o. elim o as (λ _. List ℕ) [ Some x ↦ x | None ↦ text ]) h
after-some (c ∷ front) [] rest h = cc h
after-some (c ∷ front) (d ∷ text) rest h =
    let g = guard_some (eqb d c) (after front text) rest h in
    rw (eqb-true d c g.0, after-some front text rest g.1) refl

after-none_of : (front text : List ℕ) (o : Option (List ℕ)) → after front text ≡ o → ((rest : List ℕ) → text ≢ front ++ rest) → after front text ≡ None
after-none_of front text None e none = e
after-none_of front text (Some rest) e none = absurd (none rest (after-some front text rest e))

pub after-none : (front text : List ℕ) → ((rest : List ℕ) → text ≢ front ++ rest) → after front text ≡ None
after-none front text none = after-none_of front text (after front text) refl none

-- what the crate's own call answers, from what std's says of it
pub after-strip : (front text : List ℕ) (r : Option (Bor (List ℕ))) → MatchOption r ((rest : List ℕ) → text ≢ front ++ rest) (λ x. text ≡ front ++ x.now) → option_map (λ x. x.now) r ≡ after front text
after-strip front text None h = sym (after-none front text h)
after-strip front text (Some x) h = rw h (sym (after-append front x.now))

-- the pieces between line feeds, by the first of them
pub pieces-some : (bytes : List ℕ) (parts : List ℕ × List ℕ) → around 10 bytes ≡ Some parts → (slice_split is_line_feed bytes ≡ parts.0 ∷ slice_split is_line_feed parts.1) × (length parts.1 < length bytes)
unfolding around
pieces-some bytes parts h =
    let g = cond_some (nat_lt (position_or_len is_line_feed bytes) (length bytes)) (before_first is_line_feed bytes, after_first is_line_feed bytes) parts h in
    let within = ltb-true (position_or_len is_line_feed bytes) (length bytes) g.0 in
    rw (← g.1) (
      slice_split_first is_line_feed bytes 0 within,
      omega (arith, length-drop (position_or_len is_line_feed bytes + 1) bytes),
    )

pub pieces-none : (bytes : List ℕ) → around 10 bytes ≡ None → slice_split is_line_feed bytes ≡ bytes ∷ []
unfolding around
pieces-none bytes h =
    let g = guard_none (nat_lt (position_or_len is_line_feed bytes) (length bytes)) (before_first is_line_feed bytes, after_first is_line_feed bytes) h in
    let past = ltb-false (position_or_len is_line_feed bytes) (length bytes) g in
    slice_split_none is_line_feed bytes (λ k d lt. fails_before_first is_line_feed bytes k d (omega arith))

before_and_after : (byte : ℕ) (bytes : List ℕ) → position_or_len (λ other. other == byte) bytes < length bytes
    → bytes ≡ before_first (λ other. other == byte) bytes ++ byte ∷ after_first (λ other. other == byte) bytes
before_and_after byte bytes within =
    let at = position_or_len (λ other. other == byte) bytes in
    let found = eqb-true (get_or bytes at 0) byte (passes_at_first (λ other. other == byte) bytes 0 within) in
    let cut : drop at bytes ≡ byte ∷ drop (at + 1) bytes = drop-cons bytes at 0 within ∙ rw (found, add-one) refl in
    sym (take-append-drop at bytes) ∙ ap (λ (rest : List ℕ). take at bytes ++ rest) cut

-- what stands around a byte, and the byte, are the whole
pub around-some : (byte : ℕ) (bytes : List ℕ) (parts : List ℕ × List ℕ) → around byte bytes ≡ Some parts → bytes ≡ parts.0 ++ byte ∷ parts.1
unfolding around
around-some byte bytes parts h =
    let g = cond_some (nat_lt (position_or_len (λ other. other == byte) bytes) (length bytes)) (before_first (λ other. other == byte) bytes, after_first (λ other. other == byte) bytes) parts h in
    let within = ltb-true (position_or_len (λ other. other == byte) bytes) (length bytes) g.0 in
    rw (← g.1) (before_and_after byte bytes within)

-- a byte that no byte before it equals is the first one
pub around-first : (byte : ℕ) (front rest : List ℕ) → ((i : ℕ) → i < length front → get_or front i 0 ≢ byte) → around byte (front ++ byte ∷ rest) ≡ Some (front, rest)
unfolding around
around-first byte front rest none =
    let all = front ++ byte ∷ rest in
    let long = length-append front (byte ∷ rest) in
    let place : position_or_len (λ other. other == byte) all ≡ length front =
    position_or_len_is (λ other. other == byte) all (length front) 0 (omega arith)
    (λ k lt. ne_eqb (get_or all k 0) byte (λ e. none k lt (sym (get_or-append front (byte ∷ rest) 0 k lt) ∙ e)))
    (λ _. eq-eqb (get_or all (length front) 0) byte (get_or-append_seam front byte rest 0)) in
    let within : nat_lt (length front) (length all) ≡ true = lt-ltb (length front) (length all) (omega arith) in
    rw (place, within, take-append_seam front (byte ∷ rest), drop-append-add front (byte ∷ rest) 1) refl
