-- Reading line by line gives what reading the whole gives.
use Rattle.std.proofs.Common.{◌≡◌, ℕ, ◌+◌, Bool, true, cond, List, [], ◌∷◌, ◌++◌, Option, Some, None, Result, Ok, Err, refl, sym, ap, ◌∙◌, append_assoc, append-nil}
use Rattle.std.specs.Prelude.{option_map}
use Rattle.std.specs.Borrow.{Bor}
use Rattle.script.specs.declared.line.Line.{Line}
use Rattle.script.specs.Script.{is_line_feed}
use Rattle.script.specs.Reading.{lines_from, lines_after, onto_lines, line_of, pieces_of}
use Rattle.std.specs.List.{slice_split}

-- lines that were read, before those that are left

abbrev pub with_lines : List Line → Result (List Line) ℕ → Result (List Line) ℕ
with_lines front (Ok lines) = Ok (front ++ lines)
with_lines front (Err k) = Err k

pub with_lines-nil : (read : Result (List Line) ℕ) → with_lines [] read ≡ read
with_lines-nil (Ok lines) = refl
with_lines-nil (Err k) = refl

pub with_lines-push : (front : List Line) (line : Line) (read : Result (List Line) ℕ) → with_lines (front ++ line ∷ []) read ≡ with_lines front (onto_lines line read)
with_lines-push front line (Ok lines) = ap Ok (append_assoc front (line ∷ []) lines)
with_lines-push front line (Err k) = refl

-- a good line goes to those that were read
pub with_lines-more : (front : List Line) (number : ℕ) (text : List ℕ) (texts : List (List ℕ)) (line : Line) → line_of text ≡ Some line
    → with_lines (front ++ line ∷ []) (lines_from (number + 1) texts) ≡ with_lines front (lines_from number (text ∷ texts))
unfolding lines_from
with_lines-more front number text texts line e = with_lines-push front line _ ∙ ap (λ (o : Option Line). with_lines front (lines_after number o (lines_from (number + 1) texts))) (sym e)

-- a bad line is the first one
pub with_lines-bad : (front : List Line) (number : ℕ) (text : List ℕ) (texts : List (List ℕ)) → line_of text ≡ None
    → with_lines front (lines_from number (text ∷ texts)) ≡ Err number
unfolding lines_from
with_lines-bad front number text texts e = ap (λ (o : Option Line). with_lines front (lines_after number o (lines_from (number + 1) texts))) e

-- no line is left
pub with_lines-all : (front : List Line) (number : ℕ) → with_lines front (lines_from number []) ≡ Ok front
unfolding lines_from
with_lines-all front number = ap Ok (append-nil front)

-- the bytes that are left, by the first piece of them
abbrev pub now_of : Option (Bor (List ℕ)) → Option (List ℕ)
now_of left = option_map (λ rest. rest.now) left

module _ (front : List Line) (number : ℕ) (left rest : Option (Bor (List ℕ))) (bytes : Bor (List ℕ)) (text : List ℕ) (whole : Result (List Line) ℕ)
    (so_far : with_lines front (lines_from number (pieces_of (now_of left))) ≡ whole) (is : left ≡ Some bytes)
    (pieces : slice_split is_line_feed bytes.now ≡ text ∷ pieces_of (now_of rest)) where
  texts_left : pieces_of (now_of left) ≡ text ∷ pieces_of (now_of rest)
  texts_left = ap (λ (o : Option (Bor (List ℕ))). pieces_of (now_of o)) is ∙ pieces

  pub turn_bad : line_of text ≡ None → whole ≡ Err number
  turn_bad e = sym so_far ∙ ap (λ (texts : List (List ℕ)). with_lines front (lines_from number texts)) texts_left ∙ with_lines-bad front number text _ e

  pub turn_more : (line : Line) → line_of text ≡ Some line → with_lines (front ++ line ∷ []) (lines_from (number + 1) (pieces_of (now_of rest))) ≡ whole
  turn_more line e = with_lines-more front number text _ line e ∙ ap (λ (texts : List (List ℕ)). with_lines front (lines_from number texts)) (sym texts_left) ∙ so_far

-- nothing is left
pub turn_end : (front : List Line) (number : ℕ) (left : Option (Bor (List ℕ))) (whole : Result (List Line) ℕ) → with_lines front (lines_from number (pieces_of (now_of left))) ≡ whole
    → ((x : Bor (List ℕ)) → left ≡ Some x → ⊥) → whole ≡ Ok front
turn_end front number None whole so_far none = sym so_far ∙ with_lines-all front number
turn_end front number (Some x) whole so_far none = absurd (none x refl)

-- what a choice gives where its test holds
pub taken : {X : Type 0} (b : Bool) (x y z : X) → b ≡ true → x ≡ cond b y z → x ≡ y
taken b x y z e h = h ∙ ap (λ (c : Bool). cond c y z) e
