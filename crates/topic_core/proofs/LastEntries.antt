-- The entries of a ledger that stand in memory.
use Rattle.std.proofs.Common.{◌≡◌, ℕ, suc, ◌+◌, ◌-◌, ◌<◌, ◌≤◌, List, [], ◌∷◌, ◌++◌, length, drop, Some, refl, sym, ap, subst, ◌∙◌, arith, append-nil, append_assoc, length-append}
use Rattle.std.specs.Prelude.{slice_get}
use Rattle.std.specs.List.{All}
use Rattle.std.proofs.Math.Seq.{drop-append_seam}
use Rattle.std.proofs.lemmas.List.Elements.{All-append, All-drop, All-nil}
use Rattle.std.proofs.lemmas.List.{drop-append-le, length-drop}
use Rattle.managed_ledger.specs.Entries.{Ledger, end_of, entry_at, lengthened, trimmed}
use Rattle.managed_ledger.specs.Trims.{there_is}
use Rattle.topic_core.specs.Recent.{AreLast, IsRest}

abbrev IsSmall : List ℕ → Type 0
IsSmall entry = length entry ≤ 1048576

get_behind : {A : Type 0} (xs ys : List A) (n : ℕ) → slice_get (xs ++ ys) (length xs + n) ≡ slice_get ys n
get_behind [] ys n = ap (λ (k : ℕ). slice_get ys k) (omega arith)
get_behind (x ∷ xs) ys n =
    let more : length (x ∷ xs) + n ≡ suc (length xs + n) = omega arith in
    ap (λ (k : ℕ). slice_get (x ∷ (xs ++ ys)) k) more ∙ get_behind xs ys n

-- none stands in memory
pub none_last : (ledger : Ledger) → AreLast ledger []
none_last ledger = record { older = ledger.entries; ends = sym (append-nil ledger.entries); each_small = All-nil IsSmall }

-- a trim that left as many at least
pub trimmed_last : (ledger : Ledger) (trim : ℕ) (recent : List (List ℕ)) → AreLast ledger recent → length recent ≤ length (trimmed trim ledger).entries → AreLast (trimmed trim ledger) recent
trimmed_last ledger trim [] are few = none_last (trimmed trim ledger)
trimmed_last ledger trim (x ∷ xs) are few =
    let k = trim - ledger.base in
    let size : length ledger.entries ≡ length are.older + length (x ∷ xs) = ap (λ (es : List (List ℕ)). length es) are.ends ∙ length-append are.older (x ∷ xs) in
    let low : k ≤ length are.older = omega (arith, size, few, length-drop k ledger.entries) in
    record { older = drop k are.older; ends = ap (λ (es : List (List ℕ)). drop k es) are.ends ∙ drop-append-le k are.older (x ∷ xs) low; each_small = are.each_small }

-- nothing is gone, or one more
pub all_rest : (entries : List (List ℕ)) → IsRest entries entries
all_rest entries = record { gone = []; is = refl }

pub one_gone : (old now new : List (List ℕ)) (first : List ℕ) → IsRest old now → now ≡ first ∷ new → IsRest old new
one_gone old now new first rest is = record { gone = rest.gone ++ first ∷ []; is = rest.is ∙ ap (λ (xs : List (List ℕ)). rest.gone ++ xs) is ∙ sym (append_assoc rest.gone (first ∷ []) new) }

module _ (ledger : Ledger) (recent : List (List ℕ)) (are : AreLast ledger recent) where
  -- a flush commits these
  pub more_last : (new : Ledger) (more : List (List ℕ)) → new ≡ lengthened ledger more → All IsSmall more → AreLast new (recent ++ more)
  more_last new more is small = record {
    older = are.older;
    ends = ap (λ (l : Ledger). l.entries) is ∙ ap (λ (xs : List (List ℕ)). xs ++ more) are.ends ∙ append_assoc are.older recent more;
    each_small = All-append IsSmall recent more are.each_small small;
  }

  -- the first ones are forgotten
  pub rest_last : (rest : List (List ℕ)) → IsRest recent rest → AreLast ledger rest
  rest_last rest is = record {
    older = are.older ++ is.gone;
    ends = are.ends ∙ ap (λ (xs : List (List ℕ)). are.older ++ xs) is.is ∙ sym (append_assoc are.older is.gone rest);
    each_small = subst (λ (xs : List (List ℕ)). All IsSmall xs) (ap (λ (xs : List (List ℕ)). drop (length is.gone) xs) is.is ∙ drop-append_seam is.gone rest) (All-drop IsSmall (length is.gone) recent are.each_small);
  }

  -- an entry in memory stands at its position
  pub found_last : (committed position : ℕ) (entry : List ℕ) → end_of ledger ≡ committed → position < committed → committed - position ≤ length recent
      → slice_get recent (length recent - (committed - position)) ≡ Some entry → entry_at ledger position ≡ Some entry
  found_last committed position entry counted within low found =
      let size : length ledger.entries ≡ length are.older + length recent = ap (λ (xs : List (List ℕ)). length xs) are.ends ∙ length-append are.older recent in
      let at : position - ledger.base ≡ length are.older + (length recent - (committed - position)) = omega (arith, counted, within, low, size) in
      there_is ledger position (omega (arith, counted, within, low, size))
      ∙ ap (λ (j : ℕ). slice_get ledger.entries j) at
      ∙ ap (λ (xs : List (List ℕ)). slice_get xs (length are.older + (length recent - (committed - position)))) are.ends
      ∙ get_behind are.older recent (length recent - (committed - position))
      ∙ found
