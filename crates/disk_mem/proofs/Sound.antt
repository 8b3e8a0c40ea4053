-- A sound file stays one.
use Rattle.std.proofs.Common.{◌≡◌, ℕ, ◌+◌, ◌≤◌, ◌^◌, min, Bool, true, false, ◌||◌, List, [], ◌∷◌, ◌++◌, length, refl, sym, ◌∙◌, arith, length-take}
use Rattle.std.proofs.lemmas.List.{get_or-take}
use Rattle.std.proofs.lemmas.List.Folds.{list_any-append}
use Rattle.disk_mem.specs.declared.span.Span.{Span}
use Rattle.disk_mem.specs.FileState.{FileState, MayLeave, IsSound, IsFilled, is_within, is_written, after_write, after_cut, settled}
use Rattle.disk_mem.proofs.Overwritten.{overwritten-length, overwritten-outside}
use Rattle.disk_mem.proofs.Spans.{outside}

-- a place outside the ranges and one more is outside both
pub not_in_more : (k : ℕ) (spans : List Span) (span : Span) → is_written k (spans ++ span ∷ []) ≡ false → (is_written k spans ≡ false) × (is_within k span ≡ false)
not_in_more k spans span out = both (is_written k spans) (is_within k span) (sym (list_any-append (is_within k) spans (span ∷ [])) ∙ out)
  where
    both : (a b : Bool) → (a || (b || false)) ≡ false → (a ≡ false) × (b ≡ false)
    both true b is = absurd (cc)
    both false true is = absurd (cc)
    both false false is = (refl, refl)

pub sound_write : (offset : ℕ) (w : List ℕ) (file : FileState) → offset + length w ≤ 2 ^ 62 → IsSound file → IsSound (after_write offset w file)
sound_write offset w file fits sound =
    let at : ℕ = min offset (length file.bytes) in
    let place : at ≤ length file.bytes = omega arith in
    let size = overwritten-length at w file.bytes place in
    record {
      reads = record {
        at_least = omega (arith, size, sound.reads.at_least);
        at_most = omega (arith, size, sound.reads.at_most);
        kept = λ k lt out.
            let apart = not_in_more k file.written (record { start = at; end = at + length w }) out in
            overwritten-outside at w file.bytes place k (outside k (record { start = at; end = at + length w }) apart.1) ∙ sound.reads.kept k lt apart.0;
      };
      old_least = sound.old_least;
      old_most = omega (arith, sound.old_most);
      bounded = omega (arith, sound.bounded);
    }

pub sound_cut : (len : ℕ) (file : FileState) → IsSound file → IsSound (after_cut len file)
sound_cut len file sound = record {
  reads = record {
    at_least = omega (arith, length-take len file.bytes, sound.reads.at_least);
    at_most = omega (arith, length-take len file.bytes, sound.reads.at_most);
    kept = λ k lt out. get_or-take len file.bytes k 0 (omega (arith, lt)) ∙ sound.reads.kept k (omega (arith, lt)) out;
  };
  old_least = omega (arith, sound.old_least);
  old_most = sound.old_most;
  bounded = sound.bounded;
}

pub sound_settled : (bytes : List ℕ) → length bytes ≤ 2 ^ 62 → IsSound (settled bytes)
sound_settled bytes fits = record {
  reads = record { at_least = omega arith; at_most = omega arith; kept = λ k lt out. refl };
  old_least = omega arith;
  old_most = omega arith;
  bounded = fits;
}

-- a file whose bytes a crash left of it
pub sound_left : (file : FileState) (c : List ℕ) → IsSound file → MayLeave file c → IsSound (record file { bytes = c })
sound_left file c sound may = record {
  reads = record { at_least = may.at_least; at_most = may.at_most; kept = may.kept };
  old_least = sound.old_least;
  old_most = sound.old_most;
  bounded = sound.bounded;
}

pub filled_left : (byte : ℕ) (file : FileState) (c : List ℕ) → IsSound file → IsFilled byte file c → MayLeave file c
filled_left byte file c sound filled = record {
  at_least = omega (arith, filled.end, sound.old_least, sound.old_most);
  at_most = omega (arith, filled.end);
  kept = filled.rest;
}

pub synced_left : (file : FileState) → IsSound file → MayLeave file file.synced
synced_left file sound = record { at_least = sound.old_least; at_most = sound.old_most; kept = λ k lt out. refl }
