-- What a crash may leave of a file after a call, it may have left before it, torn by the call.
use Rattle.std.proofs.Common.{◌≡◌, inl, inr, ⊎_elim, ℕ, ◌+◌, ◌-◌, ◌<◌, ◌≤◌, min, Bool, true, false, ◌||◌, List, [], ◌∷◌, ◌++◌, length, take, drop, get_or, refl, sym, ◌∙◌, ap, arith, length-take, length-drop}
use Rattle.std.proofs.lemmas.List.{get_or-take, get_or-drop, ext_get_or, take_all, drop_all}
use Rattle.std.proofs.lemmas.List.Folds.{list_any-append}
use Rattle.std.proofs.lemmas.Bool.{cases_lt}
use Rattle.std.proofs.lemmas.Bool.Decides.{nat_tests}
use Rattle.disk.specs.Disk.{Torn, TornCut}
use Rattle.disk_mem.specs.declared.span.Span.{Span}
use Rattle.disk_mem.specs.FileState.{FileState, MayLeave, IsSound, is_within, is_written, overwritten, after_write, after_cut, settled}
use Rattle.disk_mem.proofs.Overwritten.{overwritten-length, overwritten-outside, overwritten-inside, take_same, drop_same}

-- a place outside one range and outside the others is outside all
also_outside : (k : ℕ) (spans : List Span) (span : Span) → is_written k spans ≡ false → is_within k span ≡ false → is_written k (spans ++ span ∷ []) ≡ false
also_outside k spans span out apart = list_any-append (is_within k) spans (span ∷ []) ∙ both (is_written k spans) (is_within k span) out apart
  where
    both : (a b : Bool) → a ≡ false → b ≡ false → (a || (b || false)) ≡ false
    both true b is apart = absurd (cc)
    both false true is apart = absurd (cc)
    both false false is apart = refl

before_span : (k : ℕ) (span : Span) → k < span.start → is_within k span ≡ false
before_span k span lt = grind (arith, nat_tests)

behind_span : (k : ℕ) (span : Span) → span.end ≤ k → is_within k span ≡ false
behind_span k span le = grind (arith, nat_tests)

module _ (offset : ℕ) (w : List ℕ) (file : FileState) (sound : IsSound file) (c : List ℕ) (may : MayLeave (after_write offset w file) c) where
  abbrev at : ℕ
  at = min offset (length file.bytes)

  abbrev end : ℕ
  end = at + length w

  abbrev span : Span
  span = record { start = at; end = end }

  -- it is no longer than the file may have been
  abbrev base : List ℕ
  base = take file.greatest c

  base_size : length base ≡ min file.greatest (length c)
  base_size = length-take file.greatest c

  base_is : (k : ℕ) → k < file.greatest → get_or base k 0 ≡ get_or c k 0
  base_is k lt = get_or-take file.greatest c k 0 lt

  -- the write begins where all may be anything
  past : file.least ≤ at → (d : List ℕ) × MayLeave file d × Torn offset (length w) d c
  past le = (
    base,
    record {
      at_least = omega (arith, base_size, may.at_least, sound.old_least, sound.old_most);
      at_most = omega (arith, base_size);
      kept = λ k lt out. base_is k (omega (arith, lt, sound.old_least, sound.old_most)) ∙ may.kept k lt (also_outside k file.written span out (before_span k span (omega (arith, lt, le))));
    },
    record {
      before = take_same (min offset (length base)) c base (omega (arith, base_size)) (omega arith) (λ k lt. sym (base_is k (omega (arith, lt, base_size))));
      after = ⊎_elim (λ short. drop_all (offset + length w) c (omega (arith, short, may.at_most)) ∙ sym (drop_all (offset + length w) base (omega (arith, short, may.at_most, base_size))))
          (λ long. ap (λ (l : List ℕ). drop (offset + length w) l) (sym (take_all file.greatest c long))) (cases_lt file.greatest (length c));
      no_shorter = omega (arith, base_size);
      no_longer = omega (arith, base_size, may.at_most);
    },
  )

  -- the write begins within what stays, so there the old bytes may have stood
  abbrev patch : List ℕ
  patch = take (min end file.least - at) (drop at file.synced)

  abbrev patched : List ℕ
  patched = overwritten at patch base

  within : at < file.least → (d : List ℕ) × MayLeave file d × Torn offset (length w) d c
  within lt =
      let patch_size : length patch ≡ min end file.least - at = omega (arith, length-take (min end file.least - at) (drop at file.synced), length-drop at file.synced, sound.old_least) in
      let place : at ≤ length base = omega (arith, lt, base_size, may.at_least, sound.old_least, sound.old_most) in
      let size : length patched ≡ length base = omega (arith, overwritten-length at patch base place, patch_size, lt, base_size, may.at_least, sound.old_least, sound.old_most) in
      let begins : at ≡ offset = omega (arith, lt, sound.reads.at_least) in (
        patched,
        record {
          at_least = omega (arith, size, base_size, may.at_least, sound.old_least, sound.old_most);
          at_most = omega (arith, size, base_size);
          kept = λ k under out. ⊎_elim
              (λ low. overwritten-outside at patch base place k (inl low) ∙ base_is k (omega (arith, under, sound.old_least, sound.old_most)) ∙ may.kept k under (also_outside k file.written span out (before_span k span low)))
              (λ high. ⊎_elim
              (λ inner. overwritten-inside at patch base place k high (omega (arith, inner, under, patch_size))
              ∙ get_or-take (min end file.least - at) (drop at file.synced) (k - at) 0 (omega (arith, inner, under, high))
              ∙ get_or-drop at file.synced (k - at) 0
              ∙ ap (λ (j : ℕ). get_or file.synced j 0) (omega (arith, high)))
              (λ outer. overwritten-outside at patch base place k (inr (omega (arith, outer, patch_size))) ∙ base_is k (omega (arith, under, sound.old_least, sound.old_most)) ∙ may.kept k under (also_outside k file.written span out (behind_span k span outer)))
              (cases_lt k end))
              (cases_lt k at);
        },
        record {
          before = take_same (min offset (length patched)) c patched (omega (arith, size, base_size)) (omega arith)
              (λ k under. sym (overwritten-outside at patch base place k (inl (omega (arith, under, begins))) ∙ base_is k (omega (arith, under, begins, lt, sound.old_least, sound.old_most))));
          after = ⊎_elim
              (λ short. drop_all (offset + length w) c (omega (arith, short, may.at_most, begins)) ∙ sym (drop_all (offset + length w) patched (omega (arith, short, may.at_most, size, base_size, begins))))
              (λ long. drop_same (offset + length w) c patched (omega (arith, size, base_size, long))
              (λ k past. ap (λ (l : List ℕ). get_or l k 0) (sym (take_all file.greatest c long)) ∙ sym (overwritten-outside at patch base place k (inr (omega (arith, past, begins, patch_size)))))) (cases_lt file.greatest (length c));
          no_shorter = omega (arith, size, base_size);
          no_longer = omega (arith, size, base_size, may.at_most, begins);
        },
      )

  pub left_write : (d : List ℕ) × MayLeave file d × Torn offset (length w) d c
  left_write = ⊎_elim within past (cases_lt at file.least)

module _ (len : ℕ) (file : FileState) (sound : IsSound file) (c : List ℕ) (may : MayLeave (after_cut len file) c) where
  short_cut : length c < len → (d : List ℕ) × MayLeave file d × TornCut len d c
  short_cut lt = (
    c,
    record {
      at_least = omega (arith, lt, may.at_least);
      at_most = may.at_most;
      kept = λ k under out. may.kept k (omega (arith, under, lt, may.at_least)) out;
    },
    record { before = refl; no_shorter = omega arith; no_longer = omega arith },
  )

  -- behind the cut the old bytes may have stood
  abbrev tail : List ℕ
  tail = take (file.least - len) (drop len file.synced)

  long_cut : len ≤ length c → (d : List ℕ) × MayLeave file d × TornCut len d c
  long_cut place =
      let tail_size : length tail ≡ file.least - len = omega (arith, length-take (file.least - len) (drop len file.synced), length-drop len file.synced, sound.old_least) in
      let size = overwritten-length len tail c place in (
        overwritten len tail c,
        record {
          at_least = omega (arith, size, tail_size);
          at_most = omega (arith, size, tail_size, place, may.at_most, sound.old_least, sound.old_most);
          kept = λ k under out. ⊎_elim
              (λ low. overwritten-outside len tail c place k (inl low) ∙ may.kept k (omega (arith, low, under)) out)
              (λ high. overwritten-inside len tail c place k high (omega (arith, under, tail_size))
              ∙ get_or-take (file.least - len) (drop len file.synced) (k - len) 0 (omega (arith, under, high))
              ∙ get_or-drop len file.synced (k - len) 0
              ∙ ap (λ (j : ℕ). get_or file.synced j 0) (omega (arith, high)))
              (cases_lt k len);
        },
        record {
          before = take_same (min len (length (overwritten len tail c))) c (overwritten len tail c) (omega (arith, place)) (omega arith)
              (λ k under. sym (overwritten-outside len tail c place k (inl (omega (arith, under)))));
          no_shorter = omega (arith, place);
          no_longer = omega (arith, size);
        },
      )

  pub left_cut : (d : List ℕ) × MayLeave file d × TornCut len d c
  left_cut = ⊎_elim short_cut long_cut (cases_lt (length c) len)

-- of a settled file a crash leaves its bytes
pub left_settled : (bytes c : List ℕ) → MayLeave (settled bytes) c → c ≡ bytes
left_settled bytes c may = ext_get_or 0 c bytes (omega (arith, may.at_least, may.at_most)) (λ k lt. may.kept k (omega (arith, lt, may.at_most)) refl)
