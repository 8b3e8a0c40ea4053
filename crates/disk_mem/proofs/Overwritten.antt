-- What stands where after bytes were put at their place.
use Rattle.std.proofs.Common.{◌≡◌, ◌⊎◌, ⊎_elim, ℕ, ◌+◌, ◌-◌, ◌<◌, ◌≤◌, max, List, ◌++◌, length, take, drop, get_or, sym, ◌∙◌, ap, arith, length-append, length-take, length-drop}
use Rattle.std.proofs.lemmas.List.{get_or_append_left, get_or-append_right, get_or-take, get_or-drop, ext_get_or}
use Rattle.disk_mem.specs.FileState.{overwritten}

module _ (at : ℕ) (w d : List ℕ) (place : at ≤ length d) where
  front : length (take at d ++ w) ≡ at + length w
  front = omega (arith, length-append (take at d) w, length-take at d)

  pub overwritten-length : length (overwritten at w d) ≡ max (length d) (at + length w)
  overwritten-length = omega (arith, front, length-append (take at d ++ w) (drop (at + length w) d), length-drop (at + length w) d)

  before : (k : ℕ) → k < at → get_or (overwritten at w d) k 0 ≡ get_or d k 0
  before k lt =
      get_or_append_left (take at d ++ w) (drop (at + length w) d) 0 k (omega (arith, front))
      ∙ get_or_append_left (take at d) w 0 k (omega (arith, length-take at d))
      ∙ get_or-take at d k 0 lt

  behind : (k : ℕ) → at + length w ≤ k → get_or (overwritten at w d) k 0 ≡ get_or d k 0
  behind k le =
      get_or-append_right (take at d ++ w) (drop (at + length w) d) (at + length w) k 0 front le
      ∙ get_or-drop (at + length w) d (k - (at + length w)) 0
      ∙ ap (λ (j : ℕ). get_or d j 0) (omega (arith, le))

  pub overwritten-outside : (k : ℕ) → (k < at) ⊎ (at + length w ≤ k) → get_or (overwritten at w d) k 0 ≡ get_or d k 0
  overwritten-outside k where_ = ⊎_elim (before k) (behind k) where_

-- inside stand the bytes that were put there
pub overwritten-inside : (at : ℕ) (w d : List ℕ) → at ≤ length d → (k : ℕ) → at ≤ k → k < at + length w → get_or (overwritten at w d) k 0 ≡ get_or w (k - at) 0
overwritten-inside at w d place k le lt =
    get_or_append_left (take at d ++ w) (drop (at + length w) d) 0 k (omega (arith, front at w d place))
    ∙ get_or-append_right (take at d) w at k 0 (omega (arith, length-take at d)) le

-- two lists that agree up to a place, or from it on
pub take_same : (n : ℕ) (c d : List ℕ) → n ≤ length c → n ≤ length d → ((k : ℕ) → k < n → get_or c k 0 ≡ get_or d k 0) → take n c ≡ take n d
take_same n c d fits_c fits_d agree = ext_get_or 0 (take n c) (take n d) (omega (arith, length-take n c, length-take n d))
    (λ k lt. let under : k < n = omega (arith, lt, length-take n c) in get_or-take n c k 0 under ∙ agree k under ∙ sym (get_or-take n d k 0 under))

pub drop_same : (n : ℕ) (c d : List ℕ) → length c ≡ length d → ((k : ℕ) → n ≤ k → get_or c k 0 ≡ get_or d k 0) → drop n c ≡ drop n d
drop_same n c d size agree = ext_get_or 0 (drop n c) (drop n d) (omega (arith, size, length-drop n c, length-drop n d))
    (λ k lt. get_or-drop n c k 0 ∙ agree (n + k) (omega arith) ∙ sym (get_or-drop n d k 0))
