-- What stood in front still does where a later put is refused.
use Rattle.std.proofs.Common.{◌≡◌, ◌≤◌, ◌+◌, ℕ, List, ◌++◌, length, take, Result, refl, sym, ap, ◌∙◌, arith}
use Rattle.std.specs.Result.{OnErr}
use Rattle.std.proofs.lemmas.List.{take-take, take_at, length-append}
use Rattle.std.proofs.lemmas.Result.{on_err_weaker}

front : (old mid new more : List ℕ) → mid ≡ old ++ more → take (length mid) new ≡ mid → take (length old) new ≡ old
front old mid new more h k =
    let n : length mid ≡ length old + length more = ap length h ∙ length-append old more in
    let longer : length old ≤ length mid = omega arith in
    sym (take-take (length old) (length mid) new longer) ∙ ap (take (length old)) (k ∙ h) ∙ take_at old more (length old) refl

pub front_stays : {A E : Type 0} (r : Result A E) (old mid new more : List ℕ) → mid ≡ old ++ more →
    OnErr r (take (length mid) new ≡ mid) → OnErr r (take (length old) new ≡ old)
front_stays r old mid new more h k = on_err_weaker r (front old mid new more h) k
