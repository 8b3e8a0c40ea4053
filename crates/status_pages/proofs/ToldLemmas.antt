-- What was told, one more at a time.
use Rattle.std.proofs.Common.{◌≡◌, ◌∙◌, take, ℕ, suc, ◌+◌, false, List, [], ◌∷◌, ◌++◌, length, Option, Some, refl, sym, ap, subst, append-nil, length-append, arith}
use Rattle.std.proofs.lemmas.Grind.{common_steps, flat_map-append}
use Rattle.std.specs.List.{All, flat_map}
use Rattle.std.specs.Io.KnownBytes.{Appends}
use Rattle.status_pages.proofs.Written.{appends_both}
use Rattle.status_pages.specs.Told.{AreTold, IsPicture}
use Rattle.status_pages.specs.Pages.{part_text, asks_for_subscriptions, InTurn}
use Rattle.status_pages.specs.declared.board.TopicReport.{TopicReport}
use Rattle.status_pages.specs.declared.parts.Part.{Part}
use Rattle.status_pages.specs.declared.picture.Picture.{Picture}
use Rattle.subscriptions.specs.declared.summary.SubscriptionSummary.{SubscriptionSummary}

-- one more of the next place
pub told_more : {A : Type 0} (told : ℕ → A → Type 0) (n m : ℕ) (xs : List A) (x : A) → AreTold told n xs → m ≡ n + length xs → told m x → AreTold told n (xs ++ x ∷ [])
told_more told n m [] x before e here =
    let at : m ≡ n = omega arith in
    (subst (λ k. told k x) at here, tt)
told_more told n m (y ∷ ys) x before e here =
    (before.0, told_more told (suc n) m ys x before.1 (omega arith) here)

-- what a part says of so many topics is written
pub record Printed (topic_told : ℕ → Option TopicReport → Type 0) (subscription_told : ℕ → ℕ → Option SubscriptionSummary → Type 0) (part : Part) (count : ℕ) (old new : Option (List ℕ)) : Type 0 where
  pub pictures : List Picture
  pub counted : length pictures ≡ count
  pub told_each : AreTold (IsPicture topic_told subscription_told (asks_for_subscriptions part)) 0 pictures
  pub written : Appends old new (flat_map (part_text part) pictures)

-- one more text
pub appends_more : {X : Type 0} (f : X → List ℕ) (old mid new : Option (List ℕ)) (xs : List X) (x : X) → Appends old mid (flat_map f xs) → Appends mid new (f x) → Appends old new (flat_map f (xs ++ x ∷ []))
appends_more f old mid new xs x first second =
    let P : List ℕ → Type 0 = λ (text : List ℕ). Appends old new text in
    subst P (sym (flat_map-append f xs (x ∷ []) ∙ ap (λ (rest : List ℕ). flat_map f xs ++ rest) (append-nil (f x)))) (appends_both old mid new (flat_map f xs) (f x) first second)

-- and what it says of the next topic
pub printed_more : (topic_told : ℕ → Option TopicReport → Type 0) (subscription_told : ℕ → ℕ → Option SubscriptionSummary → Type 0) (part : Part) (count : ℕ) (old mid new : Option (List ℕ)) (picture : Picture)
    → Printed topic_told subscription_told part count old mid → IsPicture topic_told subscription_told (asks_for_subscriptions part) count picture → Appends mid new (part_text part picture)
    → Printed topic_told subscription_told part (count + 1) old new
printed_more topic_told subscription_told part count old mid new picture before told more = record {
  pictures = before.pictures ++ picture ∷ [];
  counted = length-append before.pictures (picture ∷ []) ∙ ap (λ (n : ℕ). n + 1) before.counted;
  told_each = told_more (IsPicture topic_told subscription_told (asks_for_subscriptions part)) 0 count before.pictures picture before.told_each (omega arith) told;
  written = appends_more (part_text part) old mid new before.pictures picture before.written more;
}

-- so many topics work
pub record Working (topic_told : ℕ → Option TopicReport → Type 0) (count : ℕ) : Type 0 where
  pub topics : List TopicReport
  pub counted : length topics ≡ count
  pub told_each : AreTold (λ n t. topic_told n (Some t)) 0 topics
  pub work : All (λ (t : TopicReport). t.summary.is_failed ≡ false) topics

-- and the next one
pub working_more : (topic_told : ℕ → Option TopicReport → Type 0) (count : ℕ) (topic : TopicReport) → Working topic_told count → topic_told count (Some topic) → topic.summary.is_failed ≡ false → Working topic_told (count + 1)
working_more topic_told count topic before told works = record {
  topics = before.topics ++ topic ∷ [];
  counted = length-append before.topics (topic ∷ []) ∙ ap (λ (n : ℕ). n + 1) before.counted;
  told_each = told_more (λ n t. topic_told n (Some t)) 0 count before.topics topic before.told_each (omega arith) told;
  work = grind (arith, common_steps);
}

-- one step more
pub turn_more : {P A : Type 0} (step : P → A → A → Type 0) (ps : List P) (p : P) (old mid new : A) → InTurn step ps old mid → step p mid new → InTurn step (ps ++ p ∷ []) old new
turn_more {A = A} step [] p old mid new before more =
    let P : A → Type 0 = λ (a : A). step p a new in
    (new, subst P before more, refl)
turn_more step (q ∷ qs) p old mid new before more = (before.0, before.1, turn_more step qs p before.0 mid new before.2 more)

-- the step at the next place of a list
pub turn_at : {P A : Type 0} (step : P → A → A → Type 0) (ps : List P) (i : ℕ) (p : P) (old mid new : A) → InTurn step (take i ps) old mid → step p mid new → take (i + 1) ps ≡ take i ps ++ p ∷ [] → InTurn step (take (i + 1) ps) old new
turn_at {P = P} step ps i p old mid new before more e =
    let F : List P → Type 0 = λ (qs : List P). InTurn step qs old new in
    subst F (sym e) (turn_more step (take i ps) p old mid new before more)
