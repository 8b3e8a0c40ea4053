-- What a board told of its topics.
use Rattle.std.specs.Prelude.{◌≡◌, ◌⊎◌, ℕ, suc, Bool, true, List, [], ◌∷◌, length, Option, Some, None}
use Rattle.std.specs.List.Sorted.{IsPermutation, IsSortedByKey}
use Rattle.std.specs.Ordering.{nat_cmp}
use Rattle.std.specs.Cmp.Lexicographic.{slice_cmp}
use Rattle.status_pages.specs.declared.board.TopicReport.{TopicReport}
use Rattle.status_pages.specs.declared.picture.Picture.{Picture}
use Rattle.subscriptions.specs.declared.summary.SubscriptionSummary.{SubscriptionSummary}

-- each of these was told of its place, the first of place n
abbrev pub AreTold : {A : Type 0} → (ℕ → A → Type 0) → ℕ → List A → Type 0
AreTold told n [] = Unit {0}
AreTold told n (x ∷ xs) = told n x × AreTold told (suc n) xs

-- nothing was left out behind so many: there was none, or they are as many as there may be
abbrev pub AreAll : {A : Type 0} → (ℕ → Option A → Type 0) → ℕ → Type 0
AreAll told count = told count None ⊎ (count ≡ 64)

-- all that was told of places, from the first on
pub record ArePlaces {A : Type 0} (told : ℕ → Option A → Type 0) (items : List A) : Type 0 where
  pub each : AreTold (λ n x. told n (Some x)) 0 items
  pub all : AreAll told (length items)

-- all that was told of a topic's subscriptions, in the order of their names' bytes
pub record AreSubscriptions (told : ℕ → Option SubscriptionSummary → Type 0) (items : List SubscriptionSummary) : Type 0 where
  pub places : List SubscriptionSummary
  pub told_all : ArePlaces told places
  pub same : IsPermutation places items
  pub sorted : IsSortedByKey (λ (s : SubscriptionSummary). s.status.name) (slice_cmp nat_cmp) items

-- what was told of the topic of a number and, where these were asked for, of its subscriptions
pub record IsPicture (topic_told : ℕ → Option TopicReport → Type 0) (subscription_told : ℕ → ℕ → Option SubscriptionSummary → Type 0) (asked : Bool) (number : ℕ) (picture : Picture) : Type 0 where
  pub topic : topic_told number (Some picture.topic)
  pub subscriptions : asked ≡ true → AreSubscriptions (subscription_told number) picture.subscriptions.items

-- the same, or that there is no topic of the number
abbrev pub IsPictureOrNone : (ℕ → Option TopicReport → Type 0) → (ℕ → ℕ → Option SubscriptionSummary → Type 0) → Bool → ℕ → Option Picture → Type 0
IsPictureOrNone topic_told subscription_told asked number (Some picture) = IsPicture topic_told subscription_told asked number picture
IsPictureOrNone topic_told subscription_told asked number None = topic_told number None
