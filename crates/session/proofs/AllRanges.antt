-- The hash ranges of a list, read one at a time.
use Rattle.std.proofs.Common.{◌≡◌, ℕ, ◌<◌, ◌≤◌, suc, ◌+◌, List, [], ◌∷◌, ◌++◌, drop, length, Option, Some, None, refl, ap, ◌∙◌, sym, slice_index_or, add-one, append_assoc, append-nil}
use Rattle.std.proofs.Math.Seq.{drop-cons}
use Rattle.std.proofs.lemmas.List.{drop_all}
use Rattle.commands.specs.declared.key_shared.IntRange.{IntRange}
use Rattle.holds.specs.declared.consumer.SlotRange.{SlotRange}
use Rattle.session.specs.HashRanges.{range_at, put_first, all_ranges}

-- those that were read in front of those that come
abbrev with_front : List SlotRange → Option (List SlotRange) → Option (List SlotRange)
with_front done (Some ranges) = Some (done ++ ranges)
with_front done None = None

with_front-none : (others : Option (List SlotRange)) → others ≡ with_front [] others
with_front-none (Some ranges) = refl
with_front-none None = refl

with_front-more : (done : List SlotRange) (range : SlotRange) (others : Option (List SlotRange)) →
    with_front done (put_first (Some range) others) ≡ with_front (done ++ range ∷ []) others
with_front-more done range (Some ranges) = ap (λ l. Some l) (sym (append_assoc done (range ∷ []) ranges))
with_front-more done range None = refl

-- the first i were read
pub record ReadRanges (asked : List IntRange) (i : ℕ) (done : List SlotRange) : Type 0 where
  pub so_far : all_ranges asked ≡ with_front done (all_ranges (drop i asked))

pub ranges-none : (asked : List IntRange) → ReadRanges asked 0 []
ranges-none asked = record { so_far = with_front-none (all_ranges asked) }

front : (asked : List IntRange) (i : ℕ) (range : IntRange) → i < length asked → range ≡ slice_index_or asked i range →
    drop i asked ≡ range ∷ drop (i + 1) asked
front asked i range lt is = rw add-one (drop-cons asked i range lt ∙ ap (λ f. f ∷ drop (suc i) asked) (sym is))

pub ranges-more : {asked : List IntRange} {i : ℕ} {done : List SlotRange} (range : IntRange) (slots : SlotRange) →
    ReadRanges asked i done → i < length asked → range ≡ slice_index_or asked i range → range_at range ≡ Some slots →
    ReadRanges asked (i + 1) (done ++ slots ∷ [])
ranges-more {asked} {i} {done} range slots h lt is e =
    record { so_far = h.so_far ∙ rw (front asked i range lt is) (rw e (with_front-more done slots (all_ranges (drop (i + 1) asked)))) }

pub ranges-other : {asked : List IntRange} {i : ℕ} {done : List SlotRange} (range : IntRange) →
    ReadRanges asked i done → i < length asked → range ≡ slice_index_or asked i range → range_at range ≡ None →
    all_ranges asked ≡ None
ranges-other {asked} {i} {done} range h lt is e = h.so_far ∙ rw (front asked i range lt is) (rw e refl)

pub ranges-all : {asked : List IntRange} {i : ℕ} {done : List SlotRange} → ReadRanges asked i done → length asked ≤ i → all_ranges asked ≡ Some done
ranges-all {asked} {i} {done} h le = h.so_far ∙ rw (drop_all i asked le) (ap (λ l. Some l) (append-nil done))
