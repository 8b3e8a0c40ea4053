-- What stands in a ledger stands in it ever after, or a trim took it.
use Rattle.std.proofs.Common.{◌≡◌, inl, inr, ⊎_elim, ◌∙◌, ℕ, ◌<◌, ◌≤◌, Some, List, drop, sym, ap, subst, arith}
use Rattle.std.proofs.lemmas.Bool.{cases_lt}
use Rattle.std.proofs.lemmas.List.{take-append-drop}
use Rattle.records.specs.Maps.{Kept}
use Rattle.managed_ledger.specs.Entries.{Entries, Ledger, end_of, entry_at, lengthened, trimmed}
use Rattle.managed_ledger.specs.Trims.{IsGrown, entry_within, entry_kept, kept_trimmed, lengthened_both}
use Rattle.topic_core.specs.State.{Topic, entries_of, entries_in_doubt}
use Rattle.topic_core.specs.Flush.{finished}
use Rattle.topic_core.specs.Crashes.{IsLeft, longer}
use Rattle.topic_core.proofs.Floors.{trimmed_lengthened}
use Rattle.node.specs.Finding.{Keeps}

-- what stands in one ledger, or was trimmed from it, does so in the other one
abbrev pub Extends : Ledger → Ledger → Type 0
Extends l m = (i : ℕ) (entry : List ℕ) → Keeps l i entry → Keeps m i entry

-- what stands in the one stands in the other
abbrev pub IsWithin : Ledger → Ledger → Type 0
IsWithin l m = (i : ℕ) (entry : List ℕ) → entry_at l i ≡ Some entry → entry_at m i ≡ Some entry

pub keeps_below : (l : Ledger) (i : ℕ) (entry : List ℕ) → Keeps l i entry → i < end_of l
keeps_below l i entry (inl gone) = omega (arith, gone)
keeps_below l i entry (inr is) = (entry_within l i entry is).1

pub extends_then : (a b c : Ledger) → Extends a b → Extends b c → Extends a c
extends_then a b c first second i entry is = second i entry (first i entry is)

-- entries more
pub more_extends : (l : Ledger) (more : Entries) → Extends l (lengthened l more)
more_extends l more i entry (inl gone) = inl gone
more_extends l more i entry (inr is) = inr (entry_kept l more i entry is)

pub more_within : (l : Ledger) (more : Entries) → IsWithin l (lengthened l more)
more_within l more i entry is = entry_kept l more i entry is

-- the first ones gone
pub trim_extends : (l : Ledger) (b : ℕ) → Extends l (trimmed b l)
trim_extends l b i entry (inl gone) = inl (omega (arith, gone))
trim_extends l b i entry (inr is) = ⊎_elim (λ less. inl (omega (arith, less))) (λ high. inr (kept_trimmed l b i high ∙ is)) (cases_lt i b)

pub trim_within : (l : Ledger) (b : ℕ) → IsWithin (trimmed b l) l
trim_within l b i entry is =
    let high = (entry_within (trimmed b l) i entry is).0 in
    sym (kept_trimmed l b i (omega (arith, high))) ∙ is

-- so it is with both
pub grown_extends : (l m : Ledger) → IsGrown l m → Extends l m
grown_extends l m g = subst (λ (x : Ledger). Extends l x) (sym g.is) (extends_then l (lengthened l g.more) (trimmed g.below (lengthened l g.more)) (more_extends l g.more) (trim_extends (lengthened l g.more) g.below))

-- ---- a topic

-- those in doubt, and the others behind them
pub doubt_first : (t : Topic) → lengthened (longer t) (drop (entries_of t.doubt) t.waiting) ≡ lengthened t.ledger t.waiting
doubt_first t = lengthened_both t.ledger (entries_in_doubt t) (drop (entries_of t.doubt) t.waiting) ∙ ap (λ (w : Entries). lengthened t.ledger w) (take-append-drop (entries_of t.doubt) t.waiting)

pub longer_within : (t : Topic) → IsWithin (longer t) (lengthened t.ledger t.waiting)
longer_within t = subst (λ (l : Ledger). IsWithin (longer t) l) (doubt_first t) (more_within (longer t) (drop (entries_of t.doubt) t.waiting))

pub longer_extends : (t : Topic) → Extends (longer t) (lengthened t.ledger t.waiting)
longer_extends t = subst (λ (l : Ledger). Extends (longer t) l) (doubt_first t) (more_extends (longer t) (drop (entries_of t.doubt) t.waiting))

-- what was in doubt goes from the waiting entries to the ledger, which is trimmed
pub finished_log : (t : Topic) (b : ℕ) → b ≤ end_of (longer t) → lengthened (finished t b).ledger (finished t b).waiting ≡ trimmed b (lengthened t.ledger t.waiting)
finished_log t b low = trimmed_lengthened (longer t) b (drop (entries_of t.doubt) t.waiting) low ∙ ap (λ (l : Ledger). trimmed b l) (doubt_first t)

-- ---- what a crash leaves

pub left_extends : (t : Topic) (ledger : Ledger) (kept : Kept) → IsLeft t ledger kept → Extends t.ledger ledger
left_extends t ledger kept (inl s) = subst (λ (l : Ledger). Extends t.ledger l) (sym s.0) (λ i entry is. is)
left_extends t ledger kept (inr (inl s)) = subst (λ (l : Ledger). Extends t.ledger l) (sym s.0) (more_extends t.ledger (entries_in_doubt t))
left_extends t ledger kept (inr (inr s)) =
    subst (λ (l : Ledger). Extends t.ledger l) (sym s.0.is)
    (extends_then t.ledger (longer t) (trimmed ledger.base (longer t)) (more_extends t.ledger (entries_in_doubt t)) (trim_extends (longer t) ledger.base))

pub left_within : (t : Topic) (ledger : Ledger) (kept : Kept) → IsLeft t ledger kept → IsWithin ledger (lengthened t.ledger t.waiting)
left_within t ledger kept (inl s) = subst (λ (l : Ledger). IsWithin l (lengthened t.ledger t.waiting)) (sym s.0) (more_within t.ledger t.waiting)
left_within t ledger kept (inr (inl s)) = subst (λ (l : Ledger). IsWithin l (lengthened t.ledger t.waiting)) (sym s.0) (longer_within t)
left_within t ledger kept (inr (inr s)) =
    subst (λ (l : Ledger). IsWithin l (lengthened t.ledger t.waiting)) (sym s.0.is)
    (λ i entry is. longer_within t i entry (trim_within (longer t) ledger.base i entry is))
