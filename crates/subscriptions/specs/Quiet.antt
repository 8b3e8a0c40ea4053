-- Sessions whose consumers have nothing to get.
use Rattle.std.specs.Prelude.{◌≡◌, ℕ, ◌%◌, Bool, true, cond, ◌&&◌, nat_eq, nat_lt, Option, Some, None, List, get_or, replicate}
use Rattle.std.specs.List.{AllByRecursion, list_any}
use Rattle.holds.specs.Backlog.{IsOpenAt}
use Rattle.subscriptions.specs.declared.quiet.Note.{Note}
use Rattle.subscriptions.specs.State.{Consumer, Subscription}

-- the consumer is the session's and has a permit left, as far as is known
abbrev pub has_permit_of : ℕ → Consumer → Bool
has_permit_of who c = nat_eq c.key.session who && nat_lt c.sent c.granted

-- a consumer of the session has a permit left
abbrev pub has_permits : ℕ → List Consumer → Bool
has_permits who consumers = list_any (has_permit_of who) consumers

-- where a consumer of the session has a permit left, nothing is open
abbrev pub IsQuietOn : ℕ → ℕ → Subscription → Type 0
IsQuietOn who committed s = has_permits who s.consumers ≡ true → (i : ℕ) → IsOpenAt committed s.acked s.deliveries i → ⊥

-- and so on each subscription
abbrev pub IsQuiet : ℕ → ℕ → List Subscription → Type 0
IsQuiet who committed subs = AllByRecursion (IsQuietOn who committed) subs

-- no slot has a note
abbrev pub no_notes : List (Option Note)
no_notes = replicate 64 None

-- what a slot notes of a session
abbrev pub noted_in : ℕ → Option Note → Option ℕ
noted_in who None = None
noted_in who (Some note) = cond (nat_eq note.session who) (Some note.committed) None

-- the committed length at which nothing was found for a session, if one is noted in its slot
abbrev pub noted : ℕ → List (Option Note) → Option ℕ
noted who notes = noted_in who (get_or notes (who % 64) None)

-- what is noted of the sessions holds
pub record AreQuiet (subs : List Subscription) (notes : List (Option Note)) : Type 0 where
  pub quiet : (who committed : ℕ) → noted who notes ≡ Some committed → IsQuiet who committed subs
