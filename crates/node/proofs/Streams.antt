-- What comes in to each session begins with the frames that it works.
use Rattle.std.proofs.Common.{◌≡◌, ◌≢◌, ◌⊎◌, inl, inr, ◌∙◌, ⊎_elim, ℕ, zero, suc, ◌+◌, ◌<◌, ◌≤◌, Bool, true, false, cond, nat_eq, Option, Some, None, List, [], ◌∷◌, ◌++◌, slice_get, slice_set, remove, refl, sym, ap, subst, append-nil, append_assoc, arith}
use Rattle.std.proofs.lemmas.Bool.{eq-eqb, ne_eqb}
use Rattle.std.proofs.lemmas.Option.{same_Some, none-some}
use Rattle.std.specs.List.{AllByRecursion}
use Rattle.frames.specs.declared.frame.Frame.{Frame}
use Rattle.frames.specs.Streams.{BeginsWith}
use Rattle.session.specs.Client.{Client, new_client}
use Rattle.session.specs.declared.fault.Fault.{Fault}
use Rattle.node.specs.State.{settled}
use Rattle.node.specs.Origins.{Asked, Origin, Worked, Opened, AsksFor, AsksOnly, AsksSo, frames_in, openings_among}
use Rattle.node.specs.Incoming.{IsFront}
use Rattle.node.proofs.Playing.{AreOf}

-- ---- streams

begins_more : (stream more : List ℕ) (frames : List Frame) (rest : List ℕ) → BeginsWith stream frames rest → BeginsWith (stream ++ more) frames (rest ++ more)
begins_more stream more [] rest h = ap (λ (l : List ℕ). l ++ more) h
begins_more stream more (frame ∷ frames) rest h =
    (h.0, h.1 ++ more, ap (λ (l : List ℕ). l ++ more) h.2 ∙ append_assoc h.0 h.1 more, h.3, begins_more h.1 more frames rest h.4)

begins_then : (stream : List ℕ) (frames others : List Frame) (rest left : List ℕ) → BeginsWith stream frames rest → BeginsWith rest others left → BeginsWith stream (frames ++ others) left
begins_then stream [] others rest left h k = let P : List ℕ → Type 0 = λ l. BeginsWith l others left in subst P (sym h) k
begins_then stream (frame ∷ frames) others rest left h k = (h.0, h.1, h.2, h.3, begins_then h.1 frames others rest left h.4 k)

-- no frame stands at the front of anything
pub no_frame : (bytes : List ℕ) (frames : List Frame) → frames ≡ [] → IsFront bytes frames
no_frame bytes frames none = subst (λ (fs : List Frame). IsFront bytes fs) (sym none) (bytes, refl)

-- frames, and then those of what is left
front_then : (rest bytes more : List ℕ) (frames others : List Frame) (left : List ℕ) → BeginsWith (rest ++ bytes) frames left → IsFront (left ++ more) others → IsFront (rest ++ (bytes ++ more)) (frames ++ others)
front_then rest bytes more frames others left begins then = (
  then.0,
  subst (λ (l : List ℕ). BeginsWith l (frames ++ others) then.0) (append_assoc rest bytes more)
      (begins_then ((rest ++ bytes) ++ more) frames others (left ++ more) then.0 (begins_more (rest ++ bytes) more frames left begins) then.1),
)

-- ---- lists of sessions

pub all_first : {A : Type 0} (P : A → Type 0) (xs ys : List A) → AllByRecursion P (xs ++ ys) → AllByRecursion P xs
all_first P [] ys all = tt
all_first P (x ∷ xs) ys all = (all.0, all_first P xs ys all.1)

pub all_last : {A : Type 0} (P : A → Type 0) (xs ys : List A) → AllByRecursion P (xs ++ ys) → AllByRecursion P ys
all_last P [] ys all = all
all_last P (x ∷ xs) ys all = all_last P xs ys all.1

pub all_join : {A : Type 0} (P : A → Type 0) (xs ys : List A) → AllByRecursion P xs → AllByRecursion P ys → AllByRecursion P (xs ++ ys)
all_join P [] ys a b = b
all_join P (x ∷ xs) ys a b = (a.0, all_join P xs ys a.1 b)

all_from : {A : Type 0} (P Q R : A → Type 0) → ((x : A) → P x → Q x → R x) → (xs : List A) → AllByRecursion P xs → AllByRecursion Q xs → AllByRecursion R xs
all_from P Q R f [] a b = tt
all_from P Q R f (x ∷ xs) a b = (f x a.0 b.0, all_from P Q R f xs a.1 b.1)

pub all_to : {A : Type 0} (P Q : A → Type 0) → ((x : A) → P x → Q x) → (xs : List A) → AllByRecursion P xs → AllByRecursion Q xs
all_to P Q f [] a = tt
all_to P Q f (x ∷ xs) a = (f x a.0, all_to P Q f xs a.1)

all_here : {A : Type 0} (P : A → Type 0) → ((x : A) → P x) → (xs : List A) → AllByRecursion P xs
all_here P f [] = tt
all_here P f (x ∷ xs) = (f x, all_here P f xs)

-- a session stands at a place, between those before it and behind it
pub record Stands (sessions : List Client) (place : ℕ) (client : Client) : Type 0 where
  pub before : List Client
  pub behind : List Client
  pub are : sessions ≡ before ++ client ∷ behind
  pub changed : (next : Client) → slice_set sessions place next ≡ before ++ next ∷ behind
  pub left : remove sessions place ≡ before ++ behind

pub stands : (sessions : List Client) (place : ℕ) (client : Client) → slice_get sessions place ≡ Some client → Stands sessions place client
stands [] place client is = absurd (none-some client is)
stands (x ∷ xs) zero client is = record { before = []; behind = xs; are = ap (λ (c : Client). c ∷ xs) (same_Some x client is); changed = λ next. refl; left = refl }
stands (x ∷ xs) (suc place) client is =
    let s = stands xs place client is in
    record {
      before = x ∷ s.before;
      behind = s.behind;
      are = ap (λ (l : List Client). x ∷ l) s.are;
      changed = λ next. ap (λ (l : List Client). x ∷ l) (s.changed next);
      left = ap (λ (l : List Client). x ∷ l) s.left;
    }

-- the one at a place was changed, and is gone then
pub changed_gone : (sessions : List Client) (place : ℕ) (client next : Client) → slice_get sessions place ≡ Some client → remove (slice_set sessions place next) place ≡ remove sessions place
changed_gone [] place client next is = absurd (none-some client is)
changed_gone (x ∷ xs) zero client next is = refl
changed_gone (x ∷ xs) (suc place) client next is = ap (λ (l : List Client). x ∷ l) (changed_gone xs place client next is)

-- the numbers of sessions rise, below the next one
abbrev pub AreNumbered : ℕ → List Client → ℕ → Type 0
AreNumbered low [] used = low ≤ used
AreNumbered low (c ∷ cs) used = (low ≤ c.number) × AreNumbered (c.number + 1) cs used

numbered_below : (low : ℕ) (cs : List Client) (used : ℕ) → AreNumbered low cs used → low ≤ used
numbered_below low [] used h = h
numbered_below low (c ∷ cs) used h = omega (arith, h.0, numbered_below (c.number + 1) cs used h.1)

numbered_from : (low lower : ℕ) (cs : List Client) (used : ℕ) → lower ≤ low → AreNumbered low cs used → AreNumbered lower cs used
numbered_from low lower [] used less h = omega (arith, less, h)
numbered_from low lower (c ∷ cs) used less h = (omega (arith, less, h.0), h.1)

pub numbered_more : (low : ℕ) (cs : List Client) (used : ℕ) → AreNumbered low cs used → AreNumbered low (cs ++ new_client used ∷ []) (used + 1)
numbered_more low [] used h = (h, omega arith)
numbered_more low (c ∷ cs) used h = (h.0, numbered_more (c.number + 1) cs used h.1)

apart_behind : (low : ℕ) (cs : List Client) (used who : ℕ) → who < low → AreNumbered low cs used → AllByRecursion (λ (c : Client). who ≢ c.number) cs
apart_behind low [] used who less h = tt
apart_behind low (c ∷ cs) used who less h = (λ is. omega (arith, is, less, h.0), apart_behind (c.number + 1) cs used who (omega (arith, less, h.0)) h.1)

-- one of them
record IsOne (low : ℕ) (before : List Client) (client : Client) (behind : List Client) (used : ℕ) : Type 0 where
  above : low ≤ client.number
  below : client.number < used
  others_before : AllByRecursion (λ (c : Client). client.number ≢ c.number) before
  others_behind : AllByRecursion (λ (c : Client). client.number ≢ c.number) behind
  without : AreNumbered low (before ++ behind) used
  changed : (next : Client) → next.number ≡ client.number → AreNumbered low (before ++ next ∷ behind) used

one_of : (low : ℕ) (before : List Client) (client : Client) (behind : List Client) (used : ℕ) → AreNumbered low (before ++ client ∷ behind) used → IsOne low before client behind used
one_of low [] client behind used h = record {
  above = h.0;
  below = omega (arith, numbered_below (client.number + 1) behind used h.1);
  others_before = tt;
  others_behind = apart_behind (client.number + 1) behind used client.number (omega arith) h.1;
  without = numbered_from (client.number + 1) low behind used (omega (arith, h.0)) h.1;
  changed = λ next is. (omega (arith, h.0, is), subst (λ n. AreNumbered (n + 1) behind used) (sym is) h.1);
}
one_of low (c ∷ cs) client behind used h =
    let one = one_of (c.number + 1) cs client behind used h.1 in
    record {
      above = omega (arith, h.0, one.above);
      below = one.below;
      others_before = (λ is. omega (arith, is, one.above), one.others_before);
      others_behind = one.others_behind;
      without = (h.0, one.without);
      changed = λ next is. (h.0, one.changed next is);
    }

-- ---- what is claimed of what comes from now on

-- Of each open session what it keeps, and what comes, begins with the frames that it works from now on; so does what comes to one that
-- opens later; and one that is gone works none.
pub record Claim (sessions : List Client) (used : ℕ) (bytes : ℕ → List ℕ) (frames : ℕ → List Frame) : Type 0 where
  pub opened : AllByRecursion (λ (c : Client). IsFront (c.progress.rest ++ bytes c.number) (frames c.number)) sessions
  pub later : (who : ℕ) → used ≤ who → IsFront (bytes who) (frames who)
  pub gone : (who : ℕ) → who < used → AllByRecursion (λ (c : Client). who ≢ c.number) sessions → frames who ≡ []

-- no session works any frame
pub silent_claim : (sessions : List Client) (used : ℕ) (bytes : ℕ → List ℕ) (frames : ℕ → List Frame) → ((who : ℕ) → frames who ≡ []) → Claim sessions used bytes frames
silent_claim sessions used bytes frames none = record {
  opened = all_here (λ (c : Client). IsFront (c.progress.rest ++ bytes c.number) (frames c.number)) (λ c. no_frame (c.progress.rest ++ bytes c.number) (frames c.number) (none c.number)) sessions;
  later = λ who above. no_frame (bytes who) (frames who) (none who);
  gone = λ who below others. none who;
}

pub above_or_below : (used who : ℕ) → (used ≤ who) ⊎ (who < used)
above_or_below zero who = inl (omega arith)
above_or_below (suc used) zero = inr (omega arith)
above_or_below (suc used) (suc who) = ⊎_elim (λ above. inl (omega (arith, above))) (λ below. inr (omega (arith, below))) (above_or_below used who)

same_or_above : (used who : ℕ) → used ≤ who → (used ≡ who) ⊎ (used < who)
same_or_above zero zero above = inl refl
same_or_above zero (suc who) above = inr (omega arith)
same_or_above (suc used) zero above = absurd (omega (arith, above))
same_or_above (suc used) (suc who) above = ⊎_elim (λ is. inl (ap suc is)) (λ more. inr (omega (arith, more))) (same_or_above used who (omega (arith, above)))

-- nothing comes
pub nothing_claim : (sessions : List Client) (used : ℕ) (brought : ℕ → List ℕ) → ((who : ℕ) → brought who ≡ []) → (bytes : ℕ → List ℕ) (frames : ℕ → List Frame) → Claim sessions used bytes frames
    → Claim sessions used (λ who. brought who ++ bytes who) frames
nothing_claim sessions used brought none bytes frames h =
    let same = λ (who : ℕ) (rest : List ℕ). subst (λ (l : List ℕ). IsFront (rest ++ (l ++ bytes who)) (frames who)) (sym (none who)) in
    record {
      opened = all_to (λ (c : Client). IsFront (c.progress.rest ++ bytes c.number) (frames c.number)) (λ (c : Client). IsFront (c.progress.rest ++ (brought c.number ++ bytes c.number)) (frames c.number))
          (λ c. same c.number c.progress.rest) sessions h.opened;
      later = λ who above. same who [] (h.later who above);
      gone = h.gone;
    }

-- before any session is open
pub claim_of_none : (used : ℕ) (bytes : ℕ → List ℕ) (frames : ℕ → List Frame) → Claim [] used bytes frames → (who : ℕ) → IsFront (bytes who) (frames who)
claim_of_none used bytes frames h who = ⊎_elim (λ above. h.later who above) (λ below. no_frame (bytes who) (frames who) (h.gone who below tt)) (above_or_below used who)

-- a session opens
pub opens_claim : (sessions : List Client) (used : ℕ) (bytes : ℕ → List ℕ) (frames : ℕ → List Frame) → AreNumbered 0 sessions used → Claim (sessions ++ new_client used ∷ []) (used + 1) bytes frames → Claim sessions used bytes frames
opens_claim sessions used bytes frames numbered h =
    let front = λ (c : Client). IsFront (c.progress.rest ++ bytes c.number) (frames c.number) in
    record {
      opened = all_first front sessions (new_client used ∷ []) h.opened;
      later = λ who above. ⊎_elim
          (λ (is : used ≡ who). subst (λ n. IsFront (bytes n) (frames n)) is (all_last front sessions (new_client used ∷ []) h.opened).0)
          (λ apart. h.later who (omega (arith, above, apart)))
          (same_or_above used who above);
      gone = λ who below others. h.gone who (omega (arith, below)) (all_join (λ (c : Client). who ≢ c.number) sessions (new_client used ∷ []) others (λ is. omega (arith, is, below), tt));
    }

module _ (before : List Client) (client : Client) (behind : List Client) (used : ℕ) (numbered : AreNumbered 0 (before ++ client ∷ behind) used) (brought : ℕ → List ℕ) (worked : ℕ → List Frame)
    (apart : (who : ℕ) → client.number ≢ who → (brought who ≡ []) × (worked who ≡ [])) (left : List ℕ) (begins : BeginsWith (client.progress.rest ++ brought client.number) (worked client.number) left)
    (bytes : ℕ → List ℕ) (frames : ℕ → List Frame) where
  abbrev all_bytes : ℕ → List ℕ
  all_bytes who = brought who ++ bytes who

  abbrev all_frames : ℕ → List Frame
  all_frames who = worked who ++ frames who

  one : IsOne 0 before client behind used
  one = one_of 0 before client behind used numbered

  other_front : (who : ℕ) (rest : List ℕ) → client.number ≢ who → IsFront (rest ++ bytes who) (frames who) → IsFront (rest ++ all_bytes who) (all_frames who)
  other_front who rest differs h =
      let none = apart who differs in
      subst (λ (l : List ℕ). IsFront (rest ++ (l ++ bytes who)) (all_frames who)) (sym none.0) (subst (λ (fs : List Frame). IsFront (rest ++ bytes who) (fs ++ frames who)) (sym none.1) h)

  other_fronts : (cs : List Client) → AllByRecursion (λ (c : Client). client.number ≢ c.number) cs → AllByRecursion (λ (c : Client). IsFront (c.progress.rest ++ bytes c.number) (frames c.number)) cs
      → AllByRecursion (λ (c : Client). IsFront (c.progress.rest ++ all_bytes c.number) (all_frames c.number)) cs
  other_fronts cs others h =
      all_from (λ (c : Client). client.number ≢ c.number) (λ (c : Client). IsFront (c.progress.rest ++ bytes c.number) (frames c.number)) (λ (c : Client). IsFront (c.progress.rest ++ all_bytes c.number) (all_frames c.number))
      (λ c differs front. other_front c.number c.progress.rest differs front) cs others h

  -- what is claimed of those beside it, and of it
  claims : (sessions : List Client) → AllByRecursion (λ (c : Client). IsFront (c.progress.rest ++ bytes c.number) (frames c.number)) before
      → AllByRecursion (λ (c : Client). IsFront (c.progress.rest ++ bytes c.number) (frames c.number)) behind → IsFront (left ++ bytes client.number) (frames client.number)
      → ((who : ℕ) → client.number ≢ who → AllByRecursion (λ (c : Client). who ≢ c.number) before → AllByRecursion (λ (c : Client). who ≢ c.number) behind → AllByRecursion (λ (c : Client). who ≢ c.number) sessions)
      → Claim sessions used bytes frames → Claim (before ++ client ∷ behind) used all_bytes all_frames
  claims sessions first last here others h = record {
    opened = all_join (λ (c : Client). IsFront (c.progress.rest ++ all_bytes c.number) (all_frames c.number)) before (client ∷ behind) (other_fronts before one.others_before first)
        (front_then client.progress.rest (brought client.number) (bytes client.number) (worked client.number) (frames client.number) left begins here, other_fronts behind one.others_behind last);
    later = λ who above. other_front who [] (λ is. omega (arith, is, above, one.below)) (h.later who above);
    gone = λ who below none.
        let differs = λ (c : Client). who ≢ c.number in
        let at = all_last differs before (client ∷ behind) none in
        ap (λ (fs : List Frame). fs ++ frames who) (apart who (λ is. at.0 (sym is))).1
        ∙ h.gone who below (others who (λ is. at.0 (sym is)) (all_first differs before (client ∷ behind) none) at.1);
  }

  -- it goes on
  pub goes_on : (next : Client) → next.number ≡ client.number → next.progress.rest ≡ left → Claim (before ++ next ∷ behind) used bytes frames → Claim (before ++ client ∷ behind) used all_bytes all_frames
  goes_on next number kept h =
      let front = λ (c : Client). IsFront (c.progress.rest ++ bytes c.number) (frames c.number) in
      let at = all_last front before (next ∷ behind) h.opened in
      claims (before ++ next ∷ behind) (all_first front before (next ∷ behind) h.opened) at.1
      (subst (λ (l : List ℕ). IsFront (l ++ bytes client.number) (frames client.number)) kept (subst (λ n. IsFront (next.progress.rest ++ bytes n) (frames n)) number at.0))
      (λ who differs first last. all_join (λ (c : Client). who ≢ c.number) before (next ∷ behind) first (λ is. differs (sym (is ∙ number)), last)) h

  -- it is gone
  pub goes : Claim (before ++ behind) used bytes frames → Claim (before ++ client ∷ behind) used all_bytes all_frames
  goes h =
      let front = λ (c : Client). IsFront (c.progress.rest ++ bytes c.number) (frames c.number) in
      claims (before ++ behind) (all_first front before behind h.opened) (all_last front before behind h.opened)
      (no_frame (left ++ bytes client.number) (frames client.number) (h.gone client.number one.below (all_join (λ (c : Client). client.number ≢ c.number) before behind one.others_before one.others_behind)))
      (λ who differs first last. all_join (λ (c : Client). who ≢ c.number) before behind first last) h

-- a session at a place works what came, and ends, or goes on
pub record Serves (sessions : List Client) (place : ℕ) (client next : Client) (brought : ℕ → List ℕ) (worked : ℕ → List Frame) : Type 0 where
  pub stands : slice_get sessions place ≡ Some client
  pub number : next.number ≡ client.number
  pub apart : (who : ℕ) → client.number ≢ who → (brought who ≡ []) × (worked who ≡ [])
  pub left : List ℕ
  pub begins : BeginsWith (client.progress.rest ++ brought client.number) (worked client.number) left
  pub kept : next.fault ≡ None → next.progress.rest ≡ left

module _ (sessions : List Client) (place : ℕ) (client next : Client) (used : ℕ) (brought : ℕ → List ℕ) (worked : ℕ → List Frame) (s : Serves sessions place client next brought worked) (numbered : AreNumbered 0 sessions used) where
  at : Stands sessions place client
  at = stands sessions place client s.stands

  split : AreNumbered 0 (at.before ++ client ∷ at.behind) used
  split = subst (λ (cs : List Client). AreNumbered 0 cs used) at.are numbered

  still_numbered : (fault : Option Fault) → AreNumbered 0 (settled fault (slice_set sessions place next) place) used
  still_numbered None = subst (λ (cs : List Client). AreNumbered 0 cs used) (sym (at.changed next)) ((one_of 0 at.before client at.behind used split).changed next s.number)
  still_numbered (Some why) = subst (λ (cs : List Client). AreNumbered 0 cs used) (sym (changed_gone sessions place client next s.stands ∙ at.left)) (one_of 0 at.before client at.behind used split).without

  serve_claim : (fault : Option Fault) → next.fault ≡ fault → (bytes : ℕ → List ℕ) (frames : ℕ → List Frame) → Claim (settled fault (slice_set sessions place next) place) used bytes frames
      → Claim (at.before ++ client ∷ at.behind) used (λ who. brought who ++ bytes who) (λ who. worked who ++ frames who)
  serve_claim None is bytes frames h =
      goes_on at.before client at.behind used split brought worked s.apart s.left s.begins bytes frames next s.number (s.kept is) (subst (λ (cs : List Client). Claim cs used bytes frames) (at.changed next) h)
  serve_claim (Some why) is bytes frames h =
      goes at.before client at.behind used split brought worked s.apart s.left s.begins bytes frames (subst (λ (cs : List Client). Claim cs used bytes frames) (changed_gone sessions place client next s.stands ∙ at.left) h)

  pub serves_numbered : AreNumbered 0 (settled next.fault (slice_set sessions place next) place) used
  serves_numbered = still_numbered next.fault

  pub serves_claim : (bytes : ℕ → List ℕ) (frames : ℕ → List Frame) → Claim (settled next.fault (slice_set sessions place next) place) used bytes frames
      → Claim sessions used (λ who. brought who ++ bytes who) (λ who. worked who ++ frames who)
  serves_claim bytes frames h = subst (λ (cs : List Client). Claim cs used (λ who. brought who ++ bytes who) (λ who. worked who ++ frames who)) (sym at.are) (serve_claim next.fault refl bytes frames h)

module _ (sessions : List Client) (place : ℕ) (client : Client) (used : ℕ) (there : slice_get sessions place ≡ Some client) (numbered : AreNumbered 0 sessions used) where
  goer : Stands sessions place client
  goer = stands sessions place client there

  goer_split : AreNumbered 0 (goer.before ++ client ∷ goer.behind) used
  goer_split = subst (λ (cs : List Client). AreNumbered 0 cs used) goer.are numbered

  pub gone_numbered : AreNumbered 0 (remove sessions place) used
  gone_numbered = subst (λ (cs : List Client). AreNumbered 0 cs used) (sym goer.left) (one_of 0 goer.before client goer.behind used goer_split).without

  pub gone_claim : (bytes : ℕ → List ℕ) (frames : ℕ → List Frame) → Claim (remove sessions place) used bytes frames → Claim sessions used bytes frames
  gone_claim bytes frames h =
      subst (λ (cs : List Client). Claim cs used bytes frames) (sym goer.are)
      (goes goer.before client goer.behind used goer_split (λ who. []) (λ who. []) (λ who differs. (refl, refl)) client.progress.rest (append-nil client.progress.rest) bytes frames
      (subst (λ (cs : List Client). Claim cs used bytes frames) goer.left h))

-- ---- frames that are among origins

-- no opening is among them
abbrev pub AreWorked : List Origin → Type 0
AreWorked [] = Unit {0}
AreWorked (Worked who frame asks ∷ origins) = AreWorked origins
AreWorked (Opened ∷ origins) = ⊥

pub are_worked : (who : ℕ) (frames : List Frame) (origins : List Origin) → AreOf who frames origins → AreWorked origins
are_worked who [] [] are = tt
are_worked who [] (x ∷ xs) are = absurd are
are_worked who (f ∷ fs) [] are = absurd are
are_worked who (f ∷ fs) (Opened ∷ xs) are = absurd are
are_worked who (f ∷ fs) (Worked other g asks ∷ xs) are = are_worked who fs xs are.3

asks_this : (who : ℕ) (frame : Frame) (asks : Option Asked) → AsksOnly (AsksFor who frame.command frame.entry) asks → AsksSo (Worked who frame asks)
asks_this who frame None is = tt
asks_this who frame (Some asked) is = is

pub ask_so : (who : ℕ) (frames : List Frame) (origins : List Origin) → AreOf who frames origins → AllByRecursion AsksSo origins
ask_so who [] [] are = tt
ask_so who [] (x ∷ xs) are = absurd are
ask_so who (f ∷ fs) [] are = absurd are
ask_so who (f ∷ fs) (Opened ∷ xs) are = absurd are
ask_so who (f ∷ fs) (Worked other g asks ∷ xs) are =
    (subst (λ n. AsksSo (Worked n g asks)) (sym are.0) (subst (λ (x : Frame). AsksSo (Worked who x asks)) (sym are.1) (asks_this who f asks are.2)), ask_so who fs xs are.3)

-- those of the session that works them
pub own_frames : (who : ℕ) (frames : List Frame) (origins : List Origin) → AreOf who frames origins → frames_in zero who origins ≡ frames
own_frames who [] [] are = refl
own_frames who [] (x ∷ xs) are = absurd are
own_frames who (f ∷ fs) [] are = absurd are
own_frames who (f ∷ fs) (Opened ∷ xs) are = absurd are
own_frames who (f ∷ fs) (Worked other g asks ∷ xs) are =
    ap (λ (b : Bool). cond b (g ∷ frames_in zero who xs) (frames_in zero who xs)) (eq-eqb other who are.0)
    ∙ ap (λ (x : Frame). x ∷ frames_in zero who xs) are.1 ∙ ap (λ (l : List Frame). f ∷ l) (own_frames who fs xs are.3)

pub no_other_frames : (who other : ℕ) (frames : List Frame) (origins : List Origin) → who ≢ other → AreOf who frames origins → frames_in zero other origins ≡ []
no_other_frames who other [] [] differs are = refl
no_other_frames who other [] (x ∷ xs) differs are = absurd are
no_other_frames who other (f ∷ fs) [] differs are = absurd are
no_other_frames who other (f ∷ fs) (Opened ∷ xs) differs are = absurd are
no_other_frames who other (f ∷ fs) (Worked one g asks ∷ xs) differs are =
    ap (λ (b : Bool). cond b (g ∷ frames_in zero other xs) (frames_in zero other xs)) (ne_eqb one other (λ is. differs (sym are.0 ∙ is))) ∙ no_other_frames who other fs xs differs are.3

cond-append : (b : Bool) (f : Frame) (xs ys : List Frame) → cond b (f ∷ (xs ++ ys)) (xs ++ ys) ≡ cond b (f ∷ xs) xs ++ ys
cond-append true f xs ys = refl
cond-append false f xs ys = refl

-- those of frames that were worked before others
pub frames_first : (who : ℕ) (xs ys : List Origin) → AreWorked xs → frames_in zero who (xs ++ ys) ≡ frames_in zero who xs ++ frames_in zero who ys
frames_first who [] ys are = refl
frames_first who (Opened ∷ xs) ys are = absurd are
frames_first who (Worked other f asks ∷ xs) ys are =
    ap (λ (l : List Frame). cond (nat_eq other who) (f ∷ l) l) (frames_first who xs ys are) ∙ cond-append (nat_eq other who) f (frames_in zero who xs) (frames_in zero who ys)

pub frames_later : (opening who : ℕ) (xs ys : List Origin) → AreWorked xs → frames_in (suc opening) who (xs ++ ys) ≡ frames_in (suc opening) who ys
frames_later opening who [] ys are = refl
frames_later opening who (Opened ∷ xs) ys are = absurd are
frames_later opening who (Worked other f asks ∷ xs) ys are = frames_later opening who xs ys are

pub no_openings : (xs ys : List Origin) → AreWorked xs → openings_among (xs ++ ys) ≡ openings_among ys
no_openings [] ys are = refl
no_openings (Opened ∷ xs) ys are = absurd are
no_openings (Worked other f asks ∷ xs) ys are = no_openings xs ys are
