-- Reading a stream step by step.
use Rattle.std.proofs.Common.{◌≡◌, ◌≤◌, ℕ, List, [], ◌∷◌, ◌++◌, length, take, drop, Ok, Err, inl, inr, refl, ap, ◌∙◌, sym, subst, arith, append_assoc, append-nil, length-append}
use Rattle.std.proofs.lemmas.List.{take-append-drop}
use Rattle.frames.specs.declared.fault.Fault.{Fault}
use Rattle.frames.specs.declared.fault.Fault.TheVariants.{TooLarge, BadSizes, Unreadable, Missing, BadPayload, NoMemory}
use Rattle.frames.specs.declared.frame.Frame.{Frame}
use Rattle.frames.specs.Frames.{IsFrame}
use Rattle.frames.specs.Faults.{FrontIs, IsFaulty, IsUnreadable, IsMissing, IsBadPayload}
use Rattle.frames.specs.Streams.{BeginsWith, IsUnfinished, Adds}
use Rattle.frames.specs.Taking.{Takes}
use Rattle.frames.proofs.Sizes.{size_at-more, second-more}

front-more : (P : List ℕ → List ℕ → Type 0) (rest more : List ℕ) → FrontIs P rest → FrontIs P (rest ++ more)
front-more P rest more h = record {
  front = h.front;
  next = h.next ++ more;
  command = h.command;
  behind = h.behind;
  whole = ap (λ l. l ++ more) h.whole ∙ append_assoc h.front h.next more;
  sized = h.sized;
  is = h.is;
}

-- a fault is shown whatever follows
pub faulty-more : (fault : Fault) (rest more : List ℕ) → IsFaulty fault rest → IsFaulty fault (rest ++ more)
faulty-more TooLarge rest more h =
    let known : 4 ≤ length rest = h.known in
    let total = length-append rest more in
    record { known = omega arith; large = rw size_at-more h.large }
faulty-more BadSizes rest more h =
    let known : 8 ≤ length rest = h.known in
    let first : 4 ≤ length rest = omega arith in
    let total = length-append rest more in
    record {
      known = omega arith;
      small = rw (size_at-more rest more first) h.small;
      disagree = rw (size_at-more rest more first, second-more rest more known) h.disagree;
    }
faulty-more Unreadable rest more h = front-more (λ command behind. IsUnreadable command) rest more h
faulty-more Missing rest more h = front-more (λ command behind. IsMissing command) rest more h
faulty-more BadPayload rest more h = front-more IsBadPayload rest more h
faulty-more NoMemory rest more h = tt

-- one frame more
begins-push : (stream : List ℕ) (frames : List Frame) (frame : Frame) (front behind : List ℕ) → IsFrame front frame →
    BeginsWith stream frames (front ++ behind) → BeginsWith stream (frames ++ frame ∷ []) behind
begins-push stream [] frame front behind is h = (front, behind, h, is, refl)
begins-push stream (first ∷ frames) frame front behind is h = (h.0, h.1, h.2, h.3, begins-push h.1 frames frame front behind is h.4)

pub adds-none : (stream : List ℕ) (old : List Frame) → Adds stream old old stream
adds-none stream old = record { added = []; gains = sym (append-nil old); begins = refl }

adds-push : {stream : List ℕ} {old now : List Frame} (frame : Frame) (front behind : List ℕ) → IsFrame front frame →
    Adds stream old now (front ++ behind) → Adds stream old (now ++ frame ∷ []) behind
adds-push {stream} {old} {now} frame front behind is h = record {
  added = h.added ++ frame ∷ [];
  gains = ap (λ l. l ++ frame ∷ []) h.gains ∙ append_assoc old h.added (frame ∷ []);
  begins = begins-push stream h.added frame front behind is h.begins;
}

pub unfinished-none : IsUnfinished []
unfinished-none = record { small = λ h. absurd (omega arith); agree = λ h. absurd (omega arith); cut = λ h. absurd (omega arith) }

-- what is known between two steps: so many frames are added, and then come the unfinished frame's bytes and the rest of the piece
pub record Midway (stream : List ℕ) (old now : List Frame) (unfinished rest : List ℕ) : Type 0 where
  pub adds : Adds stream old now (unfinished ++ rest)
  pub is : IsUnfinished unfinished

pub midway-start : (unfinished piece : List ℕ) (old : List Frame) → IsUnfinished unfinished → Midway (unfinished ++ piece) old old unfinished piece
midway-start unfinished piece old h = record { adds = adds-none (unfinished ++ piece) old; is = h }

cut_at : (unfinished rest : List ℕ) (taken : ℕ) → unfinished ++ rest ≡ (unfinished ++ take taken rest) ++ drop taken rest
cut_at unfinished rest taken = ap (λ l. unfinished ++ l) (sym (take-append-drop taken rest)) ∙ sym (append_assoc unfinished (take taken rest) (drop taken rest))

pub midway-step : {stream unfinished rest : List ℕ} {old now : List Frame} (taken : ℕ) (kept : List ℕ) (new : List Frame) →
    Midway stream old now unfinished rest → Takes unfinished rest now (Ok taken) kept new → Midway stream old new kept (drop taken rest)
midway-step {stream} {unfinished} {rest} {old} {now} taken kept new h step =
    let P : List ℕ → Type 0 = λ l. Adds stream old now l in
    let before : Adds stream old now ((unfinished ++ take taken rest) ++ drop taken rest) = subst P (cut_at unfinished rest taken) h.adds in
    elim step.2 [
      | inl w ↦
          let whole : Adds stream old new (kept ++ drop taken rest) = rw (w.keeps, w.adds_none) before in
          let is : IsUnfinished kept = rw w.keeps w.unfinished in
          record { adds = whole; is = is }
      | inr w ↦
          let whole : Adds stream old new (kept ++ drop taken rest) = rw (w.keeps_none, w.adds) (adds-push w.frame _ (drop taken rest) w.is before) in
          let is : IsUnfinished kept = rw w.keeps_none unfinished-none in
          record { adds = whole; is = is }
    ]

pub midway-fault : {stream unfinished rest : List ℕ} {old now : List Frame} (fault : Fault) (kept : List ℕ) (new : List Frame) →
    Midway stream old now unfinished rest → Takes unfinished rest now (Err fault) kept new → (left : List ℕ) × Adds stream old new left × IsFaulty fault left
midway-fault {stream} {unfinished} {rest} {old} {now} fault kept new h step =
    let P : List ℕ → Type 0 = λ l. Adds stream old now l in
    let before : Adds stream old now ((unfinished ++ take step.1 rest) ++ drop step.1 rest) = subst P (cut_at unfinished rest step.1) h.adds in
    ((unfinished ++ take step.1 rest) ++ drop step.1 rest, rw step.0 before, faulty-more fault _ (drop step.1 rest) step.2)

pub midway-end : {stream unfinished rest : List ℕ} {old now : List Frame} → Midway stream old now unfinished rest → rest ≡ [] → Adds stream old now unfinished × IsUnfinished unfinished
midway-end {stream} {unfinished} {rest} {old} {now} h e =
    let P : List ℕ → Type 0 = λ l. Adds stream old now l in
    (subst P (ap (λ l. unfinished ++ l) e ∙ append-nil unfinished) h.adds, h.is)
