-- Each stream has one reading.
use Rattle.std.proofs.Common.{◌≡◌, ◌≤◌, ℕ, zero, suc, ◌+◌, ◌-◌, List, [], ◌∷◌, ◌++◌, length, take, drop, Option, Some, None, Result, Ok, inl, inr, refl, ap, ◌∙◌, sym, subst, arith, length-drop}
use Rattle.std.proofs.lemmas.Bool.{cases_lt}
use Rattle.std.proofs.lemmas.List.{take-append-drop, length-take-le, append_cancel_left}
use Rattle.commands.specs.Metadata.{size_at}
use Rattle.frames.specs.declared.fault.Fault.{Fault}
use Rattle.frames.specs.declared.fault.Fault.TheVariants.{TooLarge, BadSizes}
use Rattle.frames.specs.declared.frame.Frame.{Frame}
use Rattle.frames.specs.Frames.{largest_size, IsFrame}
use Rattle.frames.specs.Streams.{BeginsWith}
use Rattle.frames.specs.Reading.{IsWhole}
use Rattle.frames.specs.Laws.{IsEnd, StreamOf, HasReading, OneReading, NoFrameAtFault}
use Rattle.frames.proofs.Sizes.{size_at-more, second-more}
use Rattle.frames.proofs.Steps.{faulty-more}
use Rattle.frames.proofs.Entries.{take_front}
use Rattle.frames.proofs.Contents.{frame-verdict}
use Rattle.frames.proofs.Verdicts.{verdict, verdict-unfinished, verdict-frame, verdict-fault}

-- a rest isn't a whole frame
end-no_frame : (fault : Option Fault) (front behind : List ℕ) (frame : Frame) → IsFrame front frame → ¬ IsEnd fault (front ++ behind)
end-no_frame None front behind frame is h = let e = sym (verdict-unfinished (front ++ behind) h) ∙ verdict-frame front behind frame is in cc
end-no_frame (Some fault) front behind frame is h = let e = sym (verdict-fault fault (front ++ behind) h.0 h.1) ∙ verdict-frame front behind frame is in cc

pub no_frame_at_fault : NoFrameAtFault
no_frame_at_fault front next frame fault some is h = end-no_frame (Some fault) front next frame is (some, h)

-- one end is the other
same_end : (fault flaw : Option Fault) (rest : List ℕ) → IsEnd fault rest → IsEnd flaw rest → fault ≡ flaw
same_end None None rest h k = refl
same_end None (Some flaw) rest h k = let e = sym (verdict-unfinished rest h) ∙ verdict-fault flaw rest k.0 k.1 in cc
same_end (Some fault) None rest h k = let e = sym (verdict-unfinished rest k) ∙ verdict-fault fault rest h.0 h.1 in cc
same_end (Some fault) (Some flaw) rest h k =
    let e = sym (verdict-fault fault rest h.0 h.1) ∙ verdict-fault flaw rest k.0 k.1 in
    let same : fault ≡ flaw = cc in ap (λ f. Some f) same

abbrev AreFound : Frame → ℕ → Frame → ℕ → Type 0
AreFound f m g n = let left : Result (Option (Frame × ℕ)) Fault = Ok (Some (f, m)) in left ≡ Ok (Some (g, n))

same_found : (f : Frame) (m : ℕ) (g : Frame) (n : ℕ) → AreFound f m g n → (f ≡ g) × (m ≡ n)
same_found f m g n h = let e : (let left : Frame × ℕ = (f, m) in left ≡ (g, n)) = cc in (ap (λ p. p.0) e, ap (λ p. p.1) e)

-- two frames at one front are one
pub same_frame : (front next other rest : List ℕ) (frame twin : Frame) → IsFrame front frame → IsFrame other twin → front ++ next ≡ other ++ rest →
    (frame ≡ twin) × (front ≡ other) × (next ≡ rest)
same_frame front next other rest frame twin is k e =
    let both = sym (verdict-frame front next frame is) ∙ ap verdict e ∙ verdict-frame other rest twin k in
    let found = same_found frame (length front) twin (length other) both in
    let fronts : front ≡ other = sym (take_front (length front) front next refl) ∙ ap (take (length front)) e ∙ take_front (length front) other rest (sym found.1) in
    (found.0, fronts, append_cancel_left front next rest (e ∙ ap (λ l. l ++ rest) (sym fronts)))

one_way : (stream : List ℕ) (frames others : List Frame) (rest left : List ℕ) (fault flaw : Option Fault) →
    BeginsWith stream frames rest → IsEnd fault rest → BeginsWith stream others left → IsEnd flaw left →
    (frames ≡ others) × (rest ≡ left) × (fault ≡ flaw)
one_way stream [] [] rest left fault flaw h p k q =
    let same : rest ≡ left = sym h ∙ k in
    let P : List ℕ → Type 0 = IsEnd flaw in
    (refl, same, same_end fault flaw rest p (subst P (sym same) q))
one_way stream [] (other ∷ others) rest left fault flaw h p k q =
    let P : List ℕ → Type 0 = IsEnd fault in absurd (end-no_frame fault k.0 k.1 other k.3 (subst P (sym h ∙ k.2) p))
one_way stream (frame ∷ frames) [] rest left fault flaw h p k q =
    let P : List ℕ → Type 0 = IsEnd flaw in absurd (end-no_frame flaw h.0 h.1 frame h.3 (subst P (sym k ∙ h.2) q))
one_way stream (frame ∷ frames) (other ∷ others) rest left fault flaw h p k q =
    let same = same_frame h.0 h.1 k.0 k.1 frame other h.3 k.3 (sym h.2 ∙ k.2) in
    let P : List ℕ → Type 0 = λ l. BeginsWith l frames rest in
    let rests = one_way k.1 frames others rest left fault flaw (subst P same.2 h.4) p k.4 q in
    (cong₂ same.0 rests.0, rests.1, rests.2)
  where
    cong₂ : {f g : Frame} {fs gs : List Frame} → f ≡ g → fs ≡ gs → f ∷ fs ≡ g ∷ gs
    cong₂ a b = cc

pub one_reading : OneReading
one_reading stream frames others rest left fault flaw h k = one_way stream frames others rest left fault flaw h.begins h.ends k.begins k.ends

abbrev HasReadingOf : List ℕ → Type 0
HasReadingOf stream = (frames : List Frame) × (rest : List ℕ) × (fault : Option Fault) × StreamOf stream frames rest fault

ended : (stream : List ℕ) (fault : Option Fault) → IsEnd fault stream → HasReadingOf stream
ended stream fault h = ([], stream, fault, record { begins = refl; ends = h })

add_first : (front behind : List ℕ) (frame : Frame) → IsFrame front frame → HasReadingOf behind → HasReadingOf (front ++ behind)
add_first front behind frame is h = (frame ∷ h.0, h.1, h.2, record { begins = (front, behind, refl, is, h.3.begins); ends = h.3.ends })

-- the front of a stream that is whole by its sizes
whole_front : (stream : List ℕ) → 8 ≤ length stream → size_at stream ≤ largest_size →
    4 + size_at (drop 4 stream) ≤ size_at stream → 4 + size_at stream ≤ length stream → IsWhole (take (4 + size_at stream) stream)
whole_front stream long small agree whole =
    let front = take (4 + size_at stream) stream in
    let rest = drop (4 + size_at stream) stream in
    let is : front ++ rest ≡ stream = take-append-drop (4 + size_at stream) stream in
    let width : length front ≡ 4 + size_at stream = length-take-le (4 + size_at stream) stream whole in
    let known : 8 ≤ length front = omega arith in
    let first : size_at stream ≡ size_at front = sym (ap size_at is) ∙ size_at-more front rest (omega arith) in
    let second : size_at (drop 4 stream) ≡ size_at (drop 4 front) = sym (ap (λ l. size_at (drop 4 l)) is) ∙ second-more front rest known in
    record { known = known; small = rw (← first) small; agree = rw (← first, ← second) agree; all = width ∙ ap (λ n. 4 + n) first }

read_from : (room : ℕ) (stream : List ℕ) → length stream ≤ room → HasReadingOf stream
read_from zero stream fits =
    ended stream None (record { small = λ h. absurd (omega arith); agree = λ h. absurd (omega arith); cut = λ h. absurd (omega arith) })
read_from (suc room) stream fits =
    elim (cases_lt (length stream) 4) [
      | inl short ↦ ended stream None (record { small = λ h. absurd (omega arith); agree = λ h. absurd (omega arith); cut = λ h. absurd (omega arith) })
      | inr some ↦ elim (cases_lt largest_size (size_at stream)) [
        | inl large ↦ ended stream (Some TooLarge) (λ e. cc, record { known = some; large = large })
        | inr small ↦ elim (cases_lt (length stream) 8) [
          | inl short ↦ ended stream None (record { small = λ h. small; agree = λ h. absurd (omega arith); cut = λ h. absurd (omega arith) })
          | inr long ↦ elim (cases_lt (size_at stream) (4 + size_at (drop 4 stream))) [
            | inl disagree ↦ ended stream (Some BadSizes) (λ e. cc, record { known = long; small = small; disagree = disagree })
            | inr agree ↦ elim (cases_lt (length stream) (4 + size_at stream)) [
              | inl cut ↦ ended stream None (record { small = λ h. small; agree = λ h. agree; cut = λ h. cut })
              | inr whole ↦
                  let front = take (4 + size_at stream) stream in
                  let rest = drop (4 + size_at stream) stream in
                  let is : front ++ rest ≡ stream = take-append-drop (4 + size_at stream) stream in
                  let shorter : length rest ≡ length stream - (4 + size_at stream) = length-drop (4 + size_at stream) stream in
                  let P : List ℕ → Type 0 = HasReadingOf in
                  elim (frame-verdict front (whole_front stream long small agree whole)) [
                    | inl found ↦ subst P is (add_first front rest found.0 found.1 (read_from room rest (omega arith)))
                    | inr found ↦ subst P is (ended (front ++ rest) (Some found.0) (found.1, faulty-more found.0 front rest found.2))
                  ]
            ]
          ]
        ]
      ]
    ]

pub has_reading : HasReading
has_reading stream = read_from (length stream) stream (omega arith)
