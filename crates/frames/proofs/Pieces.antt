-- However a stream is cut into pieces, it is read as one.
use Rattle.std.proofs.Common.{◌≡◌, ◌≢◌, ℕ, List, [], ◌∷◌, ◌++◌, Option, Some, None, Result, Ok, Err, MatchOption, refl, ap, ◌∙◌, sym, subst, append_assoc, append-nil}
use Rattle.frames.specs.declared.fault.Fault.{Fault}
use Rattle.frames.specs.declared.fault.Fault.TheVariants.{NoMemory}
use Rattle.frames.specs.declared.frame.Frame.{Frame}
use Rattle.frames.specs.Faults.{IsFaulty}
use Rattle.frames.specs.Streams.{BeginsWith, IsUnfinished, Adds, Progress, at_start, Feeds, FeedsOn}
use Rattle.frames.specs.Laws.{StreamOf, joined, FeedsAll, HasRead, AnyPieces, AnyCut}
use Rattle.frames.proofs.Steps.{faulty-more, unfinished-none}
use Rattle.frames.proofs.Readings.{one_reading}

-- more bytes behind the rest
begins-more : (stream more : List ℕ) (frames : List Frame) (rest : List ℕ) → BeginsWith stream frames rest → BeginsWith (stream ++ more) frames (rest ++ more)
begins-more stream more [] rest h = ap (λ l. l ++ more) h
begins-more stream more (frame ∷ frames) rest h =
    (h.0, h.1 ++ more, ap (λ l. l ++ more) h.2 ∙ append_assoc h.0 h.1 more, h.3, begins-more h.1 more frames rest h.4)

-- more frames at the front of the rest
begins-append : (stream : List ℕ) (frames others : List Frame) (rest left : List ℕ) → BeginsWith stream frames rest → BeginsWith rest others left →
    BeginsWith stream (frames ++ others) left
begins-append stream [] others rest left h k = let P : List ℕ → Type 0 = λ l. BeginsWith l others left in subst P (sym h) k
begins-append stream (frame ∷ frames) others rest left h k = (h.0, h.1, h.2, h.3, begins-append h.1 frames others rest left h.4 k)

begins-adds : (stream piece rest : List ℕ) (frames new : List Frame) (left : List ℕ) → BeginsWith stream frames rest → Adds (rest ++ piece) frames new left →
    BeginsWith (stream ++ piece) new left
begins-adds stream piece rest frames new left h k =
    let P : List Frame → Type 0 = λ l. BeginsWith (stream ++ piece) l left in
    subst P (sym k.gains) (begins-append (stream ++ piece) frames k.added (rest ++ piece) left (begins-more stream piece frames rest h) k.begins)

read-piece : (stream piece rest : List ℕ) (frames new : List Frame) (result : Result (Unit {0}) Fault) (now : Progress) →
    BeginsWith stream frames rest → Feeds (rest ++ piece) frames new result now → HasRead (stream ++ piece) new now
read-piece stream piece rest frames new (Ok u) now h k = rw k.2 (begins-adds stream piece rest frames new now.rest h k.0, k.1)
read-piece stream piece rest frames new (Err fault) now h k =
    let P : Progress → Type 0 = λ p. HasRead (stream ++ piece) new p in
    subst P (sym k.3) (refl, k.0, begins-adds stream piece rest frames new k.0 h k.1, k.2)

-- a parser that has read a stream, and is fed a piece, has read both
fed : (stream piece : List ℕ) (frames new : List Frame) (result : Result (Unit {0}) Fault) (old now : Progress) →
    HasRead stream frames old → FeedsOn old piece frames new result now → HasRead (stream ++ piece) new now
fed stream piece frames new result old now h k = by_fault old.fault refl h k
  where
    stays : (fault : Fault) → old.fault ≡ Some fault → (old.rest ≡ []) × (left : List ℕ) × BeginsWith stream frames left × IsFaulty fault left → HasRead (stream ++ piece) frames old
    stays fault e p = rw e (p.0, p.1 ++ piece, begins-more stream piece frames p.1 p.2, faulty-more fault p.1 piece p.3)

    by_fault : (fault : Option Fault) → old.fault ≡ fault →
        MatchOption fault (BeginsWith stream frames old.rest × IsUnfinished old.rest) (λ fault. (old.rest ≡ []) × (left : List ℕ) × BeginsWith stream frames left × IsFaulty fault left) →
        MatchOption fault (Feeds (old.rest ++ piece) frames new result now) (λ fault. (result ≡ Err fault) × (new ≡ frames) × (now ≡ old)) →
        HasRead (stream ++ piece) new now
    by_fault None e p q = read-piece stream piece old.rest frames new result now p.0 q
    by_fault (Some fault) e p q =
        let P : Progress → Type 0 = λ n. HasRead (stream ++ piece) new n in
        let Q : List Frame → Type 0 = λ f. HasRead (stream ++ piece) f old in
        subst P (sym q.2) (subst Q (sym q.1) (stays fault e p))

fed-all : (pieces : List (List ℕ)) (stream : List ℕ) (frames new : List Frame) (old now : Progress) →
    HasRead stream frames old → FeedsAll old pieces frames new now → HasRead (stream ++ joined pieces) new now
fed-all [] stream frames new old now h k =
    let P : Progress → Type 0 = λ n. HasRead (stream ++ []) new n in
    let Q : List Frame → Type 0 = λ f. HasRead (stream ++ []) f old in
    let R : List ℕ → Type 0 = λ s. HasRead s frames old in
    subst P (sym k.1) (subst Q (sym k.0) (subst R (sym (append-nil stream)) h))
fed-all (piece ∷ pieces) stream frames new old now h k =
    let R : List ℕ → Type 0 = λ s. HasRead s new now in
    subst R (append_assoc stream piece (joined pieces)) (
    fed-all pieces (stream ++ piece) k.0 new k.1 now (fed stream piece frames k.0 k.2 old k.1 h k.3) k.4)

pub any_pieces : AnyPieces
any_pieces pieces frames now h = fed-all pieces [] [] frames at_start now (refl, unfinished-none) h

-- what the parser keeps of what is left
abbrev kept : Option Fault → List ℕ → List ℕ
kept None left = left
kept (Some fault) left = []

-- what a parser has read is the reading of the stream, unless memory ran out
record Reads (stream : List ℕ) (frames : List Frame) (now : Progress) : Type 0 where
  left : List ℕ
  is : StreamOf stream frames left now.fault
  keeps : now.rest ≡ kept now.fault left

reads : (stream : List ℕ) (frames : List Frame) (now : Progress) → HasRead stream frames now → now.fault ≢ Some NoMemory → Reads stream frames now
reads stream frames now h some = by_fault now.fault refl h
  where
    by_fault : (fault : Option Fault) → now.fault ≡ fault →
        MatchOption fault (BeginsWith stream frames now.rest × IsUnfinished now.rest) (λ fault. (now.rest ≡ []) × (left : List ℕ) × BeginsWith stream frames left × IsFaulty fault left) →
        Reads stream frames now
    by_fault None e p = record { left = now.rest; is = rw e (record { begins = p.0; ends = p.1 }); keeps = rw e refl }
    by_fault (Some fault) e p =
        record { left = p.1; is = rw e (record { begins = p.2; ends = (λ k. some (e ∙ ap (λ f. Some f) k), p.3) }); keeps = rw e p.0 }

pub any_cut : AnyCut
any_cut pieces cuts frames others now then h k e some more =
    let R : List ℕ → Type 0 = λ s. HasRead s others then in
    let one = reads (joined pieces) frames now (any_pieces pieces frames now h) some in
    let other = reads (joined pieces) others then (subst R (sym e) (any_pieces cuts others then k)) more in
    let same = one_reading (joined pieces) frames others one.left other.left now.fault then.fault one.is other.is in
    let rest : now.rest ≡ then.rest = one.keeps ∙ ap (kept now.fault) same.1 ∙ ap (λ f. kept f other.left) same.2 ∙ sym other.keeps in
    (same.0, λ i. record { rest = rest i; fault = same.2 i })
