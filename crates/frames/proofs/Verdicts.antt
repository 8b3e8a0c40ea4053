-- What stands at the front of a stream, as a function: so no two things can.
use Rattle.std.proofs.Common.{◌≡◌, ◌≢◌, ◌≤◌, ℕ, ◌+◌, ◌-◌, List, ◌++◌, length, take, drop, Option, Some, None, Result, Ok, Err, cond, nat_lt, refl, ap, ◌∙◌, sym, arith, append_assoc, length-append}
use Rattle.std.proofs.lemmas.Bool.{cases_lt, le-ltb, lt-ltb}
use Rattle.std.proofs.Common.{inl, inr}
use Rattle.std.specs.Int.{w32, from_be_bytes}
use Rattle.commands.specs.declared.command.Command.{Command}
use Rattle.commands.specs.declared.fault.CommandFault.{CommandFault}
use Rattle.commands.specs.declared.fault.CommandFault.TheVariants as command_fault
use Rattle.commands.specs.Commands.{command_of}
use Rattle.commands.specs.Metadata.{size_at}
use Rattle.frames.specs.declared.fault.Fault.{Fault}
use Rattle.frames.specs.declared.fault.Fault.TheVariants.{TooLarge, BadSizes, Unreadable, Missing, BadPayload, NoMemory}
use Rattle.frames.specs.declared.frame.Frame.{Frame}
use Rattle.frames.specs.declared.frame.FrameEntry.{FrameEntry}
use Rattle.frames.specs.Frames.{largest_size, IsSized, IsFrame, IsEntry}
use Rattle.frames.specs.Faults.{IsFaulty, IsUnreadable, IsMissing, IsBadPayload}
use Rattle.frames.specs.Streams.{IsUnfinished}
use Rattle.frames.specs.Reading.{entry_behind}
use Rattle.frames.proofs.Entries.{take_front, drop_front, entry-from, entry-to}

-- a frame and its length, none where it isn't whole, or a fault
abbrev Verdict : Type 0
Verdict = Result (Option (Frame × ℕ)) Fault

entered : Command → Result FrameEntry Fault → ℕ → Verdict
entered command (Ok entry) n = Ok (Some (record { command = command; entry = entry }, n))
entered command (Err fault) n = Err BadPayload

decided : Result Command CommandFault → List ℕ → ℕ → Verdict
decided (Ok command) behind n = entered command (entry_behind command behind) n
decided (Err command_fault.Unreadable) behind n = Err Unreadable
decided (Err command_fault.Missing) behind n = Err Missing
decided (Err command_fault.NoMemory) behind n = Err Unreadable

inside : List ℕ → Verdict
inside stream =
    decided (command_of (take (size_at (drop 4 stream)) (drop 8 stream)))
    (take (size_at stream - (4 + size_at (drop 4 stream))) (drop (size_at (drop 4 stream)) (drop 8 stream)))
    (4 + size_at stream)

pub verdict : List ℕ → Verdict
verdict stream =
    cond (nat_lt (length stream) 4) (Ok None)
    (cond (nat_lt largest_size (size_at stream)) (Err TooLarge)
    (cond (nat_lt (length stream) 8) (Ok None)
    (cond (nat_lt (size_at stream) (4 + size_at (drop 4 stream))) (Err BadSizes)
    (cond (nat_lt (length stream) (4 + size_at stream)) (Ok None) (inside stream)))))

pub verdict-unfinished : (rest : List ℕ) → IsUnfinished rest → verdict rest ≡ Ok None
unfolding verdict
verdict-unfinished rest h =
    elim (cases_lt (length rest) 4) [
      | inl short ↦ rw (lt-ltb _ _ short) refl
      | inr some ↦
          let a = le-ltb (length rest) 4 some in
          let b = le-ltb largest_size (size_at rest) (h.small some) in
          elim (cases_lt (length rest) 8) [
            | inl short ↦ rw (a, b, lt-ltb (length rest) 8 short) refl
            | inr long ↦
                let c = le-ltb (length rest) 8 long in
                let d = le-ltb (size_at rest) (4 + size_at (drop 4 rest)) (h.agree long) in
                let e = lt-ltb (length rest) (4 + size_at rest) (h.cut long) in
                rw (a, b, c, d, e) refl
          ]
    ]

-- the sizes at the front of a whole frame, whatever follows, tell its parts
verdict-sized : (stream front next command behind : List ℕ) → stream ≡ front ++ next → IsSized front command behind →
    verdict stream ≡ decided (command_of command) behind (length front)
unfolding verdict inside
verdict-sized stream front next command behind is h =
    let whole : stream ≡ h.size ++ (h.command_size ++ (command ++ (behind ++ next))) = is ∙ ap (λ l. l ++ next) h.whole ∙ simp append_assoc in
    let total : length front ≡ 8 + length command + length behind =
    ap length h.whole ∙ simp length-append (let a = h.size_width in let b = h.command_size_width in omega arith) in
    let all : length stream ≡ length front + length next = ap length is ∙ length-append front next in
    let first : take 4 stream ≡ h.size = rw whole (take_front 4 h.size _ h.size_width) in
    let behind_first : drop 4 stream ≡ h.command_size ++ (command ++ (behind ++ next)) = rw whole (drop_front 4 h.size _ h.size_width) in
    let second : take 4 (drop 4 stream) ≡ h.command_size = rw behind_first (take_front 4 h.command_size _ h.command_size_width) in
    let head : length (h.size ++ h.command_size) ≡ 8 = simp length-append (let a = h.size_width in let b = h.command_size_width in omega arith) in
    let content : drop 8 stream ≡ command ++ (behind ++ next) =
    ap (drop 8) (whole ∙ sym (append_assoc h.size h.command_size (command ++ (behind ++ next)))) ∙ drop_front 8 (h.size ++ h.command_size) (command ++ (behind ++ next)) head in
    let size_is : size_at stream ≡ 4 + length command + length behind = ap (λ b. from_be_bytes w32 b) first ∙ h.size_is in
    let command_size_is : size_at (drop 4 stream) ≡ length command = ap (λ b. from_be_bytes w32 b) second ∙ h.command_size_is in
    let small : size_at stream ≤ largest_size = rw first h.small in
    let a = le-ltb (length stream) 4 (omega arith) in
    let b = le-ltb largest_size (size_at stream) small in
    let c = le-ltb (length stream) 8 (omega arith) in
    let d = le-ltb (size_at stream) (4 + size_at (drop 4 stream)) (omega arith) in
    let e = le-ltb (length stream) (4 + size_at stream) (omega arith) in
    let command_part : take (size_at (drop 4 stream)) (drop 8 stream) ≡ command = rw (command_size_is, content) (take_front _ command (behind ++ next) refl) in
    let rest_part : drop (size_at (drop 4 stream)) (drop 8 stream) ≡ behind ++ next = rw (command_size_is, content) (drop_front _ command (behind ++ next) refl) in
    let left : size_at stream - (4 + size_at (drop 4 stream)) ≡ length behind = omega arith in
    let behind_part : take (size_at stream - (4 + size_at (drop 4 stream))) (drop (size_at (drop 4 stream)) (drop 8 stream)) ≡ behind =
    rw (left, rest_part) (take_front _ behind next refl) in
    let width : 4 + size_at stream ≡ length front = omega arith in
    rw (a, b, c, d, e) (rw (command_part, behind_part, width) refl)

pub verdict-frame : (front next : List ℕ) (frame : Frame) → IsFrame front frame → verdict (front ++ next) ≡ Ok (Some (frame, length front))
unfolding decided entered
verdict-frame front next frame h =
    verdict-sized (front ++ next) front next h.command h.behind refl h.sized ∙
    rw h.command_is (rw (entry-to frame.command h.behind frame.entry h.entry_is) refl)

unreadable : (command behind : List ℕ) (n : ℕ) → IsUnreadable command → (r : Result Command CommandFault) → command_of command ≡ r → decided r behind n ≡ Err Unreadable
unfolding decided
unreadable command behind n k (Ok value) e = absurd (k.no_value value e)
unreadable command behind n k (Err command_fault.Unreadable) e = refl
unreadable command behind n k (Err command_fault.Missing) e = absurd (k.no_missing e)
unreadable command behind n k (Err command_fault.NoMemory) e = refl

missing : (command behind : List ℕ) (n : ℕ) → IsMissing command → decided (command_of command) behind n ≡ Err Missing
unfolding decided
missing command behind n k = rw k refl

no_entry_entered : (command : Command) (behind : List ℕ) (n : ℕ) → ((entry : FrameEntry) → ¬ IsEntry command behind entry) →
    (r : Result FrameEntry Fault) → entry_behind command behind ≡ r → entered command r n ≡ Err BadPayload
unfolding entered
no_entry_entered command behind n none (Ok entry) e = absurd (none entry (entry-from command behind entry e))
no_entry_entered command behind n none (Err fault) e = refl

bad_payload : (command behind : List ℕ) (n : ℕ) → IsBadPayload command behind → decided (command_of command) behind n ≡ Err BadPayload
unfolding decided
bad_payload command behind n k = rw k.value_is (no_entry_entered k.value behind n k.no_entry (entry_behind k.value behind) refl)

pub verdict-fault : (fault : Fault) (rest : List ℕ) → fault ≢ NoMemory → IsFaulty fault rest → verdict rest ≡ Err fault
unfolding verdict
verdict-fault TooLarge rest some h =
    let a = le-ltb (length rest) 4 h.known in
    let b = lt-ltb largest_size (size_at rest) h.large in
    rw (a, b) refl
verdict-fault BadSizes rest some h =
    let known : 8 ≤ length rest = h.known in
    let a = le-ltb (length rest) 4 (omega arith) in
    let b = le-ltb largest_size (size_at rest) h.small in
    let c = le-ltb (length rest) 8 known in
    let d = lt-ltb (size_at rest) (4 + size_at (drop 4 rest)) h.disagree in
    rw (a, b, c, d) refl
verdict-fault Unreadable rest some h =
    verdict-sized rest h.front h.next h.command h.behind h.whole h.sized ∙ unreadable h.command h.behind (length h.front) h.is (command_of h.command) refl
verdict-fault Missing rest some h =
    verdict-sized rest h.front h.next h.command h.behind h.whole h.sized ∙ missing h.command h.behind (length h.front) h.is
verdict-fault BadPayload rest some h =
    verdict-sized rest h.front h.next h.command h.behind h.whole h.sized ∙ bad_payload h.command h.behind (length h.front) h.is
verdict-fault NoMemory rest some h = absurd (some refl)
