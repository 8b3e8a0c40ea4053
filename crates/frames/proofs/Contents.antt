-- A frame that is whole by its sizes: what it says, or which fault it shows.
use Rattle.std.proofs.Common.{◌≡◌, ◌≢◌, ◌≤◌, ℕ, ◌+◌, ◌-◌, List, [], ◌++◌, length, take, drop, Result, Ok, Err, ◌⊎◌, inl, inr, refl, ap, ◌∙◌, sym, subst, arith, append_assoc, append-nil, length-drop}
use Rattle.std.proofs.lemmas.List.{take-append-drop, length-take-le, drop-drop}
use Rattle.commands.specs.declared.command.Command.{Command}
use Rattle.commands.specs.declared.fault.CommandFault.{CommandFault}
use Rattle.commands.specs.declared.fault.CommandFault.TheVariants as command_fault
use Rattle.commands.specs.Commands.{command_of}
use Rattle.commands.specs.Metadata.{size_at}
use Rattle.frames.specs.declared.fault.Fault.{Fault}
use Rattle.frames.specs.declared.fault.Fault.TheVariants.{TooLarge, BadSizes, Unreadable, Missing, BadPayload, NoMemory}
use Rattle.frames.specs.declared.frame.Frame.{Frame}
use Rattle.frames.specs.declared.frame.FrameEntry.{FrameEntry}
use Rattle.frames.specs.Frames.{IsSized, IsFrame}
use Rattle.frames.specs.Faults.{IsFaulty, FrontIs, IsUnreadable, IsMissing, IsBadPayload}
use Rattle.frames.specs.Reading.{◌>>=◌, fault_of, read_as_command, entry_behind, frame_of, IsWhole, Reads}
use Rattle.frames.proofs.Entries.{bind_ok, entry-from, entry-to, entry-fault}

abbrev command_part : List ℕ → List ℕ
command_part bytes = take (size_at (drop 4 bytes)) (drop 8 bytes)

abbrev behind_part : List ℕ → List ℕ
behind_part bytes = drop (8 + size_at (drop 4 bytes)) bytes

-- its sizes tell the parts
pub sized_parts : (bytes : List ℕ) → IsWhole bytes → IsSized bytes (command_part bytes) (behind_part bytes)
sized_parts bytes h =
    let known : 8 ≤ length bytes = h.known in
    let agree : 4 + size_at (drop 4 bytes) ≤ size_at bytes = h.agree in
    let all : length bytes ≡ 4 + size_at bytes = h.all in
    let rest : length (drop 4 bytes) ≡ length bytes - 4 = length-drop 4 bytes in
    let content : length (drop 8 bytes) ≡ length bytes - 8 = length-drop 8 bytes in
    let first : length (take 4 bytes) ≡ 4 = length-take-le 4 bytes (omega arith) in
    let second : length (take 4 (drop 4 bytes)) ≡ 4 = length-take-le 4 (drop 4 bytes) (omega arith) in
    let command : length (command_part bytes) ≡ size_at (drop 4 bytes) = length-take-le (size_at (drop 4 bytes)) (drop 8 bytes) (omega arith) in
    let behind : length (behind_part bytes) ≡ length bytes - (8 + size_at (drop 4 bytes)) = length-drop (8 + size_at (drop 4 bytes)) bytes in
    let inner : command_part bytes ++ behind_part bytes ≡ drop 8 bytes =
    ap (λ b. command_part bytes ++ b) (sym (drop-drop (size_at (drop 4 bytes)) 8 bytes)) ∙ take-append-drop (size_at (drop 4 bytes)) (drop 8 bytes) in
    let middle : take 4 (drop 4 bytes) ++ drop 8 bytes ≡ drop 4 bytes = rw (← drop-drop 4 4 bytes) (take-append-drop 4 (drop 4 bytes)) in
    let whole : take 4 bytes ++ (take 4 (drop 4 bytes) ++ (command_part bytes ++ behind_part bytes)) ≡ bytes =
    rw inner (rw middle (take-append-drop 4 bytes)) in
    record {
      size = take 4 bytes;
      command_size = take 4 (drop 4 bytes);
      whole = sym whole ∙ sym (simp append_assoc);
      size_width = first;
      command_size_width = second;
      size_is = omega arith;
      command_size_is = sym command;
      small = h.small;
    }

read_as_command-ok : (r : Result Command CommandFault) (command : Command) → read_as_command r ≡ Ok command → r ≡ Ok command
read_as_command-ok (Ok x) command h = let e : x ≡ command = cc in ap (λ z. Ok z) e
read_as_command-ok (Err e) command h = cc

abbrev IsOkOf : Frame → Frame → Type 0
IsOkOf f g = let left : Result Frame Fault = Ok f in left ≡ Ok g

same_frame : (f g : Frame) → IsOkOf f g → f ≡ g
same_frame f g h = cc

-- a frame that is read is a frame
pub frame-is : (bytes : List ℕ) (frame : Frame) → IsWhole bytes → frame_of bytes ≡ Ok frame → IsFrame bytes frame
unfolding frame_of
frame-is bytes frame whole h =
    let command = bind_ok (read_as_command (command_of (command_part bytes))) _ _ h in
    let entry = bind_ok (entry_behind command.0 (behind_part bytes)) _ _ command.2 in
    let P : Frame → Type 0 = IsFrame bytes in
    subst P (same_frame _ _ entry.2) (record {
      command = command_part bytes;
      behind = behind_part bytes;
      sized = sized_parts bytes whole;
      command_is = read_as_command-ok _ _ command.1;
      entry_is = entry-from command.0 (behind_part bytes) entry.0 entry.1;
    })

abbrev CommandFails : List ℕ → Fault → Type 0
CommandFails bytes fault = (e : CommandFault) × (command_of (command_part bytes) ≡ Err e) × (fault_of e ≡ fault)

abbrev EntryFails : List ℕ → Fault → Type 0
EntryFails bytes fault = (command : Command) × (command_of (command_part bytes) ≡ Ok command) × (entry_behind command (behind_part bytes) ≡ Err fault)

-- the step at which reading failed
failed_at : (bytes : List ℕ) (fault : Fault) → frame_of bytes ≡ Err fault → CommandFails bytes fault ⊎ EntryFails bytes fault
unfolding frame_of
failed_at bytes fault h = by_command (command_of (command_part bytes)) refl h
  where
    by_entry : (command : Command) (r : Result FrameEntry Fault) → (let done : FrameEntry → Result Frame Fault = λ entry. Ok (record { command = command; entry = entry }) in (r >>= done) ≡ Err fault) → r ≡ Err fault
    by_entry command (Ok x) k = cc
    by_entry command (Err e) k = let same : e ≡ fault = cc in ap (λ z. Err z) same

    by_command : (r : Result Command CommandFault) → command_of (command_part bytes) ≡ r →
        (let next : Command → Result Frame Fault = λ command. entry_behind command (behind_part bytes) >>= λ entry. Ok (record { command = command; entry = entry }) in (read_as_command r >>= next) ≡ Err fault) →
        CommandFails bytes fault ⊎ EntryFails bytes fault
    by_command (Ok command) e k = inr (command, e, by_entry command (entry_behind command (behind_part bytes)) k)
    by_command (Err e) f k = let same : fault_of e ≡ fault = cc in inl (e, f, same)

-- what is known of a whole frame's parts, as a fact about its front
front_is : (P : List ℕ → List ℕ → Type 0) (bytes : List ℕ) → IsWhole bytes → P (command_part bytes) (behind_part bytes) → FrontIs P bytes
front_is P bytes whole h = record {
  front = bytes;
  next = [];
  command = command_part bytes;
  behind = behind_part bytes;
  whole = sym (append-nil bytes);
  sized = sized_parts bytes whole;
  is = h;
}

command-fault : (bytes : List ℕ) (e : CommandFault) → IsWhole bytes → fault_of e ≢ NoMemory → command_of (command_part bytes) ≡ Err e → IsFaulty (fault_of e) bytes
command-fault bytes command_fault.Unreadable whole some h =
    front_is (λ command behind. IsUnreadable command) bytes whole (record { no_value = λ value k. let e = sym h ∙ k in cc; no_missing = λ k. let e = sym h ∙ k in cc })
command-fault bytes command_fault.Missing whole some h = front_is (λ command behind. IsMissing command) bytes whole h
command-fault bytes command_fault.NoMemory whole some h = absurd (some refl)

-- a fault of reading is shown by the bytes
pub frame-fault : (bytes : List ℕ) (fault : Fault) → IsWhole bytes → fault ≢ NoMemory → frame_of bytes ≡ Err fault → IsFaulty fault bytes
frame-fault bytes fault whole some h =
    let P : Fault → Type 0 = λ f. IsFaulty f bytes in
    elim (failed_at bytes fault h) [
      | inl k ↦ subst P k.2 (command-fault bytes k.0 whole (λ e. some (sym k.2 ∙ e)) k.1)
      | inr k ↦
          subst P (sym (entry-fault k.0 (behind_part bytes) fault k.2)) (
          front_is IsBadPayload bytes whole (record {
            value = k.0;
            value_is = k.1;
            no_entry = λ entry is. let e = sym k.2 ∙ entry-to k.0 (behind_part bytes) entry is in cc;
          }))
    ]

-- what a function returned that reads a frame
pub frame-refused : (bytes : List ℕ) (fault : Fault) → IsWhole bytes → Reads (Err fault) (frame_of bytes) → IsFaulty fault bytes
frame-refused bytes TooLarge whole h = frame-fault bytes TooLarge whole (λ e. cc) h
frame-refused bytes BadSizes whole h = frame-fault bytes BadSizes whole (λ e. cc) h
frame-refused bytes Unreadable whole h = frame-fault bytes Unreadable whole (λ e. cc) h
frame-refused bytes Missing whole h = frame-fault bytes Missing whole (λ e. cc) h
frame-refused bytes BadPayload whole h = frame-fault bytes BadPayload whole (λ e. cc) h
frame-refused bytes NoMemory whole h = tt

-- a whole frame is a frame, or shows a fault
pub frame-verdict : (bytes : List ℕ) → IsWhole bytes → ((frame : Frame) × IsFrame bytes frame) ⊎ ((fault : Fault) × (fault ≢ NoMemory) × IsFaulty fault bytes)
frame-verdict bytes whole = by_result (frame_of bytes) refl
  where
    refused : (fault : Fault) → CommandFails bytes fault ⊎ EntryFails bytes fault → (fault : Fault) × (fault ≢ NoMemory) × IsFaulty fault bytes
    refused fault (inl (command_fault.Unreadable, e, is)) = (Unreadable, λ k. cc, command-fault bytes command_fault.Unreadable whole (λ k. cc) e)
    refused fault (inl (command_fault.Missing, e, is)) = (Missing, λ k. cc, command-fault bytes command_fault.Missing whole (λ k. cc) e)
    refused fault (inl (command_fault.NoMemory, e, is)) = (
      Unreadable,
      λ k. cc,
      front_is (λ command behind. IsUnreadable command) bytes whole (record { no_value = λ value k. let f = sym e ∙ k in cc; no_missing = λ k. let f = sym e ∙ k in cc }),
    )
    refused fault (inr (command, e, is)) = (
      BadPayload,
      λ k. cc,
      front_is IsBadPayload bytes whole (record { value = command; value_is = e; no_entry = λ entry k. let f = sym is ∙ entry-to command (behind_part bytes) entry k in cc }),
    )

    by_result : (r : Result Frame Fault) → frame_of bytes ≡ r → ((frame : Frame) × IsFrame bytes frame) ⊎ ((fault : Fault) × (fault ≢ NoMemory) × IsFaulty fault bytes)
    by_result (Ok frame) e = inl (frame, frame-is bytes frame whole e)
    by_result (Err fault) e = inr (refused fault (failed_at bytes fault e))
