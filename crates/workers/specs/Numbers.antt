-- How the outputs of a session are numbered, and how many stand unwritten.
use Rattle.std.specs.Prelude.{◌≡◌, ℕ, ◌+◌, ◌-◌, ◌<◌, ◌^◌, Bool, true, false, ◌||◌, ◌&&◌, nat_lt, nat_le, Option, Some, None, is_some, Result, Ok, Err, List, [], ◌∷◌, length, ⊤}
use Rattle.session.specs.Client.{Client}
use Rattle.session.specs.Listing.{Listing, IsListOf}
use Rattle.session.specs.Pumping.{pumped}
use Rattle.session.specs.declared.fault.Fault.{Fault}
use Rattle.session.specs.declared.fault.Fault.TheVariants.{NoMemory}
use Rattle.session.specs.declared.pumping.More.{More}
use Rattle.session.specs.declared.pumping.More.TheVariants.{Yes, No}
use Rattle.session.specs.declared.pumping.PumpFault.{PumpFault}
use Rattle.session.specs.declared.pumping.PumpFault.TheVariants.{Ended}
use Rattle.workers.specs.Outputs.{size_of, saturated}
use Rattle.workers.specs.declared.numbered.Numbered.{Numbered}
use Rattle.workers.specs.declared.outgoing.Output.{Output}

-- it has ended, or its numbers are used up
abbrev pub is_over : Numbered → Bool
is_over n = n.ended || nat_le (2 ^ 62) n.next

-- fewer than 256 outputs stand unwritten, and at most 1,048,576 bytes of replies
abbrev pub has_room : Numbered → Bool
has_room n = nat_lt (n.next - n.written) 256 && nat_le (n.replied - n.replied_written) 1048576

-- these bytes are the output of this number; no byte is none
abbrev pub IsOutput : ℕ → List ℕ → Option Output → Type 0
IsOutput number bytes (Some output) = (output.number ≡ number) × (output.bytes.items ≡ bytes) × (0 < length bytes)
IsOutput number bytes None = bytes ≡ []

-- these bytes are the next output; no byte is none
abbrev pub Numbers : Numbered → List ℕ → Option Output → Numbered → Type 0
Numbers old bytes (Some output) new = (output.number ≡ old.next) × (output.bytes.items ≡ bytes) × (0 < length bytes) × (new ≡ record old { next = old.next + 1 })
Numbers old bytes None new = (bytes ≡ []) × (new ≡ old)

-- at most one reply, of some bytes, with this number
abbrev pub IsNumbered : ℕ → List (ℕ × List ℕ) → Type 0
IsNumbered number [] = ⊤
IsNumbered number (r ∷ rs) = (r.0 ≡ number) × (0 < length r.1) × (rs ≡ [])

-- a feed gave these replies: they are counted, and none is said to be written
pub record Feeds (old : Numbered) (replies : List (ℕ × List ℕ)) (new : Numbered) : Type 0 where
  pub numbered : IsNumbered old.next replies
  pub next : new.next ≡ old.next + length replies
  pub replied : saturated new.replied ≡ saturated (old.replied + size_of replies)
  pub written : (new.written ≡ old.written) × (new.replied_written ≡ old.replied_written)
  pub stands : (new.ended ≡ old.ended) × (new.more ≡ old.more)

-- the bytes of a feed's replies
abbrev pub bytes_of_replies : List (ℕ × List ℕ) → List ℕ
bytes_of_replies [] = []
bytes_of_replies (r ∷ rs) = r.1

-- the bytes of what was served
abbrev pub bytes_of_output : Option Output → List ℕ
bytes_of_output None = []
bytes_of_output (Some output) = output.bytes.items

-- it was listed by what it is served, and what is collected and served has the next number; at most the session's fault changed
-- besides
pub record Lists (old : Numbered) (number : ℕ) (list : Listing) (new : Numbered) : Type 0 where
  pub number_is : number ≡ old.next
  pub list_is : IsListOf new.session list
  pub same : new ≡ record old { session = record old.session { fault = new.session.fault }; next = old.next + 1 }

-- what was served stopped at a bound of its own
abbrev pub is_more : Result More PumpFault → Bool
is_more (Ok Yes) = true
is_more (Ok No) = false
is_more (Err why) = false

-- a session whose serving answered so; one that had ended stays as it was
abbrev pub served_from : Option Fault → Client → Result More PumpFault → Client
served_from None c answer = pumped c answer
served_from (Some why) c answer = c

abbrev pub client_served : Client → Result More PumpFault → Client
client_served c answer = served_from c.fault c answer

-- what was served answered so: the session has ended by that, or had before, or it goes on
abbrev pub as_served : Numbered → Result More PumpFault → Numbered
as_served n answer =
    let session = client_served n.session answer in
    record n { session = session; more = is_more answer; ended = n.ended || is_some session.fault }

-- it has ended for want of memory, if not before
abbrev pub without_memory : Numbered → Numbered
without_memory n = as_served n (Err (Ended NoMemory))
