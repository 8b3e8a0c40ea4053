-- What the serving of a list gives, and what the session is told of it.
use Rattle.std.proofs.Common.{◌≡◌, ℕ, ◌<◌, List, ◌++◌, length, Result, Err, Option, Some, None, refl, sym, ap, subst, ◌∙◌}
use Rattle.std.proofs.Math.Logic.{∥∥₁_map}
use Rattle.std.proofs.lemmas.Grind.{flat_map-append}
use Rattle.std.specs.Prelude.{IfSome}
use Rattle.gated_log.specs.declared.read_error.ReadError.{ReadError}
use Rattle.session.specs.Broker.{Broker}
use Rattle.session.specs.Client.{Client, Play, play, frame_of, frames_of, Writes}
use Rattle.session.specs.Pumping.{ServeStep, PumpStep, pumped}
use Rattle.session.specs.declared.fault.Fault.{Fault}
use Rattle.session.specs.declared.pumping.More.{More}
use Rattle.session.specs.declared.pumping.PumpFault.{PumpFault}
use Rattle.session.specs.declared.pumping.PumpFault.TheVariants.{Ended}
use Rattle.workers.specs.Outputs.{AreFrames}
use Rattle.workers.specs.Numbers.{IsOutput, bytes_of_output, served_from, client_served}
use Rattle.workers.specs.declared.outgoing.Output.{Output}

bytes_are : (number : ℕ) (bytes : List ℕ) (o : Option Output) → IsOutput number bytes o → bytes_of_output o ≡ bytes
bytes_are number bytes None p = sym p
bytes_are number bytes (Some o) p = p.1

pub output_is : (number : ℕ) (bytes : List ℕ) (o : Option Output) → IsOutput number bytes o → IsOutput number (bytes_of_output o) o
output_is number bytes None p = refl
output_is number bytes (Some o) p = (p.0, refl, subst (λ (xs : List ℕ). 0 < length xs) (sym p.1) p.2)

-- whole frames behind whole frames
pub frames_behind : (old new : List ℕ) → AreFrames old → Writes old new → AreFrames new
frames_behind old new frames w = ∥∥₁_map frames (λ said. (said.0 ++ w.outgoing, w.are ∙ ap (λ bytes. bytes ++ frames_of w.outgoing) said.1 ∙ sym (flat_map-append (λ o. frame_of o) said.0 w.outgoing)))

-- nothing is served of a session that had ended
pub ended_as_listed : (fault : Option Fault) (answer : Result More PumpFault) (number : ℕ) (start out : List ℕ) (o : Option Output)
    → IfSome fault (λ why. (answer ≡ Err (Ended why)) × (out ≡ start)) → IsOutput number out o
    → IfSome fault (λ why. (answer ≡ Err (Ended why)) × (bytes_of_output o ≡ start))
ended_as_listed None answer number start out o h p = h
ended_as_listed (Some why) answer number start out o h p = (h.0, bytes_are number out o p ∙ h.1)

-- a session that had ended answers its fault, so it stays as it was
pumped_is : (fault : Option Fault) (client : Client) (answer : Result More PumpFault) (start out : List ℕ) → client.fault ≡ fault
    → IfSome fault (λ why. (answer ≡ Err (Ended why)) × (out ≡ start)) → pumped client answer ≡ client_served client answer
pumped_is None client answer start out is h = ap (λ (f : Option Fault). served_from f client answer) (sym is)
pumped_is (Some why) client answer start out is h =
    ap (λ (r : Result More PumpFault). pumped client r) h.0 ∙ ap (λ (f : Option Fault). record client { fault = f }) (sym is) ∙ ap (λ (f : Option Fault). served_from f client answer) (sym is)

-- the session's steps, to what is written
module _ (refused : ℕ → ReadError → Type 0) (fault : Option Fault) (client : Client) (before after : Broker) (start out : List ℕ) (answer : Result More PumpFault) (number : ℕ) (o : Option Output)
    (is : client.fault ≡ fault) (ended : IfSome fault (λ why. (answer ≡ Err (Ended why)) × (out ≡ start))) (p : IsOutput number out o) where
  written : play (pumped client answer) after out ≡ play (client_served client answer) after (bytes_of_output o)
  written = λ i. play (pumped_is fault client answer start out is ended i) after (sym (bytes_are number out o p) i)

  pub served_listed : (replies : ℕ) → ServeStep refused (play client before start) replies answer (play (pumped client answer) after out) →
      ServeStep refused (play client before start) replies answer (play (client_served client answer) after (bytes_of_output o))
  served_listed replies step = subst (ServeStep refused (play client before start) replies answer) written step

  pub served_step : (begun : Play) → PumpStep refused begun answer (play (pumped client answer) after out) → PumpStep refused begun answer (play (client_served client answer) after (bytes_of_output o))
  served_step begun step = subst (PumpStep refused begun answer) written step

-- the session behind the serving of its list
client_from : (fault : Option Fault) (old new : Client) (answer : Result More PumpFault) → (fault ≡ None → new ≡ pumped old answer) → IfSome fault (λ why. new ≡ old) → new ≡ served_from fault old answer
client_from None old new answer went_on ended = went_on refl
client_from (Some why) old new answer went_on ended = ended

pub client_is : (old new : Client) (answer : Result More PumpFault) → (old.fault ≡ None → new ≡ pumped old answer) → IfSome old.fault (λ why. new ≡ old) → new ≡ client_served old answer
client_is old new answer went_on ended = client_from old.fault old new answer went_on ended

number_from : (fault : Option Fault) (c : Client) (answer : Result More PumpFault) → (served_from fault c answer).number ≡ c.number
number_from None c answer = refl
number_from (Some why) c answer = refl

pub number_stays : (c : Client) (answer : Result More PumpFault) → (client_served c answer).number ≡ c.number
number_stays c answer = number_from c.fault c answer
