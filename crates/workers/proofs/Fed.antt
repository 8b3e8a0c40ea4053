-- What a feed counts.
use Rattle.std.proofs.Common.{◌≡◌, ℕ, ◌+◌, ◌<◌, List, [], ◌∷◌, length, Result, Some, refl, sym, ap, subst, ◌∙◌, arith}
use Rattle.session.specs.Broker.{Broker}
use Rattle.session.specs.Client.{Client, play}
use Rattle.session.specs.Working.{FeedStep, feed_result}
use Rattle.session.specs.declared.fault.Fault.{Fault}
use Rattle.workers.specs.Outputs.{saturated}
use Rattle.workers.specs.Numbers.{Numbers, Feeds}
use Rattle.workers.specs.declared.numbered.Numbered.{Numbered}
use Rattle.workers.specs.declared.outgoing.Output.{Output}
use Rattle.workers.specs.Writes.{shown}
use Rattle.workers.proofs.Written.{counted_none, counted_one}

-- no byte
pub fed_nothing : (old : Numbered) (client : Client) (new : Numbered) → new ≡ record old { session = client } → Feeds old [] new
fed_nothing old client new same = record {
  numbered = tt;
  next = ap (λ (n : Numbered). n.next) same ∙ omega arith;
  replied = ap (λ (n : Numbered). saturated n.replied) same ∙ counted_none old.replied;
  written = (ap (λ (n : Numbered). n.written) same, ap (λ (n : Numbered). n.replied_written) same);
  stands = (ap (λ (n : Numbered). n.ended) same, ap (λ (n : Numbered). n.more) same);
}

-- some bytes
pub fed_reply : (old : Numbered) (client : Client) (bytes : List ℕ) (reply : Output) (numbered : Numbered) (replied : ℕ)
    → Numbers (record old { session = client }) bytes (Some reply) numbered → replied ≡ saturated (numbered.replied + length reply.bytes.items)
    → Feeds old (shown reply ∷ []) (record numbered { replied = replied })
fed_reply old client bytes reply numbered replied n e =
    let same = n.3 in record {
      numbered = (n.0, subst (λ (xs : List ℕ). 0 < length xs) (sym n.1) n.2, refl);
      next = ap (λ (m : Numbered). m.next) same;
      replied = counted_one old.replied replied (length reply.bytes.items) (e ∙ ap (λ (m : Numbered). saturated (m.replied + length reply.bytes.items)) same);
      written = (ap (λ (m : Numbered). m.written) same, ap (λ (m : Numbered). m.replied_written) same);
      stands = (ap (λ (m : Numbered). m.ended) same, ap (λ (m : Numbered). m.more) same);
    }

-- the session's step, from no byte on, to what was numbered
pub fed_step : (fails : Type 0) (old client new : Client) (before after : Broker) (start bytes out piece : List ℕ) (how : Result (Unit {0}) Fault)
    → FeedStep fails (play old before start) piece how (play client after bytes) → start ≡ [] → how ≡ feed_result client.fault → new ≡ client → out ≡ bytes
    → FeedStep fails (play old before []) piece (feed_result new.fault) (play new after out)
fed_step fails old client new before after start bytes out piece how step none told same given =
    subst (λ (c : Client). FeedStep fails (play old before []) piece (feed_result c.fault) (play c after out)) (sym same)
    (subst (λ (xs : List ℕ). FeedStep fails (play old before []) piece (feed_result client.fault) (play client after xs)) (sym given)
    (subst (λ (r : Result (Unit {0}) Fault). FeedStep fails (play old before []) piece r (play client after bytes)) told
    (subst (λ (xs : List ℕ). FeedStep fails (play old before xs) piece how (play client after bytes)) none step)))
