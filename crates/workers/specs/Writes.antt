-- What a writer wrote, and which replies it took for that.
use Rattle.std.specs.Prelude.{◌≡◌, ℕ, ◌+◌, ◌≤◌, List, [], ◌∷◌, ◌++◌, map, Option, ⊤}
use Rattle.std.specs.Io.KnownBytes.{Appends}
use Rattle.rtrb.specs.Ends.{SameRing}
use Rattle.rtrb.specs.Ring.{received, sent, all_sent, SameProducer}
use Rattle.rtrb.specs.declared.producer.Producer.{Producer}
use Rattle.rtrb.specs.declared.finished.Finished.{Finished}
use Rattle.workers.specs.Outputs.{Shown, bytes_of, replies_of, pumped_of, size_of, saturated, Rises}
use Rattle.workers.specs.declared.outgoing.Output.{Output}
use Rattle.workers.specs.declared.outgoing.Outgoing.{Outgoing}

abbrev pub shown : Output → ℕ × List ℕ
shown o = (o.number, o.bytes.items)

-- the replies that were pushed
abbrev pub pushed : {A P : Type 0} → Producer Output A P → List (ℕ × List ℕ)
pushed p = map shown (sent p)

abbrev pub all_pushed : {A P : Type 0} → Finished Output A P → List (ℕ × List ℕ)
all_pushed f = map shown (all_sent f)

-- the replies that were taken from the ring
abbrev pub taken : {W : Type 0} → Outgoing W → List (ℕ × List ℕ)
taken o = map shown (received o.replies)

-- some outputs were written whole, in rising numbers; those of the ring were taken from it, and their bytes are counted
pub record Wrote {W : Type 0} (contents : W → Option (List ℕ)) (a b : Outgoing W) : Type 0 where
  pub outs : List Shown
  pub written : Appends (contents a.writer) (contents b.writer) (bytes_of outs)
  pub took : taken b ≡ taken a ++ replies_of outs
  pub rising : Rises a.next outs b.next
  pub counted : saturated b.replied ≡ saturated (a.replied + size_of (replies_of outs))

-- some outputs were written, and then this one, which the writer pumped
pub record WroteServed {W : Type 0} (contents : W → Option (List ℕ)) (a b : Outgoing W) (number : ℕ) (bytes : List ℕ) : Type 0 where
  pub between : Outgoing W
  pub before : Wrote contents a between
  pub last : Wrote contents between b
  pub served : pumped_of last.outs ≡ (number, bytes) ∷ []

-- the oldest reply that was seen in the ring has no smaller number
abbrev pub NoneBelow : ℕ → List Output → Type 0
NoneBelow n [] = ⊤
NoneBelow n (x ∷ xs) = n ≤ x.number

-- more may have been pushed
pub record Extends {A P : Type 0} (p q : Producer Output A P) : Type 0 where
  pub ring : SameProducer p q
  pub more : List (ℕ × List ℕ)
  pub pushed_more : pushed q ≡ pushed p ++ more

-- more may have been pushed, and then the producer ended
pub record FinishesAfter {A P : Type 0} (p : Producer Output A P) (f : Finished Output A P) : Type 0 where
  pub ring : SameRing p.end f.end
  pub more : List (ℕ × List ℕ)
  pub pushed_more : all_pushed f ≡ pushed p ++ more
