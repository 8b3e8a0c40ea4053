-- Writes one after another.
use Rattle.std.proofs.Common.{◌≡◌, ℕ, ◌+◌, ◌^◌, ◌≤◌, List, [], ◌∷◌, ◌++◌, length, map, Bool, true, false, Option, Some, None, refl, sym, ap, ◌∙◌, subst, arith, append_assoc, append-nil}
use mathlib.Core.List.{map-append}
use Rattle.std.specs.Prelude.{IfSome}
use Rattle.std.specs.Io.KnownBytes.{Appends}
use Rattle.rtrb.specs.Ring.{received, SameConsumer, ProducerLooked, Finishes}
use Rattle.rtrb.specs.declared.producer.Producer.{Producer}
use Rattle.rtrb.specs.declared.finished.Finished.{Finished}
use Rattle.rtrb.specs.declared.consumer.Consumer.{Consumer}
use Rattle.workers.specs.Outputs.{Shown, bytes_of, reply_if, replies_of, size_of, saturated, Rises}
use Rattle.workers.specs.Writes.{shown, taken, pushed, Wrote, WroteServed, NoneBelow, Extends, FinishesAfter}
use Rattle.workers.specs.declared.outgoing.Output.{Output}
use Rattle.workers.specs.declared.outgoing.Outgoing.{Outgoing}

appends_none : (a : Option (List ℕ)) → Appends a a []
appends_none None = tt
appends_none (Some xs) = sym (append-nil xs)

appends_both : (a b c : Option (List ℕ)) (x y : List ℕ) → Appends a b x → Appends b c y → Appends a c (x ++ y)
appends_both None b c x y p q = tt
appends_both (Some xs) None c x y p q = absurd p
appends_both (Some xs) (Some ys) None x y p q = absurd q
appends_both (Some xs) (Some ys) (Some zs) x y p q = q ∙ ap (λ l. l ++ y) p ∙ append_assoc xs x y

bytes_of-append : (os ps : List Shown) → bytes_of (os ++ ps) ≡ bytes_of os ++ bytes_of ps
bytes_of-append [] ps = refl
bytes_of-append (o ∷ os) ps = ap (λ l. o.bytes ++ l) (bytes_of-append os ps) ∙ sym (append_assoc o.bytes (bytes_of os) (bytes_of ps))

reply_if-append : (b : Bool) (r : ℕ × List ℕ) (xs ys : List (ℕ × List ℕ)) → reply_if b r (xs ++ ys) ≡ reply_if b r xs ++ ys
reply_if-append true r xs ys = refl
reply_if-append false r xs ys = refl

replies_of-append : (os ps : List Shown) → replies_of (os ++ ps) ≡ replies_of os ++ replies_of ps
replies_of-append [] ps = refl
replies_of-append (o ∷ os) ps = ap (reply_if o.pumped (o.number, o.bytes)) (replies_of-append os ps) ∙ reply_if-append o.pumped (o.number, o.bytes) (replies_of os) (replies_of ps)

rises_less : (n m k : ℕ) (os : List Shown) → n ≤ m → Rises m os k → Rises n os k
rises_less n m k [] p r = omega arith
rises_less n m k (o ∷ os) p r = (omega arith, r.1)

rises-append : (n m k : ℕ) (os ps : List Shown) → Rises n os m → Rises m ps k → Rises n (os ++ ps) k
rises-append n m k [] ps r s = rises_less n m k ps r s
rises-append n m k (o ∷ os) ps r s = (r.0, rises-append (o.number + 1) m k os ps r.1 s)

pub same_consumer : {T A P : Type 0} (a b c : Consumer T A P) → SameConsumer a b → SameConsumer b c → SameConsumer a c
same_consumer a b c p q = ((q.0.0 ∙ p.0.0, q.0.1 ∙ p.0.1, q.0.2 ∙ p.0.2, q.0.3 ∙ p.0.3), q.1 ∙ p.1)

size_of-append : (rs ss : List (ℕ × List ℕ)) → size_of (rs ++ ss) ≡ size_of rs + size_of ss
size_of-append [] ss = omega arith
size_of-append (r ∷ rs) ss = let e = size_of-append rs ss in omega (arith, e)

-- a count that stops goes on from where it stood
pub counted_none : (n : ℕ) → saturated n ≡ saturated (n + 0)
counted_none n = ap saturated (omega arith)

counted_both : (a b c x y : ℕ) → saturated b ≡ saturated (a + x) → saturated c ≡ saturated (b + y) → saturated c ≡ saturated (a + (x + y))
counted_both a b c x y p q = omega (arith, p, q)

pub counted_one : (a b x : ℕ) → b ≡ saturated (a + x) → saturated b ≡ saturated (a + (x + 0))
counted_one a b x p = omega (arith, p)

module _ {W : Type 0} (contents : W → Option (List ℕ)) where
  pub wrote_none : (a : Outgoing W) → Wrote contents a a
  wrote_none a = record { outs = []; written = appends_none (contents a.writer); took = sym (append-nil (taken a)); rising = omega arith; counted = counted_none a.replied }

  -- numbers that no output has were passed over
  pub wrote_passed : (a b : Outgoing W) → b.writer ≡ a.writer → received b.replies ≡ received a.replies → a.next ≤ b.next → b.replied ≡ a.replied → Wrote contents a b
  wrote_passed a b writer same next replied = record {
    outs = [];
    written = subst (λ (w : W). Appends (contents a.writer) (contents w) []) (sym writer) (appends_none (contents a.writer));
    took = ap (map shown) same ∙ sym (append-nil (taken a));
    rising = next;
    counted = ap saturated replied ∙ counted_none a.replied;
  }

  -- more replies were seen in the ring
  pub wrote_looked : (a b : Outgoing W) → b.writer ≡ a.writer → received b.replies ≡ received a.replies → b.next ≡ a.next → b.replied ≡ a.replied → Wrote contents a b
  wrote_looked a b writer same next replied = wrote_passed a b writer same (omega arith) replied

  pub wrote_both : (a b c : Outgoing W) → Wrote contents a b → Wrote contents b c → Wrote contents a c
  wrote_both a b c p q = record {
    outs = p.outs ++ q.outs;
    written = subst (Appends (contents a.writer) (contents c.writer)) (sym (bytes_of-append p.outs q.outs)) (appends_both (contents a.writer) (contents b.writer) (contents c.writer) (bytes_of p.outs) (bytes_of q.outs) p.written q.written);
    took = q.took ∙ ap (λ l. l ++ replies_of q.outs) p.took ∙ append_assoc (taken a) (replies_of p.outs) (replies_of q.outs) ∙ ap (λ l. taken a ++ l) (sym (replies_of-append p.outs q.outs));
    rising = rises-append a.next b.next c.next p.outs q.outs p.rising q.rising;
    counted =
        counted_both a.replied b.replied c.replied (size_of (replies_of p.outs)) (size_of (replies_of q.outs)) p.counted q.counted
        ∙ ap (λ n. saturated (a.replied + n)) (sym (size_of-append (replies_of p.outs) (replies_of q.outs)) ∙ ap size_of (sym (replies_of-append p.outs q.outs)));
  }

  -- one reply was written, and taken from the ring
  pub wrote_reply : (a b : Outgoing W) (x : Output) → Appends (contents a.writer) (contents b.writer) x.bytes.items → received b.replies ≡ received a.replies ++ x ∷ [] → a.next ≤ x.number → b.next ≡ x.number + 1 → b.replied ≡ saturated (a.replied + length x.bytes.items) → Wrote contents a b
  wrote_reply a b x wrote took above next replied = record {
    outs = record { number = x.number; pumped = false; bytes = x.bytes.items; whole = x.whole } ∷ [];
    written = subst (Appends (contents a.writer) (contents b.writer)) (sym (append-nil x.bytes.items)) wrote;
    took = ap (map shown) took ∙ map-append shown (received a.replies) (x ∷ []);
    rising = (above, omega arith);
    counted = counted_one a.replied b.replied (length x.bytes.items) replied;
  }

  -- what was pumped was written
  pub wrote_pumped : (a b : Outgoing W) (x : Output) → Appends (contents a.writer) (contents b.writer) x.bytes.items → received b.replies ≡ received a.replies → a.next ≤ x.number → b.next ≡ x.number + 1 → b.replied ≡ a.replied → Wrote contents a b
  wrote_pumped a b x wrote same above next replied = record {
    outs = record { number = x.number; pumped = true; bytes = x.bytes.items; whole = x.whole } ∷ [];
    written = subst (Appends (contents a.writer) (contents b.writer)) (sym (append-nil x.bytes.items)) wrote;
    took = ap (map shown) same ∙ sym (append-nil (taken a));
    rising = (above, omega arith);
    counted = ap saturated replied ∙ counted_none a.replied;
  }

  -- what was pumped was written behind others
  pub wrote_served : (a b d : Outgoing W) (x : Output) → Wrote contents a b → Appends (contents b.writer) (contents d.writer) x.bytes.items → received d.replies ≡ received b.replies → b.next ≤ x.number → d.next ≡ x.number + 1 → d.replied ≡ b.replied → WroteServed contents a d x.number x.bytes.items
  unfolding wrote_pumped
  wrote_served a b d x before wrote same above next replied = record { between = b; before = before; last = wrote_pumped b d x wrote same above next replied; served = refl }

-- no reply has a number of 2^62 or more
pub none_left : (xs : List Output) → NoneBelow (2 ^ 62) xs → xs ≡ []
none_left [] p = refl
none_left (x ∷ xs) p = absurd (omega (arith, p, x.small))

module _ {A P : Type 0} where
  pub extends_none : (p : Producer Output A P) → Extends p p
  extends_none p = record { ring = ((refl, refl, refl, refl), refl); more = []; pushed_more = sym (append-nil (pushed p)) }

  pub extends_looked : (p q : Producer Output A P) → ProducerLooked p q → Extends p q
  extends_looked p q l = record { ring = l.0; more = []; pushed_more = ap (map shown) l.1 ∙ sym (append-nil (pushed p)) }

  pub extends_both : (p q r : Producer Output A P) → Extends p q → Extends q r → Extends p r
  extends_both p q r e f =
      let a = e.ring in
      let b = f.ring in record {
        ring = ((b.0.0 ∙ a.0.0, b.0.1 ∙ a.0.1, b.0.2 ∙ a.0.2, b.0.3 ∙ a.0.3), b.1 ∙ a.1);
        more = e.more ++ f.more;
        pushed_more = f.pushed_more ∙ ap (λ l. l ++ f.more) e.pushed_more ∙ append_assoc (pushed p) e.more f.more;
      }

  pub finishes_after : (p q : Producer Output A P) (f : Finished Output A P) → Extends p q → Finishes q f → FinishesAfter p f
  finishes_after p q f e d =
      let a = e.ring.0 in
      let b = d.0 in record {
        ring = (b.0 ∙ a.0, b.1 ∙ a.1, b.2 ∙ a.2, b.3 ∙ a.3);
        more = e.more;
        pushed_more = ap (map shown) d.1 ∙ e.pushed_more;
      }

  pub finishes_if : (p q : Producer Output A P) (o : Option (Finished Output A P)) → Extends p q → IfSome o (Finishes q) → IfSome o (FinishesAfter p)
  finishes_if p q None e d = d
  finishes_if p q (Some f) e d = finishes_after p q f e d
