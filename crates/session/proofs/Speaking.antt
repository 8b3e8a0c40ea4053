-- What a session writes are whole frames.
use Rattle.std.proofs.Common.{◌≡◌, ℕ, List, [], ◌∷◌, ◌++◌, sym, ap, ◌∙◌, append_assoc, inl, inr}
use Rattle.std.proofs.lemmas.List.{append-nil}
use Rattle.std.proofs.lemmas.Grind.{flat_map-append}
use Rattle.topic_core.specs.declared.command.Answer.{Answer}
use Rattle.topic_core.specs.declared.command.Answer.TheVariants.{Now, Later, Nothing, NoMemory}
use Rattle.topic_core.specs.declared.dispatch.Outgoing.{Outgoing}
use Rattle.session.specs.Client.{Client, plain, frame_of, frames_of, IsBounded, AreBounded, Writes, Speaks, Says, Answered}

both_bounded : (xs ys : List Outgoing) → AreBounded xs → AreBounded ys → AreBounded (xs ++ ys)
both_bounded [] ys h k = k
both_bounded (x ∷ xs) ys h k = (h.0, both_bounded xs ys h.1 k)

-- nothing is written
pub writes_nothing : (a b : List ℕ) → b ≡ a → Writes a b
writes_nothing a b e = record { outgoing = []; bounded = tt; are = e ∙ sym (append-nil a) }

-- one frame is written
pub writes_one : (a b : List ℕ) (o : Outgoing) → IsBounded o → b ≡ a ++ frame_of o → Writes a b
writes_one a b o bounded e = record { outgoing = o ∷ []; bounded = (bounded, tt); are = e ∙ ap (λ c. a ++ c) (sym (append-nil (frame_of o))) }

-- more is written after that
pub writes_both : (a b c : List ℕ) → Writes a b → Writes b c → Writes a c
writes_both a b c h k = record {
  outgoing = h.outgoing ++ k.outgoing;
  bounded = both_bounded h.outgoing k.outgoing h.bounded k.bounded;
  are = k.are ∙ ap (λ x. x ++ frames_of k.outgoing) h.are ∙ append_assoc a (frames_of h.outgoing) (frames_of k.outgoing)
      ∙ ap (λ x. a ++ x) (sym (flat_map-append (λ o. frame_of o) h.outgoing k.outgoing));
}

pub speaks_nothing : (c d : Client) (a b : List ℕ) → d.number ≡ c.number → b ≡ a → Speaks c a d b
speaks_nothing c d a b n e = record { number = n; writes = writes_nothing a b e }

pub speaks_both : (c d e : Client) (x y z : List ℕ) → Speaks c x d y → Speaks d y e z → Speaks c x e z
speaks_both c d e x y z h k = record { number = k.number ∙ h.number; writes = writes_both x y z h.writes k.writes }

pub speaks_says : (c d : Client) (a b : List ℕ) (o : Outgoing) → Says c a o d b → Speaks c a d b
speaks_says c d a b o h = elim h as (λ _. Speaks c a d b) [
  | inl w ↦ record { number = ap (λ (x : Client). x.number) w.0; writes = writes_one a b o w.2 w.1 }
  | inr w ↦ record { number = ap (λ (x : Client). x.number) w.0; writes = writes_nothing a b w.1 }
]

pub speaks_answered : (c d : Client) (a b : List ℕ) (x : Answer) → Answered c a x d b → Speaks c a d b
speaks_answered c d a b (Now r) h = speaks_says c d a b (plain r) h
speaks_answered c d a b Later h = speaks_nothing c d a b (ap (λ (x : Client). x.number) h.0) h.1
speaks_answered c d a b Nothing h = speaks_nothing c d a b (ap (λ (x : Client). x.number) h.0) h.1
speaks_answered c d a b NoMemory h = speaks_nothing c d a b (ap (λ (x : Client). x.number) h.0) h.1
