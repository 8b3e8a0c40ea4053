use Rattle.std.proofs.Common.{◌≡◌, ◌++◌, ◌∙◌, ap, append_assoc, ℕ, List, ◌∷◌}
use Rattle.std.proofs.lemmas.Result.{on_ok_weaker}
use Rattle.records.specs.Bytes.{named, placed}
use Rattle.records.proofs.write.add_range.Goals as goal

three : (old one two new x y z : List ℕ) → one ≡ old ++ x → two ≡ one ++ y → new ≡ two ++ z → new ≡ old ++ (x ++ (y ++ z))
three old one two new x y z first second third =
    third ∙ ap (λ (l : List ℕ). l ++ z) (second ∙ ap (λ (l : List ℕ). l ++ y) first) ∙ append_assoc (old ++ x) y z ∙ append_assoc old x (y ++ z)

pub returns : goal.returns
returns c =
    on_ok_weaker c.add_position-2.result (λ last.
    three c.args.body.now.items c.add_head.new.body.items c.add_position.new.body.items _ (5 ∷ named c.args.name.now) (placed c.args.first) (placed c.args.last)
    c.in_ok-add_head.ensures c.in_ok-add_position.ensures last) c.add_position-2.ensures
