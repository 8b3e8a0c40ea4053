use Rattle.std.proofs.Common.{◌≡◌, ◌+◌, ◌++◌, [], ◌∷◌, length, sym, ◌∙◌, subst, rules, arith}
use Rattle.topic_lock.specs.Places.{AreNumberedFrom}
use Rattle.topic_lock.proofs.Numbered.{one_behind, one_longer, same_number}
use Rattle.topic_lock.proofs.locked.LockedPort.look_around.Goals as goal

pub loop-number-preserved : goal.loop-number-preserved
loop-number-preserved g c =
    let known = c.loop-number.known.items in
    let at = c.loop-number.number in
    let next = c.new-next.result in
    let items : c.push.new.self.items ≡ known ++ next ∷ [] = search rules in
    let more = one_longer known c.push.new.self.items next items in
    let same : next.token.value.number ≡ at = same_number next.token.value.number at (sym c.is_numbered.ensures ∙ c.if-not-is_numbered.false) in
    let number : next.token.value.number ≡ 0 + length known = omega (arith, same, c.loop-number.invariant.0) in (
      omega (arith, more, c.loop-number.invariant.0),
      omega (arith, more, c.loop-number.invariant.1),
      subst (λ all. AreNumberedFrom (λ it. it.token.value.number) 0 all) (sym items) (one_behind (λ it. it.token.value.number) 0 known next number c.loop-number.invariant.2),
    )
