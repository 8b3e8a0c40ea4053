use Rattle.std.proofs.Common.{◌≡◌, ◌+◌, ◌<◌, ◌++◌, [], ◌∷◌, length, sym, subst, rules, arith}
use Rattle.topic_lock.specs.Places.{AreNumberedFrom}
use Rattle.topic_lock.proofs.Numbered.{number_at, one_behind, one_longer}
use Rattle.topic_lock.proofs.locked.LockedPort.learn.Goals as goal

pub loop-number-preserved : goal.loop-number-preserved
loop-number-preserved g c =
    let mine = c.loop-number.mine.items in
    let at = c.loop-number.number in
    let items : c.push.new.self.items ≡ mine ++ c.again.result ∷ [] = search rules in
    let more = one_longer mine c.push.new.self.items c.again.result items in
    let low : at < length c.args.known.now.items = omega (arith, c.loop-number-test.true, c.len-number-end.ensures) in
    let there : c.index.result.now.token.value.number ≡ 0 + at = number_at (λ it. it.token.value.number) 0 c.args.known.now.items at c.index.result.now low c.index.ensures c.requires in
    let number : c.again.result.token.value.number ≡ 0 + length mine = rw c.again.ensures (omega (arith, there, c.loop-number.invariant.0)) in (
      omega (arith, more, c.loop-number.invariant.0),
      omega (arith, more, c.loop-number.invariant.1),
      subst (λ known. AreNumberedFrom (λ it. it.token.value.number) 0 known) (sym items) (one_behind (λ it. it.token.value.number) 0 mine c.again.result number c.loop-number.invariant.2),
    )
