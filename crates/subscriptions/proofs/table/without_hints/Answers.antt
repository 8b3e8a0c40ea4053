use Rattle.std.proofs.Common.{◌≡◌, ◌++◌, ◌∷◌, [], length-append, rules, arith}
use Rattle.subscriptions.proofs.Sound.{all_pushed}
use Rattle.subscriptions.proofs.table.without_hints.Goals as goal

pub loop-preserved : goal.loop-preserved
loop-preserved c =
    let pushed : c.push.new.self.items ≡ c.loop.hints.items ++ c.new.result ∷ [] = search rules in
    record {
      same = rw (pushed, length-append) (omega (arith, c.loop.invariant.same));
      empty = rw pushed (all_pushed (λ h. h ≡ []) c.loop.hints.items c.new.result c.loop.invariant.empty c.new.ensures);
    }
