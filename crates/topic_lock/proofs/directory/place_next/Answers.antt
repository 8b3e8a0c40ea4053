use Rattle.std.proofs.Common.{◌≡◌, ◌+◌, ◌++◌, [], ◌∷◌, length, sym, subst, rules, arith}
use Rattle.topic_lock.specs.Places.{AreNumberedFrom}
use Rattle.topic_lock.proofs.Numbered.{one_behind}
use Rattle.topic_lock.proofs.directory.place_next.Goals as goal

pub returns-clause-numbered : goal.returns-clause-numbered
returns-clause-numbered g c = λ all.
    let items : c.push.new.self.items ≡ c.args.known.now.items ++ c.fill.result ∷ [] = search rules in
    let number : c.fill.result.token.value.number ≡ 0 + length c.args.known.now.items = omega (arith, c.fill.ensures.0, c.share-topic.ensures.1, c.requires.next) in
    subst (λ known. AreNumberedFrom (λ it. it.token.value.number) 0 known) (sym items) (one_behind (λ it. it.token.value.number) 0 c.args.known.now.items c.fill.result number all)
