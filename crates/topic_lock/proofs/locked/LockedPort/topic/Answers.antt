use Rattle.std.proofs.Common.{◌≡◌, ◌+◌, arith}
use Rattle.topic_lock.proofs.Numbered.{number_at}
use Rattle.topic_lock.proofs.locked.LockedPort.topic.Goals as goal

pub returns : goal.returns
returns g c =
    let number : c.index.result.now.token.value.number ≡ 0 + c.args.topic = number_at (λ it. it.token.value.number) 0 c.args.self.now.known.items c.args.topic c.index.result.now c.requires c.index.ensures c.args.self.now.numbered in
    rw c.get.ensures (omega (arith, number))
