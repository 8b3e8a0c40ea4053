use Rattle.std.proofs.Common.{arith}
use Rattle.key_shared.proofs.Apart.{pushed, taken_out}
use Rattle.key_shared.proofs.laws.ranges_stay_apart.Goals as goal

pub returns : goal.returns
returns c = record { first = λ i j d lower low. absurd (omega arith); attach = pushed; detach = taken_out }
