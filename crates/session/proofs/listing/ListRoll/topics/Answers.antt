use Rattle.std.proofs.Common.{subst}
use Rattle.session.specs.Listing.{Listing}
use Rattle.session.specs.Noting.{AreNoted}
use Rattle.session.proofs.listing.ListRoll.topics.Goals as goal

pub returns : goal.returns
returns c = rw c.as_slice.ensures.value (subst (λ (l : Listing). AreNoted c.self.inside.topics.items l.consumers) c.self.view_is c.self.invariant)
