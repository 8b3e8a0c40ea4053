use Rattle.std.proofs.Common.{◌≡◌, rules}
use Rattle.session.proofs.session.Session.list.Goals as goal

pub invariant_of-result : goal.invariant_of-result
invariant_of-result g c =
    let topics : c.extend_from_slice.new.self.items ≡ c.topics.result.now = search rules in
    rw (topics, c.in_ok-consumers.ensures.ok) c.topics.ensures
