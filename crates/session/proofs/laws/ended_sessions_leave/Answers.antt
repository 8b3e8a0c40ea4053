use Rattle.session.proofs.Ends.{ended_feeds_leave, ended_pumps_leave}
use Rattle.session.proofs.laws.ended_sessions_leave.Goals as goal

pub returns-clause-feeds : goal.returns-clause-feeds
returns-clause-feeds c = ended_feeds_leave

pub returns-clause-pumps : goal.returns-clause-pumps
returns-clause-pumps c = ended_pumps_leave
