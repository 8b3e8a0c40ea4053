use Rattle.session.proofs.Reading.{frames_tell}
use Rattle.session.proofs.WholeFrames.{feeds_write_frames, pumps_write_frames}
use Rattle.session.proofs.laws.writes_whole_frames.Goals as goal

pub returns-clause-feeds : goal.returns-clause-feeds
returns-clause-feeds c = feeds_write_frames

pub returns-clause-pumps : goal.returns-clause-pumps
returns-clause-pumps c = pumps_write_frames

pub returns-clause-tells : goal.returns-clause-tells
returns-clause-tells c = frames_tell
