use Rattle.frames.proofs.Written as written
use Rattle.frames.proofs.laws.written_frames.Goals as goal

pub returns-clause-form : goal.returns-clause-form
returns-clause-form c = written.writes_frames

pub returns-clause-apart : goal.returns-clause-apart
returns-clause-apart c = written.writes_apart

pub returns-clause-lists : goal.returns-clause-lists
returns-clause-lists c = written.writes_lists

pub returns-clause-replies : goal.returns-clause-replies
returns-clause-replies c = written.writes_replies
