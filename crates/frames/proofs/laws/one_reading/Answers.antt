use Rattle.frames.proofs.Readings as readings
use Rattle.frames.proofs.laws.one_reading.Goals as goal

pub returns-clause-some : goal.returns-clause-some
returns-clause-some c = readings.has_reading

pub returns-clause-no_other : goal.returns-clause-no_other
returns-clause-no_other c = readings.one_reading

pub returns-clause-faulty : goal.returns-clause-faulty
returns-clause-faulty c = readings.no_frame_at_fault
