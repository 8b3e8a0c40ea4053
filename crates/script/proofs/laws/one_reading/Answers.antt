use Rattle.script.proofs.Readings.{one_line, one_script, script_or_bad, no_bad_line, one_bad_line}
use Rattle.script.specs.Script.{texts_of}
use Rattle.script.proofs.laws.one_reading.Goals as goal

pub returns-clause-lines : goal.returns-clause-lines
returns-clause-lines c = one_line

pub returns-clause-scripts : goal.returns-clause-scripts
returns-clause-scripts c = one_script

pub returns-clause-either : goal.returns-clause-either
returns-clause-either c = script_or_bad

pub returns-clause-not_both : goal.returns-clause-not_both
returns-clause-not_both c = λ bytes script k. no_bad_line (texts_of bytes) script k

pub returns-clause-first : goal.returns-clause-first
returns-clause-first c = λ bytes j k. one_bad_line (texts_of bytes) j k
