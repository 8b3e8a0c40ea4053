use Rattle.script.proofs.Readings.{found_by, only_by, bad_by, bad_only_of}
use Rattle.script.proofs.script.read_script.Goals as goal

pub returns-clause-found : goal.returns-clause-found
returns-clause-found c = found_by c.args.bytes.now c.script_from.result c.script_from.ensures

pub returns-clause-only : goal.returns-clause-only
returns-clause-only c = only_by c.args.bytes.now c.script_from.result c.script_from.ensures

pub returns-clause-bad : goal.returns-clause-bad
returns-clause-bad c = bad_by c.args.bytes.now c.script_from.result c.script_from.ensures

pub returns-clause-bad_only : goal.returns-clause-bad_only
returns-clause-bad_only c = bad_only_of c.args.bytes.now c.script_from.result c.script_from.ensures
