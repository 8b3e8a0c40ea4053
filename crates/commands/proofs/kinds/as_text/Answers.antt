use Rattle.commands.proofs.Utf8.{as_text-good, as_text-bad}
use Rattle.commands.proofs.kinds.as_text.Goals as goal

pub returns-in_default : goal.returns-in_default
returns-in_default c = as_text-bad _ c.in_default.ensures.cases.0

pub returns : goal.returns
returns c = rw (c.new.ensures, c.in_ok-from_str.ensures.ok, c.in-Ok.ensures.cases.0) (as_text-good _ c.in-Ok.ensures.cases.1)
