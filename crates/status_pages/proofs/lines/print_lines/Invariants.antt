use Rattle.std.proofs.Common.{take}
use Rattle.std.specs.Io.KnownBytes.{Appends}
use Rattle.status_pages.specs.Lines.{picture_lines}
use Rattle.status_pages.proofs.lines.print_lines.Given as goal

-- the topic's line and those of the first subscriptions are written
abbrev pub invariant-loop-subscription : goal.invariant-loop-subscription
invariant-loop-subscription g l = Appends (g.W.Write.contents l.fn.writer) (g.W.Write.contents l.writer) (picture_lines l.picture.topic (take l.subscription-index l.picture.subscriptions.items))
