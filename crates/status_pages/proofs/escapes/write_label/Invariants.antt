use Rattle.std.proofs.Common.{take}
use Rattle.std.specs.Io.KnownBytes.{Appends}
use Rattle.status_pages.specs.Escapes.{label_text}
use Rattle.status_pages.proofs.escapes.write_label.Given as goal

-- the first bytes are written
abbrev pub invariant-loop-byte : goal.invariant-loop-byte
invariant-loop-byte g l = Appends (g.W.Write.contents l.fn.writer) (g.W.Write.contents l.writer) (label_text (take l.byte-index l.bytes))
