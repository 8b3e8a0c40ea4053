use Rattle.std.proofs.Common.{rules, ◌≡◌, ◌∙◌, sym, ap, take, length, ◌-◌, drop}
use Rattle.frames.specs.Reading.{is_checksummed}
use Rattle.frames.proofs.Entries.{plain-sent, behind-is}
use Rattle.frames.proofs.reading.send_entry.Goals as goal

pub returns : goal.returns
returns c =
    let behind : take (length c.deref.result.now - c.args.start) (drop c.args.start c.deref.result.now) ≡ drop c.args.start c.args.frame.items =
    behind-is c.args.start c.deref.result.now c.args.frame.items (search rules) in
    plain-sent (drop c.args.start c.args.frame.items) _
    (ap is_checksummed (sym behind) ∙ sym c.is_checksummed.ensures ∙ c.if-is_checksummed.false) (search rules)
