use Rattle.std.proofs.Common.{◌≡◌, ◌≤◌, ◌+◌, length, vec_len, rules, refl, ap, subst, ◌∙◌}
use Rattle.std.specs.Io.KnownBytes.{Appends}
use Rattle.workers.specs.Outputs.{saturated}
use Rattle.workers.specs.declared.outgoing.Output.{Output}
use Rattle.workers.specs.declared.outgoing.Outgoing.{Outgoing}
use Rattle.workers.proofs.Written.{wrote_reply}
use Rattle.workers.proofs.outgoing.Outgoing.write_known.Goals as goal

pub returns-clause-wrote : goal.returns-clause-wrote
returns-clause-wrote g c =
    let x : Output = c.pop_known-reply.result in
    let took = c.pop_known-reply.ensures.received in
    let front = c.peek_known-reply.ensures in
    let same : c.peek_known-reply.result.now ≡ x = cc (front.1, took.1) in
    let bytes = c.as_slice.ensures.value ∙ ap (λ (o : Output). o.bytes.items) same in
    let above : c.args.self.now.next ≤ x.number = subst (λ (o : Output). c.args.self.now.next ≤ o.number) same c.if-reply-self.false in
    let len : vec_len x.bytes ≡ length x.bytes.items = search rules in
    let after : Outgoing g.row.W.Denot = record { writer = c.write_all.new.self; replies = c.pop_known-reply.new.self; next = x.number + 1; replied = c.saturating_add-self.result } in
    wrote_reply g.W.Write.contents c.args.self.now after x (subst (Appends (g.W.Write.contents c.args.self.now.writer) (g.W.Write.contents c.write_all.new.self)) bytes c.in_ok-write_all.ensures.bytes) took.0 above refl (c.saturating_add-self.ensures ∙ ap (λ n. saturated (c.args.self.now.replied + n)) (c.len.ensures ∙ len))
