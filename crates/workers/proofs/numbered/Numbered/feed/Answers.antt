use Rattle.std.proofs.Common.{◌≡◌, ◌+◌, [], ◌∷◌, length, map, vec_len, rules, sym, ap, ◌∙◌, append-nil}
use mathlib.Core.List.{map-append}
use Rattle.rtrb.specs.Ring.{sent}
use Rattle.workers.specs.Outputs.{saturated}
use Rattle.workers.specs.Writes.{shown, pushed}
use Rattle.workers.specs.declared.numbered.Numbered.{Numbered}
use Rattle.workers.proofs.Fed.{fed_nothing, fed_reply, fed_step}
use Rattle.workers.proofs.numbered.Numbered.feed.Goals as goal

pub returns-in_default-clause-pushed : goal.returns-in_default-clause-pushed
returns-in_default-clause-pushed g c = (
  [],
  sym (append-nil (pushed c.args.replies.now)),
  fed_nothing c.args.self.now c.feed.new.self c.number.new.self c.in_default.ensures.1,
  λ sole. fed_step (g.P.Port.fails c.args.port.now c.feed.new.port) c.args.self.now.session c.feed.new.self c.number.new.self.session (g.P.Port.broker c.args.port.now) (g.P.Port.broker c.feed.new.port)
      c.new-bytes.result.items c.feed.new.out.items [] c.args.piece.bytes.now c.feed.result
      (c.feed.ensures.step sole) c.new-bytes.ensures.items c.feed.ensures.result (ap (λ (n : Numbered). n.session) c.in_default.ensures.1) (sym c.in_default.ensures.0),
)

pub returns-clause-pushed : goal.returns-clause-pushed
returns-clause-pushed g c =
    let x = c.in-Some.reply in
    let len : vec_len x.bytes ≡ length x.bytes.items = search rules in
    let counted = c.saturating_add-self.ensures ∙ ap (λ n. saturated (c.number.new.self.replied + n)) (c.len.ensures ∙ len) in (
      shown x ∷ [],
      ap (λ xs. map shown xs) c.push_reserved.ensures.sent.0 ∙ map-append shown (sent c.args.replies.now) (x ∷ []),
      fed_reply c.args.self.now c.feed.new.self c.feed.new.out.items x c.number.new.self c.saturating_add-self.result c.in-Some.ensures counted,
      λ sole. fed_step (g.P.Port.fails c.args.port.now c.feed.new.port) c.args.self.now.session c.feed.new.self c.number.new.self.session (g.P.Port.broker c.args.port.now) (g.P.Port.broker c.feed.new.port)
          c.new-bytes.result.items c.feed.new.out.items x.bytes.items c.args.piece.bytes.now c.feed.result
          (c.feed.ensures.step sole) c.new-bytes.ensures.items c.feed.ensures.result (ap (λ (n : Numbered). n.session) c.in-Some.ensures.3) c.in-Some.ensures.1,
    )
