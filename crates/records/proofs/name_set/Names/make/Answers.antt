use Rattle.std.proofs.Common.{◌∙◌, sym, subst, arith, List, ℕ}
use Rattle.std.specs.FinMap as map
use Rattle.records.specs.Present.{AreNamesOf, texts}
use Rattle.records.proofs.Present.{not_new, is_new, is_made, length_texts}
use Rattle.records.proofs.name_set.Names.make.Goals as goal

pub returns-then-is_some : goal.returns-then-is_some
returns-then-is_some c = λ kept are. not_new kept c.args.name.now (texts c.args.self.now) c.place_of.result are c.place_of.ensures (sym c.is_some.ensures ∙ c.if-is_some.true)

pub returns : goal.returns
returns c = λ kept are.
    let none = sym c.is_some.ensures ∙ c.if-is_some.false in (
      is_new kept c.args.name.now (texts c.args.self.now) c.place_of.result are c.place_of.ensures none (omega (arith, c.if-len-ge-MOST_SUBSCRIPTIONS.false, c.len.ensures.value, length_texts c.args.self.now.names.items)),
      λ acked. subst (λ (l : List (List ℕ)). AreNamesOf (map.insert kept c.args.name.now acked) l) (sym c.push.ensures) (is_made kept c.args.name.now (texts c.args.self.now) c.place_of.result acked are c.place_of.ensures none),
    )
