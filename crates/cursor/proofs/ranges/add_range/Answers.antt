use Rattle.std.proofs.Common.{◌||◌, nat_lt, nat_le, ◌∙◌, ap, sym, rules, ℕ}
use Rattle.std.specs.List.{filter}
use Rattle.std.proofs.lemmas.Map.Made.{filter_same_pairs}
use Rattle.cursor.specs.Ranged.{Ranges, with_range}
use Rattle.cursor.proofs.Joined.{none_there, added_behind}
use Rattle.cursor.proofs.ranges.add_range.Goals as goal

pub returns-clause-ok : goal.returns-clause-ok
returns-clause-ok c =
    filter_same_pairs _ (λ (r : ℕ × ℕ). nat_lt r.0 c.args.first || nat_le c.spread-end.result.0 r.0) _ (λ k v b w f' t. search rules) _ _ c.retain.ensures.filtered
    ∙ ap (λ (rs : Ranges). filter (λ (r : ℕ × ℕ). nat_lt r.0 c.args.first || nat_le c.spread-end.result.0 r.0) rs) c.in_ok-insert-2.ensures.entries
    ∙ ap (λ (range : ℕ × ℕ). with_range c.args.first range c.args.after.now.entries) c.spread-end.ensures

pub returns-then-is_none-clause-ok : goal.returns-then-is_none-clause-ok
returns-then-is_none-clause-ok c =
    c.in_ok-insert.ensures.entries
    ∙ sym (added_behind c.args.first c.args.end c.args.after.now.entries c.requires.rises c.requires.low (sym c.range_behind.ensures ∙ none_there c.range_behind.result c.is_none.result c.is_none.ensures c.if-is_none.true))
