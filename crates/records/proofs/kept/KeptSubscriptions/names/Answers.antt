use Rattle.std.proofs.Common.{◌++◌, ◌∙◌, ap, sym, List, ℕ, append-nil, subst, refl, String, Global}
use Rattle.std.specs.Prelude.{map as each}
use Rattle.std.specs.String.{string_bytes}
use Rattle.std.specs.FinMap as map
use Rattle.cursor.specs.Positions.{Positions}
use Rattle.records.specs.Maps.{Kept, by_bytes, IsSound}
use Rattle.records.specs.Present.{texts}
use Rattle.records.proofs.Maps.{entries_text}
use Rattle.records.proofs.Present.{room_for_name, all_names}
use Rattle.records.proofs.kept.KeptSubscriptions.names.Goals as goal

-- the names of a tree's entries
abbrev names_in : {X : Type 0} → List (String X × Positions) → List (List ℕ)
names_in es = each (λ (e : List ℕ × Positions). e.0) (by_bytes es)

pub loop-name-init : goal.loop-name-init
loop-name-init c =
    let gives = c.into_iter-name-iterator.ensures.into_iter_gives in
    let is = ap (λ (k : Kept). map.entries k) (sym c.self.view_is) ∙ entries_text c.self.inside.cursors.entries gives.5 in
    ap (λ (l : List (List ℕ)). l ++ names_in c.into_iter-name-iterator.result) c.new-names.ensures ∙ ap names_in gives.0 ∙ sym (ap (λ (l : List (List ℕ × Positions)). each (λ (e : List ℕ × Positions). e.0) l) is)

pub push-requires : goal.push-requires
push-requires c =
    room_for_name c.args.self.now (map.entries c.args.self.now) (texts c.loop-name.names) (names_in c.next.new.self) (string_bytes c.in-Some.name.now) (subst (λ (k : Kept). IsSound k) c.self.view_is c.self.invariant) refl
    (ap (λ (es : List (String Global × Positions)). texts c.loop-name.names ++ names_in es) (sym c.in-Some.ensures.steps) ∙ c.loop-name.invariant)

pub returns : goal.returns
returns c =
    all_names c.args.self.now (map.entries c.args.self.now) (texts c.loop-name.names) refl
    (sym (append-nil (texts c.loop-name.names)) ∙ ap (λ (es : List (String Global × Positions)). texts c.loop-name.names ++ names_in es) (sym c.in-None.ensures.steps.0) ∙ c.loop-name.invariant)
