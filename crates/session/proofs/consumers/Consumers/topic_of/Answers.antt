use Rattle.std.proofs.Common.{◌≡◌, ◌∙◌, List, Some, None, position, sym, ap, rules}
use Rattle.session.specs.declared.entry.Entry.{Entry}
use Rattle.session.specs.Table.{has_id, topic_of}
use Rattle.session.proofs.Searched.{topic_nowhere, topic_there}
use Rattle.session.proofs.consumers.Consumers.topic_of.Goals as goal

pub returns-in_err-place : goal.returns-in_err-place
returns-in_err-place c =
    let xs = c.self.inside.entries.items in
    let gone : c.place_among.result ≡ None = search rules in
    let none : c.from_residual.result ≡ None = search rules in
    let at : position (has_id c.args.id) xs ≡ None = ap (λ (ys : List Entry). position (has_id c.args.id) ys) (sym c.as_slice.ensures.value) ∙ sym c.place_among.ensures.place ∙ gone in
    none ∙ sym (topic_nowhere xs c.args.id at) ∙ ap (λ (ys : List Entry). topic_of ys c.args.id) c.self.view_is

pub returns : goal.returns
returns c =
    let xs = c.self.inside.entries.items in
    let there : c.place_among.result ≡ Some c.in_ok-place.place = search rules in
    let at : position (has_id c.args.id) xs ≡ Some c.in_ok-place.place = ap (λ (ys : List Entry). position (has_id c.args.id) ys) (sym c.as_slice.ensures.value) ∙ sym c.place_among.ensures.place ∙ there in
    ap (λ (e : Entry). Some e.topic) (c.entry.ensures ∙ c.index.ensures)
    ∙ sym (topic_there xs c.args.id c.in_ok-place.place c.index.result.now at)
    ∙ ap (λ (ys : List Entry). topic_of ys c.args.id) c.self.view_is
