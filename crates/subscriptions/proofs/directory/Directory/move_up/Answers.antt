use Rattle.std.proofs.Common.{◌∙◌, ap}
use Rattle.std.proofs.lemmas.Map.Made.{lookup-map_values}
use Rattle.std.specs.BTreeMap.{is_at}
use Rattle.std.specs.Option.{option_map}
use Rattle.subscriptions.specs.Directory.{pair_cmp, place_in, moved_up}
use Rattle.subscriptions.proofs.directory.Directory.move_up.Goals as goal

pub returns : goal.returns
returns c k =
    ap (λ es. place_in es k) c.move_up.ensures
    ∙ lookup-map_values (moved_up c.args.gone) (is_at (pair_cmp (k.session, k.id))) c.self.inside.places.entries
    ∙ ap (λ es. option_map (moved_up c.args.gone) (place_in es k)) c.self.view_is
