use Rattle.std.proofs.Common.{◌∙◌, ap, not, nat_eq, rules}
use Rattle.std.proofs.lemmas.Map.Made.{filter_same_pairs}
use Rattle.subscriptions.specs.Directory.{place_in}
use Rattle.subscriptions.proofs.Standing.{without_session}
use Rattle.subscriptions.proofs.directory.leave.Goals as goal

pub returns : goal.returns
returns c k =
    ap (λ es. place_in es k) (filter_same_pairs _ (λ e. not (nat_eq e.0.0 c.args.who)) _ (λ k v b w f' t. search rules) _ _ c.retain.ensures.filtered)
    ∙ without_session c.args.who c.args.places.now.entries k
