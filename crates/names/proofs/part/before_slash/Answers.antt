use Rattle.std.proofs.Common.{◌∙◌, ap, Option, ℕ, length}
use Rattle.std.specs.Option.{unwrap_or}
use Rattle.names.proofs.Parts.{place_or_length}
use Rattle.names.proofs.part.before_slash.Goals as goal

pub returns-clause-count : goal.returns-clause-count
returns-clause-count c = c.unwrap_or.ensures ∙ ap (λ (place : Option ℕ). unwrap_or place (length c.args.bytes.now)) c.first_slash.ensures ∙ place_or_length c.args.bytes.now
