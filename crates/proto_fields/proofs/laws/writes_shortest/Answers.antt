use Rattle.proto_fields.proofs.Shortest as lemmas
use Rattle.proto_fields.proofs.laws.writes_shortest.Goals as goal

pub returns : goal.returns
returns c = lemmas.writes_shortest
