use Rattle.proto_fields.proofs.Shortest as lemmas
use Rattle.proto_fields.proofs.laws.reads_varints.Goals as goal

pub returns : goal.returns
returns c = lemmas.reads_varints
