use Rattle.proto_fields.proofs.Shortest as lemmas
use Rattle.proto_fields.proofs.laws.reads_what_is_put.Goals as goal

pub returns : goal.returns
returns c = lemmas.reads_what_is_put
