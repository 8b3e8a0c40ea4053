use Rattle.proto_fields.proofs.FieldList as fields
use Rattle.proto_fields.proofs.laws.reads_whole.Goals as goal

pub returns : goal.returns
returns c = fields.reads_whole
