use Rattle.proto_fields.proofs.FieldList as fields
use Rattle.proto_fields.proofs.laws.has_one_reading.Goals as goal

pub returns : goal.returns
returns c = fields.has_one_reading
