use Rattle.proto_fields.proofs.Faults as faults
use Rattle.proto_fields.proofs.laws.names_faults.Goals as goal

pub returns : goal.returns
returns c = faults.names_faults
