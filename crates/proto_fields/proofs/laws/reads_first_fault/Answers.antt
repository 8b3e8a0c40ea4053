use Rattle.proto_fields.proofs.FieldList as lemmas
use Rattle.proto_fields.proofs.laws.reads_first_fault.Goals as goal

pub returns : goal.returns
returns c = lemmas.reads_first_fault
