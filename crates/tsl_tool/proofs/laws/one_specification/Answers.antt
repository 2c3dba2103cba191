use Rattle.tsl_reader.proofs.Causes.{one_spec}
use Rattle.tsl_tool.proofs.laws.one_specification.Goals as goal

pub returns : goal.returns
returns c = one_spec
