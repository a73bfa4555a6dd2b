use Rattle.c_source.proofs.Sources.{fault_first}
use Rattle.c_source.proofs.fault_is_first.Goals as goal

pub returns : goal.returns
returns c = fault_first
