use Rattle.c_grammar.proofs.Sources.{fault_first}
use Rattle.c_grammar.proofs.fault_is_first.Goals as goal

pub returns : goal.returns
returns c = fault_first
