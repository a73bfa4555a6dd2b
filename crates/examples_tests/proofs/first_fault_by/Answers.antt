use Rattle.examples_tests.proofs.FirstFaults.{first_fault_by}
use Rattle.examples_tests.proofs.first_fault_by.Goals as goal

pub returns : goal.returns
returns c = first_fault_by
