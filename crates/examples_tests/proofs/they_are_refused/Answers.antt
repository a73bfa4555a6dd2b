use Rattle.examples_tests.proofs.Refusals.{they_are_refused}
use Rattle.examples_tests.proofs.they_are_refused.Goals as goal

pub returns : goal.returns
returns c = they_are_refused
