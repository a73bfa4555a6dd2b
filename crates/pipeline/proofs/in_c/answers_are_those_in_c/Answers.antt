use Rattle.c_meaning.proofs.Statements.{same_erased}
use Rattle.pipeline.proofs.InC.{answers_are_those_in_c}
use Rattle.pipeline.proofs.in_c.answers_are_those_in_c.Goals as goal

pub returns : goal.returns
returns c = answers_are_those_in_c same_erased
