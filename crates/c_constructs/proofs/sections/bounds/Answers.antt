use Rattle.std.proofs.Common.{arith}
use Rattle.std.proofs.lemmas.Grind.{common_steps}
use Rattle.c_constructs.proofs.sections.bounds.Goals as goal

pub returns-in_err-first-in-Some-clause-told : goal.returns-in_err-first-in-Some-clause-told
returns-in_err-first-in-Some-clause-told c = grind (arith, common_steps)

pub returns-in_ok-first-in-Some-clause-told : goal.returns-in_ok-first-in-Some-clause-told
returns-in_ok-first-in-Some-clause-told c = grind (arith, common_steps)
