use Rattle.std.proofs.Common.{◌≡◌, true, arith}
use Rattle.std.proofs.lemmas.Grind.{common_steps}
use Rattle.c_meaning.specs.Same.{same_program}
use Rattle.c_meaning.proofs.Statements.{same_erased}
use Rattle.c_meaning.proofs.program.is_same_in_c.Goals as goal

pub returns-clause-same : goal.returns-clause-same
returns-clause-same c =
    λ h input. let e : same_program c.args.p.now ≡ true = grind (arith, common_steps) in
    same_erased c.args.p.now input e
