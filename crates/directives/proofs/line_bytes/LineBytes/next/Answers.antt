use Rattle.directives.proofs.Pieces.{at_unknown, at_token, at_layout, at_end}
use Rattle.std.proofs.Common.{arith}
use Rattle.std.proofs.lemmas.Grind.{common_steps}
use Rattle.directives.proofs.line_bytes.LineBytes.next.Goals as goal

pub pieces-smaller : goal.pieces-smaller
pieces-smaller c = grind (arith, common_steps)

pub pieces-preserved : goal.pieces-preserved
pieces-preserved c = grind (arith, at_layout)

pub returns-in-Token-clause-next : goal.returns-in-Token-clause-next
returns-in-Token-clause-next c = grind (arith, at_token)

pub returns-in-Unknown-clause-next : goal.returns-in-Unknown-clause-next
returns-in-Unknown-clause-next c = grind (arith, at_unknown)

pub returns-clause-next : goal.returns-clause-next
returns-clause-next c = grind (arith, at_end)
