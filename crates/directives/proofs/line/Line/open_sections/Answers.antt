use Rattle.directives.proofs.Spellings.{spelled_then}
use Rattle.std.proofs.Common.{arith}
use Rattle.directives.proofs.line.Line.open_sections.Goals as goal

pub returns-clause-tree : goal.returns-clause-tree
returns-clause-tree c = grind (arith, spelled_then)
