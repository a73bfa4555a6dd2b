use Rattle.directives.proofs.Listing.{read_sections}
use Rattle.std.proofs.Common.{arith}
use Rattle.directives.proofs.line.Line.sections.Goals as goal

pub returns-clause-tree : goal.returns-clause-tree
returns-clause-tree c = grind (arith, read_sections)
