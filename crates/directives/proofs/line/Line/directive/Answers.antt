use Rattle.directives.proofs.Heading.{read_line}
use Rattle.directives.proofs.line.Line.directive.Goals as goal

pub returns-clause-tree : goal.returns-clause-tree
returns-clause-tree c =
    read_line c.args.self.now c.head.new.self _ c.in_ok-kind.ensures.tree c.in_ok-clauses.ensures.tree
