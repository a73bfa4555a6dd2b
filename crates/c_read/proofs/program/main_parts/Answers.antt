use Rattle.std.proofs.Common.{List, sym, subst}
use Rattle.c_expressions.specs.Cursor.{items}
use Rattle.c_statements.specs.Simple.{env_of}
use Rattle.c_read.specs.Parts.{Placed}
use Rattle.c_read.specs.Read.{AreInnerRead}
use Rattle.c_read.proofs.program.main_parts.Goals as goal

pub returns-clause-tree : goal.returns-clause-tree
returns-clause-tree c =
    subst (λ (ps : List Placed). AreInnerRead (env_of c.args.scope.now) c.gather.new.scope.scalars
    (items c.args.tokens.now) (items c.gather.new.tokens) ps) (sym c.in_ok-parts.ensures.pieces) c.in_ok-gathered.ensures.tree
