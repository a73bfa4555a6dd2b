-- The update that an if is, whose statements stand in vectors.
use Rattle.std.proofs.Common.{◌≡◌, List, ap, ◌∙◌, sym, Vec, Global}
use Rattle.base.specs.declared.tree.Expr.{Expr}
use Rattle.base.specs.declared.tree.Stmt.{Stmt, If, items_hidden-the_row-Stmt-0}
use Rattle.c_statements.specs.Updates.{as_update, choice_or}

pub update_if : (t : Expr) (first others : Vec Stmt Global) →
    choice_or t first.items others.items (If t first others) ≡ as_update (If t first others)
update_if t first others =
    sym (ap (λ (xs : List Stmt). choice_or t xs _ (If t first others)) (items_hidden-the_row-Stmt-0 first)
    ∙ ap (λ (ys : List Stmt). choice_or t first.items ys (If t first others)) (items_hidden-the_row-Stmt-0 others))
