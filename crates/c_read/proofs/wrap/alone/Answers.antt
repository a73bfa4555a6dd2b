use Rattle.std.proofs.Common.{◌∷◌, ◌++◌, [], List, sym, ap, subst, ◌∙◌}
use Rattle.base.specs.declared.tree.Part.{Part}
use Rattle.base.specs.declared.tree.Part.TheVariants as part
use Rattle.base.specs.declared.tree.Stmt.{Stmt as Statement}
use Rattle.c_read.specs.declared.piece.Piece.{Piece}
use Rattle.c_read.specs.Read.{AreAlone}
use Rattle.c_read.proofs.Wraps.{alone_host}
use Rattle.c_read.proofs.wrap.alone.Goals as goal

pub returns-in_ok-push-in-Statement-2-clause-parts : goal.returns-in_ok-push-in-Statement-2-clause-parts
returns-in_ok-push-in-Statement-2-clause-parts c =
    subst (λ (q : Piece). AreAlone c.args.place q c.push-in-Statement.new.self.items) (sym c.in-Statement.is)
    (alone_host c.args.place c.in-Statement.stmt c.push.new.self c.push-in-Statement.new.self.items
    (c.in_ok-push-in-Statement.ensures.items ∙ ap (λ (xs : List Statement). xs ++ c.in-Statement.stmt ∷ []) c.new-body.ensures.items)
    (c.in_ok-push-in-Statement-2.ensures.items ∙ ap (λ (ps : List Part). ps ++ part.Host (record { place = c.args.place; body = c.push.new.self; depth = 0 }) ∷ []) c.new-parts.ensures.items))
