-- The conditions that were read.
use Rattle.std.proofs.Common.{◌≡◌, ◌+◌, List, ◌∷◌, ap, subst, ◌∙◌, arith}
use Rattle.c_tokens.specs.declared.kind.Sign.TheVariants as sign
use Rattle.base.specs.declared.tree.Expr.{Expr}
use Rattle.c_grammar.specs.Terminal.{Terminal, Mark}
use Rattle.c_expressions.specs.declared.cursor.Cursor.{Cursor}
use Rattle.c_expressions.specs.Means.{Items, Names, term_size, IsExpr}
use Rattle.c_expressions.specs.Cursor.{items, first_item, behind}
use Rattle.c_expressions.specs.Trees.{IsReadBefore}
use Rattle.c_expressions.proofs.Expressions.{first_then, behind_less, drops, drop_by, drop_one}
use Rattle.c_statements.specs.Blocks.{IsConditionRead}

pub read_condition : (names : Names) (t1 t2 : Cursor) (after : Items) (e : Expr) → (first_item t1).terminal ≡
    Mark sign.OpenParen → behind t1 ≡ items t2 → IsReadBefore names sign.CloseParen (items t2) after e →
    IsConditionRead names (items t1) after e
read_condition names t1 t2 after e h b r =
    let n = term_size r.tree in
    record {
      value = r.tree;
      tokens = first_then (Mark sign.OpenParen) t1 t2 h b ∙ ap (λ (ts : List Terminal). Mark sign.OpenParen ∷ ts)
          r.tokens;
      rest = drop_by (1 + (n + 1)) (n + 2) (items t1) after (omega arith)
          (drops 1 (n + 1) (items t1) (items t2) after (drop_one t1 t2 b) r.rest);
      ranked = r.ranked;
      fewer = omega (arith, behind_less t1 t2 b, r.fewer);
      means = subst (λ (is : Items). IsExpr names is r.tree e) (drop_one t1 t2 b) r.means;
    }
