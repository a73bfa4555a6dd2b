use Rattle.std.proofs.Common.{◌≡◌, ◌∷◌, [], refl, subst, sym, ⊎_elim}
use Rattle.base.specs.declared.tree.Expr.{Expr}
use Rattle.base.specs.Footprint.{Touch, expr_touches}
use Rattle.base.specs.Interval.{interval}
use Rattle.ranges.specs.Strides.{AllHeld, Holds, ahead}
use Rattle.ranges.proofs.HeldTouches.{joined_held}
use Rattle.ranges.proofs.touched.+touched_expr.Goals as goal

pub returns-in-Cell : goal.returns-in-Cell
returns-in-Cell t c =
    let q = c.args.q in
    let lows = c.args.span.now.lows.items in
    let highs = c.args.span.now.highs.items in
    subst (λ (e : Expr). Holds q lows highs c.with.result (expr_touches e)) (sym c.in-Cell.is)
    (joined_held q lows highs c.touched_expr.result c.touched_access.result c.with.result (expr_touches c.in-Cell.subscript.value) _
    c.with.ensures.left c.with.ensures.right
    (subst (λ (e : Expr). Holds q lows highs c.touched_expr.result (expr_touches e)) c.deref.ensures c.touched_expr.ensures)
    (λ loops d between. (
      c.touched_access.ensures loops _ between refl
          (λ i. interval (sym c.deref-in-Cell.ensures i) loops),
      tt,
    )))

pub returns-in-Binary : goal.returns-in-Binary
returns-in-Binary t c =
    let q = c.args.q in
    let lows = c.args.span.now.lows.items in
    let highs = c.args.span.now.highs.items in
    let both =
    joined_held q lows highs c.touched_expr-in-Binary.result c.touched_expr-in-Binary-2.result c.with-in-Binary.result
    (expr_touches c.in-Binary.a.value) (expr_touches c.in-Binary.b.value)
    c.with-in-Binary.ensures.left c.with-in-Binary.ensures.right
    (subst (λ (e : Expr). Holds q lows highs c.touched_expr-in-Binary.result (expr_touches e)) c.deref-in-Binary.ensures
    c.touched_expr-in-Binary.ensures)
    (subst (λ (e : Expr). Holds q lows highs c.touched_expr-in-Binary-2.result (expr_touches e)) c.deref-in-Binary-2.ensures
    c.touched_expr-in-Binary-2.ensures) in
    ⊎_elim (λ b. subst (λ (e : Expr). Holds q lows highs c.with-in-Binary.result (expr_touches e)) (sym b.1) both)
    (λ rest. ⊎_elim (λ is. subst (λ (e : Expr). Holds q lows highs c.with-in-Binary.result (expr_touches e)) (sym is) both)
    (λ is. subst (λ (e : Expr). Holds q lows highs c.with-in-Binary.result (expr_touches e)) (sym is) both) rest)
    c.in-Binary.is
