use Rattle.std.proofs.Common.{◌∷◌, [], None, sym, subst, false}
use Rattle.base.specs.declared.tree.Expr.{Expr}
use Rattle.base.specs.Footprint.{expr_touches}
use Rattle.base.specs.Interval.{interval}
use Rattle.ranges.specs.Seen.{seen_in}
use Rattle.ranges.specs.Settled.{AllSettled}
use Rattle.ranges.proofs.SettledTouches.{both_settled}
use Rattle.ranges.proofs.state.Walk.+settles_expr.Goals as goal

pub returns-then-settles_expr : goal.returns-then-settles_expr
returns-then-settles_expr t c h loops d between weaker =
    let lengths = c.args.lengths.now in
    let seen = seen_in c.args.self.now in
    subst (λ (e : Expr). AllSettled lengths seen (expr_touches e loops d)) (sym c.in-Cell.is)
    (both_settled lengths seen (expr_touches c.in-Cell.subscript.value loops d) _
    (subst (λ (e : Expr). AllSettled lengths seen (expr_touches e loops d)) c.deref-in-Cell.ensures
    (c.settles_expr.ensures c.if-settles_expr.true loops d between weaker))
    (subst (λ (e : Expr). AllSettled lengths seen (record { array = c.in-Cell.array; cells = interval e loops; is_write = false; certain = d; combines = None; place = c.in-Cell.place } ∷ []))
    c.deref.ensures (c.settles_access.ensures h loops d between weaker)))
