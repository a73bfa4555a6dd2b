use Rattle.std.proofs.Common.{◌∷◌, [], None, Bool, sym, subst, ◌∙◌}
use Rattle.std.proofs.lemmas.Bool.{false≢true}
use Rattle.base.specs.Footprint.{expr_touches, source_touches}
use Rattle.base.specs.Interval.{interval}
use Rattle.ranges.specs.Seen.{seen_in}
use Rattle.ranges.specs.Settled.{AllSettled}
use Rattle.ranges.proofs.SettledTouches.{both_settled}
use Rattle.ranges.proofs.state.Walk.settles_store.Goals as goal
use Rattle.ranges.proofs.state.Walk.settles_store.Goals.{then-settles_expr, else-settles_expr}

pub returns-then-settles_source : goal.returns-then-settles_source
returns-then-settles_source c h loops d between weaker =
    let lengths = c.args.lengths.now in
    let seen = seen_in c.args.self.now in
    let a = c.args.access.now in
    let here = subst (λ (w : Bool). AllSettled lengths seen (record { array = a.array; cells = interval a.subscript.now loops; is_write = w; certain = d; combines = None; place = a.place } ∷ []))
    c.requires (c.settles_access.ensures h loops d between weaker) in
    elim c.if-settles_expr.branch [
      | then-settles_expr w ↦
          both_settled lengths seen (expr_touches a.subscript.now loops d) _
          (c.settles_expr.ensures w.if-settles_expr.true loops d between weaker)
          (both_settled lengths seen (source_touches c.args.v.now loops d) _
          (w.settles_source.ensures (sym w.value-is ∙ c.if-settles_source.true) loops d between weaker)
          here)
      | else-settles_expr w ↦ absurd (false≢true (sym w.if-settles_expr.false ∙ sym w.value-is ∙ c.if-settles_source.true))
    ]
