use Rattle.std.proofs.Common.{◌+◌, ◌*◌, ◌/◌, ◌∙◌, ◌∷◌, ◌++◌, [], ap, arith}
use Rattle.std.proofs.lemmas.Result.{IfOk-weaker}
use Rattle.actions.proofs.NestAt.{in_loop, in_turn, nest_at, some}
use Rattle.actions.proofs.nest.+turn_at.Goals as goal

pub unreachable-requires : goal.unreachable-requires
unreachable-requires t c =
    let more = some c.args.depth c.args.body.now c.in-Some.inner.now c.in-Some.bounds c.in-Some-count_of.each c.if-depth-eq0.false
    c.in-Some.ensures c.in-Some-count_of.ensures c.args.loops.now c.args.number c.requires in
    omega (arith, more, c.if-each-eq0.true)

pub value_at-requires : goal.value_at-requires
value_at-requires t c =
    let low = in_loop c.args.depth c.args.body.now c.in-Some.inner.now c.in-Some.bounds c.in-Some-count_of.each c.if-depth-eq0.false
    c.in-Some.ensures c.in-Some-count_of.ensures c.args.loops.now c.args.number c.requires in
    omega (arith, low, c.turns_of.ensures.left)

pub turn_at-requires : goal.turn_at-requires
turn_at-requires t c = (
  omega (arith, c.if-depth-eq0.false),
  in_turn c.args.depth c.args.body.now c.in-Some.inner.now c.in-Some.bounds c.in-Some-count_of.each c.if-depth-eq0.false
      c.in-Some.ensures c.in-Some-count_of.ensures c.args.loops.now c.args.number c.requires
      c.deref.result.now,
)

pub returns : goal.returns
returns t c =
    IfOk-weaker c.turn_at.result _ _
    (λ t' at.
    nest_at c.args.depth c.args.body.now c.in-Some.inner.now c.in-Some.bounds c.in-Some-count_of.each c.if-depth-eq0.false
    c.in-Some.ensures c.in-Some-count_of.ensures c.args.loops.now c.args.number c.requires
    c.deref.result.now (record { loops = t'.0.items; body = t'.1.now })
    (c.deref.ensures.value ∙ c.in_ok-around.ensures
    ∙ ap (λ v. c.args.loops.now ++ v ∷ [])
    (c.value_at.ensures ∙ (λ i. c.turns_of.ensures.next i + c.args.number / c.in-Some-count_of.each * c.turns_of.ensures.step i)))
    at) c.turn_at.ensures
