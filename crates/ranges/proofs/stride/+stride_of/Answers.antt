use Rattle.std.proofs.Common.{◌≡◌, ◌∙◌, ap, refl, subst, sym}
use Rattle.base.specs.declared.tree.Expr.{Expr}
use Rattle.base.specs.declared.tree.BinaryOp.TheVariants.{Add, Multiply, Subtract}
use Rattle.base.specs.Interval.{interval}
use Rattle.ranges.specs.Spans.{IsBound}
use Rattle.ranges.specs.Strides.{Strides, ahead}
use Rattle.ranges.proofs.StrideCases.{binary_strides, exact_strides, if_some, single_part}
use Rattle.ranges.proofs.stride.+stride_of.Goals as goal

pub returns-then-is_exact : goal.returns-then-is_exact
returns-then-is_exact t c =
    exact_strides c.args.modulus c.args.level c.args.lows.now c.args.highs.now c.args.e.now c.still.result c.if-modulus-eq1.true
    c.still.ensures.by c.still.ensures.lo c.still.ensures.hi (c.is_exact.ensures c.if-is_exact.true)

pub returns-in_ok-stride_of-in-Add : goal.returns-in_ok-stride_of-in-Add
returns-in_ok-stride_of-in-Add t c =
    let lows = c.args.lows.now in
    let highs = c.args.highs.now in
    let it = c.in-Binary in
    if_some c.plus.result _ _ c.plus.ensures (λ w h.
    binary_strides c.args.modulus c.args.level lows highs it.op Add c.args.e.now it.a.value it.b.value w
    (λ loops. ap (λ (e : Expr). interval e loops) it.is) c.in-Add.is
    (λ loops between.
    h c.args.modulus (ahead lows c.args.level loops) (interval it.a.value loops) (interval it.b.value loops)
    (subst (λ (e : Expr). IsBound lows highs e c.in_ok-x-in-Binary.x) c.deref.ensures c.in_ok-x-in-Binary.ensures loops between)
    (subst (λ (e : Expr). IsBound lows highs e c.in_ok-y-in-Binary.y) c.deref-in-Binary.ensures c.in_ok-y-in-Binary.ensures loops between)
    (subst (λ (e : Expr). Strides c.args.modulus c.args.level lows highs e c.in_ok-stride_of-in-Add.field-0) c.deref-in-Add-2.ensures c.in_ok-stride_of-in-Add.ensures loops between)
    (subst (λ (e : Expr). Strides c.args.modulus c.args.level lows highs e c.in_ok-moved-in-Add.moved) c.deref-in-Add.ensures c.in_ok-moved-in-Add.ensures loops between)))

pub returns-in_ok-stride_of-in-Subtract : goal.returns-in_ok-stride_of-in-Subtract
returns-in_ok-stride_of-in-Subtract t c =
    let lows = c.args.lows.now in
    let highs = c.args.highs.now in
    let it = c.in-Binary in
    if_some c.minus.result _ _ c.minus.ensures (λ w h.
    binary_strides c.args.modulus c.args.level lows highs it.op Subtract c.args.e.now it.a.value it.b.value w
    (λ loops. ap (λ (e : Expr). interval e loops) it.is) c.in-Subtract.is
    (λ loops between.
    h c.args.modulus (ahead lows c.args.level loops) (interval it.a.value loops) (interval it.b.value loops)
    (subst (λ (e : Expr). IsBound lows highs e c.in_ok-y-in-Binary.y) c.deref-in-Binary.ensures c.in_ok-y-in-Binary.ensures loops between)
    (subst (λ (e : Expr). Strides c.args.modulus c.args.level lows highs e c.in_ok-stride_of-in-Subtract.field-0) c.deref-in-Subtract.ensures c.in_ok-stride_of-in-Subtract.ensures loops between)))

pub returns-in_ok-stride_of-in-Multiply : goal.returns-in_ok-stride_of-in-Multiply
returns-in_ok-stride_of-in-Multiply t c =
    let lows = c.args.lows.now in
    let highs = c.args.highs.now in
    let it = c.in-Binary in
    if_some c.times.result _ _ c.times.ensures.left (λ w h.
    binary_strides c.args.modulus c.args.level lows highs it.op Multiply c.args.e.now it.a.value it.b.value w
    (λ loops. ap (λ (e : Expr). interval e loops) it.is) c.in-Multiply.is
    (λ loops between.
    c.factor.ensures w (ahead lows c.args.level loops) _
    (h c.factor.result (ahead lows c.args.level loops) (interval it.a.value loops) (interval it.b.value loops)
    (subst (λ (e : Expr). IsBound lows highs e c.in_ok-x-in-Binary.x) c.deref.ensures c.in_ok-x-in-Binary.ensures loops between)
    (single_part (interval it.b.value loops) c.in_ok-y-in-Binary.y
    (subst (λ (e : Expr). IsBound lows highs e c.in_ok-y-in-Binary.y) c.deref-in-Binary.ensures c.in_ok-y-in-Binary.ensures loops between) c.if-y.true)
    (subst (λ (e : Expr). Strides c.factor.result c.args.level lows highs e c.in_ok-stride_of-in-Multiply.field-0) c.deref-in-Multiply.ensures c.in_ok-stride_of-in-Multiply.ensures loops between))))

pub returns-in_ok-stride_of-in-Multiply-2 : goal.returns-in_ok-stride_of-in-Multiply-2
returns-in_ok-stride_of-in-Multiply-2 t c =
    let lows = c.args.lows.now in
    let highs = c.args.highs.now in
    let it = c.in-Binary in
    if_some c.times-in-Multiply-2.result _ _ c.times-in-Multiply-2.ensures.right (λ w h.
    binary_strides c.args.modulus c.args.level lows highs it.op Multiply c.args.e.now it.a.value it.b.value w
    (λ loops. ap (λ (e : Expr). interval e loops) it.is) c.in-Multiply-2.is
    (λ loops between.
    c.factor-in-Multiply-2.ensures w (ahead lows c.args.level loops) _
    (h c.factor-in-Multiply-2.result (ahead lows c.args.level loops) (interval it.b.value loops) (interval it.a.value loops)
    (subst (λ (e : Expr). IsBound lows highs e c.in_ok-y-in-Binary.y) c.deref-in-Binary.ensures c.in_ok-y-in-Binary.ensures loops between)
    (single_part (interval it.a.value loops) c.in_ok-x-in-Binary.x
    (subst (λ (e : Expr). IsBound lows highs e c.in_ok-x-in-Binary.x) c.deref.ensures c.in_ok-x-in-Binary.ensures loops between) c.if-x.true)
    (subst (λ (e : Expr). Strides c.factor-in-Multiply-2.result c.args.level lows highs e c.in_ok-stride_of-in-Multiply-2.field-0) c.deref-in-Multiply-2.ensures c.in_ok-stride_of-in-Multiply-2.ensures loops between))))
