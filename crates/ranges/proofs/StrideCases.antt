-- Where the expressions of a case lie by the name of a loop.
use Rattle.std.proofs.Common.{◌≡◌, ℕ, ◌+◌, ◌-◌, ◌*◌, ◌<◌, ◌≤◌, List, Option, Some, None, refl, sym, ap, ◌∙◌, subst, arith}
use Rattle.std.specs.Prelude.{IfSome}
use Rattle.base.specs.declared.tree.BinaryOp.{BinaryOp}
use Rattle.base.specs.declared.tree.Expr.{Expr}
use Rattle.base.specs.declared.fault.Interval.{Interval}
use Rattle.base.specs.Interval.{exactly, interval, interval_binary}
use Rattle.ranges.specs.declared.stride.Stride.{Stride}
use Rattle.ranges.specs.Spans.{AreBetween, IsPart}
use Rattle.ranges.specs.Strides.{IsExact, IsWithin, Strides, ahead}

pub if_some : {A : Type 0} (o : Option A) (P Q : A → Type 0) → IfSome o P → ((x : A) → P x → Q x) → IfSome o Q
if_some (Some x) P Q h f = f x h
if_some None P Q h f = tt

-- every number is a multiple of one
pub exact_strides : (m level : ℕ) (lows highs : List ℕ) (e : Expr) (w : Stride) → m ≡ 1 → w.by ≡ 0 → w.lo ≡ 0 → w.hi ≡ 0 →
    IsExact e → Strides m level lows highs e w
exact_strides m level lows highs e w one by lo hi exact loops between =
    let s = ahead lows level loops in
    let x = interval e loops in
    let p : m * x.lo ≡ 1 * x.lo = ap (λ n. n * x.lo) one in
    let q : w.by * s ≡ 0 * s = ap (λ n. n * s) by in
    let same = exact loops in
    record { times = x.lo; low = omega (arith, p, q, lo); high = omega (arith, p, q, hi, same) }

-- an operator and its operands
pub binary_strides : (m level : ℕ) (lows highs : List ℕ) (o op : BinaryOp) (e a b : Expr) (w : Stride) →
    ((loops : List ℕ) → interval e loops ≡ interval_binary o (interval a loops) (interval b loops)) → o ≡ op →
    ((loops : List ℕ) → AreBetween lows highs loops →
    IsWithin m w (ahead lows level loops) (interval_binary op (interval a loops) (interval b loops))) →
    Strides m level lows highs e w
binary_strides m level lows highs o op e a b w is same h loops between =
    subst (IsWithin m w (ahead lows level loops))
    (sym (is loops ∙ ap (λ p. interval_binary p (interval a loops) (interval b loops)) same)) (h loops between)

pub single_part : (x y : Interval) → IsPart x y → y.lo ≡ y.hi → IsPart x (exactly y.lo)
single_part x y p e = record { low = p.low; high = omega (arith, p.high, e) }
