-- Values that move on by a multiple of what a loop's name does.
use Rattle.std.specs.Prelude.{ℕ, ◌≡◌, ◌+◌, ◌-◌, ◌*◌, ◌<◌, ◌≤◌, List, [], ◌∷◌, ◌++◌}
use Rattle.base.specs.declared.tree.BinaryOp.{BinaryOp}
use Rattle.base.specs.declared.tree.Bounds.{Bounds}
use Rattle.base.specs.declared.tree.Expr.{Expr}
use Rattle.base.specs.Interval.{exactly, interval, interval_binary}
use Rattle.ranges.specs.declared.affine.Affine.{Affine}

-- the value once the loop's name has moved on by x
abbrev pub value_at : Affine → ℕ → ℕ
value_at a x = a.first + a.slope * x

-- while the loop's name has moved on by no more than this, the operator makes the values of the last of those of the others
abbrev pub Makes : BinaryOp → ℕ → Affine → Affine → Affine → Type 0
Makes op last a b c =
    (x : ℕ) → x ≤ last → interval_binary op (exactly (value_at a x)) (exactly (value_at b x)) ≡ exactly (value_at c x)

-- in the turns of these bounds the expression has these values
abbrev pub Slides : List ℕ → Bounds → Expr → Affine → Type 0
Slides loops b e a =
    (v : ℕ) → b.first ≤ v → v < b.end → interval e (loops ++ v ∷ []) ≡ exactly (value_at a (v - b.first))
