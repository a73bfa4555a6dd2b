-- Sums, differences and products of values that move on by a multiple of what a loop's name does.
use Rattle.std.proofs.Common.{◌≡◌, ℕ, ◌+◌, ◌-◌, ◌*◌, ◌^◌, ◌<◌, ◌≤◌, ap, ◌∙◌, arith}
use Rattle.std.proofs.Math.Nat.{mul-le-mul_left, mul-le-mul_right}
use Rattle.base.specs.declared.tree.BinaryOp.TheVariants.{Add, Multiply, Subtract}
use Rattle.base.specs.Interval.{exactly}
use Rattle.ranges.specs.declared.affine.Affine.{Affine}
use Rattle.ranges.specs.Affines.{Makes, value_at}
use Rattle.ranges.proofs.StrideRules.{difference_is, product_is, sum_is}

module _ (last : ℕ) (a b c : Affine) where
  no_more : (x : ℕ) → x ≤ last → value_at c last < 2 ^ 64 → value_at c x < 2 ^ 64
  no_more x le fits = let more = mul-le-mul_left c.slope le in omega (arith, more, fits)

  pub sum_made : c.first ≡ a.first + b.first → c.slope ≡ a.slope + b.slope → value_at c last < 2 ^ 64 → Makes Add last a b c
  sum_made first slope fits x le =
      let further = ap (λ m. m * x) slope in
      let sum : value_at a x + value_at b x ≡ value_at c x = omega (arith, first, further) in
      let below = no_more x le fits in
      sum_is (exactly (value_at a x)) (exactly (value_at b x)) (omega (arith, sum, below)) ∙ ap exactly sum

  pub difference_made : c.first ≡ a.first - b.first → b.first ≤ a.first → c.slope ≡ a.slope - b.slope → b.slope ≤ a.slope →
      Makes Subtract last a b c
  difference_made first first_le slope slope_le x le =
      let all : c.slope + b.slope ≡ a.slope = omega (arith, slope, slope_le) in
      let further = ap (λ m. m * x) all in
      let less = mul-le-mul_right x slope_le in
      difference_is (exactly (value_at a x)) (exactly (value_at b x)) (omega (arith, first_le, less))
      ∙ ap exactly (omega (arith, first, first_le, further))

  product : c.first ≡ a.first * b.first → c.slope ≡ a.slope * b.first → b.slope ≡ 0 → (x : ℕ) →
      value_at a x * value_at b x ≡ value_at c x
  product first slope still x =
      let further = ap (λ m. m * x) slope in
      let here : value_at b x ≡ b.first = let none = ap (λ m. m * x) still in omega (arith, none) in
      ap (λ m. value_at a x * m) here ∙ omega (arith, first, further)

  pub product_made : c.first ≡ a.first * b.first → c.slope ≡ a.slope * b.first → b.slope ≡ 0 → value_at c last < 2 ^ 64 →
      Makes Multiply last a b c
  product_made first slope still fits x le =
      let is = product first slope still x in
      let below = no_more x le fits in
      product_is (exactly (value_at a x)) (exactly (value_at b x)) (omega (arith, is, below)) ∙ ap exactly is

  pub product_made_right : c.first ≡ a.first * b.first → c.slope ≡ a.slope * b.first → b.slope ≡ 0 → value_at c last < 2 ^ 64 →
      Makes Multiply last b a c
  product_made_right first slope still fits x le =
      let is = product first slope still x in
      let below = no_more x le fits in
      let turned : value_at b x * value_at a x ≡ value_at c x = omega (arith, is) in
      product_is (exactly (value_at b x)) (exactly (value_at a x)) (omega (arith, turned, below)) ∙ ap exactly turned
