-- Where sums, differences and products lie by the name of a loop.
use Rattle.std.proofs.Common.{◌≡◌, ℕ, zero, suc, ◌+◌, ◌-◌, ◌*◌, ◌<◌, ◌≤◌, ◌%◌, ◌/◌, true, refl, sym, ap, ◌∙◌, subst, arith}
use Rattle.std.specs.Prelude.{if◌then◌else◌, nat_le}
use Rattle.std.proofs.lemmas.Bool.{le-leb}
use Rattle.std.proofs.lemmas.Nat.{mul-le}
use Rattle.base.specs.declared.tree.BinaryOp.TheVariants.{Add, Multiply, Subtract}
use Rattle.base.specs.declared.fault.Interval.{Interval}
use Rattle.base.specs.Interval.{exactly, from_to, if_single, full, interval_binary, interval_product, most}
use Rattle.ranges.specs.declared.stride.Stride.{Stride}
use Rattle.ranges.specs.Spans.{IsPart}
use Rattle.ranges.specs.Strides.{IsWithin}

if_le : {A : Type 0} (a b : ℕ) (x y : A) → a ≤ b → (if nat_le a b then x else y) ≡ x
if_le a b x y h = ap (λ t. if t then x else y) (le-leb a b h)

-- the interval of what does not wrap
pub sum_is : (x y : Interval) → x.hi + y.hi ≤ most → interval_binary Add x y ≡ from_to (x.lo + y.lo) (x.hi + y.hi)
sum_is x y h = if_le (x.hi + y.hi) most _ _ h

pub difference_is : (x y : Interval) → y.hi ≤ x.lo → interval_binary Subtract x y ≡ from_to (x.lo - y.hi) (x.hi - y.lo)
difference_is x y h = if_le y.hi x.lo _ _ h

pub product_is : (x y : Interval) → x.hi * y.hi ≤ most → interval_product x y ≡ from_to (x.lo * y.lo) (x.hi * y.hi)
product_is x y h = if_le (x.hi * y.hi) most _ _ h

pub sum_within : (m s : ℕ) (u v w : Stride) (a b x y : Interval) → w.by ≡ u.by + v.by → w.lo ≡ u.lo + v.lo → w.hi ≡ u.hi + v.hi →
    a.hi + b.hi ≤ most → IsPart x a → IsPart y b → IsWithin m u s x → IsWithin m v s y → IsWithin m w s (interval_binary Add x y)
sum_within m s u v w a b x y by lo hi fits p q g h =
    subst (IsWithin m w s) (sym (sum_is x y (omega (arith, fits, p.high, q.high)))) record {
      times = g.times + h.times;
      low =
          let e = ap (λ n. n * s) by in
          omega (arith, g.low, h.low, lo, e);
      high =
          let e = ap (λ n. n * s) by in
          omega (arith, g.high, h.high, hi, e);
    }

pub difference_within : (m s : ℕ) (u w : Stride) (b x y : Interval) → w.by ≡ u.by → w.lo ≡ u.lo - b.hi → b.hi ≤ u.lo →
    w.hi ≡ u.hi - b.lo → IsPart y b → IsWithin m u s x → IsWithin m w s (interval_binary Subtract x y)
difference_within m s u w b x y by lo le hi q g =
    let e = ap (λ n. n * s) by in
    subst (IsWithin m w s) (sym (difference_is x y (omega (arith, le, q.high, g.low)))) record {
      times = g.times;
      low = omega (arith, g.low, lo, e, q.high, le);
      high = omega (arith, g.high, hi, e, q.low);
    }

-- a product with a number
module _ (m s n : ℕ) (u w : Stride) (a x y : Interval) (by : w.by ≡ u.by * n) (lo : w.lo ≡ u.lo * n) (hi : w.hi ≡ u.hi * n)
    (fits : a.hi * n ≤ most) (p : IsPart x a) (q : IsPart y (exactly n)) (g : IsWithin m u s x) where
  low_part : n * m * g.times + (w.lo + w.by * s) ≤ x.lo * y.lo
  low_part =
      let e = ap (λ k. k * s) by in
      let le = mul-le _ _ _ _ g.low q.low in
      omega (arith, e, lo, le)

  high_part : x.hi * y.hi ≤ n * m * g.times + (w.hi + w.by * s)
  high_part =
      let e = ap (λ k. k * s) by in
      let le = mul-le _ _ _ _ g.high q.high in
      omega (arith, e, hi, le)

  small : x.hi * y.hi ≤ most
  small = let le = mul-le _ _ _ _ p.high q.high in omega (arith, le, fits)

  pub product_within : IsWithin (n * m) w s (interval_binary Multiply x y)
  product_within = subst (IsWithin (n * m) w s) (sym (product_is x y small)) record { times = g.times; low = low_part; high = high_part }

  pub product_within_right : IsWithin (n * m) w s (interval_binary Multiply y x)
  product_within_right =
      subst (IsWithin (n * m) w s) (sym (product_is y x (omega (arith, small)))) record {
        times = g.times;
        low = omega (arith, low_part);
        high = omega (arith, high_part);
      }

-- within a multiple of a factor
pub factor_within : (m n f s : ℕ) (w : Stride) (x : Interval) → n * f ≡ m → IsWithin (n * f) w s x → IsWithin m w s x
factor_within m n f s w x e h = subst (λ k. IsWithin k w s x) e h

pub none_within : (m n s : ℕ) (w : Stride) (x : Interval) → IsWithin (n * 0) w s x → IsWithin m w s x
none_within m n s w x h = record { times = 0; low = omega (arith, h.low); high = omega (arith, h.high) }
