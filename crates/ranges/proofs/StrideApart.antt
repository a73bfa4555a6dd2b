-- Where the name of a loop differs by turns cells do that move on with it by more than they are wide.
use Rattle.std.proofs.Common.{◌≡◌, ℕ, zero, suc, ◌+◌, ◌-◌, ◌*◌, ◌<◌, ◌≤◌, ◌%◌, ◌/◌, refl, sym, ap, ◌∙◌, ⊎_elim, arith}
use Rattle.std.proofs.Math.Nat.{mod-eq-sub-div-mul, div-mul-le_self, mul-le-mul_left}
use Rattle.std.proofs.lemmas.Bool.{cases_lt}
use Rattle.base.specs.declared.tree.Bounds.{Bounds}
use Rattle.base.specs.declared.fault.Interval.{Interval}
use Rattle.ranges.specs.declared.stride.Stride.{Stride}
use Rattle.ranges.specs.Strides.{IsTurn, IsWithin, KeepsApart}

pub exact_factor : (m n : ℕ) → m % n ≡ 0 → n * (m / n) ≡ m
exact_factor m n e =
    let p = mod-eq-sub-div-mul m n in
    let q = div-mul-le_self m n in
    omega (arith, e, p, q)

-- a later turn is ahead by more than the width
not_behind : (by step width i j : ℕ) → width < by * step → i < j → by * (step * j) ≤ width + by * (step * i) → ⊥
not_behind by step width i j wide lt le =
    let more : by * step * suc i ≤ by * step * j = mul-le-mul_left (by * step) lt in
    omega (arith, wide, le, more)

same_turn : (by step width i j : ℕ) → width < by * step → by * (step * j) ≤ width + by * (step * i) →
    by * (step * i) ≤ width + by * (step * j) → i ≡ j
same_turn by step width i j wide p q =
    ⊎_elim (λ (lt : i < j). absurd (not_behind by step width i j wide lt p))
    (λ (le : j ≤ i). ⊎_elim (λ (lt : j < i). absurd (not_behind by step width j i wide lt q))
    (λ (ge : i ≤ j). omega (arith, le, ge)) (cases_lt j i))
    (cases_lt i j)

-- a greater multiple of the modulus lies behind all cells
no_more_times : (m t k reach low high c : ℕ) → reach < m → t < k → m * k + low ≤ c → c ≤ m * t + high → high ≤ low + reach → ⊥
no_more_times m t k reach low high c small lt p q r =
    let more : m * suc t ≤ m * k = mul-le-mul_left m lt in
    omega (arith, small, p, q, r, more)

module _ (m : ℕ) (w : Stride) (b : Bounds) (width : ℕ) (is : w.hi ≡ w.lo + width) (wide : width < w.by * b.step)
    (u v c : ℕ) (x y : Interval) (a : IsTurn b u) (d : IsTurn b v) (g : IsWithin m w (u - b.first) x) (h : IsWithin m w (v - b.first) y)
    (x_low : x.lo ≤ c) (x_high : c ≤ x.hi) (y_low : y.lo ≤ c) (y_high : c ≤ y.hi) where
  from_u : w.by * (u - b.first) ≡ w.by * (b.step * a.turn)
  from_u = ap (λ n. w.by * n) (omega (arith, a.value))

  from_v : w.by * (v - b.first) ≡ w.by * (b.step * d.turn)
  from_v = ap (λ n. w.by * n) (omega (arith, d.value))

  -- with one multiple of the modulus
  agree : m * g.times ≡ m * h.times → u ≡ v
  agree e =
      let i : a.turn ≡ d.turn = same_turn w.by b.step width a.turn d.turn wide
      (omega (arith, e, from_u, from_v, is, h.low, g.high, x_high, y_low))
      (omega (arith, e, from_u, from_v, is, g.low, h.high, y_high, x_low)) in
      a.value ∙ ap (λ n. b.first + b.step * n) i ∙ sym d.value

  pub agree_plain : m ≡ 0 → u ≡ v
  agree_plain z = agree (at m z)
    where
      at : (k : ℕ) → k ≡ 0 → k * g.times ≡ k * h.times
      at k e = let p : k * g.times ≡ 0 * g.times = ap (λ n. n * g.times) e in let q : k * h.times ≡ 0 * h.times = ap (λ n. n * h.times) e in omega (arith, p, q)

  reach_of : (n : ℕ) → n < b.end → w.by * (n - b.first) ≤ w.by * (b.end - 1 - b.first)
  reach_of n lt = mul-le-mul_left w.by (omega (arith, lt))

  pub agree_modulo : (reach : ℕ) → width + w.by * (b.end - 1 - b.first) ≤ reach → reach < m → u ≡ v
  agree_modulo reach long small =
      let p = reach_of u a.inside in
      let q = reach_of v d.inside in
      ⊎_elim (λ (lt : g.times < h.times).
      absurd (no_more_times m g.times h.times reach (w.lo + w.by * (v - b.first)) (w.hi + w.by * (u - b.first)) c small lt
      (omega (arith, h.low, y_low)) (omega (arith, g.high, x_high)) (omega (arith, is, long, p))))
      (λ (le : h.times ≤ g.times). ⊎_elim (λ (lt : h.times < g.times).
      absurd (no_more_times m h.times g.times reach (w.lo + w.by * (u - b.first)) (w.hi + w.by * (v - b.first)) c small lt
      (omega (arith, g.low, x_low)) (omega (arith, h.high, y_high)) (omega (arith, is, long, q))))
      (λ (ge : g.times ≤ h.times). let e : g.times ≡ h.times = omega (arith, le, ge) in agree (ap (λ k. m * k) e)) (cases_lt h.times g.times))
      (cases_lt g.times h.times)
