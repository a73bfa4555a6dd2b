-- Expressions that have one interval in all turns of a loop.
use Rattle.std.proofs.Common.{◌≡◌, ℕ, zero, suc, ◌+◌, ◌-◌, ◌*◌, ◌/◌, ◌%◌, ◌<◌, true, List, [], ◌∷◌, ◌++◌, length, refl, sym, ap, ◌∙◌, arith}
use Rattle.std.specs.Prelude.{◌==◌, if◌then◌else◌, slice_index}
use Rattle.std.proofs.lemmas.Bool.Decides.{nat_tests}
use Rattle.std.proofs.Math.Nat.{add-mul-mod_self_right, mod-add-div'}
use Rattle.base.specs.declared.tree.Bounds.{Bounds}
use Rattle.base.specs.declared.tree.Expr.{Expr}
use Rattle.base.specs.declared.tree.DivideOp.TheVariants.{Remainder}
use Rattle.base.specs.declared.fault.Interval.{Interval}
use Rattle.base.specs.Interval.{exactly, from_to, interval, interval_divide}
use Rattle.ranges.specs.declared.affine.Affine.{Affine}
use Rattle.ranges.specs.Cases.{IsTurn}
use Rattle.ranges.specs.Affines.{Slides}

-- another name has the same value in all turns
pub other_name : (loops : List ℕ) (level v w : ℕ) → (level ≡ length loops → ⊥) →
    slice_index (loops ++ v ∷ []) level ≡ slice_index (loops ++ w ∷ []) level
other_name [] zero v w h = absurd (h refl)
other_name [] (suc level) v w h = refl
other_name (x ∷ loops) zero v w h = refl
other_name (x ∷ loops) (suc level) v w h = other_name loops level v w (λ e. h (ap suc e))

same_number : (n : ℕ) → (n == n) ≡ true
same_number n = grind (arith, nat_tests)

rest_is : (x n : ℕ) → interval_divide Remainder (exactly x) n ≡ exactly (x % n)
rest_is x n = ap (λ t. if t then exactly (x % n) else from_to 0 (n - 1)) (same_number (x / n))

-- a multiple of a multiple changes no rest
one_rest : (start by k s n : ℕ) → k % s ≡ 0 → s % n ≡ 0 → (start + by * k) % n ≡ start % n
one_rest start by k s n h g =
    let parts : k ≡ k / s * s = omega (arith, mod-add-div' k s, h) in
    let step : s ≡ s / n * n = omega (arith, mod-add-div' s n, g) in
    let all : by * (k / s * (s / n * n)) ≡ by * (k / s * (s / n)) * n = grind arith in
    ap (λ m. (start + by * m) % n) (parts ∙ ap (λ m. k / s * m) step)
    ∙ ap (λ m. (start + m) % n) all
    ∙ add-mul-mod_self_right start (by * (k / s * (s / n))) n

pub steady_rest : (e : Expr) (loops : List ℕ) (b : Bounds) (a : Affine) (n : ℕ) → b.first < b.end → Slides loops b e a → b.step % n ≡ 0 →
    (v : ℕ) → IsTurn b v →
    interval_divide Remainder (interval e (loops ++ v ∷ [])) n ≡ interval_divide Remainder (interval e (loops ++ b.first ∷ [])) n
steady_rest e loops b a n some slides even v turn =
    let still : a.first ≡ a.first + a.slope * (b.first - b.first) =
    let none : b.first - b.first ≡ 0 = omega arith in
    let e = ap (λ m. a.slope * m) none in omega (arith, e) in
    ap (λ (x : Interval). interval_divide Remainder x n) (slides v turn.from turn.below)
    ∙ rest_is (a.first + a.slope * (v - b.first)) n
    ∙ ap exactly (one_rest a.first a.slope (v - b.first) b.step n turn.whole even)
    ∙ sym (rest_is a.first n)
    ∙ ap (λ m. interval_divide Remainder (exactly m) n) still
    ∙ sym (ap (λ (x : Interval). interval_divide Remainder x n) (slides b.first (omega arith) some))
