-- Quotients and remainders by powers of two.
use Rattle.std.proofs.Common.{◌≡◌, ℕ, ◌-◌, ◌/◌, ◌%◌, ◌^◌, ◌<◌, ◌==◌, Bool, true, false, List, Some, None, refl, sym, ap, ◌∙◌, arith}
use Rattle.std.specs.Prelude.{nat_lt, ◌&&◌, ◌*◌, unwrap_or, slice_index, if◌then◌else◌, bit_and}
use Rattle.std.proofs.lemmas.Bool.{and_parts, eqb-true, ltb-true}
use Rattle.std.proofs.lemmas.Nat.{and_mask, one_shl, pow_below}
use Rattle.std.proofs.Math.Nat.{mod-eq_of_lt}
use Rattle.base.specs.declared.tree.DivideOp.TheVariants.{Quotient, Remainder}
use Rattle.base.specs.declared.tree.BinaryOp.TheVariants.{BitAnd}
use Rattle.base.specs.declared.tree.ShiftOp.TheVariants.{Right}
use Rattle.base.specs.Value.{binary, divided, shifted}
use Rattle.lanes.specs.Numbers.{Became, log_at, log_of}

chosen : (b : Bool) (t k : ℕ) → (if b then Some t else None) ≡ Some k → (b ≡ true) × (t ≡ k)
chosen true t k e = (refl, ap (λ o. unwrap_or o 0) e)
chosen false t k e = absurd cc

log_at_is : (n t k : ℕ) → log_at n t ≡ Some k → (k < 64) × (n ≡ 2 ^ k)
log_at_is n t k e =
    let c = chosen (nat_lt t 64 && (n == 2 ^ t)) t k e in
    let p = and_parts (nat_lt t 64) (n == 2 ^ t) c.0 in
    let small : t < 64 = ltb-true t 64 p.0 in
    let same : t ≡ k = c.1 in
    (omega (arith, small, same), eqb-true n (2 ^ t) p.1 ∙ ap (λ j. 2 ^ j) same)

-- a number with such a logarithm is 2 to the power of it
pub log_is : (n k : ℕ) → log_of n ≡ Some k → (k < 64) × (n ≡ 2 ^ k)
log_is n k e = log_at_is n _ k e

-- `1 << k` is 2 to the power of k
pub is_power : (n k : ℕ) → k < 64 → n ≡ 1 * 2 ^ k % 2 ^ 64 → n ≡ 2 ^ k
is_power n k small e = e ∙ one_shl k 64 small

-- a remainder by a power of two keeps the low bits
pub mask_is : (v n k : ℕ) → n ≡ 2 ^ k → bit_and v (n - 1) ≡ v % n
mask_is v n k e = ap (λ m. bit_and v (m - 1)) e ∙ and_mask v k ∙ ap (λ m. v % m) (sym e)

-- so it is with the mask as a number of 64 bits
pub small_mask_is : (v n k : ℕ) → k < 64 → n ≡ 2 ^ k → bit_and v ((n - 1) % 2 ^ 64) ≡ v % n
small_mask_is v n k small e =
    let below = pow_below k 64 small in
    let less : n - 1 < 2 ^ 64 = omega (arith, below, e) in
    ap (bit_and v) (mod-eq_of_lt less) ∙ mask_is v n k e

pub by_shift : (n k : ℕ) (xs ys : List ℕ) → n ≡ 2 ^ k → Became (λ j x. shifted Right x k) xs ys →
    Became (λ j x. divided Quotient x n) xs ys
by_shift n k xs ys e h =
    record { size = h.size; each = λ j lt. h.each j lt ∙ ap (λ m. slice_index xs j / m) (sym e) }

pub by_mask : (n k : ℕ) (xs ys : List ℕ) → n ≡ 2 ^ k → Became (λ j x. binary BitAnd x (n - 1)) xs ys →
    Became (λ j x. divided Remainder x n) xs ys
by_mask n k xs ys e h =
    record { size = h.size; each = λ j lt. h.each j lt ∙ mask_is (slice_index xs j) n k e }
