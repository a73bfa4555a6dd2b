-- Of a signed type each operator gives what it gives in the language, between its bounds, where the type holds these.
use Rattle.std.proofs.Common.{◌≡◌, ℕ, ◌+◌, ◌-◌, ◌*◌, ◌/◌, ◌%◌, ◌^◌, ◌<◌, ◌≤◌, min, Bool, true, false, refl, ap, sym, arith, eqb-true, leb-true}
use Rattle.std.specs.Prelude.{not, ◌&&◌, ◌==◌, nat_lt, nat_le, bit_or, bit_and, bit_xor, ℤ, pos, ◌-ℤ◌}
use Rattle.std.specs.Int.{cast_signed, w64}
use Rattle.std.proofs.lemmas.Int.{ints, to_z_pos}
use Rattle.std.proofs.lemmas.Bool.{and_parts, cond_both}
use Rattle.std.proofs.lemmas.Bool.Decides.{nat_tests}
use Rattle.std.proofs.lemmas.Nat.{and_le_l, and_le_r, or_lt, xor_lt, mod_below, div-add-mod', mul-le, pow_pos, le-div}
use lib.Bits.{or_add_and, xor_add_and}
use Rattle.base.specs.declared.tree.BinaryOp.{BinaryOp}
use Rattle.base.specs.declared.tree.BinaryOp.TheVariants.{BitOr, BitXor, BitAnd, Equal, NotEqual, Less, LessOrEqual, Greater, GreaterOrEqual, Add, Subtract, Multiply}
use Rattle.base.specs.declared.tree.ShiftOp.{ShiftOp}
use Rattle.base.specs.declared.tree.ShiftOp.TheVariants.{Left, Right}
use Rattle.base.specs.declared.tree.DivideOp.{DivideOp}
use Rattle.base.specs.declared.tree.DivideOp.TheVariants.{Quotient, Remainder}
use Rattle.base.specs.declared.fault.Interval.{Interval}
use Rattle.base.specs.Value.{modulus, flag, binary, shifted, divided}
use Rattle.base.specs.Interval.{from_to, exactly, full, is_single, if_single, interval_divide}
use Rattle.c_meaning.specs.Values.{is_same, signed_binary, signed_divide}
use Rattle.c_meaning.specs.Same.{flag_bounds, binary_bounds, shift_bounds}

-- the number lies between the bounds
pub record Between (i : Interval) (n : ℕ) : Type 0 where
  pub low : i.lo ≤ n
  pub high : n ≤ i.hi

pub flag_between : (b : Bool) → Between flag_bounds (flag b)
flag_between true = record { low = omega arith; high = omega arith }
flag_between false = record { low = omega arith; high = omega arith }

-- the exact result is the natural number that the language has, and lies between the bounds
pub record Exact (z : ℤ) (i : Interval) (n : ℕ) : Type 0 where
  pub number : z ≡ pos n
  pub between : Between i n

single_is : (i : Interval) (n : ℕ) → is_single i ≡ true → Between i n → i.lo ≡ n
single_is i n s h =
    let l = h.low in let u = h.high in
    let e : i.lo ≡ i.hi = eqb-true i.lo i.hi s in
    omega arith

-- the operator's own value, where both operands are known
single_between : (op : BinaryOp) (i j other : Interval) (a b : ℕ) → Between i a → Between j b →
    Between other (binary op a b) →
    Between (if_single op i j other) (binary op a b)
single_between op i j other a b h k o =
    cond_both (is_single i && is_single j) (exactly (binary op i.lo j.lo)) other (λ x. Between x (binary op a b))
    (λ e. let p = and_parts (is_single i) (is_single j) e in
    rw (single_is i a p.0 h, single_is j b p.1 k) (record { low = omega arith; high = omega arith }))
    (λ e. o)

as_bits : (n : ℕ) → n < 2 ^ 63 → cast_signed w64 n ≡ pos n
as_bits n h = to_z_pos w64 n h

same_is : (a b : ℕ) → (nat_le a b && nat_le b a) ≡ (a == b)
same_is a b = grind (arith, nat_tests)

keeps : (n : ℕ) → n < 2 ^ 63 → n % modulus ≡ n
keeps n h = omega arith

tested : (b c : Bool) → b ≡ c → Exact (pos (flag b)) flag_bounds (flag c)
tested b c e = record { number = ap (λ (b : Bool). pos (flag b)) e; between = flag_between c }

difference : (a b : ℕ) → b ≤ a → a < 2 ^ 63 → pos a -ℤ pos b ≡ pos ((a + modulus - b) % modulus)
difference a b h k = omega (arith, ints)

pub binary_exact : (op : BinaryOp) (i j : Interval) (a b : ℕ) → Between i a → Between j b → a < 2 ^ 63 → b < 2 ^ 63 →
    (binary_bounds op i j).hi < 2 ^ 63 →
    Exact (signed_binary op (pos a) (pos b)) (binary_bounds op i j) (binary op a b)
binary_exact BitOr i j a b h k p q r =
    let high : bit_or a b ≤ i.hi + j.hi = let u = h.high in let v = k.high in omega (arith, or_add_and a b) in
    record {
      number = as_bits (bit_or a b) (or_lt 63 a b p q);
      between = single_between BitOr i j (from_to 0 (i.hi + j.hi)) a b h k (record { low = omega arith; high = high });
    }
binary_exact BitXor i j a b h k p q r =
    let high : bit_xor a b ≤ i.hi + j.hi = let u = h.high in let v = k.high in omega (arith, xor_add_and a b) in
    record {
      number = as_bits (bit_xor a b) (xor_lt 63 a b p q);
      between = single_between BitXor i j (from_to 0 (i.hi + j.hi)) a b h k (record { low = omega arith; high = high });
    }
binary_exact BitAnd i j a b h k p q r =
    let l : bit_and a b ≤ a = and_le_l a b in
    let m : bit_and a b ≤ b = and_le_r a b in
    let u = h.high in let v = k.high in
    record {
      number = as_bits (bit_and a b) (omega arith);
      between =
          single_between BitAnd i j (from_to 0 (min i.hi j.hi)) a b h k
          (record { low = omega arith; high = omega arith });
    }
binary_exact Equal i j a b h k p q r = tested (is_same (pos a) (pos b)) (a == b) (same_is a b)
binary_exact NotEqual i j a b h k p q r =
    tested (not (is_same (pos a) (pos b))) (not (a == b)) (ap (λ (b : Bool). not b) (same_is a b))
binary_exact Less i j a b h k p q r = tested (nat_lt a b) (nat_lt a b) refl
binary_exact LessOrEqual i j a b h k p q r = tested (nat_le a b) (nat_le a b) refl
binary_exact Greater i j a b h k p q r = tested (nat_lt b a) (nat_lt b a) refl
binary_exact GreaterOrEqual i j a b h k p q r = tested (nat_le b a) (nat_le b a) refl
binary_exact Add i j a b h k p q r =
    let l = h.low in let u = h.high in let m = k.low in let v = k.high in
    let e : (a + b) % modulus ≡ a + b = keeps (a + b) (omega arith) in
    record { number = ap pos (omega arith); between = record { low = omega arith; high = omega arith } }
binary_exact Subtract i j a b h k p q r =
    subtract (cond_both (nat_le j.hi i.lo) (from_to (i.lo - j.hi) (i.hi - j.lo)) full
    (λ x. x.hi < 2 ^ 63 → (b ≤ a) × Between x (a - b))
    (λ e s. let g : j.hi ≤ i.lo = leb-true j.hi i.lo e in
    let l = h.low in let u = h.high in let m = k.low in let v = k.high in
    (omega arith, record { low = omega arith; high = omega arith }))
    (λ e s. absurd (omega arith)) r)
  where
    subtract : (b ≤ a) × Between (binary_bounds Subtract i j) (a - b) →
        Exact (signed_binary Subtract (pos a) (pos b)) (binary_bounds Subtract i j) (binary Subtract a b)
    subtract x =
        let g = x.0 in let l = x.1.low in let u = x.1.high in
        let e : (a + modulus - b) % modulus ≡ a - b = omega arith in
        record {
          number = difference a b x.0 p;
          between = record { low = omega arith; high = omega arith };
        }
binary_exact Multiply i j a b h k p q r =
    let high : a * b ≤ i.hi * j.hi = mul-le a b i.hi j.hi h.high k.high in
    let low : i.lo * j.lo ≤ a * b = mul-le i.lo j.lo a b h.low k.low in
    let e : (a * b) % modulus ≡ a * b = keeps (a * b) (omega arith) in
    record { number = ap pos (omega arith); between = record { low = omega arith; high = omega arith } }

div_mono : (a b n : ℕ) → a ≤ b → 1 ≤ n → a / n ≤ b / n
div_mono a b n h p = le-div (a / n) b n p (omega (arith, div-add-mod' a n))

-- the number that a shift gives before it is reduced
abbrev pub shift_exact : ShiftOp → ℕ → ℕ → ℕ
shift_exact Left a n = a * 2 ^ n
shift_exact Right a n = a / 2 ^ n

pub shift_between : (op : ShiftOp) (i : Interval) (a n : ℕ) → Between i a →
    Between (shift_bounds op i n) (shift_exact op a n)
shift_between Left i a n h =
    let m : 2 ^ n ≤ 2 ^ n = omega arith in
    record {
      low = mul-le i.lo (2 ^ n) a (2 ^ n) h.low m;
      high = mul-le a (2 ^ n) i.hi (2 ^ n) h.high m;
    }
shift_between Right i a n h =
    record { low = div_mono i.lo a (2 ^ n) h.low (pow_pos n); high = div_mono a i.hi (2 ^ n) h.high (pow_pos n) }

pub shift_same : (op : ShiftOp) (a n : ℕ) → shift_exact op a n < 2 ^ 63 → shifted op a n ≡ shift_exact op a n
shift_same Left a n h = keeps (a * 2 ^ n) h
shift_same Right a n h = refl

mod_mono : (a b n : ℕ) → a ≤ b → a / n ≡ b / n → a % n ≤ b % n
mod_mono a b n h e =
    let p : b / n * n ≡ a / n * n = ap (λ q. q * n) (sym e) in
    omega (arith, div-add-mod' a n, div-add-mod' b n)

pub divide_between : (op : DivideOp) (i : Interval) (a n : ℕ) → Between i a → 1 ≤ n →
    Between (interval_divide op i n) (divided op a n)
divide_between Quotient i a n h one =
    record { low = div_mono i.lo a n h.low one; high = div_mono a i.hi n h.high one }
divide_between Remainder i a n h one =
    cond_both (i.lo / n == i.hi / n) (from_to (i.lo % n) (i.hi % n)) (from_to 0 (n - 1)) (λ x. Between x (a % n))
    (λ e.
    let same : i.lo / n ≡ i.hi / n = eqb-true (i.lo / n) (i.hi / n) e in
    let p : i.lo / n ≤ a / n = div_mono i.lo a n h.low one in
    let q : a / n ≤ i.hi / n = div_mono a i.hi n h.high one in
    let s : i.lo / n ≡ a / n = omega arith in
    let t : a / n ≡ i.hi / n = omega arith in
    record { low = mod_mono i.lo a n h.low s; high = mod_mono a i.hi n h.high t })
    (λ e. let r : a % n < n = mod_below a n one in record { low = omega arith; high = omega arith })

pub divide_exact : (op : DivideOp) (i : Interval) (a n : ℕ) → Between i a → 1 ≤ n →
    Exact (signed_divide op (pos a) (pos n)) (interval_divide op i n) (divided op a n)
divide_exact Quotient i a n h one = record { number = refl; between = divide_between Quotient i a n h one }
divide_exact Remainder i a n h one = record { number = refl; between = divide_between Remainder i a n h one }
