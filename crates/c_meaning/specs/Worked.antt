-- What the definitions say of some expressions, where the scalar a is 5, b is 3, and A has the cells 0, 1, 4 and 9. A box
-- is given, any: its pointer is used and nothing else.
use Rattle.std.specs.Prelude.{ℕ, ◌≡◌, ◌*◌, Bool, true, false, nat_lt, nat_eq, List, [], ◌∷◌, map, Option, Some, None, ℤ, pos, negsuc, if◌then◌else◌, Box}
use Rattle.std.proofs.Common.{lit<, lit≤}
use Rattle.std.specs.declared.alloc.Global.{Global}
use Rattle.base.specs.declared.tree.Expr.{Expr}
use Rattle.base.specs.declared.tree.Expr.TheVariants.{Number, Scalar, Cell', Unary', Binary', And', Shift', Divide'}
use Rattle.base.specs.declared.tree.UnaryOp.TheVariants.{Not, Complement}
use Rattle.base.specs.declared.tree.BinaryOp.TheVariants.{BitOr, Equal, Less, Greater, Add, Subtract, Multiply}
use Rattle.base.specs.declared.tree.ShiftOp.TheVariants.{Left, Right}
use Rattle.base.specs.declared.tree.ShiftCount.{ShiftCount}
use Rattle.base.specs.declared.tree.DivideOp.TheVariants.{Quotient, Remainder}
use Rattle.base.specs.declared.tree.Divisor.{Divisor}
use Rattle.base.specs.Value.{Names, value}
use Rattle.c_meaning.specs.declared.shape.CType.{CType}
use Rattle.c_meaning.specs.declared.shape.CType.TheVariants.{Int, Long, Unsigned}
use Rattle.c_meaning.specs.Types.{CValue, of_type}
use Rattle.c_meaning.specs.Values.{c_value}
use Rattle.c_meaning.specs.Same.{same_in_c}

abbrev pub here : Names
here =
    record {
      scalars = λ x. if nat_eq x 0 then 5 else 3;
      loops = [];
      cells = λ c. if nat_lt c.index 4 then Some (c.index * c.index) else None;
    }

-- the value in C, that of the language, and what the test says
pub record Outcome : Type 0 where
  pub in_c : Option CValue
  pub here : Option ℕ
  pub same : Bool

abbrev pub outcome_of : Expr → Outcome
outcome_of e = record { in_c = c_value e here; here = value e here; same = same_in_c e }

-- an expression with what is said of it
pub record Row : Type 0 where
  pub expression : Expr
  pub outcome : Outcome

-- the test passes it
abbrev pub passes : Expr → CType → ℕ → Row
passes e t n = record { expression = e; outcome = record { in_c = Some (of_type t n); here = Some n; same = true } }

-- the test does not pass it: C has this value, or none
abbrev pub told : Expr → Option CValue → ℕ → Row
told e c n = record { expression = e; outcome = record { in_c = c; here = Some n; same = false } }

abbrev pub int : ℤ → Option CValue
int z = Some (record { ctype = Int; number = z })

abbrev pub long : ℤ → Option CValue
long z = Some (record { ctype = Long; number = z })

abbrev pub uint64 : ℕ → Option CValue
uint64 n = Some (of_type Unsigned n)

abbrev pub undefined : Option CValue
undefined = None

abbrev pub a : Expr
a = Scalar (record { 0 = 0 })

abbrev pub b : Expr
b = Scalar (record { 0 = 1 })

module _ (p : Box (Unit {0}) Global) where
  abbrev pub not_of : Expr → Expr
  not_of e = Unary' Not p e

  abbrev pub complement_of : Expr → Expr
  complement_of e = Unary' Complement p e

  abbrev pub plus : Expr → Expr → Expr
  plus e f = Binary' Add p e p f

  abbrev pub minus : Expr → Expr → Expr
  minus e f = Binary' Subtract p e p f

  abbrev pub times : Expr → Expr → Expr
  times e f = Binary' Multiply p e p f

  abbrev pub less : Expr → Expr → Expr
  less e f = Binary' Less p e p f

  abbrev pub greater : Expr → Expr → Expr
  greater e f = Binary' Greater p e p f

  abbrev pub equal : Expr → Expr → Expr
  equal e f = Binary' Equal p e p f

  abbrev pub or_bits : Expr → Expr → Expr
  or_bits e f = Binary' BitOr p e p f

  abbrev pub both : Expr → Expr → Expr
  both e f = And' p e p f

  abbrev pub cell : Expr → Expr
  cell e = Cell' (record { 0 = 0 }) (record { line = 1; column = 1 }) p e

  abbrev pub left : Expr → ShiftCount → Expr
  left e n = Shift' Left p e n

  abbrev pub right : Expr → ShiftCount → Expr
  right e n = Shift' Right p e n

  abbrev pub over : Expr → Divisor → Expr
  over e n = Divide' Quotient p e n

  abbrev pub remainder : Expr → Divisor → Expr
  remainder e n = Divide' Remainder p e n

  abbrev pub by_two : Divisor
  by_two = record { value = 2; not_zero = lit≤ tt }

  abbrev pub count_of_30 : ShiftCount
  count_of_30 = record { count = 30; in_range = lit< tt }

  abbrev pub count_of_31 : ShiftCount
  count_of_31 = record { count = 31; in_range = lit< tt }

  abbrev pub count_of_33 : ShiftCount
  count_of_33 = record { count = 33; in_range = lit< tt }

  abbrev pub count_of_40 : ShiftCount
  count_of_40 = record { count = 40; in_range = lit< tt }

  abbrev pub count_of_60 : ShiftCount
  count_of_60 = record { count = 60; in_range = lit< tt }

  -- another number than C's, or none in C
  abbrev pub different : List Row
  different =
      -- (a < b) - 1 > 0
      told (greater (minus (less a b) (Number 1)) (Number 0)) (int (pos 0)) 1
      -- (0 - 7) / 2, and (0 - 7) % 2
      ∷ told (over (minus (Number 0) (Number 7)) by_two) (int (negsuc 2)) 9223372036854775804
      ∷ told (remainder (minus (Number 0) (Number 7)) by_two) (int (negsuc 0)) 1
      -- ~0, ~0 >> 60, ~0 < 1, ~2147483648
      ∷ told (complement_of (Number 0)) (int (negsuc 0)) 18446744073709551615
      ∷ told (right (complement_of (Number 0)) count_of_60) undefined 15
      ∷ told (less (complement_of (Number 0)) (Number 1)) (int (pos 1)) 0
      ∷ told (complement_of (Number 2147483648)) (long (negsuc 2147483648)) 18446744071562067967
      -- 1 << 40, 1 << 31, (a == b) << 33, (b < a) << 33
      ∷ told (left (Number 1) count_of_40) undefined 1099511627776
      ∷ told (left (Number 1) count_of_31) undefined 2147483648
      ∷ told (left (equal a b) count_of_33) undefined 0
      ∷ told (left (less b a) count_of_33) undefined 8589934592
      -- 65536 * 65536, 4294967296 * 4294967296, 2147483647 + 1, 9223372036854775807 + 1
      ∷ told (times (Number 65536) (Number 65536)) undefined 4294967296
      ∷ told (times (Number 4294967296) (Number 4294967296)) undefined 0
      ∷ told (plus (Number 2147483647) (Number 1)) undefined 2147483648
      ∷ told (plus (Number 9223372036854775807) (Number 1)) undefined 9223372036854775808
      -- 9223372036854775808, which is no `long`
      ∷ told (Number 9223372036854775808) undefined 9223372036854775808
      -- (0 - 1) | 1
      ∷ told (or_bits (minus (Number 0) (Number 1)) (Number 1)) (int (negsuc 0)) 18446744073709551615
      -- a && 1 << 40
      ∷ told (both a (left (Number 1) count_of_40)) undefined 1 ∷ []

  -- the same number in C after all, but the test does not see it
  abbrev pub not_seen : List Row
  not_seen =
      -- a + (0 - 1), 0 - 1 < a
      told (plus a (minus (Number 0) (Number 1))) (uint64 4) 4
      ∷ told (less (minus (Number 0) (Number 1)) a) (int (pos 0)) 0
      -- (b < a) - 1, (3 < 5) - 1
      ∷ told (minus (less b a) (Number 1)) (int (pos 0)) 0
      ∷ told (minus (less (Number 3) (Number 5)) (Number 1)) (int (pos 0)) 0
      -- 0 && 1 << 40
      ∷ told (both (Number 0) (left (Number 1) count_of_40)) (int (pos 0)) 0 ∷ []

  -- the same in C
  abbrev pub alike : List Row
  alike =
      -- a - 7, a - 7 > 0, ~a >> 60, a << 40
      passes (minus a (Number 7)) Unsigned 18446744073709551614
      ∷ passes (greater (minus a (Number 7)) (Number 0)) Int 1
      ∷ passes (right (complement_of a) count_of_60) Unsigned 15
      ∷ passes (left a count_of_40) Unsigned 5497558138880
      -- (b < a) + (a == b), 1 - (a == b), !a + 1, (a < b) | (b < a), a * (b < a)
      ∷ passes (plus (less b a) (equal a b)) Int 1
      ∷ passes (minus (Number 1) (equal a b)) Int 1
      ∷ passes (plus (not_of a) (Number 1)) Int 1
      ∷ passes (or_bits (less a b) (less b a)) Int 1
      ∷ passes (times a (less b a)) Unsigned 5
      -- 1 << 30, 2147483648 << 30, 2147483647, 2147483648, 2147483648 >> 40, 9223372036854775807
      ∷ passes (left (Number 1) count_of_30) Int 1073741824
      ∷ passes (left (Number 2147483648) count_of_30) Long 2305843009213693952
      ∷ passes (Number 2147483647) Int 2147483647
      ∷ passes (Number 2147483648) Long 2147483648
      ∷ passes (right (Number 2147483648) count_of_40) Long 0
      ∷ passes (Number 9223372036854775807) Long 9223372036854775807
      -- 65536 * 32767, 65536 * 65536 as a `long`: 4294967296 * 65536, 7 / 2 * 3 - 9, 1 - 7 % 2
      ∷ passes (times (Number 65536) (Number 32767)) Int 2147418112
      ∷ passes (times (Number 4294967296) (Number 65536)) Long 281474976710656
      ∷ passes (minus (times (over (Number 7) by_two) (Number 3)) (Number 9)) Int 0
      ∷ passes (minus (Number 1) (remainder (Number 7) by_two)) Int 0
      -- A[1 + 2], A[1 - (a < b)], a && b
      ∷ passes (cell (plus (Number 1) (Number 2))) Unsigned 9
      ∷ passes (cell (minus (Number 1) (less a b))) Unsigned 1
      ∷ passes (both a b) Int 1 ∷ []

-- each row says what the definitions say
abbrev pub AsSaid : List Row → Type 0
AsSaid rows = map (λ r. outcome_of r.expression) rows ≡ map (λ r. r.outcome) rows

pub record WorkedExamples (p : Box (Unit {0}) Global) : Type 0 where
  pub differences : AsSaid (different p)
  pub unseen : AsSaid (not_seen p)
  pub equalities : AsSaid (alike p)

abbrev pub ExamplesAsSaid : Type 0
ExamplesAsSaid = (p : Box (Unit {0}) Global) → WorkedExamples p
