-- C's types of the expressions of the language, and their values (C11 6.2.5, 6.3.1 and 6.4.4.1): `int` has 32 bits,
-- `long` and `uint64_t` have 64.
use Rattle.std.specs.Prelude.{ℕ, ◌-◌, ◌^◌, Bool, nat_le, Option, Some, None, ℤ, pos, negsuc, if◌then◌else◌}
use Rattle.std.specs.Int.{cast_unsigned, w64}
use Rattle.c_meaning.specs.declared.shape.CType.{CType}
use Rattle.c_meaning.specs.declared.shape.CType.TheVariants.{Int, Long, Unsigned}
use Rattle.base.specs.Value.{flag}

abbrev pub width : CType → ℕ
width Int = 32
width Long = 64
width Unsigned = 64

-- the greatest value. The least one of a signed type is -(greatest + 1)
abbrev pub greatest : CType → ℕ
greatest Int = 2 ^ 31 - 1
greatest Long = 2 ^ 63 - 1
greatest Unsigned = 2 ^ 64 - 1

-- the type to which operands of two types are converted (6.3.1.8). No type here is narrower than `int`, so the integer
-- promotions (6.3.1.1) change nothing
abbrev pub common : CType → CType → CType
common Int Int = Int
common Int Long = Long
common Int Unsigned = Unsigned
common Long Int = Long
common Long Long = Long
common Long Unsigned = Unsigned
common Unsigned Int = Unsigned
common Unsigned Long = Unsigned
common Unsigned Unsigned = Unsigned

-- the type of a decimal literal: the first of `int` and `long` that holds it (6.4.4.1)
abbrev pub literal_type : ℕ → CType
literal_type n = if nat_le n (greatest Int) then Int else Long

-- a literal above the greatest `long` has no standard type
abbrev pub has_literal_type : ℕ → Bool
has_literal_type n = nat_le n (greatest Long)

-- a number with its type
pub record CValue : Type 0 where
  pub ctype : CType
  pub number : ℤ

abbrev pub of_type : CType → ℕ → CValue
of_type t n = record { ctype = t; number = pos n }

-- a result of a signed type. One that the type does not hold is undefined (6.5, paragraph 5)
abbrev pub in_signed : CType → ℤ → Option CValue
in_signed t (pos n) = if nat_le n (greatest t) then Some (record { ctype = t; number = pos n }) else None
in_signed t (negsuc n) = if nat_le n (greatest t) then Some (record { ctype = t; number = negsuc n }) else None

-- what a comparison or a logical operator gives: an `int` (6.5.8, 6.5.9, 6.5.13, 6.5.14, 6.5.3.3)
abbrev pub as_int : Bool → CValue
as_int b = of_type Int (flag b)

-- converted to `uint64_t`: modulo 2^64 (6.3.1.3)
abbrev pub to_unsigned : CValue → ℕ
to_unsigned v = cast_unsigned w64 v.number
