-- The value of an expression in C, with its type, or none where C leaves it undefined.
use Rattle.std.specs.Prelude.{ℕ, ◌*◌, ◌/◌, ◌^◌, Bool, true, false, not, ◌&&◌, nat_lt, Option, Some, None, option_and_then, option_map, slice_index, ℤ, pos, negsuc, ◌+ℤ◌, ◌-ℤ◌, ◌*ℤ◌, int_lt, int_le, int_div, int_rem, if◌then◌else◌}
use Rattle.std.specs.Int.{int_bit_and, int_bit_or, int_bit_xor, w64}
use Rattle.base.specs.declared.tree.Expr.{Expr}
use Rattle.base.specs.declared.tree.Expr.TheVariants.{Number, Scalar, LoopName, Cell', Unary', Binary', And', Or', Shift', Divide'}
use Rattle.base.specs.declared.tree.UnaryOp.{UnaryOp}
use Rattle.base.specs.declared.tree.UnaryOp.TheVariants.{Not, Complement}
use Rattle.base.specs.declared.tree.BinaryOp.{BinaryOp}
use Rattle.base.specs.declared.tree.BinaryOp.TheVariants.{BitOr, BitXor, BitAnd, Equal, NotEqual, Less, LessOrEqual, Greater, GreaterOrEqual, Add, Subtract, Multiply}
use Rattle.base.specs.declared.tree.ShiftOp.{ShiftOp}
use Rattle.base.specs.declared.tree.ShiftOp.TheVariants.{Left, Right}
use Rattle.base.specs.declared.tree.DivideOp.{DivideOp}
use Rattle.base.specs.declared.tree.DivideOp.TheVariants.{Quotient, Remainder}
use Rattle.base.specs.Value.{Names, flag, is_zero, unary, binary, shifted, divided}
use Rattle.c_meaning.specs.declared.shape.CType.{CType}
use Rattle.c_meaning.specs.declared.shape.CType.TheVariants.{Int, Long, Unsigned}
use Rattle.c_meaning.specs.Types.{width, common, literal_type, has_literal_type, CValue, of_type, in_signed, as_int, to_unsigned}

-- it compares equal to 0
abbrev pub is_false : CValue → Bool
is_false v = elim v.number [ pos n ↦ is_zero n | negsuc n ↦ false ]

abbrev pub is_same : ℤ → ℤ → Bool
is_same x y = int_le x y && int_le y x

-- the type of a result, where the operands have been converted to this one
abbrev pub result_type : BinaryOp → CType → CType
result_type BitOr t = t
result_type BitXor t = t
result_type BitAnd t = t
result_type Equal t = Int
result_type NotEqual t = Int
result_type Less t = Int
result_type LessOrEqual t = Int
result_type Greater t = Int
result_type GreaterOrEqual t = Int
result_type Add t = t
result_type Subtract t = t
result_type Multiply t = t

-- the result of operands of a signed type, before its type is asked. The bits are those of two's complement, which are
-- the same in 64 bits as in 32
abbrev pub signed_binary : BinaryOp → ℤ → ℤ → ℤ
signed_binary BitOr x y = int_bit_or w64 x y
signed_binary BitXor x y = int_bit_xor w64 x y
signed_binary BitAnd x y = int_bit_and w64 x y
signed_binary Equal x y = pos (flag (is_same x y))
signed_binary NotEqual x y = pos (flag (not (is_same x y)))
signed_binary Less x y = pos (flag (int_lt x y))
signed_binary LessOrEqual x y = pos (flag (int_le x y))
signed_binary Greater x y = pos (flag (int_lt y x))
signed_binary GreaterOrEqual x y = pos (flag (int_le y x))
signed_binary Add x y = x +ℤ y
signed_binary Subtract x y = x -ℤ y
signed_binary Multiply x y = x *ℤ y

-- an operator in a type. In `uint64_t` it is that of the language
abbrev pub binary_in : CType → BinaryOp → CValue → CValue → Option CValue
binary_in Int op v w = in_signed (result_type op Int) (signed_binary op v.number w.number)
binary_in Long op v w = in_signed (result_type op Long) (signed_binary op v.number w.number)
binary_in Unsigned op v w = Some (of_type (result_type op Unsigned) (binary op (to_unsigned v) (to_unsigned w)))

abbrev pub c_binary : BinaryOp → CValue → CValue → Option CValue
c_binary op v w = binary_in (common v.ctype w.ctype) op v w

-- `~x` of a signed type is -x - 1
abbrev pub complement_in : CType → CValue → CValue
complement_in Int v = record { ctype = Int; number = negsuc 0 -ℤ v.number }
complement_in Long v = record { ctype = Long; number = negsuc 0 -ℤ v.number }
complement_in Unsigned v = of_type Unsigned (unary Complement (to_unsigned v))

abbrev pub c_unary : UnaryOp → CValue → CValue
c_unary Not v = as_int (is_false v)
c_unary Complement v = complement_in v.ctype v

-- a shift of a negative number is undefined to the left, and has no value that C fixes to the right (6.5.7)
abbrev pub signed_shift : ShiftOp → CType → ℤ → ℕ → Option CValue
signed_shift Left t (pos a) n = in_signed t (pos (a * 2 ^ n))
signed_shift Right t (pos a) n = in_signed t (pos (a / 2 ^ n))
signed_shift op t (negsuc a) n = None

abbrev pub shift_in : CType → ShiftOp → CValue → ℕ → Option CValue
shift_in Int op v n = signed_shift op Int v.number n
shift_in Long op v n = signed_shift op Long v.number n
shift_in Unsigned op v n = Some (of_type Unsigned (shifted op (to_unsigned v) n))

-- the type is that of the left operand, and the count has to be below its width
abbrev pub c_shift : ShiftOp → ℕ → CValue → Option CValue
c_shift op n v = if nat_lt n (width v.ctype) then shift_in v.ctype op v n else None

-- towards zero (6.5.5)
abbrev pub signed_divide : DivideOp → ℤ → ℤ → ℤ
signed_divide Quotient x y = int_div x y
signed_divide Remainder x y = int_rem x y

abbrev pub divide_in : CType → DivideOp → CValue → ℕ → Option CValue
divide_in Int op v n = in_signed Int (signed_divide op v.number (pos n))
divide_in Long op v n = in_signed Long (signed_divide op v.number (pos n))
divide_in Unsigned op v n = Some (of_type Unsigned (divided op (to_unsigned v) n))

abbrev pub c_divide : DivideOp → ℕ → CValue → Option CValue
c_divide op n v = if has_literal_type n then divide_in (common v.ctype (literal_type n)) op v n else None

-- the right operand is evaluated only where the left one is not 0
abbrev pub c_and : Option CValue → Option CValue → Option CValue
c_and v w =
    option_and_then (λ v. if is_false v then Some (as_int false) else option_map (λ w. as_int (not (is_false w))) w) v

-- the right operand is evaluated only where the left one is 0
abbrev pub c_or : Option CValue → Option CValue → Option CValue
c_or v w =
    option_and_then (λ v. if is_false v then option_map (λ w. as_int (not (is_false w))) w else Some (as_int true)) v

-- no array has a cell below 0
abbrev pub subscript : CValue → Option ℕ
subscript v = elim v.number [ pos n ↦ Some n | negsuc n ↦ None ]

-- the value of an expression in C
abbrev pub c_value : Expr → Names → Option CValue
c_value (Number n) names = in_signed (literal_type n) (pos n)
c_value (Scalar x) names = Some (of_type Unsigned (names.scalars x.0))
c_value (LoopName level) names = Some (of_type Unsigned (slice_index names.loops level))
c_value (Cell' a place p e) names =
    option_map (of_type Unsigned)
    (option_and_then (λ i. names.cells (record { array = a; index = i })) (option_and_then subscript (c_value e names)))
c_value (Unary' op p a) names = option_map (c_unary op) (c_value a names)
c_value (Binary' op p a q b) names =
    option_and_then (λ v. option_and_then (c_binary op v) (c_value b names)) (c_value a names)
c_value (And' p a q b) names = c_and (c_value a names) (c_value b names)
c_value (Or' p a q b) names = c_or (c_value a names) (c_value b names)
c_value (Shift' op p a n) names = option_and_then (c_shift op n.count) (c_value a names)
c_value (Divide' op p a n) names = option_and_then (c_divide op n.value) (c_value a names)

-- converted to `uint64_t`, as an assignment, an initializer and the argument of `print` are
abbrev pub c_number : Expr → Names → Option ℕ
c_number e names = option_map to_unsigned (c_value e names)
