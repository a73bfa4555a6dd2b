-- What is said of the value of an expression in C, whatever its names stand for.
use Rattle.std.specs.Prelude.{◌≡◌, Bool, true, false, ◌&&◌, Option, Some, None, ℤ}
use Rattle.base.specs.declared.tree.Expr.{Expr}
use Rattle.base.specs.declared.tree.Expr.TheVariants.{Number, Scalar, LoopName, Cell', Unary', Binary', And', Or', Shift', Divide'}
use Rattle.c_meaning.specs.declared.shape.CType.{CType}
use Rattle.c_meaning.specs.declared.shape.CType.TheVariants.{Int, Long, Unsigned}
use Rattle.c_meaning.specs.declared.constant.Constant.{Constant}
use Rattle.c_meaning.specs.declared.constant.Constant.TheVariants.{Known, Undefined, Unknown}
use Rattle.c_meaning.specs.Types.{CValue}

-- a number of a signed type
abbrev pub signed_value : CType → ℤ → CValue
signed_value t n = record { ctype = t; number = n }

-- the value is this one, or there is none, or nothing is said of it
abbrev pub Says : Constant → Option CValue → Type 0
Says (Known t n) o = o ≡ Some (signed_value t n)
Says Undefined o = o ≡ None
Says Unknown o = Unit {0}

abbrev pub IsSigned : CType → Type 0
IsSigned Int = Unit {0}
IsSigned Long = Unit {0}
IsSigned Unsigned = ⊥

-- it says a value of a signed type, or that there is none
abbrev pub IsDecided : Constant → Type 0
IsDecided (Known t n) = IsSigned t
IsDecided Undefined = Unit {0}
IsDecided Unknown = ⊥

-- an expression of literals alone
abbrev pub names_nothing : Expr → Bool
names_nothing (Number n) = true
names_nothing (Scalar x) = false
names_nothing (LoopName level) = false
names_nothing (Cell' a place p e) = false
names_nothing (Unary' op p a) = names_nothing a
names_nothing (Binary' op p a q b) = names_nothing a && names_nothing b
names_nothing (And' p a q b) = names_nothing a && names_nothing b
names_nothing (Or' p a q b) = names_nothing a && names_nothing b
names_nothing (Shift' op p a n) = names_nothing a
names_nothing (Divide' op p a n) = names_nothing a
