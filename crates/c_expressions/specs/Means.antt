-- Which expression a term means: names are resolved, and the place of a cell is that of its name.
use Rattle.std.specs.Prelude.{◌≡◌, ℕ, ◌+◌, if◌then◌else◌, List, [], ◌∷◌, length, drop, Option, Some, None}
use Rattle.std.specs.Str.{bytes_eq}
use Rattle.base.specs.declared.tree.ArrayId.{ArrayId}
use Rattle.base.specs.declared.tree.Place.{Place}
use Rattle.base.specs.declared.tree.ScalarId.{ScalarId}
use Rattle.base.specs.declared.tree.UnaryOp.{UnaryOp}
use Rattle.base.specs.declared.tree.UnaryOp.TheVariants as unary
use Rattle.base.specs.declared.tree.BinaryOp.{BinaryOp}
use Rattle.base.specs.declared.tree.BinaryOp.TheVariants as op
use Rattle.base.specs.declared.tree.ShiftOp.{ShiftOp}
use Rattle.base.specs.declared.tree.ShiftOp.TheVariants as shift
use Rattle.base.specs.declared.tree.DivideOp.{DivideOp}
use Rattle.base.specs.declared.tree.DivideOp.TheVariants as divide
use Rattle.base.specs.declared.tree.Expr.{Expr}
use Rattle.base.specs.declared.tree.Expr.TheVariants as expr
use Rattle.c_grammar.specs.Terminal.{Terminal}
use Rattle.c_grammar.specs.Texts.{Item}
use Rattle.c_grammar.specs.Grammar as grammar
use Rattle.c_grammar.specs.Grammar.{Term, Literal, Named, Element, Group, Prefixed, Both, By, Prefix, Operator, Fraction, term}
use Rattle.c_expressions.specs.declared.scope.Meaning.{Meaning}
use Rattle.c_expressions.specs.declared.scope.Meaning.TheVariants as meaning

abbrev pub Items : Type 0
Items = List (Item Terminal)

-- the names that can be used, with what they mean: the innermost and newest first
abbrev pub Names : Type 0
Names = List (List ℕ × Meaning)

-- what a name means: the first of that spelling counts
abbrev pub meaning_of : Names → List ℕ → Option Meaning
meaning_of [] x = None
meaning_of (n ∷ ns) x = if bytes_eq n.0 x then Some n.1 else meaning_of ns x

-- the place of the first of some tokens
abbrev pub place_of : Items → Place
place_of [] = record { line = 0; column = 0 }
place_of (i ∷ is) = record { line = i.line; column = i.column }

-- how many tokens spell a term
abbrev pub term_size : Term → ℕ
term_size e = length (term e)

abbrev pub prefix_of : UnaryOp → Prefix
prefix_of unary.Not = grammar.Not
prefix_of unary.Complement = grammar.Complement

abbrev pub operator_of : BinaryOp → Operator
operator_of op.BitOr = grammar.BitOr
operator_of op.BitXor = grammar.BitXor
operator_of op.BitAnd = grammar.BitAnd
operator_of op.Equal = grammar.Equal
operator_of op.NotEqual = grammar.NotEqual
operator_of op.Less = grammar.Less
operator_of op.LessOrEqual = grammar.LessEqual
operator_of op.Greater = grammar.Greater
operator_of op.GreaterOrEqual = grammar.GreaterEqual
operator_of op.Add = grammar.Add
operator_of op.Subtract = grammar.Subtract
operator_of op.Multiply = grammar.Multiply

abbrev pub shift_of : ShiftOp → Fraction
shift_of shift.Left = grammar.ShiftLeft
shift_of shift.Right = grammar.ShiftRight

abbrev pub divide_of : DivideOp → Fraction
divide_of divide.Quotient = grammar.Divide
divide_of divide.Remainder = grammar.Remainder

-- the name is that of this scalar
abbrev pub MeansScalar : Option Meaning → ScalarId → Type 0
MeansScalar (Some (meaning.Scalar n inside)) id = n ≡ id
MeansScalar _ id = ⊥

-- the name is that of a boxed scalar, which is the cell of this array
abbrev pub MeansBoxed : Option Meaning → ArrayId → Type 0
MeansBoxed (Some (meaning.Boxed a n)) b = a ≡ b
MeansBoxed _ b = ⊥

-- the name of an array, or of a boxed scalar
abbrev pub MeansArray : Option Meaning → ArrayId → Type 0
MeansArray (Some (meaning.Array a)) b = a ≡ b
MeansArray (Some (meaning.Boxed a n)) b = a ≡ b
MeansArray _ b = ⊥

-- the expression that a term means, where the term is spelled by the first of these tokens
abbrev pub IsExpr : Names → Items → Term → Expr → Type 0
IsExpr names is (Literal v) (expr.Number n) = v ≡ Some n
IsExpr names is (Named x) (expr.Scalar id) = MeansScalar (meaning_of names x) id
IsExpr names is (Named x) (expr.LoopName n) = meaning_of names x ≡ Some (meaning.Loop n)
IsExpr names is (Named x) (expr.Cell' a at p e) =
    MeansBoxed (meaning_of names x) a × (at ≡ place_of is) × (e ≡ expr.Number 0)
IsExpr names is (Element x i) (expr.Cell' a at p e) =
    (meaning_of names x ≡ Some (meaning.Array a)) × (at ≡ place_of is) × IsExpr names (drop 2 is) i e
IsExpr names is (Group t) e = IsExpr names (drop 1 is) t e
IsExpr names is (Prefixed o t) (expr.Unary' u p e) = (o ≡ prefix_of u) × IsExpr names (drop 1 is) t e
IsExpr names is (Both o t u) (expr.Or' p e q f) =
    (o ≡ grammar.LogicOr) × IsExpr names is t e × IsExpr names (drop (term_size t + 1) is) u f
IsExpr names is (Both o t u) (expr.And' p e q f) =
    (o ≡ grammar.LogicAnd) × IsExpr names is t e × IsExpr names (drop (term_size t + 1) is) u f
IsExpr names is (Both o t u) (expr.Binary' b p e q f) =
    (o ≡ operator_of b) × IsExpr names is t e × IsExpr names (drop (term_size t + 1) is) u f
IsExpr names is (By o t v) (expr.Shift' s p e count) =
    (o ≡ shift_of s) × (v ≡ Some count.count) × IsExpr names is t e
IsExpr names is (By o t v) (expr.Divide' d p e divisor) =
    (o ≡ divide_of d) × (v ≡ Some divisor.value) × IsExpr names is t e
IsExpr names is _ _ = ⊥
