-- Which expressions and programs are the same in C, by a test that takes one pass over a program.
use Rattle.std.specs.Prelude.{ℕ, ◌≡◌, ◌+◌, ◌-◌, ◌*◌, ◌/◌, ◌^◌, min, Bool, true, ◌&&◌, nat_lt, nat_le, List, Option, Some, None, is_some, option_map, option_and_then, if◌then◌else◌}
use Rattle.std.specs.List.{list_all}
use Rattle.base.specs.declared.tree.Expr.{Expr}
use Rattle.base.specs.declared.tree.Expr.TheVariants.{Number, Scalar, LoopName, Cell', Unary', Binary', And', Or', Shift', Divide'}
use Rattle.base.specs.declared.tree.UnaryOp.{UnaryOp}
use Rattle.base.specs.declared.tree.UnaryOp.TheVariants.{Not, Complement}
use Rattle.base.specs.declared.tree.BinaryOp.{BinaryOp}
use Rattle.base.specs.declared.tree.BinaryOp.TheVariants.{BitOr, BitXor, BitAnd, Equal, NotEqual, Less, LessOrEqual, Greater, GreaterOrEqual, Add, Subtract, Multiply}
use Rattle.base.specs.declared.tree.ShiftOp.{ShiftOp}
use Rattle.base.specs.declared.tree.ShiftOp.TheVariants.{Left, Right}
use Rattle.base.specs.declared.tree.DivideOp.{DivideOp}
use Rattle.base.specs.declared.fault.Interval.{Interval}
use Rattle.base.specs.declared.tree.Source.{Source}
use Rattle.base.specs.declared.tree.Source.TheVariants.{Value, Read}
use Rattle.base.specs.declared.tree.Stmt.{Stmt, Row_of-Stmt, end_of-Stmt, more_of-Stmt}
use Rattle.base.specs.declared.tree.Stmt.TheVariants.{Declare, Assign, Store, Combine, Print, Block', Loop', If'}
use Rattle.base.specs.declared.tree.Region.{Region}
use Rattle.base.specs.declared.tree.Part.{Part, Row_of-Part, end_of-Part, more_of-Part}
use Rattle.base.specs.declared.tree.Part.TheVariants as part
use Rattle.base.specs.declared.tree.Program.{Program}
use Rattle.base.specs.Value.{Names, value}
use Rattle.base.specs.Interval.{from_to, exactly, full, if_single, interval_divide}
use Rattle.base.specs.Memory.{View, Scalars}
use Rattle.base.specs.Meaning.{Run, run_stmt, run_region, erased}
use Rattle.c_meaning.specs.declared.shape.Shape.{Shape}
use Rattle.c_meaning.specs.declared.shape.CType.{CType}
use Rattle.c_meaning.specs.declared.shape.CType.TheVariants.{Int, Long, Unsigned}
use Rattle.c_meaning.specs.Types.{width, greatest, common, literal_type, has_literal_type, of_type}
use Rattle.c_meaning.specs.Values.{result_type, c_value}
use Rattle.c_meaning.specs.Programs.{has_types, c_stmt, c_region, c_erased}

-- what is certain of an expression that is the same in C is its type there, and of a signed type between which numbers it
-- lies. The names have the type `uint64_t`, of which nothing more is asked, so the values of the loops play no part
abbrev pub unsigned_shape : Shape
unsigned_shape = record { ctype = Unsigned; bounds = full }

-- an `int` that is 0 or 1
abbrev pub flag_bounds : Interval
flag_bounds = from_to 0 1

-- a result with these bounds: it is the same in C where its type is `uint64_t`, or holds them
abbrev pub result_shape : CType → Interval → Option Shape
result_shape Int i = if nat_le i.hi (greatest Int) then Some (record { ctype = Int; bounds = i }) else None
result_shape Long i = if nat_le i.hi (greatest Long) then Some (record { ctype = Long; bounds = i }) else None
result_shape Unsigned i = Some unsigned_shape

abbrev pub flag_shape : Option Shape
flag_shape = result_shape Int flag_bounds

-- no signed type holds the language's `~x`
abbrev pub unary_shape : UnaryOp → Shape → Option Shape
unary_shape Not s = flag_shape
unary_shape Complement s = result_shape s.ctype full

-- the bounds of what operands with these bounds give, where nothing wraps
abbrev pub binary_bounds : BinaryOp → Interval → Interval → Interval
binary_bounds BitOr a b = if_single BitOr a b (from_to 0 (a.hi + b.hi))
binary_bounds BitXor a b = if_single BitXor a b (from_to 0 (a.hi + b.hi))
binary_bounds BitAnd a b = if_single BitAnd a b (from_to 0 (min a.hi b.hi))
binary_bounds Equal a b = flag_bounds
binary_bounds NotEqual a b = flag_bounds
binary_bounds Less a b = flag_bounds
binary_bounds LessOrEqual a b = flag_bounds
binary_bounds Greater a b = flag_bounds
binary_bounds GreaterOrEqual a b = flag_bounds
binary_bounds Add a b = from_to (a.lo + b.lo) (a.hi + b.hi)
binary_bounds Subtract a b = if nat_le b.hi a.lo then from_to (a.lo - b.hi) (a.hi - b.lo) else full
binary_bounds Multiply a b = from_to (a.lo * b.lo) (a.hi * b.hi)

abbrev pub binary_shape : BinaryOp → Shape → Shape → Option Shape
binary_shape op s t = result_shape (result_type op (common s.ctype t.ctype)) (binary_bounds op s.bounds t.bounds)

abbrev pub shift_bounds : ShiftOp → Interval → ℕ → Interval
shift_bounds Left a n = from_to (a.lo * 2 ^ n) (a.hi * 2 ^ n)
shift_bounds Right a n = from_to (a.lo / 2 ^ n) (a.hi / 2 ^ n)

abbrev pub shift_shape : ShiftOp → ℕ → Shape → Option Shape
shift_shape op n s = if nat_lt n (width s.ctype) then result_shape s.ctype (shift_bounds op s.bounds n) else None

abbrev pub divide_shape : DivideOp → ℕ → Shape → Option Shape
divide_shape op n s =
    if has_literal_type n then result_shape (common s.ctype (literal_type n)) (interval_divide op s.bounds n) else None

-- the type and the bounds of an expression, or none where it may not be the same in C: where the bounds of a
-- subexpression pass its signed type, a shift count is not below the width, or a literal has no type
abbrev pub shape_of : Expr → Option Shape
shape_of (Number n) = result_shape (literal_type n) (exactly n)
shape_of (Scalar x) = Some unsigned_shape
shape_of (LoopName level) = Some unsigned_shape
shape_of (Cell' a place p e) = option_map (λ s. unsigned_shape) (shape_of e)
shape_of (Unary' op p a) = option_and_then (unary_shape op) (shape_of a)
shape_of (Binary' op p a q b) = option_and_then (λ s. option_and_then (binary_shape op s) (shape_of b)) (shape_of a)
shape_of (And' p a q b) = option_and_then (λ s. option_and_then (λ t. flag_shape) (shape_of b)) (shape_of a)
shape_of (Or' p a q b) = option_and_then (λ s. option_and_then (λ t. flag_shape) (shape_of b)) (shape_of a)
shape_of (Shift' op p a n) = option_and_then (shift_shape op n.count) (shape_of a)
shape_of (Divide' op p a n) = option_and_then (divide_shape op n.value) (shape_of a)

-- the test
abbrev pub same_in_c : Expr → Bool
same_in_c e = is_some (shape_of e)

abbrev pub same_source : Source → Bool
same_source (Value e) = same_in_c e
same_source Read = true

abbrev mutual
  -- of a statement, all of its expressions are
  pub same_stmt : Stmt → Bool
  same_stmt (Declare x v) = same_source v
  same_stmt (Assign x v) = same_source v
  same_stmt (Store a place e v) = same_in_c e && same_source v
  same_stmt (Combine op a place e v) = same_in_c e && same_in_c v
  same_stmt (Print e) = same_in_c e
  same_stmt (Block' shape all) = same_stmts all
  same_stmt (Loop' b shape all) = has_types b && same_stmts all
  same_stmt (If' c shape all shape' all') = same_in_c c && (same_stmts all && same_stmts all')

  pub same_stmts : {m : _} → Row_of-Stmt m → Bool
  same_stmts end_of-Stmt = true
  same_stmts (more_of-Stmt first rest) = same_stmt first && same_stmts rest

abbrev pub same_region : Region → Bool
same_region r = list_all same_stmt r.body.items

abbrev mutual
  -- and of a part
  pub same_part : Part → Bool
  same_part (part.Host r) = same_region r
  same_part (part.Block' shape all) = same_parts all
  same_part (part.Loop' b shape all) = has_types b && same_parts all
  same_part (part.Target t r) = same_region r
  same_part (part.Data' d shape all) = same_parts all
  same_part (part.Alone place d) = true

  pub same_parts : {m : _} → Row_of-Part m → Bool
  same_parts end_of-Part = true
  same_parts (more_of-Part first rest) = same_part first && same_parts rest

abbrev pub same_program : Program → Bool
same_program p = list_all same_part p.body.items

-- an expression that passes the test has in C its value of the language, in its type, and none where it has none
abbrev pub SameValue : Type 0
SameValue =
    (e : Expr) (s : Shape) (names : Names) → shape_of e ≡ Some s →
    c_value e names ≡ option_map (of_type s.ctype) (value e names)

-- statements and regions whose expressions pass the test do in C what they do in the language, whatever they find
pub record SameRuns : Type 0 where
  pub statement : (st : Stmt) (view : View) (loops : List ℕ) (s : Run) → same_stmt st ≡ true →
      c_stmt st view loops s ≡ run_stmt st view loops s
  pub region : (r : Region) (loops : List ℕ) (view : View) (scalars : Scalars) (input : List ℕ) →
      same_region r ≡ true →
      c_region r loops view scalars input ≡ run_region r loops view scalars input

-- a program whose expressions pass the test does in C what it does in the language: it prints the same, leaves the same
-- memory and reads as much
abbrev pub SameErased : Type 0
SameErased = (p : Program) (input : List ℕ) → same_program p ≡ true → c_erased p input ≡ erased p input
