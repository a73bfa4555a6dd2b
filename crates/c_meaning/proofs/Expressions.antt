-- An expression that passes the test has in C the value that it has in the language.
use Rattle.std.proofs.Common.{◌≡◌, ℕ, zero, suc, ◌%◌, ◌<◌, ◌≤◌, ◌^◌, Bool, true, false, refl, ap, ◌∙◌, sym, subst, arith, leb-true, Option, Some, None, ⊎_elim}
use Rattle.std.specs.Prelude.{not, ◌==◌, nat_lt, nat_le, option_map, option_and_then, ℤ, pos, if◌then◌else◌}
use Rattle.std.proofs.lemmas.Bool.{le-leb, lt-leb, ne_eqb, cond-true, cond_both, cases_lt}
use Rattle.base.specs.declared.tree.Expr.{Expr}
use Rattle.base.specs.declared.tree.Expr.TheVariants.{Number, Scalar, LoopName, Cell', Unary', Binary', And', Or', Shift', Divide'}
use Rattle.base.specs.declared.tree.UnaryOp.{UnaryOp}
use Rattle.base.specs.declared.tree.UnaryOp.TheVariants.{Not, Complement}
use Rattle.base.specs.declared.tree.BinaryOp.{BinaryOp}
use Rattle.base.specs.declared.tree.BinaryOp.TheVariants.{BitOr, BitXor, BitAnd, Equal, NotEqual, Less, LessOrEqual, Greater, GreaterOrEqual, Add, Subtract, Multiply}
use Rattle.base.specs.declared.tree.ShiftOp.{ShiftOp}
use Rattle.base.specs.declared.tree.ShiftOp.TheVariants.{Left, Right}
use Rattle.base.specs.declared.tree.DivideOp.{DivideOp}
use Rattle.base.specs.declared.fault.Interval.{Interval}
use Rattle.base.specs.Value.{Names, modulus, flag, is_zero, unary, binary, shifted, divided, on_one, on_both, and_of, or_of, value}
use Rattle.base.specs.Interval.{exactly, full, interval_divide}
use Rattle.c_meaning.specs.declared.shape.Shape.{Shape}
use Rattle.c_meaning.specs.declared.shape.CType.{CType}
use Rattle.c_meaning.specs.declared.shape.CType.TheVariants.{Int, Long, Unsigned}
use Rattle.c_meaning.specs.Types.{width, greatest, common, literal_type, has_literal_type, CValue, of_type, in_signed, as_int}
use Rattle.c_meaning.specs.Values.{is_false, result_type, signed_binary, binary_in, c_binary, c_unary, signed_shift, shift_in, c_shift, signed_divide, divide_in, c_divide, c_and, c_or, subscript, c_value}
use Rattle.c_meaning.specs.Same.{unsigned_shape, flag_bounds, result_shape, flag_shape, unary_shape, binary_bounds, binary_shape, shift_bounds, shift_shape, divide_shape, shape_of, SameValue}
use Rattle.c_meaning.proofs.Operators.{Between, flag_between, Exact, binary_exact, shift_exact, shift_between, shift_same, divide_exact}

-- a number of a signed type lies between the bounds and in the type; of `uint64_t` nothing is said
pub record Held (i : Interval) (most n : ℕ) : Type 0 where
  pub between : Between i n
  pub held : n ≤ most

abbrev pub Within : CType → Interval → ℕ → Type 0
Within Int i n = Held i (greatest Int) n
Within Long i n = Held i (greatest Long) n
Within Unsigned i n = Unit {0}

-- P of the number, if there is one
abbrev pub IfThere : (ℕ → Type 0) → Option ℕ → Type 0
IfThere P None = Unit {0}
IfThere P (Some n) = P n

-- the value in C is this one, in its type
pub record Agrees (t : CType) (i : Interval) (c : Option CValue) (o : Option ℕ) : Type 0 where
  pub same : c ≡ option_map (of_type t) o
  pub within : IfThere (Within t i) o

-- where the expression has a shape
abbrev pub Follows : Option Shape → Option CValue → Option ℕ → Type 0
Follows None c o = Unit {0}
Follows (Some s) c o = Agrees s.ctype s.bounds c o

nothing : (x : Option Shape) → Follows x None None
nothing None = tt
nothing (Some s) = record { same = refl; within = tt }

-- a number that a signed type holds
small : (t : CType) (n : ℕ) → n ≤ greatest t → in_signed t (pos n) ≡ Some (of_type t n)
small t n h = cond-true (nat_le n (greatest t)) (Some (of_type t n)) None (le-leb n (greatest t) h)

-- a conversion keeps the number, and the type holds it still
widen : (s t : CType) (i : Interval) (n : ℕ) → Within s i n → Within (common s t) i n
widen Int Int i n h = h
widen Int Long i n h = record { between = h.between; held = let l = h.held in omega arith }
widen Int Unsigned i n h = tt
widen Long Int i n h = h
widen Long Long i n h = h
widen Long Unsigned i n h = tt
widen Unsigned Int i n h = tt
widen Unsigned Long i n h = tt
widen Unsigned Unsigned i n h = tt

widen_right : (s t : CType) (i : Interval) (n : ℕ) → Within t i n → Within (common s t) i n
widen_right Int Int i n h = h
widen_right Long Int i n h = record { between = h.between; held = let l = h.held in omega arith }
widen_right Unsigned Int i n h = tt
widen_right Int Long i n h = h
widen_right Long Long i n h = h
widen_right Unsigned Long i n h = tt
widen_right Int Unsigned i n h = tt
widen_right Long Unsigned i n h = tt
widen_right Unsigned Unsigned i n h = tt

-- Results of a signed type.

abbrev Signed : CType → Type 0
Signed Int = Unit {0}
Signed Long = Unit {0}
Signed Unsigned = ⊥

signed_result : (op : BinaryOp) (t : CType) → Signed t → Signed (result_type op t)
signed_result BitOr t s = s
signed_result BitXor t s = s
signed_result BitAnd t s = s
signed_result Equal t s = tt
signed_result NotEqual t s = tt
signed_result Less t s = tt
signed_result LessOrEqual t s = tt
signed_result Greater t s = tt
signed_result GreaterOrEqual t s = tt
signed_result Add t s = s
signed_result Subtract t s = s
signed_result Multiply t s = s

below_63 : (t : CType) (n : ℕ) → Signed t → n ≤ greatest t → n < 2 ^ 63
below_63 Int n s h = omega arith
below_63 Long n s h = omega arith
below_63 Unsigned n s h = absurd s

within_signed : (t : CType) (i : Interval) (n : ℕ) → Signed t → Held i (greatest t) n → Within t i n
within_signed Int i n s h = h
within_signed Long i n s h = h
within_signed Unsigned i n s h = absurd s

-- a result that is exact, and that its type holds
exact_agrees : (t : CType) (i : Interval) (z : ℤ) (n : ℕ) → Signed t → i.hi ≤ greatest t → Exact z i n →
    Agrees t i (in_signed t z) (Some n)
exact_agrees t i z n s l h =
    let u = h.between.high in
    let m : n ≤ greatest t = omega arith in
    record {
      same = ap (in_signed t) h.number ∙ small t n m;
      within = within_signed t i n s (record { between = h.between; held = m });
    }

result_follows : (t : CType) (i : Interval) (z : ℤ) (n : ℕ) → Signed t → (i.hi ≤ greatest t → Exact z i n) →
    Follows (result_shape t i) (in_signed t z) (Some n)
result_follows Int i z n s h =
    cond_both (nat_le i.hi (greatest Int)) (Some (record { ctype = Int; bounds = i })) None
    (λ x. Follows x (in_signed Int z) (Some n))
    (λ e. let l = leb-true i.hi (greatest Int) e in exact_agrees Int i z n s l (h l))
    (λ e. tt)
result_follows Long i z n s h =
    cond_both (nat_le i.hi (greatest Long)) (Some (record { ctype = Long; bounds = i })) None
    (λ x. Follows x (in_signed Long z) (Some n))
    (λ e. let l = leb-true i.hi (greatest Long) e in exact_agrees Long i z n s l (h l))
    (λ e. tt)
result_follows Unsigned i z n s h = absurd s

-- a number of `uint64_t`
unsigned : (o : Option ℕ) → Agrees Unsigned full (option_map (of_type Unsigned) o) o
unsigned None = record { same = refl; within = tt }
unsigned (Some n) = record { same = refl; within = tt }

-- an `int` that is 0 or 1
flag_agrees : (b : Bool) → Agrees Int flag_bounds (Some (as_int b)) (Some (flag b))
flag_agrees true = record { same = refl; within = record { between = flag_between true; held = omega arith } }
flag_agrees false = record { same = refl; within = record { between = flag_between false; held = omega arith } }

-- Numbers.

-- a literal below 2^64 is itself
literal_number : (t : CType) (n : ℕ) → Signed t →
    Follows (result_shape t (exactly n)) (in_signed t (pos n)) (Some (n % modulus))
literal_number t n s =
    ⊎_elim
    (λ (small : n < 2 ^ 64).
    let e : n % modulus ≡ n = omega arith in
    rw e (result_follows t (exactly n) (pos n) n s
    (λ l. record { number = refl; between = record { low = omega arith; high = omega arith } })))
    (λ (large : 2 ^ 64 ≤ n). too_large t s large)
    (cases_lt n (2 ^ 64))
  where
    too_large : (t : CType) → Signed t → 2 ^ 64 ≤ n →
        Follows (result_shape t (exactly n)) (in_signed t (pos n)) (Some (n % modulus))
    too_large Int s large =
        let e = lt-leb n (greatest Int) (omega arith) in
        rw e tt
    too_large Long s large =
        let e = lt-leb n (greatest Long) (omega arith) in
        rw e tt
    too_large Unsigned s large = absurd s

literal : (n : ℕ) → Follows (result_shape (literal_type n) (exactly n)) (in_signed (literal_type n) (pos n))
    (Some (n % modulus))
literal n =
    cond_both (nat_le n (greatest Int)) Int Long
    (λ t. Follows (result_shape t (exactly n)) (in_signed t (pos n)) (Some (n % modulus)))
    (λ e. literal_number Int n tt)
    (λ e. literal_number Long n tt)

-- Operators on one operand.

complement : (t : CType) (n : ℕ) →
    Follows (result_shape t full) (Some (c_unary Complement (of_type t n))) (Some (unary Complement n))
complement Int n = tt
complement Long n = tt
complement Unsigned n = record { same = refl; within = tt }

unary_number : (op : UnaryOp) (s : Shape) (n : ℕ) →
    Follows (unary_shape op s) (Some (c_unary op (of_type s.ctype n))) (Some (unary op n))
unary_number Not s n = flag_agrees (is_zero n)
unary_number Complement s n = complement s.ctype n

unary_follows : (op : UnaryOp) (x : Option Shape) (c : Option CValue) (o : Option ℕ) → Follows x c o →
    Follows (option_and_then (unary_shape op) x) (option_map (c_unary op) c) (on_one (unary op) o)
unary_follows op None c o h = tt
unary_follows op (Some s) c None h = rw h.same (nothing (unary_shape op s))
unary_follows op (Some s) c (Some n) h = rw h.same (unary_number op s n)

-- Operators on two operands.

binary_signed : (op : BinaryOp) (t : CType) (i j : Interval) (a b : ℕ) → Signed t →
    Held i (greatest t) a →
    Held j (greatest t) b →
    Follows (result_shape (result_type op t) (binary_bounds op i j))
    (in_signed (result_type op t) (signed_binary op (pos a) (pos b)))
    (Some (binary op a b))
binary_signed op t i j a b s h k =
    let r = signed_result op t s in
    result_follows (result_type op t) (binary_bounds op i j) (signed_binary op (pos a) (pos b)) (binary op a b) r
    (λ l. binary_exact op i j a b h.between k.between (below_63 t a s h.held) (below_63 t b s k.held)
    (below_63 (result_type op t) (binary_bounds op i j).hi r l))

binary_unsigned : (op : BinaryOp) (i j : Interval) (a b : ℕ) →
    Follows (result_shape (result_type op Unsigned) (binary_bounds op i j))
    (Some (of_type (result_type op Unsigned) (binary op a b)))
    (Some (binary op a b))
binary_unsigned BitOr i j a b = record { same = refl; within = tt }
binary_unsigned BitXor i j a b = record { same = refl; within = tt }
binary_unsigned BitAnd i j a b = record { same = refl; within = tt }
binary_unsigned Equal i j a b = flag_agrees (a == b)
binary_unsigned NotEqual i j a b = flag_agrees (not (a == b))
binary_unsigned Less i j a b = flag_agrees (nat_lt a b)
binary_unsigned LessOrEqual i j a b = flag_agrees (nat_le a b)
binary_unsigned Greater i j a b = flag_agrees (nat_lt b a)
binary_unsigned GreaterOrEqual i j a b = flag_agrees (nat_le b a)
binary_unsigned Add i j a b = record { same = refl; within = tt }
binary_unsigned Subtract i j a b = record { same = refl; within = tt }
binary_unsigned Multiply i j a b = record { same = refl; within = tt }

binary_number : (op : BinaryOp) (r s t : CType) (i j : Interval) (a b : ℕ) →
    Within r i a →
    Within r j b →
    Follows (result_shape (result_type op r) (binary_bounds op i j)) (binary_in r op (of_type s a) (of_type t b))
    (Some (binary op a b))
binary_number op Int s t i j a b h k = binary_signed op Int i j a b tt h k
binary_number op Long s t i j a b h k = binary_signed op Long i j a b tt h k
binary_number op Unsigned s t i j a b h k = binary_unsigned op i j a b

binary_follows : (op : BinaryOp) (x y : Option Shape) (c d : Option CValue) (o p : Option ℕ) →
    Follows x c o →
    Follows y d p →
    Follows (option_and_then (λ s. option_and_then (binary_shape op s) y) x)
    (option_and_then (λ v. option_and_then (c_binary op v) d) c)
    (on_both (binary op) o p)
binary_follows op None y c d o p h k = tt
binary_follows op (Some s) None c d o p h k = tt
binary_follows op (Some s) (Some t) c d None p h k = rw h.same (nothing (binary_shape op s t))
binary_follows op (Some s) (Some t) c d (Some a) None h k = rw (h.same, k.same) (nothing (binary_shape op s t))
binary_follows op (Some s) (Some t) c d (Some a) (Some b) h k =
    rw (h.same, k.same)
    (binary_number op (common s.ctype t.ctype) s.ctype t.ctype s.bounds t.bounds a b
    (widen s.ctype t.ctype s.bounds a h.within)
    (widen_right s.ctype t.ctype t.bounds b k.within))

-- `&&` and `||`.

pub nonzero : (n : ℕ) → is_zero (suc n) ≡ false
nonzero n = ne_eqb (suc n) 0 (λ e. omega arith)

test_agrees : (s : Shape) (c : Option CValue) (o : Option ℕ) → Agrees s.ctype s.bounds c o →
    Agrees Int flag_bounds (option_map (λ w. as_int (not (is_false w))) c) (on_one (λ b. flag (not (is_zero b))) o)
test_agrees s c None h = rw h.same (record { same = refl; within = tt })
test_agrees s c (Some n) h = rw h.same (flag_agrees (not (is_zero n)))

and_follows : (x y : Option Shape) (c d : Option CValue) (o p : Option ℕ) → Follows x c o → Follows y d p →
    Follows (option_and_then (λ s. option_and_then (λ t. flag_shape) y) x) (c_and c d) (and_of o p)
and_follows None y c d o p h k = tt
and_follows (Some s) None c d o p h k = tt
and_follows (Some s) (Some t) c d None p h k = rw h.same (record { same = refl; within = tt })
and_follows (Some s) (Some t) c d (Some zero) p h k = rw h.same (flag_agrees false)
and_follows (Some s) (Some t) c d (Some (suc n)) p h k = rw (h.same, nonzero n) (test_agrees t d p k)

or_follows : (x y : Option Shape) (c d : Option CValue) (o p : Option ℕ) → Follows x c o → Follows y d p →
    Follows (option_and_then (λ s. option_and_then (λ t. flag_shape) y) x) (c_or c d) (or_of o p)
or_follows None y c d o p h k = tt
or_follows (Some s) None c d o p h k = tt
or_follows (Some s) (Some t) c d None p h k = rw h.same (record { same = refl; within = tt })
or_follows (Some s) (Some t) c d (Some zero) p h k = rw h.same (test_agrees t d p k)
or_follows (Some s) (Some t) c d (Some (suc n)) p h k = rw (h.same, nonzero n) (flag_agrees true)

-- Shifts.

shift_is : (op : ShiftOp) (t : CType) (a n : ℕ) →
    signed_shift op t (pos a) n ≡ in_signed t (pos (shift_exact op a n))
shift_is Left t a n = refl
shift_is Right t a n = refl

shift_signed : (op : ShiftOp) (t : CType) (i : Interval) (a n : ℕ) → Signed t →
    Held i (greatest t) a →
    Follows (result_shape t (shift_bounds op i n)) (signed_shift op t (pos a) n) (Some (shifted op a n))
shift_signed op t i a n s h =
    rw (shift_is op t a n)
    (result_follows t (shift_bounds op i n) (pos (shift_exact op a n)) (shifted op a n) s
    (λ l. let b = shift_between op i a n h.between in
    let u = b.high in
    let m : shift_exact op a n ≤ greatest t = omega arith in
    let e = shift_same op a n (below_63 t (shift_exact op a n) s m) in
    record { number = ap pos (sym e); between = rw e b }))

shift_number : (op : ShiftOp) (t : CType) (i : Interval) (a n : ℕ) → Within t i a →
    Follows (result_shape t (shift_bounds op i n)) (shift_in t op (of_type t a) n) (Some (shifted op a n))
shift_number op Int i a n h = shift_signed op Int i a n tt h
shift_number op Long i a n h = shift_signed op Long i a n tt h
shift_number op Unsigned i a n h = record { same = refl; within = tt }

-- two choices by one test
both_chosen : (b : Bool) (x : Option Shape) (c : Option CValue) (o : Option ℕ) → Follows x c o →
    Follows (if b then x else None) (if b then c else None) o
both_chosen true x c o h = h
both_chosen false x c o h = tt

shift_follows : (op : ShiftOp) (n : ℕ) (x : Option Shape) (c : Option CValue) (o : Option ℕ) → Follows x c o →
    Follows (option_and_then (shift_shape op n) x) (option_and_then (c_shift op n) c) (on_one (λ a. shifted op a n) o)
shift_follows op n None c o h = tt
shift_follows op n (Some s) c None h = rw h.same (nothing (shift_shape op n s))
shift_follows op n (Some s) c (Some a) h =
    rw h.same
    (both_chosen (nat_lt n (width s.ctype)) (result_shape s.ctype (shift_bounds op s.bounds n))
    (shift_in s.ctype op (of_type s.ctype a) n)
    (Some (shifted op a n))
    (shift_number op s.ctype s.bounds a n h.within))

-- Division.

divide_signed : (op : DivideOp) (t : CType) (i : Interval) (a n : ℕ) → Signed t →
    Held i (greatest t) a →
    1 ≤ n →
    Follows (result_shape t (interval_divide op i n)) (in_signed t (signed_divide op (pos a) (pos n)))
    (Some (divided op a n))
divide_signed op t i a n s h one =
    result_follows t (interval_divide op i n) (signed_divide op (pos a) (pos n)) (divided op a n) s
    (λ l. divide_exact op i a n h.between one)

divide_number : (op : DivideOp) (r t : CType) (i : Interval) (a n : ℕ) → Within r i a → 1 ≤ n →
    Follows (result_shape r (interval_divide op i n)) (divide_in r op (of_type t a) n) (Some (divided op a n))
divide_number op Int t i a n h one = divide_signed op Int i a n tt h one
divide_number op Long t i a n h one = divide_signed op Long i a n tt h one
divide_number op Unsigned t i a n h one = record { same = refl; within = tt }

divide_follows : (op : DivideOp) (n : ℕ) (x : Option Shape) (c : Option CValue) (o : Option ℕ) → 1 ≤ n → Follows x c o →
    Follows (option_and_then (divide_shape op n) x) (option_and_then (c_divide op n) c) (on_one (λ a. divided op a n) o)
divide_follows op n None c o one h = tt
divide_follows op n (Some s) c None one h = rw h.same (nothing (divide_shape op n s))
divide_follows op n (Some s) c (Some a) one h =
    let r = common s.ctype (literal_type n) in
    rw h.same
    (both_chosen (has_literal_type n) (result_shape r (interval_divide op s.bounds n))
    (divide_in r op (of_type s.ctype a) n)
    (Some (divided op a n))
    (divide_number op r s.ctype s.bounds a n (widen s.ctype (literal_type n) s.bounds a h.within) one))

-- Cells.

pub subscript_is : (t : CType) (c : Option CValue) (o : Option ℕ) → c ≡ option_map (of_type t) o →
    option_and_then subscript c ≡ o
subscript_is t c None h = ap (option_and_then subscript) h
subscript_is t c (Some n) h = ap (option_and_then subscript) h

cell_follows : (cells : ℕ → Option ℕ) (x : Option Shape) (c : Option CValue) (o : Option ℕ) → Follows x c o →
    Follows (option_map (λ s. unsigned_shape) x)
    (option_map (of_type Unsigned) (option_and_then cells (option_and_then subscript c)))
    (option_and_then cells o)
cell_follows cells None c o h = tt
cell_follows cells (Some s) c o h = rw (subscript_is s.ctype c o h.same) (unsigned (option_and_then cells o))

-- Expressions.

pub follows : (e : Expr) (names : Names) → Follows (shape_of e) (c_value e names) (value e names)
follows (Number n) names = literal n
follows (Scalar x) names = record { same = refl; within = tt }
follows (LoopName level) names = record { same = refl; within = tt }
follows (Cell' a place p e) names =
    cell_follows (λ i. names.cells (record { array = a; index = i })) (shape_of e) (c_value e names) (value e names)
    (follows e names)
follows (Unary' op p a) names = unary_follows op (shape_of a) (c_value a names) (value a names) (follows a names)
follows (Binary' op p a q b) names =
    binary_follows op (shape_of a) (shape_of b) (c_value a names) (c_value b names) (value a names) (value b names)
    (follows a names) (follows b names)
follows (And' p a q b) names =
    and_follows (shape_of a) (shape_of b) (c_value a names) (c_value b names) (value a names) (value b names)
    (follows a names) (follows b names)
follows (Or' p a q b) names =
    or_follows (shape_of a) (shape_of b) (c_value a names) (c_value b names) (value a names) (value b names)
    (follows a names) (follows b names)
follows (Shift' op p a n) names =
    shift_follows op n.count (shape_of a) (c_value a names) (value a names) (follows a names)
follows (Divide' op p a n) names =
    divide_follows op n.value (shape_of a) (c_value a names) (value a names) n.not_zero (follows a names)

pub same_value : SameValue
same_value e s names h = (subst (λ x. Follows x (c_value e names) (value e names)) h (follows e names)).same
