-- The update that a store is does what the store does; rows of statements and lists.
use Rattle.std.proofs.Common.{◌≡◌, ℕ, ◌%◌, Bool, true, false, List, Option, Some, None, Box, refl, sym, ap, ap₂, ◌∙◌}
use Rattle.std.specs.Prelude.{◌&&◌, ◌==◌, if◌then◌else◌, option_and_then, option_map, slice_index}
use mathlib.Core.Former.{Count}
use mathlib.Core.Path.{fun_ext}
use Rattle.std.specs.declared.alloc.Global.{Global}
use Rattle.std.proofs.lemmas.Bool.{and_parts, eqb-true}
use Rattle.std.proofs.lemmas.Option.{none-some, same_Some}
use Rattle.base.specs.declared.tree.ArrayId.{ArrayId}
use Rattle.base.specs.declared.tree.Place.{Place}
use Rattle.base.specs.declared.tree.UnaryOp.{UnaryOp}
use Rattle.base.specs.declared.tree.UnaryOp.TheVariants as one
use Rattle.base.specs.declared.tree.BinaryOp.{BinaryOp}
use Rattle.base.specs.declared.tree.BinaryOp.TheVariants as two
use Rattle.base.specs.declared.tree.ShiftOp.{ShiftOp}
use Rattle.base.specs.declared.tree.ShiftOp.TheVariants as shift
use Rattle.base.specs.declared.tree.DivideOp.{DivideOp}
use Rattle.base.specs.declared.tree.DivideOp.TheVariants as divide
use Rattle.base.specs.declared.tree.CombineOp.{CombineOp}
use Rattle.base.specs.declared.tree.CombineOp.TheVariants as combining
use Rattle.base.specs.declared.tree.Expr.{Expr}
use Rattle.base.specs.declared.tree.Expr.TheVariants.{Number, Scalar, LoopName, Cell', Unary', Binary', And', Or', Shift', Divide'}
use Rattle.base.specs.declared.tree.Source.{Source}
use Rattle.base.specs.declared.tree.Source.TheVariants.{Value}
use Rattle.base.specs.declared.tree.Stmt.{Row_of-Stmt, end_of-Stmt, more_of-Stmt, items-the_row-Stmt}
use Rattle.base.specs.declared.tree.Stmt.TheVariants.{Store, Combine}
use Rattle.base.specs.Memory.{View}
use Rattle.base.specs.Value.{Names, modulus, value, on_one, on_both, and_of, or_of, unary, binary, shifted, divided}
use Rattle.base.specs.Meaning.{Run, names_in, stored, run_stmt, run_row, run_list}
use Rattle.base.proofs.Updates.{operator_of, update_is_store}
use Rattle.c_statements.specs.Updates.{as_update, binary_number, combine_op, divide_number, same_expr, shift_number, unary_number, update_or}

-- ---- operators of the same number

unary_at : ℕ → UnaryOp
unary_at n = if n == 0 then one.Not else one.Complement

unary_back : (o : UnaryOp) → unary_at (unary_number o) ≡ o
unfolding unary_at
unary_back one.Not = refl
unary_back one.Complement = refl

binary_at : ℕ → BinaryOp
binary_at n =
    if n == 0 then two.BitOr else (if n == 1 then two.BitXor else (if n == 2 then two.BitAnd
    else (if n == 3 then two.Equal else (if n == 4 then two.NotEqual else (if n == 5 then two.Less
    else (if n == 6 then two.LessOrEqual else (if n == 7 then two.Greater else (if n == 8 then two.GreaterOrEqual
    else (if n == 9 then two.Add else (if n == 10 then two.Subtract else two.Multiply))))))))))

binary_back : (o : BinaryOp) → binary_at (binary_number o) ≡ o
unfolding binary_at
binary_back two.BitOr = refl
binary_back two.BitXor = refl
binary_back two.BitAnd = refl
binary_back two.Equal = refl
binary_back two.NotEqual = refl
binary_back two.Less = refl
binary_back two.LessOrEqual = refl
binary_back two.Greater = refl
binary_back two.GreaterOrEqual = refl
binary_back two.Add = refl
binary_back two.Subtract = refl
binary_back two.Multiply = refl

shift_at : ℕ → ShiftOp
shift_at n = if n == 0 then shift.Left else shift.Right

shift_back : (o : ShiftOp) → shift_at (shift_number o) ≡ o
unfolding shift_at
shift_back shift.Left = refl
shift_back shift.Right = refl

divide_at : ℕ → DivideOp
divide_at n = if n == 0 then divide.Quotient else divide.Remainder

divide_back : (o : DivideOp) → divide_at (divide_number o) ≡ o
unfolding divide_at
divide_back divide.Quotient = refl
divide_back divide.Remainder = refl

same_unary : (o u : UnaryOp) → (unary_number o == unary_number u) ≡ true → o ≡ u
same_unary o u e = sym (unary_back o) ∙ ap unary_at (eqb-true (unary_number o) (unary_number u) e) ∙ unary_back u

same_binary : (o u : BinaryOp) → (binary_number o == binary_number u) ≡ true → o ≡ u
same_binary o u e = sym (binary_back o) ∙ ap binary_at (eqb-true (binary_number o) (binary_number u) e) ∙ binary_back u

same_shift : (o u : ShiftOp) → (shift_number o == shift_number u) ≡ true → o ≡ u
same_shift o u e = sym (shift_back o) ∙ ap shift_at (eqb-true (shift_number o) (shift_number u) e) ∙ shift_back u

same_divide : (o u : DivideOp) → (divide_number o == divide_number u) ≡ true → o ≡ u
same_divide o u e = sym (divide_back o) ∙ ap divide_at (eqb-true (divide_number o) (divide_number u) e) ∙ divide_back u

-- ---- the same expression has the same value

abbrev cell_in : Names → ArrayId → ℕ → Option ℕ
cell_in names a i = names.cells (record { array = a; index = i })

pub same_array : (a b : ArrayId) → (a.0 == b.0) ≡ true → a ≡ b
same_array a b e = ap (λ (n : ℕ). (let i : ArrayId = record { 0 = n } in i)) (eqb-true a.0 b.0 e)

module _ (names : Names) where
  pub same_value : (e f : Expr) → same_expr e f ≡ true → value e names ≡ value f names
  same_value (Number m) (Number n) h = ap (λ (i : ℕ). Some (i % modulus)) (eqb-true m n h)
  same_value (Scalar x) (Scalar y) h = ap (λ (i : ℕ). Some (names.scalars i)) (eqb-true x.0 y.0 h)
  same_value (LoopName m) (LoopName n) h = ap (λ (i : ℕ). Some (slice_index names.loops i)) (eqb-true m n h)
  same_value (Cell' a at p e) (Cell' b to q f) h =
      let w = and_parts (a.0 == b.0) (same_expr e f) h in
      ap₂ (λ (c : ArrayId) (v : Option ℕ). option_and_then (cell_in names c) v) (same_array a b w.0)
      (same_value e f w.1)
  same_value (Unary' o p e) (Unary' u q f) h =
      let w = and_parts (unary_number o == unary_number u) (same_expr e f) h in
      ap₂ (λ (c : UnaryOp) (v : Option ℕ). on_one (unary c) v) (same_unary o u w.0) (same_value e f w.1)
  same_value (Binary' o p e q g) (Binary' u r f s h') h =
      let w = and_parts (binary_number o == binary_number u) (same_expr e f && same_expr g h') h in
      let both = and_parts (same_expr e f) (same_expr g h') w.1 in
      ap₂ (λ (v w : Option ℕ). on_both (binary o) v w) (same_value e f both.0) (same_value g h' both.1)
      ∙ ap (λ (c : BinaryOp). on_both (binary c) (value f names) (value h' names)) (same_binary o u w.0)
  same_value (And' p e q g) (And' r f s h') h =
      let both = and_parts (same_expr e f) (same_expr g h') h in
      ap₂ and_of (same_value e f both.0) (same_value g h' both.1)
  same_value (Or' p e q g) (Or' r f s h') h =
      let both = and_parts (same_expr e f) (same_expr g h') h in
      ap₂ or_of (same_value e f both.0) (same_value g h' both.1)
  same_value (Shift' o p e m) (Shift' u q f n) h =
      let w = and_parts (shift_number o == shift_number u) ((m.count == n.count) && same_expr e f) h in
      let both = and_parts (m.count == n.count) (same_expr e f) w.1 in
      ap₂ (λ (c : ShiftOp) (k : ℕ). on_one (λ a. shifted c a k) (value e names)) (same_shift o u w.0)
      (eqb-true m.count n.count both.0)
      ∙ ap (on_one (λ a. shifted u a n.count)) (same_value e f both.1)
  same_value (Divide' o p e m) (Divide' u q f n) h =
      let w = and_parts (divide_number o == divide_number u) ((m.value == n.value) && same_expr e f) h in
      let both = and_parts (m.value == n.value) (same_expr e f) w.1 in
      ap₂ (λ (c : DivideOp) (k : ℕ). on_one (λ a. divided c a k) (value e names)) (same_divide o u w.0)
      (eqb-true m.value n.value both.0)
      ∙ ap (on_one (λ a. divided u a n.value)) (same_value e f both.1)
  same_value _ _ h = absurd cc

-- ---- the update that a store is

operator_back : (o : BinaryOp) (c : CombineOp) → combine_op o ≡ Some c → operator_of c ≡ Some o
operator_back two.Add c e = ap operator_of (sym (same_Some combining.Add c e))
operator_back two.Multiply c e = ap operator_of (sym (same_Some combining.Multiply c e))
operator_back two.BitAnd c e = ap operator_of (sym (same_Some combining.BitAnd c e))
operator_back two.BitOr c e = ap operator_of (sym (same_Some combining.BitOr c e))
operator_back two.BitXor c e = ap operator_of (sym (same_Some combining.BitXor c e))
operator_back two.Equal c e = absurd (none-some c e)
operator_back two.NotEqual c e = absurd (none-some c e)
operator_back two.Less c e = absurd (none-some c e)
operator_back two.LessOrEqual c e = absurd (none-some c e)
operator_back two.Greater c e = absurd (none-some c e)
operator_back two.GreaterOrEqual c e = absurd (none-some c e)
operator_back two.Subtract c e = absurd (none-some c e)

module _ (view : View) (loops : List ℕ) (r : Run) where
  abbrev names : Names
  names = names_in view loops r

  -- what the store of a number is
  abbrev given : ArrayId → Expr → Option ℕ → Option Run
  given a e n =
      option_and_then (λ i. stored view (record { array = a; index = i }) (option_map (λ v. (v, r)) n)) (value e names)

  abbrev Held : Type 0
  Held = Box (Unit {0}) Global

  combined_runs : (a b : ArrayId) (at to : Place) (e f v : Expr) (o : BinaryOp) (c : CombineOp) (p q w : Held) →
      ((a.0 == b.0) && same_expr e f) ≡ true → combine_op o ≡ Some c →
      run_stmt (Combine c a at e v) view loops r ≡ run_stmt
      (Store a at e (Value (Binary' o p (Cell' b to q f) w v))) view loops r
  combined_runs a b at to e f v o c p q w h k =
      update_is_store p c o (operator_back o c k) a at e v view loops r
      ∙ ap (given a e) (ap (λ (n : Option ℕ). on_both (binary o) n (value v names))
      (same_value names (Cell' a at p e) (Cell' b to q f) h))

  choice_runs : (a b : ArrayId) (at to : Place) (e f v : Expr) (o : BinaryOp) (p q w : Held) (t : Bool)
      (k : Option CombineOp) → ((a.0 == b.0) && same_expr e f) ≡ t → combine_op o ≡ k →
      run_stmt (update_or (if t then k else None) a at e v (Store a at e (Value (Binary' o p (Cell' b to q f) w v)))) view
      loops r ≡ run_stmt (Store a at e (Value (Binary' o p (Cell' b to q f) w v))) view loops r
  choice_runs a b at to e f v o p q w true (Some c) h k = combined_runs a b at to e f v o c p q w h k
  choice_runs a b at to e f v o p q w true None h k = refl
  choice_runs a b at to e f v o p q w false k h g = refl

  pub store_runs : (a : ArrayId) (at : Place) (e : Expr) (v : Source) →
      run_stmt (as_update (Store a at e v)) view loops r ≡ run_stmt (Store a at e v) view loops r
  store_runs a at e (Value (Binary' o p (Cell' b to q f) w v)) =
      choice_runs a b at to e f v o p q w ((a.0 == b.0) && same_expr e f) (combine_op o) refl refl
  store_runs a at e _ = refl

-- ---- rows

pub row_runs : (n : Count) (row : Row_of-Stmt n) (view : View) (loops : List ℕ) (s : Run) →
    run_row row view loops s ≡ run_list (items-the_row-Stmt n row) view loops s
row_runs n end_of-Stmt view loops s = refl
row_runs n (more_of-Stmt first rest) view loops s =
    ap (λ f. option_and_then f (run_stmt first view loops s)) (fun_ext (λ x. row_runs _ rest view loops x))
