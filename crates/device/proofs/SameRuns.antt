-- Statements that are the same do the same.
use Rattle.std.proofs.Common.{◌≡◌, ℕ, ◌+◌, ◌-◌, ◌/◌, Bool, true, ◌&&◌, List, [], ◌∷◌, ◌++◌, Option, Some, refl, ap, ap₂, ◌∙◌, arith}
use Rattle.std.specs.Prelude.{◌==◌, ◌%◌, option_and_then, option_map, slice_index}
use Rattle.std.proofs.lemmas.Bool.{and_parts, false≢true}
use Rattle.std.proofs.lemmas.Bool.Decides.{nat_tests}
use mathlib.Core.Former.{Count}
use mathlib.Core.Path.{fun_ext}
use Rattle.base.specs.declared.item.Cell.{Cell}
use Rattle.base.specs.declared.tree.ArrayId.{ArrayId}
use Rattle.base.specs.declared.tree.UnaryOp.{UnaryOp}
use Rattle.base.specs.declared.tree.UnaryOp.TheVariants as one
use Rattle.base.specs.declared.tree.BinaryOp.{BinaryOp}
use Rattle.base.specs.declared.tree.BinaryOp.TheVariants as two
use Rattle.base.specs.declared.tree.ShiftOp.{ShiftOp}
use Rattle.base.specs.declared.tree.ShiftOp.TheVariants as shift
use Rattle.base.specs.declared.tree.DivideOp.{DivideOp}
use Rattle.base.specs.declared.tree.DivideOp.TheVariants as divide
use Rattle.base.specs.declared.tree.CombineOp.{CombineOp}
use Rattle.base.specs.declared.tree.CombineOp.TheVariants as combining
use Rattle.base.specs.declared.tree.Bounds.{Bounds}
use Rattle.base.specs.declared.tree.Expr.{Expr}
use Rattle.base.specs.declared.tree.Expr.TheVariants.{Number, Scalar, LoopName, Cell', Unary', Binary', And', Or', Shift', Divide'}
use Rattle.base.specs.declared.tree.Source.{Source}
use Rattle.base.specs.declared.tree.Source.TheVariants.{Value, Read}
use Rattle.base.specs.declared.tree.Stmt.{Stmt, Row_of-Stmt, end_of-Stmt, more_of-Stmt}
use Rattle.base.specs.declared.tree.Stmt.TheVariants.{Declare, Assign, Store, Combine, Print, Block', Loop', If'}
use Rattle.base.specs.Memory.{View}
use Rattle.base.specs.Value.{Names, and_of, binary, combined, divided, modulus, on_both, on_one, or_of, shifted, unary, value}
use Rattle.base.specs.Meaning.{Run, all_turns, assigned, choose, names_in, printed, run_list, run_row, run_stmt, seen, source_of, stored, turn}
use Rattle.device.specs.Same.{binary_number, combine_number, divide_number, same_bounds, same_expr, same_list, same_place, same_row, same_source, same_stmt, shift_number, unary_number}

same : (m n : ℕ) → (m == n) ≡ true → m ≡ n
same m n h = grind (arith, nat_tests)

unary_is : (a b : UnaryOp) → (unary_number a == unary_number b) ≡ true → a ≡ b
unary_is one.Not one.Not h = refl
unary_is one.Complement one.Complement h = refl
unary_is _ _ h = absurd (false≢true h)

binary_is : (a b : BinaryOp) → (binary_number a == binary_number b) ≡ true → a ≡ b
binary_is two.BitOr two.BitOr h = refl
binary_is two.BitXor two.BitXor h = refl
binary_is two.BitAnd two.BitAnd h = refl
binary_is two.Equal two.Equal h = refl
binary_is two.NotEqual two.NotEqual h = refl
binary_is two.Less two.Less h = refl
binary_is two.LessOrEqual two.LessOrEqual h = refl
binary_is two.Greater two.Greater h = refl
binary_is two.GreaterOrEqual two.GreaterOrEqual h = refl
binary_is two.Add two.Add h = refl
binary_is two.Subtract two.Subtract h = refl
binary_is two.Multiply two.Multiply h = refl
binary_is _ _ h = absurd (false≢true h)

shift_is : (a b : ShiftOp) → (shift_number a == shift_number b) ≡ true → a ≡ b
shift_is shift.Left shift.Left h = refl
shift_is shift.Right shift.Right h = refl
shift_is _ _ h = absurd (false≢true h)

divide_is : (a b : DivideOp) → (divide_number a == divide_number b) ≡ true → a ≡ b
divide_is divide.Quotient divide.Quotient h = refl
divide_is divide.Remainder divide.Remainder h = refl
divide_is _ _ h = absurd (false≢true h)

combine_is : (a b : CombineOp) → (combine_number a == combine_number b) ≡ true → a ≡ b
combine_is combining.Add combining.Add h = refl
combine_is combining.Multiply combining.Multiply h = refl
combine_is combining.BitAnd combining.BitAnd h = refl
combine_is combining.BitOr combining.BitOr h = refl
combine_is combining.BitXor combining.BitXor h = refl
combine_is combining.Min combining.Min h = refl
combine_is combining.Max combining.Max h = refl
combine_is _ _ h = absurd (false≢true h)

array_is : (a b : ArrayId) → (a.0 == b.0) ≡ true → a ≡ b
array_is a b h = ap (λ (n : ℕ). let x : ArrayId = record { 0 = n } in x) (same a.0 b.0 h)

module _ (names : Names) where
  pub expr_means : (a b : Expr) → same_expr a b ≡ true → value a names ≡ value b names
  expr_means (Number m) (Number n) h = ap (λ k. Some (k % modulus)) (same m n h)
  expr_means (Scalar x) (Scalar y) h = ap (λ k. Some (names.scalars k)) (same x.0 y.0 h)
  expr_means (LoopName m) (LoopName n) h = ap (λ k. Some (slice_index names.loops k)) (same m n h)
  expr_means (Cell' x at p i) (Cell' y to q j) h =
      let k = and_parts (x.0 == y.0) (same_place at to && same_expr i j) h in
      let l = and_parts (same_place at to) (same_expr i j) k.1 in
      ap₂ (λ (a : ArrayId) o. option_and_then (λ v. names.cells (record { array = a; index = v })) o) (array_is x y k.0)
      (expr_means i j l.1)
  expr_means (Unary' o p a) (Unary' u q b) h =
      let k = and_parts (unary_number o == unary_number u) (same_expr a b) h in
      ap₂ (λ f v. on_one (unary f) v) (unary_is o u k.0) (expr_means a b k.1)
  expr_means (Binary' o p a q c) (Binary' u r b s d) h =
      let k = and_parts (binary_number o == binary_number u) (same_expr a b && same_expr c d) h in
      let l = and_parts (same_expr a b) (same_expr c d) k.1 in
      ap (λ f. on_both (binary f) (value a names) (value c names)) (binary_is o u k.0)
      ∙ ap₂ (on_both (binary u)) (expr_means a b l.0) (expr_means c d l.1)
  expr_means (And' p a q c) (And' r b s d) h =
      let k = and_parts (same_expr a b) (same_expr c d) h in
      ap₂ and_of (expr_means a b k.0) (expr_means c d k.1)
  expr_means (Or' p a q c) (Or' r b s d) h =
      let k = and_parts (same_expr a b) (same_expr c d) h in
      ap₂ or_of (expr_means a b k.0) (expr_means c d k.1)
  expr_means (Shift' o p a m) (Shift' u q b n) h =
      let k = and_parts (shift_number o == shift_number u) ((m.count == n.count) && same_expr a b) h in
      let l = and_parts (m.count == n.count) (same_expr a b) k.1 in
      ap₂ (λ f c. on_one (λ v. shifted f v c) (value a names)) (shift_is o u k.0) (same m.count n.count l.0)
      ∙ ap (on_one (λ v. shifted u v n.count)) (expr_means a b l.1)
  expr_means (Divide' o p a m) (Divide' u q b n) h =
      let k = and_parts (divide_number o == divide_number u) ((m.value == n.value) && same_expr a b) h in
      let l = and_parts (m.value == n.value) (same_expr a b) k.1 in
      ap₂ (λ f c. on_one (λ v. divided f v c) (value a names)) (divide_is o u k.0) (same m.value n.value l.0)
      ∙ ap (on_one (λ v. divided u v n.value)) (expr_means a b l.1)
  expr_means _ _ h = absurd (false≢true h)

source_means : (a b : Source) (view : View) (loops : List ℕ) (s : Run) → same_source a b ≡ true →
    source_of a view loops s ≡ source_of b view loops s
source_means (Value a) (Value b) view loops s h = ap (option_map (λ v. (v, s))) (expr_means (names_in view loops s) a b h)
source_means Read Read view loops s h = refl
source_means _ _ view loops s h = absurd (false≢true h)

update_means : {o u : CombineOp} {x y : ArrayId} {i j v w : Option ℕ} → o ≡ u → x ≡ y → i ≡ j → v ≡ w → (view : View) (s : Run) →
    option_and_then (λ n. let c : Cell = record { array = x; index = n } in
    stored view c (option_map (λ m. (m, s)) (on_both (combined o) (seen view s.stores c) v))) i
    ≡ option_and_then (λ n. let c : Cell = record { array = y; index = n } in
    stored view c (option_map (λ m. (m, s)) (on_both (combined u) (seen view s.stores c) w))) j
update_means f a p q view s =
    λ z. option_and_then (λ n. let c : Cell = record { array = a z; index = n } in
    stored view c (option_map (λ m. (m, s)) (on_both (combined (f z)) (seen view s.stores c) (q z)))) (p z)

turns_mean : (a b : Bounds) (body : ℕ → Run → Option Run) (s : Run) → same_bounds a b ≡ true →
    all_turns a body s ≡ all_turns b body s
turns_mean a b body s h =
    let k = and_parts (a.first == b.first) ((a.end == b.end) && (a.step == b.step)) h in
    let l = and_parts (a.end == b.end) (a.step == b.step) k.1 in
    let f = same a.first b.first k.0 in
    let e = same a.end b.end l.0 in
    let t = same a.step b.step l.1 in
    λ i. turn ((e i - f i + (t i - 1)) / t i) (f i) (t i) body s

mutual
  stmt_means : (a b : Stmt) (view : View) (loops : List ℕ) (s : Run) → same_stmt a b ≡ true →
      run_stmt a view loops s ≡ run_stmt b view loops s
  stmt_means (Declare x v) (Declare y w) view loops s h =
      let k = and_parts (x.0 == y.0) (same_source v w) h in
      ap₂ assigned (same x.0 y.0 k.0) (source_means v w view loops s k.1)
  stmt_means (Assign x v) (Assign y w) view loops s h =
      let k = and_parts (x.0 == y.0) (same_source v w) h in
      ap₂ assigned (same x.0 y.0 k.0) (source_means v w view loops s k.1)
  stmt_means (Store x at i v) (Store y to j w) view loops s h =
      let k = and_parts (x.0 == y.0) (same_place at to && (same_expr i j && same_source v w)) h in
      let l = and_parts (same_place at to) (same_expr i j && same_source v w) k.1 in
      let m = and_parts (same_expr i j) (same_source v w) l.1 in
      ap₂ (λ (a : ArrayId) o. option_and_then (λ n. stored view (record { array = a; index = n }) o) (value i (names_in view loops s)))
      (array_is x y k.0) (source_means v w view loops s m.1)
      ∙ ap (option_and_then (λ n. stored view (record { array = y; index = n }) (source_of w view loops s)))
      (expr_means (names_in view loops s) i j m.0)
  stmt_means (Combine o x at i v) (Combine u y to j w) view loops s h =
      let k = and_parts (combine_number o == combine_number u) ((x.0 == y.0) && (same_place at to && (same_expr i j && same_expr v w))) h in
      let l = and_parts (x.0 == y.0) (same_place at to && (same_expr i j && same_expr v w)) k.1 in
      let m = and_parts (same_place at to) (same_expr i j && same_expr v w) l.1 in
      let n = and_parts (same_expr i j) (same_expr v w) m.1 in
      let names = names_in view loops s in
      update_means (combine_is o u k.0) (array_is x y l.0) (expr_means names i j n.0) (expr_means names v w n.1) view s
  stmt_means (Print a) (Print b) view loops s h = ap (option_map (printed s)) (expr_means (names_in view loops s) a b h)
  stmt_means (Block' m all) (Block' n other) view loops s h = row_means all other view loops s h
  stmt_means (Loop' a m all) (Loop' b n other) view loops s h =
      let k = and_parts (same_bounds a b) (same_row all other) h in
      ap (λ f. all_turns a f s) (fun_ext (λ v. fun_ext (λ t. row_means all other view (loops ++ v ∷ []) t k.1)))
      ∙ turns_mean a b (λ v. run_row other view (loops ++ v ∷ [])) s k.0
  stmt_means (If' a k all m more) (If' b l other n rest) view loops s h =
      let x = and_parts (same_expr a b) (same_row all other && same_row more rest) h in
      let y = and_parts (same_row all other) (same_row more rest) x.1 in
      ap (λ f. choose (value a (names_in view loops s)) f (run_row more view loops) s)
      (fun_ext (λ t. row_means all other view loops t y.0))
      ∙ ap (λ f. choose (value a (names_in view loops s)) (run_row other view loops) f s)
      (fun_ext (λ t. row_means more rest view loops t y.1))
      ∙ ap (λ o. choose o (run_row other view loops) (run_row rest view loops) s) (expr_means (names_in view loops s) a b x.0)
  stmt_means _ _ view loops s h = absurd (false≢true h)

  row_means : {m n : Count} (a : Row_of-Stmt m) (b : Row_of-Stmt n) (view : View) (loops : List ℕ) (s : Run) →
      same_row a b ≡ true → run_row a view loops s ≡ run_row b view loops s
  row_means end_of-Stmt end_of-Stmt view loops s h = refl
  row_means (more_of-Stmt x xs) (more_of-Stmt y ys) view loops s h =
      let k = and_parts (same_stmt x y) (same_row xs ys) h in
      ap (λ f. option_and_then f (run_stmt x view loops s)) (fun_ext (λ t. row_means xs ys view loops t k.1))
      ∙ ap (option_and_then (run_row ys view loops)) (stmt_means x y view loops s k.0)
  row_means _ _ view loops s h = absurd (false≢true h)

pub list_means : (xs ys : List Stmt) (view : View) (loops : List ℕ) (s : Run) → same_list xs ys ≡ true →
    run_list xs view loops s ≡ run_list ys view loops s
list_means [] [] view loops s h = refl
list_means (x ∷ xs) (y ∷ ys) view loops s h =
    let k = and_parts (same_stmt x y) (same_list xs ys) h in
    ap (λ f. option_and_then f (run_stmt x view loops s)) (fun_ext (λ t. list_means xs ys view loops t k.1))
    ∙ ap (option_and_then (run_list ys view loops)) (stmt_means x y view loops s k.0)
list_means _ _ view loops s h = absurd (false≢true h)

-- only the empty list is the same as it
pub none_same : (xs : List Stmt) → same_list [] xs ≡ true → xs ≡ []
none_same [] h = refl
none_same (x ∷ xs) h = absurd (false≢true h)

-- Statements are the same as themselves.

number : (n : ℕ) → (n == n) ≡ true
number n = grind (arith, nat_tests)

both : (a b : Bool) → a ≡ true → b ≡ true → (a && b) ≡ true
both a b e f = ap₂ ◌&&◌ e f

expr_itself : (a : Expr) → same_expr a a ≡ true
expr_itself (Number m) = number m
expr_itself (Scalar x) = number x.0
expr_itself (LoopName m) = number m
expr_itself (Cell' x at p i) =
    both _ _ (number x.0) (both _ _ (both _ _ (number at.line) (number at.column)) (expr_itself i))
expr_itself (Unary' o p a) = both _ _ (number (unary_number o)) (expr_itself a)
expr_itself (Binary' o p a q c) = both _ _ (number (binary_number o)) (both _ _ (expr_itself a) (expr_itself c))
expr_itself (And' p a q c) = both _ _ (expr_itself a) (expr_itself c)
expr_itself (Or' p a q c) = both _ _ (expr_itself a) (expr_itself c)
expr_itself (Shift' o p a m) = both _ _ (number (shift_number o)) (both _ _ (number m.count) (expr_itself a))
expr_itself (Divide' o p a m) = both _ _ (number (divide_number o)) (both _ _ (number m.value) (expr_itself a))

source_itself : (v : Source) → same_source v v ≡ true
source_itself (Value a) = expr_itself a
source_itself Read = refl

mutual
  stmt_itself : (s : Stmt) → same_stmt s s ≡ true
  stmt_itself (Declare x v) = both _ _ (number x.0) (source_itself v)
  stmt_itself (Assign x v) = both _ _ (number x.0) (source_itself v)
  stmt_itself (Store x at i v) =
      both _ _ (number x.0) (both _ _ (both _ _ (number at.line) (number at.column)) (both _ _ (expr_itself i) (source_itself v)))
  stmt_itself (Combine o x at i v) =
      both _ _ (number (combine_number o))
      (both _ _ (number x.0) (both _ _ (both _ _ (number at.line) (number at.column)) (both _ _ (expr_itself i) (expr_itself v))))
  stmt_itself (Print a) = expr_itself a
  stmt_itself (Block' m all) = row_itself all
  stmt_itself (Loop' b m all) =
      both _ _ (both _ _ (number b.first) (both _ _ (number b.end) (number b.step))) (row_itself all)
  stmt_itself (If' a k all m more) = both _ _ (expr_itself a) (both _ _ (row_itself all) (row_itself more))

  row_itself : {n : Count} (row : Row_of-Stmt n) → same_row row row ≡ true
  row_itself end_of-Stmt = refl
  row_itself (more_of-Stmt x xs) = both _ _ (stmt_itself x) (row_itself xs)

pub list_itself : (xs : List Stmt) → same_list xs xs ≡ true
list_itself [] = refl
list_itself (x ∷ xs) = both _ _ (stmt_itself x) (list_itself xs)
