-- In a plain loop each access has the next cell in the next turn.
use Rattle.std.proofs.Common.{◌≡◌, ℕ, ◌+◌, ◌-◌, ◌^◌, ◌<◌, ◌≤◌, Bool, true, false, List, [], ◌∷◌, ◌++◌, length, map, None, sym, ◌∙◌, ap, ap₂, refl, ⊎_elim, arith, eqb-true, length-append}
use Rattle.std.specs.Prelude.{◌&&◌, ◌==◌, nat_le, slice_index, if◌then◌else◌}
use Rattle.std.specs.List.{list_any}
use Rattle.std.proofs.lemmas.Bool.{false≢true, or_parts, cases_lt, le-leb}
use Rattle.std.proofs.lemmas.Bool.Decides.{nat_tests}
use Rattle.std.proofs.lemmas.List.{map-append}
use Rattle.std.proofs.lemmas.List.Folds.{list_any-append}
use Rattle.std.proofs.Math.Seq.{get_or-append_seam}
use Rattle.base.specs.declared.tree.ArrayId.{ArrayId}
use Rattle.base.specs.declared.tree.Place.{Place}
use Rattle.base.specs.declared.tree.Expr.{Expr}
use Rattle.base.specs.declared.tree.Expr.TheVariants.{Number, Scalar, LoopName, Cell', Unary', Binary', And', Or', Shift', Divide'}
use Rattle.base.specs.declared.tree.BinaryOp.TheVariants.{BitOr, BitXor, BitAnd, Equal, NotEqual, Less, LessOrEqual, Greater, GreaterOrEqual, Add, Subtract, Multiply}
use Rattle.base.specs.declared.tree.Source.{Source}
use Rattle.base.specs.declared.tree.Source.TheVariants.{Value, Read as Input}
use Rattle.base.specs.declared.tree.Stmt.{Stmt, Row_of-Stmt, end_of-Stmt, more_of-Stmt}
use Rattle.base.specs.declared.tree.Stmt.TheVariants.{Declare, Assign, Store, Combine, Print, Block', Loop', If'}
use Rattle.base.specs.declared.fault.Interval.{Interval}
use Rattle.base.specs.Value.{binary}
use Rattle.base.specs.Interval.{exactly, from_to, full, if_single, interval, interval_binary, most}
use Rattle.base.specs.Footprint.{Touch, expr_touches, row_touches, source_touches, stmt_touches}
use Rattle.ranges.specs.declared.slide.Slide.{Slide}
use Rattle.ranges.specs.FewRuns.{cells_in, cells_in_expr, cells_in_row, cells_in_source, is_name, is_near, is_plain, is_plain_expr, is_plain_row, is_plain_source, is_small}
use Rattle.ranges.proofs.NearTurns.{near_touch}

-- subscripts

pub and_left : (x y : Bool) → (x && y) ≡ true → x ≡ true
and_left true y e = refl
and_left false y e = e

pub and_right : (x y : Bool) → (x && y) ≡ true → y ≡ true
and_right true y e = e
and_right false y e = absurd (false≢true e)

last_value : (loops : List ℕ) (v level : ℕ) → level ≡ length loops → slice_index (loops ++ v ∷ []) level ≡ v
last_value loops v level e = ap (slice_index (loops ++ v ∷ [])) e ∙ get_or-append_seam loops v [] 0

pub name_is : (e : Expr) (loops : List ℕ) (v : ℕ) → is_name (length loops) e ≡ true → interval e (loops ++ v ∷ []) ≡ exactly v
name_is (Number n) loops v h = absurd (false≢true h)
name_is (Scalar x) loops v h = absurd (false≢true h)
name_is (LoopName level) loops v h = ap exactly (last_value loops v level (eqb-true level (length loops) h))
name_is (Cell' a place p e) loops v h = absurd (false≢true h)
name_is (Unary' op p e) loops v h = absurd (false≢true h)
name_is (Binary' op p e q f) loops v h = absurd (false≢true h)
name_is (And' p e q f) loops v h = absurd (false≢true h)
name_is (Or' p e q f) loops v h = absurd (false≢true h)
name_is (Shift' op p e n) loops v h = absurd (false≢true h)
name_is (Divide' op p e n) loops v h = absurd (false≢true h)

record IsNumber (e : Expr) : Type 0 where
  pub n : ℕ
  pub small : n ≤ 65536
  pub is : (loops : List ℕ) → interval e loops ≡ exactly n

number_is : (e : Expr) → is_small e ≡ true → IsNumber e
number_is (Number n) h =
    let le : n ≤ 65536 = grind (arith, nat_tests, h) in
    record { n = n; small = le; is = λ loops. ap exactly (omega (arith, le)) }
number_is (Scalar x) h = absurd (false≢true h)
number_is (LoopName level) h = absurd (false≢true h)
number_is (Cell' a place p e) h = absurd (false≢true h)
number_is (Unary' op p e) h = absurd (false≢true h)
number_is (Binary' op p e q f) h = absurd (false≢true h)
number_is (And' p e q f) h = absurd (false≢true h)
number_is (Or' p e q f) h = absurd (false≢true h)
number_is (Shift' op p e n) h = absurd (false≢true h)
number_is (Divide' op p e n) h = absurd (false≢true h)

sum_is : (v n : ℕ) → v < 65536 → n ≤ 65536 → interval_binary Add (exactly v) (exactly n) ≡ exactly (v + n)
sum_is v n lt le =
    ap (λ b. if b then from_to (v + n) (v + n) else if_single Add (exactly v) (exactly n) full)
    (le-leb (v + n) most (omega (arith, lt, le)))

difference_is : (v n : ℕ) → n ≤ v → interval_binary Subtract (exactly v) (exactly n) ≡ exactly (v - n)
difference_is v n le =
    ap (λ b. if b then from_to (v - n) (v - n) else if_single Subtract (exactly v) (exactly n) full) (le-leb n v le)

same_number : (n : ℕ) → (n == n) ≡ true
same_number n = grind (arith, nat_tests)

-- a cell further than a set has bits
abbrev pub reaches_far : Interval → Bool
reaches_far cells = nat_le cells.lo cells.hi && nat_le (2 ^ 38) cells.hi

abbrev pub is_far : Touch → Bool
is_far t = reaches_far t.cells

far_number : (n : ℕ) → 2 ^ 38 ≤ n → reaches_far (exactly n) ≡ true
far_number n le = grind (arith, nat_tests, le)

-- a difference that wraps is a large number
wrapped_is : (v n : ℕ) → v < n → n ≤ 65536 → reaches_far (interval_binary Subtract (exactly v) (exactly n)) ≡ true
wrapped_is v n lt le =
    let over : nat_le n v ≡ false = grind (arith, nat_tests, lt) in
    let is : interval_binary Subtract (exactly v) (exactly n) ≡ exactly (binary Subtract v n) =
    ap (λ b. if b then from_to (v - n) (v - n) else if_single Subtract (exactly v) (exactly n) full) over
    ∙ ap₂ (λ b c. if b && c then exactly (binary Subtract v n) else full) (same_number v) (same_number n) in
    let large : 2 ^ 38 ≤ binary Subtract v n = omega (arith, lt, le) in
    let far : reaches_far (exactly (binary Subtract v n)) ≡ true = far_number (binary Subtract v n) large in
    ap reaches_far is ∙ far

-- a subscript of this form names no cell

name_plain : (level : ℕ) (e : Expr) → is_name level e ≡ true → is_plain_expr level e ≡ true
name_plain level (Number n) h = absurd (false≢true h)
name_plain level (Scalar x) h = absurd (false≢true h)
name_plain level (LoopName other) h = refl
name_plain level (Cell' a place p e) h = absurd (false≢true h)
name_plain level (Unary' op p e) h = absurd (false≢true h)
name_plain level (Binary' op p e q f) h = absurd (false≢true h)
name_plain level (And' p e q f) h = absurd (false≢true h)
name_plain level (Or' p e q f) h = absurd (false≢true h)
name_plain level (Shift' op p e n) h = absurd (false≢true h)
name_plain level (Divide' op p e n) h = absurd (false≢true h)

small_plain : (level : ℕ) (e : Expr) → is_small e ≡ true → is_plain_expr level e ≡ true
small_plain level (Number n) h = refl
small_plain level (Scalar x) h = absurd (false≢true h)
small_plain level (LoopName other) h = absurd (false≢true h)
small_plain level (Cell' a place p e) h = absurd (false≢true h)
small_plain level (Unary' op p e) h = absurd (false≢true h)
small_plain level (Binary' op p e q f) h = absurd (false≢true h)
small_plain level (And' p e q f) h = absurd (false≢true h)
small_plain level (Or' p e q f) h = absurd (false≢true h)
small_plain level (Shift' op p e n) h = absurd (false≢true h)
small_plain level (Divide' op p e n) h = absurd (false≢true h)

both_plain : (level : ℕ) (e f : Expr) → (is_name level e && is_small f) ≡ true → (is_plain_expr level e && is_plain_expr level f) ≡ true
both_plain level e f h =
    ap₂ (λ x y. x && y) (name_plain level e (and_left (is_name level e) (is_small f) h))
    (small_plain level f (and_right (is_name level e) (is_small f) h))

near_plain : (level : ℕ) (e : Expr) → is_near level e ≡ true → is_plain_expr level e ≡ true
near_plain level (Number n) h = absurd (false≢true h)
near_plain level (Scalar x) h = absurd (false≢true h)
near_plain level (LoopName other) h = refl
near_plain level (Cell' a place p e) h = absurd (false≢true h)
near_plain level (Unary' op p e) h = absurd (false≢true h)
near_plain level (Binary' Add p e q f) h = both_plain level e f h
near_plain level (Binary' Subtract p e q f) h = both_plain level e f h
near_plain level (Binary' BitOr p e q f) h = absurd (false≢true h)
near_plain level (Binary' BitXor p e q f) h = absurd (false≢true h)
near_plain level (Binary' BitAnd p e q f) h = absurd (false≢true h)
near_plain level (Binary' Equal p e q f) h = absurd (false≢true h)
near_plain level (Binary' NotEqual p e q f) h = absurd (false≢true h)
near_plain level (Binary' Less p e q f) h = absurd (false≢true h)
near_plain level (Binary' LessOrEqual p e q f) h = absurd (false≢true h)
near_plain level (Binary' Greater p e q f) h = absurd (false≢true h)
near_plain level (Binary' GreaterOrEqual p e q f) h = absurd (false≢true h)
near_plain level (Binary' Multiply p e q f) h = absurd (false≢true h)
near_plain level (And' p e q f) h = absurd (false≢true h)
near_plain level (Or' p e q f) h = absurd (false≢true h)
near_plain level (Shift' op p e n) h = absurd (false≢true h)
near_plain level (Divide' op p e n) h = absurd (false≢true h)

module _ (loops : List ℕ) (first last : ℕ) (some : first < last) (few : last ≤ 65536) where
  -- in each turn the subscript is one more
  pub record IsMoving (e : Expr) : Type 0 where
    pub start : ℕ
    pub turns : (v : ℕ) → first ≤ v → v < last → interval e (loops ++ v ∷ []) ≡ exactly (start + (v - first))

  near_moves : (e : Expr) → is_near (length loops) e ≡ true → reaches_far (interval e (loops ++ first ∷ [])) ≡ false → IsMoving e
  near_moves (LoopName level) h low = record {
    start = first;
    turns = λ v le lt. ap exactly (last_value loops v level (eqb-true level (length loops) h) ∙ omega (arith, le));
  }
  near_moves (Binary' Add p e q f) h low =
      let name = and_left (is_name (length loops) e) (is_small f) h in
      let number = number_is f (and_right (is_name (length loops) e) (is_small f) h) in
      let n = number.n in
      let small = number.small in
      record {
        start = first + n;
        turns = λ v le lt.
            ap₂ (interval_binary Add) (name_is e loops v name) (number.is (loops ++ v ∷ []))
            ∙ sum_is v n (omega (arith, lt, few)) small ∙ ap exactly (omega (arith, le));
      }
  near_moves (Binary' Subtract p e q f) h low =
      let name = and_left (is_name (length loops) e) (is_small f) h in
      let number = number_is f (and_right (is_name (length loops) e) (is_small f) h) in
      let n = number.n in
      let small = number.small in
      let at : (v : ℕ) → interval (Binary' Subtract p e q f) (loops ++ v ∷ []) ≡ interval_binary Subtract (exactly v) (exactly n) =
      λ v. ap₂ (interval_binary Subtract) (name_is e loops v name) (number.is (loops ++ v ∷ [])) in
      ⊎_elim
      (λ (lt : first < n).
      absurd (false≢true (sym low ∙ ap reaches_far (at first) ∙ wrapped_is first n lt small)))
      (λ (le : n ≤ first). record {
        start = first - n;
        turns = λ v from lt. at v ∙ difference_is v n (omega (arith, le, from)) ∙ ap exactly (omega (arith, le, from));
      })
      (cases_lt first n)
  near_moves (Binary' BitOr p e q f) h low = absurd (false≢true h)
  near_moves (Binary' BitXor p e q f) h low = absurd (false≢true h)
  near_moves (Binary' BitAnd p e q f) h low = absurd (false≢true h)
  near_moves (Binary' Equal p e q f) h low = absurd (false≢true h)
  near_moves (Binary' NotEqual p e q f) h low = absurd (false≢true h)
  near_moves (Binary' Less p e q f) h low = absurd (false≢true h)
  near_moves (Binary' LessOrEqual p e q f) h low = absurd (false≢true h)
  near_moves (Binary' Greater p e q f) h low = absurd (false≢true h)
  near_moves (Binary' GreaterOrEqual p e q f) h low = absurd (false≢true h)
  near_moves (Binary' Multiply p e q f) h low = absurd (false≢true h)
  near_moves (Number n) h low = absurd (false≢true h)
  near_moves (Scalar x) h low = absurd (false≢true h)
  near_moves (Cell' a place p e) h low = absurd (false≢true h)
  near_moves (Unary' op p e) h low = absurd (false≢true h)
  near_moves (And' p e q f) h low = absurd (false≢true h)
  near_moves (Or' p e q f) h low = absurd (false≢true h)
  near_moves (Shift' op p e n) h low = absurd (false≢true h)
  near_moves (Divide' op p e n) h low = absurd (false≢true h)

  -- so many accesses move on by one in each turn
  pub record Moves (touches : List ℕ → Bool → List Touch) (count : ℕ) : Type 0 where
    pub slides : List Slide
    pub many : length slides ≡ count
    pub turns : (v : ℕ) → first ≤ v → v < last → touches (loops ++ v ∷ []) true ≡ map (near_touch (v - first)) slides

  -- the cells of the first turn are not far
  abbrev pub IsNear : (List ℕ → Bool → List Touch) → Type 0
  IsNear touches = list_any is_far (touches (loops ++ first ∷ []) true) ≡ false

  nothing : Moves (λ ls c. []) 0
  nothing = record { slides = []; many = refl; turns = λ v le lt. refl }

  both : (f g : List ℕ → Bool → List Touch) (m n : ℕ) → Moves f m → Moves g n → Moves (λ ls c. f ls c ++ g ls c) (m + n)
  both f g m n h k = record {
    slides = h.slides ++ k.slides;
    many = length-append h.slides k.slides ∙ ap₂ (λ x y. x + y) h.many k.many;
    turns = λ v le lt.
        ap₂ (λ (xs ys : List Touch). xs ++ ys) (h.turns v le lt) (k.turns v le lt)
        ∙ sym (map-append (near_touch (v - first)) h.slides k.slides);
  }

  stays_left : (f g : List ℕ → Bool → List Touch) → IsNear (λ ls c. f ls c ++ g ls c) → IsNear f
  stays_left f g h =
      let at = loops ++ first ∷ [] in
      (or_parts (list_any is_far (f at true)) (list_any is_far (g at true))
      (sym (list_any-append is_far (f at true) (g at true)) ∙ h)).0

  stays_right : (f g : List ℕ → Bool → List Touch) → IsNear (λ ls c. f ls c ++ g ls c) → IsNear g
  stays_right f g h =
      let at = loops ++ first ∷ [] in
      (or_parts (list_any is_far (f at true)) (list_any is_far (g at true))
      (sym (list_any-append is_far (f at true) (g at true)) ∙ h)).1

  abbrev one_touch : ArrayId → Place → Bool → Expr → List ℕ → Bool → List Touch
  one_touch a place write e ls c =
      record { array = a; cells = interval e ls; is_write = write; certain = c; combines = None; place = place } ∷ []

  one : (a : ArrayId) (place : Place) (write : Bool) (e : Expr) → is_near (length loops) e ≡ true → IsNear (one_touch a place write e) →
      Moves (one_touch a place write e) 1
  one a place write e near h =
      let moving = near_moves e near (or_parts (reaches_far (interval e (loops ++ first ∷ []))) false h).0 in
      record {
        slides = record { array = a; place = place; start = moving.start; slope = 1; writes = write; certain = true } ∷ [];
        many = refl;
        turns = λ v le lt i.
            record { array = a; cells = moving.turns v le lt i; is_write = write; certain = true; combines = None; place = place } ∷ [];
      }

  expr_moves : (e : Expr) → is_plain_expr (length loops) e ≡ true → IsNear (expr_touches e) → Moves (expr_touches e) (cells_in_expr e)
  expr_moves (Number n) h stays = nothing
  expr_moves (Scalar x) h stays = nothing
  expr_moves (LoopName level) h stays = nothing
  expr_moves (Cell' a place p e) h stays =
      both (expr_touches e) (one_touch a place false e) (cells_in_expr e) 1
      (expr_moves e (near_plain (length loops) e h) (stays_left (expr_touches e) (one_touch a place false e) stays))
      (one a place false e h (stays_right (expr_touches e) (one_touch a place false e) stays))
  expr_moves (Unary' op p e) h stays = expr_moves e h stays
  expr_moves (Binary' op p e q f) h stays =
      both (expr_touches e) (expr_touches f) (cells_in_expr e) (cells_in_expr f)
      (expr_moves e (and_left (is_plain_expr (length loops) e) (is_plain_expr (length loops) f) h)
      (stays_left (expr_touches e) (expr_touches f) stays))
      (expr_moves f (and_right (is_plain_expr (length loops) e) (is_plain_expr (length loops) f) h)
      (stays_right (expr_touches e) (expr_touches f) stays))
  expr_moves (And' p e q f) h stays =
      both (expr_touches e) (expr_touches f) (cells_in_expr e) (cells_in_expr f)
      (expr_moves e (and_left (is_plain_expr (length loops) e) (is_plain_expr (length loops) f) h)
      (stays_left (expr_touches e) (expr_touches f) stays))
      (expr_moves f (and_right (is_plain_expr (length loops) e) (is_plain_expr (length loops) f) h)
      (stays_right (expr_touches e) (expr_touches f) stays))
  expr_moves (Or' p e q f) h stays =
      both (expr_touches e) (expr_touches f) (cells_in_expr e) (cells_in_expr f)
      (expr_moves e (and_left (is_plain_expr (length loops) e) (is_plain_expr (length loops) f) h)
      (stays_left (expr_touches e) (expr_touches f) stays))
      (expr_moves f (and_right (is_plain_expr (length loops) e) (is_plain_expr (length loops) f) h)
      (stays_right (expr_touches e) (expr_touches f) stays))
  expr_moves (Shift' op p e n) h stays = expr_moves e h stays
  expr_moves (Divide' op p e n) h stays = expr_moves e h stays

  source_moves : (s : Source) → is_plain_source (length loops) s ≡ true → IsNear (source_touches s) →
      Moves (source_touches s) (cells_in_source s)
  source_moves (Value e) h stays = expr_moves e h stays
  source_moves Input h stays = nothing

  mutual
    pub stmt_moves : (s : Stmt) → is_plain (length loops) s ≡ true → IsNear (stmt_touches s) → Moves (stmt_touches s) (cells_in s)
    stmt_moves (Declare x v) h stays = source_moves v h stays
    stmt_moves (Assign x v) h stays = source_moves v h stays
    stmt_moves (Store a place e v) h stays =
        let near = and_left (is_near (length loops) e) (is_plain_source (length loops) v) h in
        let store = one_touch a place true e in
        let behind : List ℕ → Bool → List Touch = λ ls c. source_touches v ls c ++ store ls c in
        let last_stays = stays_right (expr_touches e) behind stays in
        both (expr_touches e) behind (cells_in_expr e) (cells_in_source v + 1)
        (expr_moves e (near_plain (length loops) e near) (stays_left (expr_touches e) behind stays))
        (both (source_touches v) store (cells_in_source v) 1
        (source_moves v (and_right (is_near (length loops) e) (is_plain_source (length loops) v) h)
        (stays_left (source_touches v) store last_stays))
        (one a place true e near (stays_right (source_touches v) store last_stays)))
    stmt_moves (Combine op a place e v) h stays = absurd (false≢true h)
    stmt_moves (Print e) h stays = expr_moves e h stays
    stmt_moves (Block' shape all) h stays = row_moves all h stays
    stmt_moves (Loop' b shape all) h stays = absurd (false≢true h)
    stmt_moves (If' c shape all shape' all') h stays = absurd (false≢true h)

    pub row_moves : {m : _} (all : Row_of-Stmt m) → is_plain_row (length loops) all ≡ true → IsNear (row_touches all) →
        Moves (row_touches all) (cells_in_row all)
    row_moves end_of-Stmt h stays = nothing
    row_moves (more_of-Stmt s rest) h stays =
        both (stmt_touches s) (row_touches rest) (cells_in s) (cells_in_row rest)
        (stmt_moves s (and_left (is_plain (length loops) s) (is_plain_row (length loops) rest) h)
        (stays_left (stmt_touches s) (row_touches rest) stays))
        (row_moves rest (and_right (is_plain (length loops) s) (is_plain_row (length loops) rest) h)
        (stays_right (stmt_touches s) (row_touches rest) stays))
