-- The terms that were read and joined by an operator.
use Rattle.std.proofs.Common.{◌≡◌, ℕ, suc, ◌+◌, ◌≤◌, List, [], ◌∷◌, ◌++◌, drop, Some, refl, sym, ap, subst, ◌∙◌, append_assoc, arith, length-append}
use Rattle.std.specs.Prelude.{Result, Ok, Err, IfOk}
use Rattle.base.specs.declared.tree.ShiftOp.{ShiftOp}
use Rattle.base.specs.declared.tree.ShiftOp.TheVariants as shift
use Rattle.base.specs.declared.tree.ShiftCount.{ShiftCount}
use Rattle.base.specs.declared.tree.DivideOp.{DivideOp}
use Rattle.base.specs.declared.tree.DivideOp.TheVariants as divide
use Rattle.base.specs.declared.tree.Divisor.{Divisor}
use Rattle.base.specs.declared.tree.Expr.{Expr}
use Rattle.base.specs.declared.tree.Expr.TheVariants as expr
use Rattle.c_grammar.specs.Terminal.{Terminal, Mark, Num}
use Rattle.c_grammar.specs.Grammar.{Term, Both, By, Operator, Fraction, term, inner, value_of, operator_sign, fraction_sign, level, fraction_level, level_of}
use Rattle.c_expressions.specs.declared.cursor.Cursor.{Cursor}
use Rattle.c_expressions.specs.declared.fault.ReadError.{ReadError}
use Rattle.c_expressions.specs.Means.{Items, Names, term_size, shift_of, divide_of, IsExpr}
use Rattle.c_expressions.specs.Cursor.{items, first_item, behind}
use Rattle.c_expressions.specs.Reading.{terminals, kinds}
use Rattle.c_expressions.specs.Signs.{Stops}
use Rattle.c_expressions.specs.Trees.{IsJoinOf, IsShiftOf, IsDivisionOf, IsRead}
use Rattle.c_expressions.proofs.Signs.{stops_none, stops_within}
use Rattle.c_expressions.proofs.Expressions.{first_then, kinds_append, behind_less, one_more, drops, drop_by}

not_above : (a b : ℕ) → (a + 1 ≤ b → ⊥) → b ≤ a
not_above a b h = omega (arith, h)

join_means : (names : Names) (is js : Items) (o : Operator) (t u : Term) (l r e : Expr) →
    js ≡ drop (term_size t + 1) is → IsExpr names is t l → IsExpr names js u r → IsJoinOf o l r e →
    IsExpr names is (Both o t u) e
join_means names is js o t u l r (expr.Binary' c p f q g) d m n w = (
  w.0,
  subst (λ (x : Expr). IsExpr names is t x) (sym w.1) m,
  subst
      (λ (x : Expr). IsExpr names (drop (term_size t + 1) is) u x) (sym w.2)
      (subst (λ (ks : Items). IsExpr names ks u r) d n),
)
join_means names is js o t u l r (expr.And' p f q g) d m n w = (
  w.0,
  subst (λ (x : Expr). IsExpr names is t x) (sym w.1) m,
  subst
      (λ (x : Expr). IsExpr names (drop (term_size t + 1) is) u x) (sym w.2)
      (subst (λ (ks : Items). IsExpr names ks u r) d n),
)
join_means names is js o t u l r (expr.Or' p f q g) d m n w = (
  w.0,
  subst (λ (x : Expr). IsExpr names is t x) (sym w.1) m,
  subst
      (λ (x : Expr). IsExpr names (drop (term_size t + 1) is) u x) (sym w.2)
      (subst (λ (ks : Items). IsExpr names ks u r) d n),
)
join_means names is js o t u l r (expr.Cell' a at p g) d m n w = absurd w
join_means names is js o t u l r (expr.Number k) d m n w = absurd w
join_means names is js o t u l r (expr.Scalar k) d m n w = absurd w
join_means names is js o t u l r (expr.LoopName k) d m n w = absurd w
join_means names is js o t u l r (expr.Unary' k p g) d m n w = absurd w
join_means names is js o t u l r (expr.Shift' k p g x) d m n w = absurd w
join_means names is js o t u l r (expr.Divide' k p g x) d m n w = absurd w

joined_read : (names : Names) (least top top' n : ℕ) (o : Operator) (before : Items) (t t1 t2 : Cursor)
    (l r e : Expr) → IsRead names least top before (items t) l → least ≤ level o →
    (first_item t).terminal ≡ Mark (operator_sign o) → level o ≤ top → behind t ≡ items t1 → n ≡ level o →
    IsRead names (n + 1) top' (items t1) (items t2) r → Stops (n + 1) top' (first_item t2).terminal →
    IsJoinOf o l r e → IsRead names least top' before (items t2) e
joined_read names least top top' k o before t t1 t2 l r e left low first high h lev right after is =
    let m = term_size left.tree in
    let n = term_size right.tree in
    let mid : items t1 ≡ drop (m + 1) before = one_more m before t t1 left.rest h in
    let size : term_size (Both o left.tree right.tree) ≡ m + suc n =
    length-append (term left.tree) (inner (operator_sign o) ∷ term right.tree) in
    record {
      tree = Both o left.tree right.tree;
      tokens = left.tokens ∙ ap (λ (ts : List Terminal). kinds (term left.tree) ++ ts)
          (first_then (Mark (operator_sign o)) t t1 first h
          ∙ ap (λ (ts : List Terminal). Mark (operator_sign o) ∷ ts) right.tokens)
          ∙ sym (append_assoc (kinds (term left.tree)) (Mark (operator_sign o) ∷ kinds (term right.tree))
          (terminals (items t2)))
          ∙ ap (λ (ts : List Terminal). ts ++ terminals (items t2))
          (sym (kinds_append (term left.tree) (inner (operator_sign o) ∷ term right.tree)));
      rest = drop_by (m + 1 + n) (term_size (Both o left.tree right.tree)) before (items t2) (omega (arith, size))
          (drops (m + 1) n before (items t1) (items t2) mid right.rest);
      ranked = (
        not_above (level_of left.tree) (level o) (λ above. left.stops.operator o first above high),
        omega
            (arith, lev, right.tight),
        left.ranked,
        right.ranked,
      );
      tight = low;
      stops = stops_within (k + 1) (level o + 1) top' top' (first_item t2).terminal (omega (arith, lev))
          (omega arith) after;
      fewer = omega (arith, left.fewer, right.fewer, behind_less t t1 h);
      means = join_means names before (items t1) o left.tree right.tree l r e mid left.means right.means is;
    }

pub read_join : (names : Names) (least top top' n : ℕ) (o : Operator) (before : Items) (t t1 t2 : Cursor)
    (l r : Expr) (j : Result Expr ReadError) → IsRead names least top before (items t) l → least ≤ level o →
    (first_item t).terminal ≡ Mark (operator_sign o) → level o ≤ top → behind t ≡ items t1 → n ≡ level o →
    IsRead names (n + 1) top' (items t1) (items t2) r → Stops (n + 1) top' (first_item t2).terminal →
    IfOk j (λ e. IsJoinOf o l r e) → IfOk j (λ e. IsRead names least top' before (items t2) e)
read_join names least top top' n o before t t1 t2 l r (Ok e) left low first high h lev right after is =
    joined_read names least top top' n o before t t1 t2 l r e left low first high h lev right after is
read_join names least top top' n o before t t1 t2 l r (Err f) left low first high h lev right after is = tt

-- ---- a number on the right

read_by : (names : Names) (least top k n : ℕ) (o : Fraction) (before : Items) (t t1 t2 : Cursor) (l e : Expr) →
    (left : IsRead names least top before (items t) l) → least ≤ fraction_level o →
    (first_item t).terminal ≡ Mark (fraction_sign o) → fraction_level o ≤ top → behind t ≡ items t1 →
    (first_item t1).terminal ≡ Num (Some n) → behind t1 ≡ items t2 → k ≡ fraction_level o →
    IsExpr names before (By o left.tree (Some n)) e → IsRead names least k before (items t2) e
read_by names least top k v o before t t1 t2 l e left low first high h second g lev is =
    let m = term_size left.tree in
    let mid : items t1 ≡ drop (m + 1) before = one_more m before t t1 left.rest h in
    let size : term_size (By o left.tree (Some v)) ≡ m + 2 =
    length-append (term left.tree) (inner (fraction_sign o) ∷ value_of o (Some v) ∷ []) in
    record {
      tree = By o left.tree (Some v);
      tokens = left.tokens ∙ ap (λ (ts : List Terminal). kinds (term left.tree) ++ ts)
          (first_then (Mark (fraction_sign o)) t t1 first h
          ∙ ap (λ (ts : List Terminal). Mark (fraction_sign o) ∷ ts) (first_then (Num (Some v)) t1 t2 second g))
          ∙ sym (append_assoc (kinds (term left.tree)) (Mark (fraction_sign o) ∷ Num (Some v) ∷ [])
          (terminals (items t2)))
          ∙ ap (λ (ts : List Terminal). ts ++ terminals (items t2))
          (sym (kinds_append (term left.tree) (inner (fraction_sign o) ∷ value_of o (Some v) ∷ [])));
      rest = drop_by (m + 1 + 1) (term_size (By o left.tree (Some v))) before (items t2) (omega (arith, size))
          (one_more (m + 1) before t1 t2 mid g);
      ranked = (
        not_above (level_of left.tree) (fraction_level o)
            (λ above. left.stops.fraction o first above high),
        left.ranked,
      );
      tight = low;
      stops = stops_none (fraction_level o + 1) k (first_item t2).terminal (omega (arith, lev));
      fewer = omega (arith, left.fewer, behind_less t t1 h, behind_less t1 t2 g);
      means = is;
    }

shift_means : (names : Names) (is : Items) (o : ShiftOp) (t : Term) (count : ShiftCount) (l e : Expr) →
    IsExpr names is t l → IsShiftOf o l count e → IsExpr names is (By (shift_of o) t (Some count.count)) e
shift_means names is o t count l (expr.Shift' s p f x) m w = (
  ap shift_of (sym w.0),
  ap (λ (c : ShiftCount). Some c.count) (sym w.2),
  subst
      (λ (u : Expr). IsExpr names is t u) (sym w.1) m,
)
shift_means names is o t count l (expr.Binary' c p f q g) m w = absurd w
shift_means names is o t count l (expr.And' p f q g) m w = absurd w
shift_means names is o t count l (expr.Or' p f q g) m w = absurd w
shift_means names is o t count l (expr.Cell' a at p g) m w = absurd w
shift_means names is o t count l (expr.Number k) m w = absurd w
shift_means names is o t count l (expr.Scalar k) m w = absurd w
shift_means names is o t count l (expr.LoopName k) m w = absurd w
shift_means names is o t count l (expr.Unary' k p g) m w = absurd w
shift_means names is o t count l (expr.Divide' k p g x) m w = absurd w

division_means : (names : Names) (is : Items) (o : DivideOp) (t : Term) (divisor : Divisor) (l e : Expr) →
    IsExpr names is t l → IsDivisionOf o l divisor e → IsExpr names is (By (divide_of o) t (Some divisor.value)) e
division_means names is o t divisor l (expr.Divide' s p f x) m w = (
  ap divide_of (sym w.0),
  ap (λ (c : Divisor). Some c.value) (sym w.2),
  subst
      (λ (u : Expr). IsExpr names is t u) (sym w.1) m,
)
division_means names is o t divisor l (expr.Binary' c p f q g) m w = absurd w
division_means names is o t divisor l (expr.And' p f q g) m w = absurd w
division_means names is o t divisor l (expr.Or' p f q g) m w = absurd w
division_means names is o t divisor l (expr.Cell' a at p g) m w = absurd w
division_means names is o t divisor l (expr.Number k) m w = absurd w
division_means names is o t divisor l (expr.Scalar k) m w = absurd w
division_means names is o t divisor l (expr.LoopName k) m w = absurd w
division_means names is o t divisor l (expr.Unary' k p g) m w = absurd w
division_means names is o t divisor l (expr.Shift' k p g x) m w = absurd w

shift_level : (o : ShiftOp) → 7 ≡ fraction_level (shift_of o)
shift_level shift.Left = refl
shift_level shift.Right = refl

division_level : (o : DivideOp) → 9 ≡ fraction_level (divide_of o)
division_level divide.Quotient = refl
division_level divide.Remainder = refl

pub read_shift : (names : Names) (least top : ℕ) (o : ShiftOp) (count : ShiftCount) (before : Items)
    (t t1 t2 : Cursor) (l : Expr) (r : Result Expr ReadError) → IsRead names least top before (items t) l →
    least ≤ fraction_level (shift_of o) → (first_item t).terminal ≡ Mark (fraction_sign (shift_of o)) →
    fraction_level (shift_of o) ≤ top → behind t ≡ items t1 → (first_item t1).terminal ≡ Num (Some count.count) →
    behind t1 ≡ items t2 → IfOk r (λ e. IsShiftOf o l count e) →
    IfOk r (λ e. IsRead names least 7 before (items t2) e)
read_shift names least top o count before t t1 t2 l (Ok e) left low first high h second g is =
    read_by names least top 7 count.count (shift_of o) before t t1 t2 l e left low first high h second g
    (shift_level o) (shift_means names before o left.tree count l e left.means is)
read_shift names least top o count before t t1 t2 l (Err f) left low first high h second g is = tt

pub read_division : (names : Names) (least top : ℕ) (o : DivideOp) (divisor : Divisor) (before : Items)
    (t t1 t2 : Cursor) (l : Expr) (r : Result Expr ReadError) → IsRead names least top before (items t) l →
    least ≤ fraction_level (divide_of o) → (first_item t).terminal ≡ Mark (fraction_sign (divide_of o)) →
    fraction_level (divide_of o) ≤ top → behind t ≡ items t1 →
    (first_item t1).terminal ≡ Num (Some divisor.value) → behind t1 ≡ items t2 →
    IfOk r (λ e. IsDivisionOf o l divisor e) → IfOk r (λ e. IsRead names least 9 before (items t2) e)
read_division names least top o divisor before t t1 t2 l (Ok e) left low first high h second g is =
    read_by names least top 9 divisor.value (divide_of o) before t t1 t2 l e left low first high h second g
    (division_level o) (division_means names before o left.tree divisor l e left.means is)
read_division names least top o divisor before t t1 t2 l (Err f) left low first high h second g is = tt
