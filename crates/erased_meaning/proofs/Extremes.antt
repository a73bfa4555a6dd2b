-- An if that stores the greater or the lesser of a cell's number and a value does what the update does, but that it stores
-- nothing where the number stays.
use Rattle.std.proofs.Common.{◌≡◌, ◌⊎◌, inl, inr, ℕ, zero, suc, ◌+◌, ◌<◌, ◌≤◌, Bool, true, false, cond, List, [], ◌∷◌, ◌++◌, Option, Some, None, Box, refl, sym, ap, ap₂, subst, ◌∙◌, arith}
use Rattle.std.specs.Prelude.{◌&&◌, ◌==◌, nat_lt, nat_le, if◌then◌else◌, option_and_then, option_map, unwrap_or}
use Rattle.std.specs.declared.alloc.Global.{Global}
use Rattle.std.proofs.lemmas.Bool.{and_parts, eqb-true, ltb-true, ltb-false, leb-true, leb-false}
use Rattle.std.proofs.lemmas.Option.{none-some, same_Some}
use mathlib.Core.Former.{Count}
use mathlib.Core.Path.{fun_ext}
use Rattle.base.specs.declared.item.Cell.{Cell}
use Rattle.base.specs.declared.tree.ArrayId.{ArrayId}
use Rattle.base.specs.declared.tree.Place.{Place}
use Rattle.base.specs.declared.tree.BinaryOp.{BinaryOp}
use Rattle.base.specs.declared.tree.BinaryOp.TheVariants as two
use Rattle.base.specs.declared.tree.CombineOp.{CombineOp}
use Rattle.base.specs.declared.tree.CombineOp.TheVariants as combining
use Rattle.base.specs.declared.tree.Expr.{Expr}
use Rattle.base.specs.declared.tree.Expr.TheVariants.{Number, Scalar, LoopName, Cell', Unary', Binary', And', Or', Shift', Divide'}
use Rattle.base.specs.declared.tree.Source.TheVariants.{Value}
use Rattle.base.specs.declared.tree.Stmt.{Stmt, Row_of-Stmt, items-the_row-Stmt}
use Rattle.base.specs.declared.tree.Stmt.TheVariants.{Store, Combine, If'}
use Rattle.base.specs.Memory.{Memory, Scalars, View, is_cell as is_cell_in, last_stored, same_cell, view_of, with_stores}
use Rattle.base.specs.Value.{Names, value, on_both, binary, combined, flag}
use Rattle.base.specs.Meaning.{Run, names_in, seen, stored, choose, run_stmt, run_row, run_list}
use Rattle.c_statements.specs.Updates.{as_update, choice_or, extreme_by, extreme_else, extreme_of, extreme_or, extreme_unless, is_cell, is_own, keeps, over, under, same_expr}
use Rattle.c_expressions.specs.Means.{Names as Known}
use Rattle.erased_meaning.proofs.Boxes.{Layout, Agree}
use Rattle.erased_meaning.proofs.Likeness.{Mode, OnHost, InTarget, IsPassed, Both, stores_more}
use Rattle.erased_meaning.proofs.Updates.{row_runs, same_array, same_value, store_runs}

-- ---- the numbers

-- of a cell's number and a value: the value takes its place where the test is not 0, and that is the operator's number
abbrev IsPick : (ℕ → ℕ → ℕ) → CombineOp → Type 0
IsPick test o =
    (w n : ℕ) → (test w n ≡ 0 → combined o w n ≡ w) × ((k : ℕ) → test w n ≡ suc k → combined o w n ≡ n)

-- where a flag is 0, the test does not hold
flag_not : (b : Bool) → flag b ≡ 0 → b ≡ false
flag_not true e = absurd cc
flag_not false e = refl

flag_is : (b : Bool) (k : ℕ) → flag b ≡ suc k → b ≡ true
flag_is true k e = refl
flag_is false k e = absurd cc

over_picks : (b : BinaryOp) (o : CombineOp) → over b ≡ Some o → IsPick (λ w n. binary b n w) o
over_picks two.Less o e =
    subst (λ (c : CombineOp). IsPick (λ w n. binary two.Less n w) c) (same_Some combining.Min o e)
    (λ w n. (
      λ z. omega (arith, ltb-false n w (flag_not (nat_lt n w) z)),
      λ k z. omega (arith, ltb-true n w (flag_is (nat_lt n w) k z)),
    ))
over_picks two.LessOrEqual o e =
    subst (λ (c : CombineOp). IsPick (λ w n. binary two.LessOrEqual n w) c) (same_Some combining.Min o e)
    (λ w n. (
      λ z. omega (arith, leb-false n w (flag_not (nat_le n w) z)),
      λ k z. omega (arith, leb-true n w (flag_is (nat_le n w) k z)),
    ))
over_picks two.Greater o e =
    subst (λ (c : CombineOp). IsPick (λ w n. binary two.Greater n w) c) (same_Some combining.Max o e)
    (λ w n. (
      λ z. omega (arith, ltb-false w n (flag_not (nat_lt w n) z)),
      λ k z. omega (arith, ltb-true w n (flag_is (nat_lt w n) k z)),
    ))
over_picks two.GreaterOrEqual o e =
    subst (λ (c : CombineOp). IsPick (λ w n. binary two.GreaterOrEqual n w) c) (same_Some combining.Max o e)
    (λ w n. (
      λ z. omega (arith, leb-false w n (flag_not (nat_le w n) z)),
      λ k z. omega (arith, leb-true w n (flag_is (nat_le w n) k z)),
    ))
over_picks two.Add o e = absurd (none-some o e)
over_picks two.Multiply o e = absurd (none-some o e)
over_picks two.BitAnd o e = absurd (none-some o e)
over_picks two.BitOr o e = absurd (none-some o e)
over_picks two.BitXor o e = absurd (none-some o e)
over_picks two.Equal o e = absurd (none-some o e)
over_picks two.NotEqual o e = absurd (none-some o e)
over_picks two.Subtract o e = absurd (none-some o e)

under_picks : (b : BinaryOp) (o : CombineOp) → under b ≡ Some o → IsPick (λ w n. binary b w n) o
under_picks two.Less o e = over_picks two.Greater o e
under_picks two.LessOrEqual o e = over_picks two.GreaterOrEqual o e
under_picks two.Greater o e = over_picks two.Less o e
under_picks two.GreaterOrEqual o e = over_picks two.LessOrEqual o e
under_picks two.Add o e = absurd (none-some o e)
under_picks two.Multiply o e = absurd (none-some o e)
under_picks two.BitAnd o e = absurd (none-some o e)
under_picks two.BitOr o e = absurd (none-some o e)
under_picks two.BitXor o e = absurd (none-some o e)
under_picks two.Equal o e = absurd (none-some o e)
under_picks two.NotEqual o e = absurd (none-some o e)
under_picks two.Subtract o e = absurd (none-some o e)

abbrev denied : ℕ → ℕ
denied zero = 1
denied (suc t) = 0

-- the test that holds where the other one does not
abbrev unless : (ℕ → ℕ → ℕ) → ℕ → ℕ → ℕ
unless test w n = denied (test w n)

-- the value takes the number's place where the test is 0
abbrev IsLeave : (ℕ → ℕ → ℕ) → CombineOp → Type 0
IsLeave test o =
    (w n : ℕ) → (test w n ≡ 0 → combined o w n ≡ n) × ((k : ℕ) → test w n ≡ suc k → combined o w n ≡ w)

leave_picks : (test : ℕ → ℕ → ℕ) (o : CombineOp) → IsLeave test o → IsPick (unless test) o
leave_picks test o leave w n = go (test w n) (leave w n)
  where
    go : (t : ℕ) → (t ≡ 0 → combined o w n ≡ n) × ((k : ℕ) → t ≡ suc k → combined o w n ≡ w) →
        (denied t ≡ 0 → combined o w n ≡ w) × ((k : ℕ) → denied t ≡ suc k → combined o w n ≡ n)
    go zero h = (λ e. absurd cc, λ k e. h.0 refl)
    go (suc t) h = (λ e. h.1 t refl, λ k e. absurd cc)

over_leaves : (b : BinaryOp) (o : CombineOp) → over b ≡ Some o → IsLeave (λ w n. binary b w n) o
over_leaves two.Less o e =
    subst (λ (c : CombineOp). IsLeave (λ w n. binary two.Less w n) c) (same_Some combining.Min o e)
    (λ w n. (
      λ z. omega (arith, ltb-false w n (flag_not (nat_lt w n) z)),
      λ k z. omega (arith, ltb-true w n (flag_is (nat_lt w n) k z)),
    ))
over_leaves two.LessOrEqual o e =
    subst (λ (c : CombineOp). IsLeave (λ w n. binary two.LessOrEqual w n) c) (same_Some combining.Min o e)
    (λ w n. (
      λ z. omega (arith, leb-false w n (flag_not (nat_le w n) z)),
      λ k z. omega (arith, leb-true w n (flag_is (nat_le w n) k z)),
    ))
over_leaves two.Greater o e =
    subst (λ (c : CombineOp). IsLeave (λ w n. binary two.Greater w n) c) (same_Some combining.Max o e)
    (λ w n. (
      λ z. omega (arith, ltb-false n w (flag_not (nat_lt n w) z)),
      λ k z. omega (arith, ltb-true n w (flag_is (nat_lt n w) k z)),
    ))
over_leaves two.GreaterOrEqual o e =
    subst (λ (c : CombineOp). IsLeave (λ w n. binary two.GreaterOrEqual w n) c) (same_Some combining.Max o e)
    (λ w n. (
      λ z. omega (arith, leb-false n w (flag_not (nat_le n w) z)),
      λ k z. omega (arith, leb-true n w (flag_is (nat_le n w) k z)),
    ))
over_leaves two.Add o e = absurd (none-some o e)
over_leaves two.Multiply o e = absurd (none-some o e)
over_leaves two.BitAnd o e = absurd (none-some o e)
over_leaves two.BitOr o e = absurd (none-some o e)
over_leaves two.BitXor o e = absurd (none-some o e)
over_leaves two.Equal o e = absurd (none-some o e)
over_leaves two.NotEqual o e = absurd (none-some o e)
over_leaves two.Subtract o e = absurd (none-some o e)

under_leaves : (b : BinaryOp) (o : CombineOp) → under b ≡ Some o → IsLeave (λ w n. binary b n w) o
under_leaves two.Less o e = over_leaves two.Greater o e
under_leaves two.LessOrEqual o e = over_leaves two.GreaterOrEqual o e
under_leaves two.Greater o e = over_leaves two.Less o e
under_leaves two.GreaterOrEqual o e = over_leaves two.LessOrEqual o e
under_leaves two.Add o e = absurd (none-some o e)
under_leaves two.Multiply o e = absurd (none-some o e)
under_leaves two.BitAnd o e = absurd (none-some o e)
under_leaves two.BitOr o e = absurd (none-some o e)
under_leaves two.BitXor o e = absurd (none-some o e)
under_leaves two.Equal o e = absurd (none-some o e)
under_leaves two.NotEqual o e = absurd (none-some o e)
under_leaves two.Subtract o e = absurd (none-some o e)

choose_unless : (test : ℕ → ℕ → ℕ) (x y : Option ℕ) (f g : Run → Option Run) (r : Run) →
    choose (on_both (unless test) x y) g f r ≡ choose (on_both test x y) f g r
choose_unless test None y f g r = refl
choose_unless test (Some w) None f g r = refl
choose_unless test (Some w) (Some n) f g r = go (test w n)
  where
    go : (t : ℕ) → choose (Some (denied t)) g f r ≡ choose (Some t) f g r
    go zero = refl
    go (suc t) = refl

both_turned : (f : ℕ → ℕ → ℕ) (a b : Option ℕ) → on_both f a b ≡ on_both (λ w n. f n w) b a
both_turned f None None = refl
both_turned f None (Some n) = refl
both_turned f (Some w) None = refl
both_turned f (Some w) (Some n) = refl

-- ---- what was stored

-- the first run has stored besides what the second one has, but numbers that the cells had
record IsLike (m : Memory) (r q : Run) : Type 0 where
  scalars : r.scalars ≡ q.scalars
  input : r.input ≡ q.input
  printed : r.printed ≡ q.printed
  memory : with_stores r.stores m ≡ with_stores q.stores m

abbrev AreLike : Memory → Option Run → Option Run → Type 0
AreLike m None None = Unit {0}
AreLike m (Some r) (Some q) = IsLike m r q
AreLike m _ _ = ⊥

like_itself : (m : Memory) (o : Option Run) → AreLike m o o
like_itself m None = tt
like_itself m (Some r) = record { scalars = refl; input = refl; printed = refl; memory = refl }

like_same : (m : Memory) (o p : Option Run) → o ≡ p → AreLike m o p
like_same m o p e = subst (λ (q : Option Run). AreLike m o q) e (like_itself m o)

abbrev put : Run → Cell → ℕ → Run
put r c n = record r { stores = r.stores ++ (c, n) ∷ [] }

same_cells : (c d : Cell) → same_cell c d ≡ true → c ≡ d
same_cells c d h =
    let p = and_parts (c.array.0 == d.array.0) (c.index == d.index) h in
    ap₂ (λ x y. record { array = record { 0 = x }; index = y }) (eqb-true c.array.0 d.array.0 p.0)
    (eqb-true c.index d.index p.1)

-- the cell's own number, stored once more
put_own : (m : Memory) (r : Run) (c : Cell) → IsLike m (put r c (with_stores r.stores m c)) r
put_own m r c = record {
  scalars = refl;
  input = refl;
  printed = refl;
  memory = fun_ext (λ d. stores_more r.stores m c d (with_stores r.stores m c) ∙ step d (same_cell c d) refl);
}
  where
    step : (d : Cell) (b : Bool) → same_cell c d ≡ b →
        cond b (with_stores r.stores m c) (with_stores r.stores m d) ≡ with_stores r.stores m d
    step d true e = ap (with_stores r.stores m) (same_cells c d e)
    step d false e = refl

-- ---- both runs

module _ (lengths : List ℕ) (m : Memory) (a : ArrayId) (r : Run) where
  abbrev view : View
  view = view_of lengths m

  abbrev cell : ℕ → Cell
  cell i = record { array = a; index = i }

  abbrev own : ℕ → Option ℕ
  own i = seen view r.stores (cell i)

  -- the store
  abbrev taken : Option ℕ → Option ℕ → Option Run
  taken at v = option_and_then (λ i. stored view (cell i) (option_map (λ n. (n, r)) v)) at

  -- what may be done where the number w stays
  abbrev IsKept : ℕ → ℕ → Option Run → Type 0
  IsKept i w p = (p ≡ Some r) ⊎ (p ≡ Some (put r (cell i) w))

  -- the same, where the cell is there or not
  abbrev own_if : ℕ → Bool → Option ℕ
  own_if i b = option_map (λ old. unwrap_or (last_stored r.stores (cell i)) old) (cond b (Some (m (cell i))) None)

  abbrev stored_if : ℕ → Bool → Option (ℕ × Run) → Option Run
  stored_if i b p =
      option_and_then (λ q. option_map (λ old. put q.1 (cell i) q.0) (cond b (Some (m (cell i))) None)) p

  abbrev number : ℕ → ℕ
  number i = with_stores r.stores m (cell i)

  kept_like : (i : ℕ) (p : Option Run) → IsKept i (number i) p → AreLike m (Some (put r (cell i) (number i))) p
  kept_like i p (inl e) =
      subst (λ (q : Option Run). AreLike m (Some (put r (cell i) (number i))) q) (sym e) (put_own m r (cell i))
  kept_like i p (inr e) = like_same m (Some (put r (cell i) (number i))) p (sym e)

  module _ (test : ℕ → ℕ → ℕ) (o : CombineOp) (pick : IsPick test o) where
    -- the update
    abbrev updated : Option ℕ → Option ℕ → Option Run
    updated at v =
        option_and_then (λ i. stored view (cell i) (option_map (λ n. (n, r)) (on_both (combined o) (own i) v))) at

    there : (i n : ℕ) (f g : Run → Option Run) → f r ≡ Some (put r (cell i) n) → IsKept i (number i) (g r) →
        (t : ℕ) → test (number i) n ≡ t →
        AreLike m (Some (put r (cell i) (combined o (number i) n))) (choose (Some t) f g r)
    there i n f g h k zero e =
        subst (λ (v : ℕ). AreLike m (Some (put r (cell i) v)) (g r)) (sym ((pick (number i) n).0 e)) (kept_like i (g r) k)
    there i n f g h k (suc t) e =
        like_same m (Some (put r (cell i) (combined o (number i) n))) (f r)
        (ap (λ (v : ℕ). Some (put r (cell i) v)) ((pick (number i) n).1 t e) ∙ sym h)

    at_cell : (i : ℕ) (b : Bool) (v : Option ℕ) (f g : Run → Option Run) →
        f r ≡ stored_if i b (option_map (λ n. (n, r)) v) → ((w : ℕ) → own_if i b ≡ Some w → IsKept i w (g r)) →
        AreLike m (stored_if i b (option_map (λ n. (n, r)) (on_both (combined o) (own_if i b) v)))
        (choose (on_both test (own_if i b) v) f g r)
    at_cell i false v f g h k = tt
    at_cell i true None f g h k = tt
    at_cell i true (Some n) f g h k = there i n f g h (k (number i) refl) (test (number i) n) refl

    update_like : (at v : Option ℕ) (f g : Run → Option Run) → f r ≡ taken at v →
        ((i w : ℕ) → at ≡ Some i → own i ≡ Some w → IsKept i w (g r)) →
        AreLike m (updated at v) (choose (on_both test (option_and_then own at) v) f g r)
    update_like None v f g h k = tt
    update_like (Some i) v f g h k = at_cell i (is_cell_in lengths (cell i)) v f g h (λ w e. k i w refl e)

-- ---- the statements

abbrev Held : Type 0
Held = Box (Unit {0}) Global

and_then_some : (p : Option Run) → option_and_then (λ (q : Run). Some q) p ≡ p
and_then_some None = refl
and_then_some (Some q) = refl

module _ (lengths : List ℕ) (m : Memory) (loops : List ℕ) (r : Run) where
  abbrev names : Names
  names = names_in (view_of lengths m) loops r

  abbrev own_in : ArrayId → ℕ → Option ℕ
  own_in a i = own lengths m a r i

  cell_value : (a : ArrayId) (e f : Expr) → is_cell a e f ≡ true →
      value f names ≡ option_and_then (own_in a) (value e names)
  cell_value a e (Cell' b to q g) h = sym (same_value names (Cell' a to q e) (Cell' b to q g) h)
  cell_value a e _ h = absurd cc

  -- the test compares the cell's number with the value, and the operator is what comes of that
  abbrev Compares : ((ℕ → ℕ → ℕ) → CombineOp → Type 0) → ArrayId → Expr → Expr → Expr → CombineOp → Type 0
  Compares P a e v t o =
      (test : ℕ → ℕ → ℕ) × P test o
      × (value t names ≡ on_both test (option_and_then (own_in a) (value e names)) (value v names))

  cell_left : (P : (ℕ → ℕ → ℕ) → CombineOp → Type 0) (a : ArrayId) (e v l g : Expr) (b : BinaryOp) (p q : Held) (o : CombineOp) →
      P (λ w n. binary b w n) o → (is_cell a e l && same_expr g v) ≡ true → Compares P a e v (Binary' b p l q g) o
  cell_left P a e v l g b p q o h k =
      let w = and_parts (is_cell a e l) (same_expr g v) k in (
        λ w n. binary b w n,
        h,
        ap₂ (λ (x y : Option ℕ). on_both (binary b) x y) (cell_value a e l w.0) (same_value names g v w.1),
      )

  cell_right : (P : (ℕ → ℕ → ℕ) → CombineOp → Type 0) (a : ArrayId) (e v l g : Expr) (b : BinaryOp) (p q : Held) (o : CombineOp) →
      P (λ w n. binary b n w) o → (is_cell a e g && same_expr l v) ≡ true → Compares P a e v (Binary' b p l q g) o
  cell_right P a e v l g b p q o h k =
      let w = and_parts (is_cell a e g) (same_expr l v) k in (
        λ w n. binary b n w,
        h,
        ap₂ (λ (x y : Option ℕ). on_both (binary b) x y) (same_value names l v w.1) (cell_value a e g w.0)
            ∙ both_turned (binary b) (value v names) (option_and_then (own_in a) (value e names)),
      )

  compares : (a : ArrayId) (e v t : Expr) (o : CombineOp) → extreme_by a e v t ≡ Some o → Compares IsPick a e v t o
  compares a e v (Binary' b p l q g) o h = first (is_cell a e g && same_expr l v) refl h
    where
      second : (c : Bool) → (is_cell a e l && same_expr g v) ≡ c → (if c then under b else None) ≡ Some o →
          Compares IsPick a e v (Binary' b p l q g) o
      second false k h = absurd (none-some o h)
      second true k h = cell_left IsPick a e v l g b p q o (under_picks b o h) k

      first : (c : Bool) → (is_cell a e g && same_expr l v) ≡ c →
          (if c then over b else (if is_cell a e l && same_expr g v then under b else None)) ≡ Some o →
          Compares IsPick a e v (Binary' b p l q g) o
      first false k h = second (is_cell a e l && same_expr g v) refl h
      first true k h = cell_right IsPick a e v l g b p q o (over_picks b o h) k
  compares a e v _ o h = absurd (none-some o h)

  compares_else : (a : ArrayId) (e v t : Expr) (o : CombineOp) → extreme_unless a e v t ≡ Some o →
      Compares IsLeave a e v t o
  compares_else a e v (Binary' b p l q g) o h = first (is_cell a e l && same_expr g v) refl h
    where
      second : (c : Bool) → (is_cell a e g && same_expr l v) ≡ c → (if c then under b else None) ≡ Some o →
          Compares IsLeave a e v (Binary' b p l q g) o
      second false k h = absurd (none-some o h)
      second true k h = cell_right IsLeave a e v l g b p q o (under_leaves b o h) k

      first : (c : Bool) → (is_cell a e l && same_expr g v) ≡ c →
          (if c then over b else (if is_cell a e g && same_expr l v then under b else None)) ≡ Some o →
          Compares IsLeave a e v (Binary' b p l q g) o
      first false k h = second (is_cell a e g && same_expr l v) refl h
      first true k h = cell_left IsLeave a e v l g b p q o (over_leaves b o h) k
  compares_else a e v _ o h = absurd (none-some o h)

  abbrev does : List Stmt → Run → Option Run
  does ys = run_list ys (view_of lengths m) loops

  own_kept : (a : ArrayId) (e : Expr) (ys : List Stmt) → is_own a e ys ≡ true → (i w : ℕ) → value e names ≡ Some i →
      own_in a i ≡ Some w → IsKept lengths m a r i w (does ys r)
  own_kept a e (Store b to f (Value g) ∷ []) h i w p q =
      let t = and_parts (a.0 == b.0) (same_expr e f && is_cell a e g) h in
      let u = and_parts (same_expr e f) (is_cell a e g) t.1 in
      let at : value f names ≡ Some i = sym (same_value names e f u.0) ∙ p in
      let number : value g names ≡ Some w = cell_value a e g u.1 ∙ ap (option_and_then (own_in a)) p ∙ q in
      inr (and_then_some (run_stmt (Store b to f (Value g)) (view_of lengths m) loops r)
      ∙ ap₂ (λ (x y : Option ℕ). option_and_then (λ j. stored (view_of lengths m) (record { array = b; index = j })
      (option_map (λ n. (n, r)) y)) x) at number
      ∙ ap (λ (c : ArrayId). stored (view_of lengths m) (record { array = c; index = i }) (Some (w, r)))
      (sym (same_array a b t.0))
      ∙ is_there (is_cell_in lengths (cell lengths m a r i)) q)
    where
      is_there : (c : Bool) → own_if lengths m a r i c ≡ Some w →
          stored_if lengths m a r i c (Some (w, r)) ≡ Some (put r (cell lengths m a r i) w)
      is_there true q = refl
      is_there false q = absurd (none-some w q)
  own_kept a e _ h i w p q = absurd cc

  kept : (a : ArrayId) (e : Expr) (ys : List Stmt) → keeps a e ys ≡ true → (i w : ℕ) → value e names ≡ Some i →
      own_in a i ≡ Some w → IsKept lengths m a r i w (does ys r)
  kept a e [] h i w p q = inl refl
  kept a e (y ∷ ys) h i w p q = own_kept a e (y ∷ ys) h i w p q

  -- the store of a value
  taken_first : (a : ArrayId) (at : Place) (e v : Expr) →
      does (Store a at e (Value v) ∷ []) r ≡ taken lengths m a r (value e names) (value v names)
  taken_first a at e v = and_then_some (run_stmt (Store a at e (Value v)) (view_of lengths m) loops r)

  extreme_like : (a : ArrayId) (at : Place) (e v t : Expr) (ys : List Stmt) (o : CombineOp) → keeps a e ys ≡ true →
      extreme_by a e v t ≡ Some o →
      AreLike m (run_stmt (Combine o a at e v) (view_of lengths m) loops r)
      (choose (value t names) (does (Store a at e (Value v) ∷ [])) (does ys) r)
  extreme_like a at e v t ys o h k =
      let c = compares a e v t o k in
      let like : AreLike m (run_stmt (Combine o a at e v) (view_of lengths m) loops r)
      (choose (on_both c.0 (option_and_then (own_in a) (value e names)) (value v names))
      (does (Store a at e (Value v) ∷ [])) (does ys) r) =
      update_like lengths m a r c.0 o c.1 (value e names) (value v names) (does (Store a at e (Value v) ∷ [])) (does ys)
      (taken_first a at e v) (kept a e ys h) in
      subst (λ (x : Option ℕ). AreLike m (run_stmt (Combine o a at e v) (view_of lengths m) loops r)
      (choose x (does (Store a at e (Value v) ∷ [])) (does ys) r)) (sym c.2) like

  else_like : (a : ArrayId) (at : Place) (e v t : Expr) (xs : List Stmt) (o : CombineOp) → is_own a e xs ≡ true →
      extreme_unless a e v t ≡ Some o →
      AreLike m (run_stmt (Combine o a at e v) (view_of lengths m) loops r)
      (choose (value t names) (does xs) (does (Store a at e (Value v) ∷ [])) r)
  else_like a at e v t xs o h k =
      let c = compares_else a e v t o k in
      let old : Option ℕ = option_and_then (own_in a) (value e names) in
      let like : AreLike m (run_stmt (Combine o a at e v) (view_of lengths m) loops r)
      (choose (on_both (unless c.0) old (value v names)) (does (Store a at e (Value v) ∷ [])) (does xs) r) =
      update_like lengths m a r (unless c.0) o (leave_picks c.0 o c.1) (value e names) (value v names)
      (does (Store a at e (Value v) ∷ [])) (does xs) (taken_first a at e v) (own_kept a e xs h) in
      subst (λ (p : Option Run). AreLike m (run_stmt (Combine o a at e v) (view_of lengths m) loops r) p)
      (choose_unless c.0 old (value v names) (does xs) (does (Store a at e (Value v) ∷ [])) r
      ∙ ap (λ (x : Option ℕ). choose x (does xs) (does (Store a at e (Value v) ∷ [])) r) (sym c.2)) like

  likes : (t : Expr) (xs ys : List Stmt) (s : Stmt) →
      run_stmt s (view_of lengths m) loops r ≡ choose (value t names) (does xs) (does ys) r → (u : Stmt) →
      AreLike m (run_stmt u (view_of lengths m) loops r) (choose (value t names) (does xs) (does ys) r) →
      AreLike m (run_stmt u (view_of lengths m) loops r) (run_stmt s (view_of lengths m) loops r)
  likes t xs ys s g u h = subst (λ (p : Option Run). AreLike m (run_stmt u (view_of lengths m) loops r) p) (sym g) h

  first_like : (t : Expr) (xs ys : List Stmt) (s u : Stmt) →
      run_stmt s (view_of lengths m) loops r ≡ choose (value t names) (does xs) (does ys) r →
      AreLike m (run_stmt u (view_of lengths m) loops r) (run_stmt s (view_of lengths m) loops r) →
      AreLike m (run_stmt (extreme_or (extreme_of t xs ys) xs u) (view_of lengths m) loops r)
      (run_stmt s (view_of lengths m) loops r)
  first_like t (Store a at e (Value v) ∷ []) ys s u g l = go (keeps a e ys) refl (extreme_by a e v t) refl
    where
      go : (b : Bool) → keeps a e ys ≡ b → (o : Option CombineOp) → extreme_by a e v t ≡ o →
          AreLike m (run_stmt (extreme_or (if b then o else None) (Store a at e (Value v) ∷ []) u)
          (view_of lengths m) loops r) (run_stmt s (view_of lengths m) loops r)
      go false h o k = l
      go true h None k = l
      go true h (Some o) k =
          likes t (Store a at e (Value v) ∷ []) ys s g (Combine o a at e v) (extreme_like a at e v t ys o h k)
  first_like t _ ys s u g l = l

  second_like : (t : Expr) (xs ys : List Stmt) (s : Stmt) →
      run_stmt s (view_of lengths m) loops r ≡ choose (value t names) (does xs) (does ys) r →
      AreLike m (run_stmt (extreme_or (extreme_else t xs ys) ys s) (view_of lengths m) loops r)
      (run_stmt s (view_of lengths m) loops r)
  second_like t xs (Store a at e (Value v) ∷ []) s g = go (is_own a e xs) refl (extreme_unless a e v t) refl
    where
      go : (b : Bool) → is_own a e xs ≡ b → (o : Option CombineOp) → extreme_unless a e v t ≡ o →
          AreLike m (run_stmt (extreme_or (if b then o else None) (Store a at e (Value v) ∷ []) s)
          (view_of lengths m) loops r) (run_stmt s (view_of lengths m) loops r)
      go false h o k = like_same m _ _ refl
      go true h None k = like_same m _ _ refl
      go true h (Some o) k =
          likes t xs (Store a at e (Value v) ∷ []) s g (Combine o a at e v) (else_like a at e v t xs o h k)
  second_like t xs _ s g = like_same m _ _ refl

  -- the update that an if is
  choice_like : (t : Expr) (xs ys : List Stmt) (s : Stmt) →
      run_stmt s (view_of lengths m) loops r ≡ choose (value t names) (does xs) (does ys) r →
      AreLike m (run_stmt (choice_or t xs ys s) (view_of lengths m) loops r) (run_stmt s (view_of lengths m) loops r)
  choice_like t xs ys s g =
      first_like t xs ys s (extreme_or (extreme_else t xs ys) ys s) g (second_like t xs ys s g)

  rows_choose : (t : Option ℕ) (j k : Count) (first : Row_of-Stmt j) (others : Row_of-Stmt k) →
      choose t (run_row first (view_of lengths m) loops) (run_row others (view_of lengths m) loops) r
      ≡ choose t (run_list (items-the_row-Stmt j first) (view_of lengths m) loops)
      (run_list (items-the_row-Stmt k others) (view_of lengths m) loops) r
  rows_choose None j k first others = refl
  rows_choose (Some zero) j k first others = row_runs k others (view_of lengths m) loops r
  rows_choose (Some (suc n)) j k first others = row_runs j first (view_of lengths m) loops r

  statement_like : (s : Stmt) →
      AreLike m (run_stmt (as_update s) (view_of lengths m) loops r) (run_stmt s (view_of lengths m) loops r)
  statement_like (Store a at e v) = like_same m _ _ (store_runs (view_of lengths m) loops r a at e v)
  statement_like (If' t j first k others) =
      choice_like t (items-the_row-Stmt _ first) (items-the_row-Stmt _ others) (If' t j first k others)
      (rows_choose (value t names) _ _ first others)
  statement_like _ = like_same m _ _ refl

-- ---- beside another run

like_passed : (mode : Mode) (o r q : Run) → o.input ≡ r.input → o.printed ≡ r.printed → IsPassed mode r q →
    IsPassed mode o q
like_passed (OnHost before) o r q e h p = (e ∙ p.0, p.1 ∙ ap (λ (ns : List ℕ). before ++ ns) (sym h))
like_passed (InTarget kept input printed scalars) o r q e h p = p

like_ends : (d : Layout) (m w : Memory) (mode : Mode) (names : Known) (o p q : Option Run) → AreLike m o p →
    Both d m w mode names p q → Both d m w mode names o q
like_ends d m w mode names None None q a b = b
like_ends d m w mode names (Some o) (Some r) (Some q) a b = record {
  memory = λ c h. ap (λ (n : Memory). n c) a.memory ∙ b.memory c h;
  scalars = subst (λ (n : Memory). Agree n o.scalars q.scalars names) (sym a.memory)
      (subst (λ (f : Scalars). Agree (with_stores r.stores m) f q.scalars names) (sym a.scalars) b.scalars);
  passed = like_passed mode o r q a.input a.printed b.passed;
}
like_ends d m w mode names (Some o) (Some r) None a b = absurd b
like_ends d m w mode names None (Some r) q a b = absurd a
like_ends d m w mode names (Some o) None q a b = absurd a

-- the update that a statement is ends beside another run where the statement does
pub update_ends : (d : Layout) (m w : Memory) (mode : Mode) (names : Known) (s : Stmt) (loops : List ℕ) (r : Run)
    (q : Option Run) →
    Both d m w mode names (run_stmt s (view_of d.first m) loops r) q →
    Both d m w mode names (run_stmt (as_update s) (view_of d.first m) loops r) q
update_ends d m w mode names s loops r q b =
    like_ends d m w mode names (run_stmt (as_update s) (view_of d.first m) loops r)
    (run_stmt s (view_of d.first m) loops r) q (statement_like d.first m loops r s) b
