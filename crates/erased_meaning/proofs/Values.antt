-- Two expressions that one term means have the same value, where the scalars that can be named have the same values.
use Rattle.std.proofs.Common.{◌≡◌, ℕ, ◌+◌, ◌%◌, Bool, true, false, cond, List, [], ◌∷◌, drop, Option, Some, None, refl, sym, ap, subst, ◌∙◌}
use Rattle.std.specs.Prelude.{slice_index, option_and_then}
use Rattle.std.specs.Str.{bytes_eq}
use Rattle.base.specs.declared.tree.ScalarId.{ScalarId}
use Rattle.base.specs.declared.tree.ArrayId.{ArrayId}
use Rattle.base.specs.declared.tree.UnaryOp.{UnaryOp}
use Rattle.base.specs.declared.tree.UnaryOp.TheVariants as unary_op
use Rattle.base.specs.declared.tree.BinaryOp.{BinaryOp}
use Rattle.base.specs.declared.tree.BinaryOp.TheVariants as op
use Rattle.base.specs.declared.tree.ShiftOp.{ShiftOp}
use Rattle.base.specs.declared.tree.ShiftOp.TheVariants as shift
use Rattle.base.specs.declared.tree.DivideOp.{DivideOp}
use Rattle.base.specs.declared.tree.DivideOp.TheVariants as divide
use Rattle.base.specs.declared.tree.Expr.{Expr}
use Rattle.base.specs.declared.tree.Expr.TheVariants as expr
use Rattle.base.specs.Value.{Names as Values, modulus, value, on_one, on_both, unary, binary, shifted, divided}
use Rattle.c_grammar.specs.Grammar as grammar
use Rattle.c_grammar.specs.Grammar.{Term, Literal, Named, Element, Group, Prefixed, Both, By, Operator, Fraction, Prefix}
use Rattle.c_expressions.specs.declared.scope.Meaning.{Meaning}
use Rattle.c_expressions.specs.declared.scope.Meaning.TheVariants as meaning
use Rattle.c_expressions.specs.Means.{Items, Names, meaning_of, term_size, prefix_of, operator_of, shift_of, divide_of, MeansBoxed, MeansScalar, IsExpr}
use Rattle.erased_meaning.proofs.Boxes.{box_cell}

-- ---- nothing is inside a target or boxed

abbrev pub plain_meaning : Meaning → Meaning
plain_meaning (meaning.Array a) = meaning.Array a
plain_meaning (meaning.Scalar n i) = meaning.Scalar n false
plain_meaning (meaning.Boxed a n) = meaning.Scalar n false
plain_meaning (meaning.Loop n) = meaning.Loop n

abbrev pub plain_names : Names → Names
plain_names [] = []
plain_names (n ∷ ns) = (n.0, plain_meaning n.1) ∷ plain_names ns

abbrev pub plain_known : Option Meaning → Option Meaning
plain_known None = None
plain_known (Some m) = Some (plain_meaning m)

pub plain_means : (ns : Names) (x : List ℕ) → meaning_of (plain_names ns) x ≡ plain_known (meaning_of ns x)
plain_means [] x = refl
plain_means (n ∷ ns) x = step (bytes_eq n.0 x) (plain_means ns x)
  where
    step : (t : Bool) → meaning_of (plain_names ns) x ≡ plain_known (meaning_of ns x) →
        cond t (Some (plain_meaning n.1)) (meaning_of (plain_names ns) x)
        ≡ plain_known (cond t (Some n.1) (meaning_of ns x))
    step true e = refl
    step false e = e

-- ---- operators

prefix_same : (o : Prefix) (u v : UnaryOp) → o ≡ prefix_of u → o ≡ prefix_of v → u ≡ v
prefix_same o unary_op.Not unary_op.Not p q = refl
prefix_same o unary_op.Complement unary_op.Complement p q = refl
prefix_same o unary_op.Not unary_op.Complement p q = absurd cc
prefix_same o unary_op.Complement unary_op.Not p q = absurd cc

operator_back : Operator → Option BinaryOp
operator_back grammar.LogicOr = None
operator_back grammar.LogicAnd = None
operator_back grammar.BitOr = Some op.BitOr
operator_back grammar.BitXor = Some op.BitXor
operator_back grammar.BitAnd = Some op.BitAnd
operator_back grammar.Equal = Some op.Equal
operator_back grammar.NotEqual = Some op.NotEqual
operator_back grammar.Less = Some op.Less
operator_back grammar.LessEqual = Some op.LessOrEqual
operator_back grammar.Greater = Some op.Greater
operator_back grammar.GreaterEqual = Some op.GreaterOrEqual
operator_back grammar.Add = Some op.Add
operator_back grammar.Subtract = Some op.Subtract
operator_back grammar.Multiply = Some op.Multiply

back_again : (b : BinaryOp) → operator_back (operator_of b) ≡ Some b
unfolding operator_back
back_again op.BitOr = refl
back_again op.BitXor = refl
back_again op.BitAnd = refl
back_again op.Equal = refl
back_again op.NotEqual = refl
back_again op.Less = refl
back_again op.LessOrEqual = refl
back_again op.Greater = refl
back_again op.GreaterOrEqual = refl
back_again op.Add = refl
back_again op.Subtract = refl
back_again op.Multiply = refl

operator_same : (o : Operator) (a b : BinaryOp) → o ≡ operator_of a → o ≡ operator_of b → a ≡ b
operator_same o a b p q =
    let all : Some a ≡ Some b = sym (back_again a) ∙ ap operator_back (sym p ∙ q) ∙ back_again b in cc

not_or : (o : Operator) (a : BinaryOp) → o ≡ grammar.LogicOr → o ≡ operator_of a → ⊥
unfolding operator_back
not_or o a p q = let bad : None ≡ Some a = ap operator_back (sym p ∙ q) ∙ back_again a in absurd cc

not_and : (o : Operator) (a : BinaryOp) → o ≡ grammar.LogicAnd → o ≡ operator_of a → ⊥
unfolding operator_back
not_and o a p q = let bad : None ≡ Some a = ap operator_back (sym p ∙ q) ∙ back_again a in absurd cc

shift_same : (o : Fraction) (a b : ShiftOp) → o ≡ shift_of a → o ≡ shift_of b → a ≡ b
shift_same o shift.Left shift.Left p q = refl
shift_same o shift.Right shift.Right p q = refl
shift_same o shift.Left shift.Right p q = absurd cc
shift_same o shift.Right shift.Left p q = absurd cc

divide_same : (o : Fraction) (a b : DivideOp) → o ≡ divide_of a → o ≡ divide_of b → a ≡ b
divide_same o divide.Quotient divide.Quotient p q = refl
divide_same o divide.Remainder divide.Remainder p q = refl
divide_same o divide.Quotient divide.Remainder p q = absurd cc
divide_same o divide.Remainder divide.Quotient p q = absurd cc

no_fraction : (o : Fraction) (a : ShiftOp) (b : DivideOp) → o ≡ shift_of a → o ≡ divide_of b → ⊥
no_fraction o shift.Left divide.Quotient p q = cc
no_fraction o shift.Left divide.Remainder p q = cc
no_fraction o shift.Right divide.Quotient p q = cc
no_fraction o shift.Right divide.Remainder p q = cc

-- ---- names

pub scalar_is : (o : Option Meaning) (n : ScalarId) → MeansScalar o n → (i : Bool) × (o ≡ Some (meaning.Scalar n i))
scalar_is (Some (meaning.Scalar k i)) n h = (i, ap (λ (u : ScalarId). Some (meaning.Scalar u i)) h)
scalar_is (Some (meaning.Array a)) n h = absurd h
scalar_is (Some (meaning.Boxed a k)) n h = absurd h
scalar_is (Some (meaning.Loop k)) n h = absurd h
scalar_is None n h = absurd h

pub boxed_is : (o : Option Meaning) (a : ArrayId) → MeansBoxed o a → (n : ScalarId) × (o ≡ Some (meaning.Boxed a n))
boxed_is (Some (meaning.Boxed b n)) a h = (n, ap (λ (u : ArrayId). Some (meaning.Boxed u n)) h)
boxed_is (Some (meaning.Scalar k i)) a h = absurd h
boxed_is (Some (meaning.Array b)) a h = absurd h
boxed_is (Some (meaning.Loop k)) a h = absurd h
boxed_is None a h = absurd h

not_boxed : (o : Option Meaning) (a : ArrayId) → MeansBoxed (plain_known o) a → ⊥
not_boxed (Some (meaning.Boxed b n)) a h = h
not_boxed (Some (meaning.Scalar k i)) a h = h
not_boxed (Some (meaning.Array b)) a h = h
not_boxed (Some (meaning.Loop k)) a h = h
not_boxed None a h = h

module _ (ns : Names) (x : List ℕ) where
  pub same_scalar : (n m : ScalarId) → MeansScalar (meaning_of ns x) n →
      MeansScalar (meaning_of (plain_names ns) x) m → n ≡ m
  same_scalar n m h k =
      let first = scalar_is (meaning_of ns x) n h in
      let other : MeansScalar (Some (meaning.Scalar n false)) m =
      subst (λ (o : Option Meaning). MeansScalar o m) (plain_means ns x ∙ ap plain_known first.1) k in
      other

  same_loop : (n m : ℕ) → meaning_of ns x ≡ Some (meaning.Loop n) →
      meaning_of (plain_names ns) x ≡ Some (meaning.Loop m) → n ≡ m
  same_loop n m h k =
      let both : Some (meaning.Loop n) ≡ Some (meaning.Loop m) = sym (plain_means ns x ∙ ap plain_known h) ∙ k in cc

  pub same_array : (a b : ArrayId) → meaning_of ns x ≡ Some (meaning.Array a) →
      meaning_of (plain_names ns) x ≡ Some (meaning.Array b) → a ≡ b
  same_array a b h k =
      let both : Some (meaning.Array a) ≡ Some (meaning.Array b) = sym (plain_means ns x ∙ ap plain_known h) ∙ k in cc

  no_scalar_loop : (n : ScalarId) (m : ℕ) → MeansScalar (meaning_of ns x) n →
      meaning_of (plain_names ns) x ≡ Some (meaning.Loop m) → ⊥
  no_scalar_loop n m h k =
      let first = scalar_is (meaning_of ns x) n h in
      let bad : Some (meaning.Scalar n false) ≡ Some (meaning.Loop m) = sym (plain_means ns x
      ∙ ap plain_known first.1) ∙ k in absurd cc

  no_loop_scalar : (n : ℕ) (m : ScalarId) → meaning_of ns x ≡ Some (meaning.Loop n) →
      MeansScalar (meaning_of (plain_names ns) x) m → ⊥
  no_loop_scalar n m h k =
      let other = scalar_is (meaning_of (plain_names ns) x) m k in
      let bad : Some (meaning.Loop n) ≡ Some (meaning.Scalar m other.0) = sym (plain_means ns x ∙ ap plain_known h)
      ∙ other.1 in absurd cc

  -- a boxed scalar is one without boxes
  pub box_scalar : (a : ArrayId) (m : ScalarId) → MeansBoxed (meaning_of ns x) a →
      MeansScalar (meaning_of (plain_names ns) x) m →
      meaning_of ns x ≡ Some (meaning.Boxed a m)
  box_scalar a m h k =
      let first = boxed_is (meaning_of ns x) a h in
      let other : MeansScalar (Some (meaning.Scalar first.0 false)) m =
      subst (λ (o : Option Meaning). MeansScalar o m) (plain_means ns x ∙ ap plain_known first.1) k in
      first.1 ∙ ap (λ (n : ScalarId). Some (meaning.Boxed a n)) other

  no_box_loop : (a : ArrayId) (m : ℕ) → MeansBoxed (meaning_of ns x) a →
      meaning_of (plain_names ns) x ≡ Some (meaning.Loop m) → ⊥
  no_box_loop a m h k =
      let first = boxed_is (meaning_of ns x) a h in
      let bad : Some (meaning.Scalar first.0 false) ≡ Some (meaning.Loop m) = sym (plain_means ns x
      ∙ ap plain_known first.1) ∙ k in absurd cc

  pub no_box : (a : ArrayId) → MeansBoxed (meaning_of (plain_names ns) x) a → ⊥
  no_box a h = not_boxed (meaning_of ns x) a (subst (λ (o : Option Meaning). MeansBoxed o a) (plain_means ns x) h)

-- ---- values

-- what names stand for in two runs: a boxed scalar for a cell in the first
pub record Alike (ns : Names) (f g : Values) : Type 0 where
  pub loops : f.loops ≡ g.loops
  pub scalars : (x : List ℕ) (n : ScalarId) (i : Bool) → meaning_of ns x ≡ Some (meaning.Scalar n i) →
      f.scalars n.0 ≡ g.scalars n.0
  pub boxed : (x : List ℕ) (a : ArrayId) (n : ScalarId) → meaning_of ns x ≡ Some (meaning.Boxed a n) →
      f.cells (box_cell a) ≡ Some (g.scalars n.0)
  pub cells : (x : List ℕ) (a : ArrayId) (i : ℕ) → meaning_of ns x ≡ Some (meaning.Array a) →
      f.cells (record { array = a; index = i }) ≡ g.cells (record { array = a; index = i })

module _ (ns : Names) (f g : Values) (alike : Alike ns f g) where
  same_cells : (x : List ℕ) (a b : ArrayId) (o p : Option ℕ) → meaning_of ns x ≡ Some (meaning.Array a) → a ≡ b →
      o ≡ p →
      option_and_then (λ i. f.cells (record { array = a; index = i })) o
      ≡ option_and_then (λ i. g.cells (record { array = b; index = i })) p
  same_cells x a b o p is e h =
      go o
      ∙ ap (λ (u : ArrayId). option_and_then (λ i. g.cells (record { array = u; index = i })) o) e
      ∙ ap (λ (u : Option ℕ). option_and_then (λ i. g.cells (record { array = b; index = i })) u) h
    where
      go : (o : Option ℕ) → option_and_then (λ i. f.cells (record { array = a; index = i })) o
          ≡ option_and_then (λ i. g.cells (record { array = a; index = i })) o
      go None = refl
      go (Some i) = alike.cells x a i is

  pub same_value : (t : Term) (is js : Items) (e u : Expr) → IsExpr ns is t e → IsExpr (plain_names ns) js t u →
      value e f ≡ value u g
  same_value (Literal v) is js (expr.Number n) (expr.Number m) h k =
      let same : n ≡ m = (let both : Some n ≡ Some m = sym h ∙ k in cc) in ap (λ (i : ℕ). Some (i % modulus)) same
  same_value (Literal v) is js (expr.Number n) _ h k = absurd k
  same_value (Literal v) is js _ u h k = absurd h
  same_value (Named x) is js (expr.Scalar n) (expr.Scalar m) h k =
      let same : n ≡ m = same_scalar ns x n m h k in
      let known = scalar_is (meaning_of ns x) n h in
      ap (λ (i : ℕ). Some i) (alike.scalars x n known.0 known.1)
      ∙ ap (λ (i : ScalarId). Some (g.scalars i.0)) same
  same_value (Named x) is js (expr.LoopName n) (expr.LoopName m) h k =
      let same : n ≡ m = same_loop ns x n m h k in
      ap (λ (vs : List ℕ). Some (slice_index vs n)) alike.loops ∙ ap (λ (i : ℕ). Some (slice_index g.loops i)) same
  same_value (Named x) is js (expr.Scalar n) (expr.LoopName m) h k = absurd (no_scalar_loop ns x n m h k)
  same_value (Named x) is js (expr.LoopName n) (expr.Scalar m) h k = absurd (no_loop_scalar ns x n m h k)
  same_value (Named x) is js (expr.Cell' a at p e) (expr.Scalar m) h k =
      ap (λ (u : Expr). option_and_then (λ i. f.cells (record { array = a; index = i })) (value u f)) h.2
      ∙ alike.boxed x a m (box_scalar ns x a m h.0 k)
  same_value (Named x) is js (expr.Cell' a at p e) (expr.LoopName m) h k = absurd (no_box_loop ns x a m h.0 k)
  same_value (Named x) is js e (expr.Cell' b to q u) h k = absurd (no_box ns x b k.0)
  same_value (Named x) is js (expr.Scalar n) _ h k = absurd k
  same_value (Named x) is js (expr.LoopName n) _ h k = absurd k
  same_value (Named x) is js (expr.Cell' a at p e) _ h k = absurd k
  same_value (Named x) is js _ u h k = absurd h
  same_value (Element x i) is js (expr.Cell' a at p e) (expr.Cell' b to q u) h k =
      same_cells x a b (value e f) (value u g) h.0 (same_array ns x a b h.0 k.0)
      (same_value i (drop 2 is) (drop 2 js) e u h.2 k.2)
  same_value (Element x i) is js (expr.Cell' a at p e) _ h k = absurd k
  same_value (Element x i) is js _ u h k = absurd h
  same_value (Group t) is js e u h k = same_value t (drop 1 is) (drop 1 js) e u h k
  same_value (Prefixed o t) is js (expr.Unary' a p e) (expr.Unary' b q u) h k =
      ap (λ (c : UnaryOp). on_one (unary c) (value e f)) (prefix_same o a b h.0 k.0)
      ∙ ap (on_one (unary b)) (same_value t (drop 1 is) (drop 1 js) e u h.1 k.1)
  same_value (Prefixed o t) is js (expr.Unary' a p e) _ h k = absurd k
  same_value (Prefixed o t) is js _ u h k = absurd h
  same_value (Both o t s) is js (expr.Or' p e q d) (expr.Or' p' e' q' d') h k =
      let left = same_value t is js e e' h.1 k.1 in
      let right = same_value s (drop (term_size t + 1) is) (drop (term_size t + 1) js) d d' h.2 k.2 in cc
  same_value (Both o t s) is js (expr.And' p e q d) (expr.And' p' e' q' d') h k =
      let left = same_value t is js e e' h.1 k.1 in
      let right = same_value s (drop (term_size t + 1) is) (drop (term_size t + 1) js) d d' h.2 k.2 in cc
  same_value (Both o t s) is js (expr.Binary' a p e q d) (expr.Binary' b p' e' q' d') h k =
      let same = operator_same o a b h.0 k.0 in
      let left = same_value t is js e e' h.1 k.1 in
      let right = same_value s (drop (term_size t + 1) is) (drop (term_size t + 1) js) d d' h.2 k.2 in
      ap (λ (c : BinaryOp). on_both (binary c) (value e f) (value d f)) same
      ∙ ap (λ (v : Option ℕ). on_both (binary b) v (value d f)) left
      ∙ ap (λ (v : Option ℕ). on_both (binary b) (value e' g) v) right
  same_value (Both o t s) is js (expr.Or' p e q d) (expr.And' p' e' q' d') h k =
      absurd (let a = h.0 in let b = k.0 in cc)
  same_value (Both o t s) is js (expr.And' p e q d) (expr.Or' p' e' q' d') h k =
      absurd (let a = h.0 in let b = k.0 in cc)
  same_value (Both o t s) is js (expr.Or' p e q d) (expr.Binary' b p' e' q' d') h k = absurd (not_or o b h.0 k.0)
  same_value (Both o t s) is js (expr.And' p e q d) (expr.Binary' b p' e' q' d') h k = absurd (not_and o b h.0 k.0)
  same_value (Both o t s) is js (expr.Binary' a p e q d) (expr.Or' p' e' q' d') h k = absurd (not_or o a k.0 h.0)
  same_value (Both o t s) is js (expr.Binary' a p e q d) (expr.And' p' e' q' d') h k = absurd (not_and o a k.0 h.0)
  same_value (Both o t s) is js (expr.Or' p e q d) _ h k = absurd k
  same_value (Both o t s) is js (expr.And' p e q d) _ h k = absurd k
  same_value (Both o t s) is js (expr.Binary' a p e q d) _ h k = absurd k
  same_value (Both o t s) is js _ u h k = absurd h
  same_value (By o t v) is js (expr.Shift' a p e n) (expr.Shift' b q u m) h k =
      let count : n.count ≡ m.count = (let both : Some n.count ≡ Some m.count = sym h.1 ∙ k.1 in cc) in
      ap (λ (c : ShiftOp). on_one (λ w. shifted c w n.count) (value e f)) (shift_same o a b h.0 k.0)
      ∙ ap (λ (i : ℕ). on_one (λ w. shifted b w i) (value e f)) count
      ∙ ap (on_one (λ w. shifted b w m.count)) (same_value t is js e u h.2 k.2)
  same_value (By o t v) is js (expr.Divide' a p e n) (expr.Divide' b q u m) h k =
      let by : n.value ≡ m.value = (let both : Some n.value ≡ Some m.value = sym h.1 ∙ k.1 in cc) in
      ap (λ (c : DivideOp). on_one (λ w. divided c w n.value) (value e f)) (divide_same o a b h.0 k.0)
      ∙ ap (λ (i : ℕ). on_one (λ w. divided b w i) (value e f)) by
      ∙ ap (on_one (λ w. divided b w m.value)) (same_value t is js e u h.2 k.2)
  same_value (By o t v) is js (expr.Shift' a p e n) (expr.Divide' b q u m) h k = absurd (no_fraction o a b h.0 k.0)
  same_value (By o t v) is js (expr.Divide' a p e n) (expr.Shift' b q u m) h k = absurd (no_fraction o b a k.0 h.0)
  same_value (By o t v) is js (expr.Shift' a p e n) _ h k = absurd k
  same_value (By o t v) is js (expr.Divide' a p e n) _ h k = absurd k
  same_value (By o t v) is js _ u h k = absurd h
