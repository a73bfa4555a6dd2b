-- The value of an index that is the loop's value and a number that no turn changes.
use Rattle.std.proofs.Common.{◌≡◌, ℕ, zero, suc, ◌+◌, ◌<◌, Bool, true, false, List, [], ◌∷◌, ◌++◌, length, Option, Some, None, refl, ap, ap₂, ◌∙◌, arith, if◌then◌else◌, eqb-true, ltb-true}
use Rattle.std.specs.Prelude.{nat_lt, ◌%◌, ◌&&◌, ◌||◌, slice_index}
use Rattle.std.proofs.lemmas.Bool.{and_parts, false≢true}
use Rattle.base.specs.declared.tree.BinaryOp.{BinaryOp}
use Rattle.base.specs.declared.tree.BinaryOp.TheVariants.{BitOr, BitXor, BitAnd, Equal, NotEqual, Less, LessOrEqual, Greater, GreaterOrEqual, Add, Subtract, Multiply}
use Rattle.base.specs.declared.tree.Expr.{Expr}
use Rattle.base.specs.declared.tree.Expr.TheVariants.{Number, Scalar, LoopName, Cell', Unary', Binary', And', Or', Shift', Divide'}
use Rattle.base.specs.Memory.{Scalars}
use Rattle.base.specs.Value.{Names, value, modulus, unary, binary, shifted, divided, on_one, on_both}
use Rattle.lanes.specs.Apart.{Set, Kept, is_turn}
use Rattle.lanes.specs.Moved.{fixed_value, is_number, is_add, is_moved}
use Rattle.lanes.proofs.Deltas.{turn_value}

-- an expression has the value that another option has, if it has one
abbrev Gives : Option ℕ → Option ℕ → Type 0
Gives o w = (n : ℕ) → o ≡ Some n → w ≡ Some n

one_gives : (f : ℕ → ℕ) (o w : Option ℕ) → Gives o w → Gives (on_one f o) (on_one f w)
one_gives f None w h n e = absurd cc
one_gives f (Some a) w h n e = ap (on_one f) (h a refl) ∙ e

both_give : (f : ℕ → ℕ → ℕ) (o p w x : Option ℕ) → Gives o w → Gives p x → Gives (on_both f o p) (on_both f w x)
both_give f None p w x h k n e = absurd cc
both_give f (Some a) None w x h k n e = absurd cc
both_give f (Some a) (Some b) w x h k n e = ap₂ (on_both f) (h a refl) (k b refl) ∙ e

before_seam : (xs : List ℕ) (v l : ℕ) → l < length xs → slice_index (xs ++ v ∷ []) l ≡ slice_index xs l
before_seam [] v l h = absurd (omega arith)
before_seam (x ∷ xs) v zero h = refl
before_seam (x ∷ xs) v (suc l) h = before_seam xs v l (omega arith)

module _ (own : Set) (before : Scalars) (outer : List ℕ) (v : ℕ) (names : Names) (loops : names.loops ≡ outer ++ v ∷ [])
    (kept : Kept own before names.scalars) where
  -- no turn changes it
  fixed_is : (e : Expr) → Gives (fixed_value own before outer e) (value e names)
  fixed_is (Number m) n h = h
  fixed_is (Scalar x) n h = go (own x.0) refl h
    where
      go : (q : Bool) → own x.0 ≡ q → (if q then None else Some (before x.0)) ≡ Some n → Some (names.scalars x.0) ≡ Some n
      go true e h = absurd cc
      go false e h = ap Some (kept x.0 e) ∙ h
  fixed_is (LoopName l) n h = go (nat_lt l (length outer)) refl h
    where
      go : (q : Bool) → nat_lt l (length outer) ≡ q → (if q then Some (slice_index outer l) else None) ≡ Some n →
          Some (slice_index names.loops l) ≡ Some n
      go true e h =
          ap (λ ls. Some (slice_index ls l)) loops
          ∙ ap Some (before_seam outer v l (ltb-true l (length outer) e)) ∙ h
      go false e h = absurd cc
  fixed_is (Cell' a place p e) n h = absurd cc
  fixed_is (Unary' op p e) n h =
      one_gives (unary op) (fixed_value own before outer e) (value e names) (λ m k. fixed_is e m k) n h
  fixed_is (Binary' op p e q f) n h =
      both_give (binary op) (fixed_value own before outer e) (fixed_value own before outer f) (value e names) (value f names)
      (λ m k. fixed_is e m k) (λ m k. fixed_is f m k) n h
  fixed_is (And' p e q f) n h = absurd cc
  fixed_is (Or' p e q f) n h = absurd cc
  fixed_is (Shift' op p e m) n h =
      one_gives (λ x. shifted op x m.count) (fixed_value own before outer e) (value e names) (λ m k. fixed_is e m k) n h
  fixed_is (Divide' op p e m) n h =
      one_gives (λ x. divided op x m.value) (fixed_value own before outer e) (value e names) (λ m k. fixed_is e m k) n h

  number_is : (u : ℕ) (o : Option ℕ) → is_number u o ≡ true → o ≡ Some u
  number_is u None h = absurd (false≢true h)
  number_is u (Some n) h = ap Some (eqb-true n u h)

  module _ (u : ℕ) where
    -- the sum of both, in either order
    sum_is : (op : BinaryOp) (e f : Expr) →
        (is_add op
        && ((is_number u (fixed_value own before outer e) && is_turn (length outer) f)
        || (is_turn (length outer) e && is_number u (fixed_value own before outer f)))) ≡ true →
        on_both (binary op) (value e names) (value f names) ≡ Some ((u + v) % modulus)
    sum_is Add e f h = go (is_number u (fixed_value own before outer e) && is_turn (length outer) f) refl h
      where
        go : (q : Bool) → (is_number u (fixed_value own before outer e) && is_turn (length outer) f) ≡ q →
            (q || (is_turn (length outer) e && is_number u (fixed_value own before outer f))) ≡ true →
            on_both (binary Add) (value e names) (value f names) ≡ Some ((u + v) % modulus)
        go true k h =
            let p = and_parts (is_number u (fixed_value own before outer e)) (is_turn (length outer) f) k in
            ap₂ (on_both (binary Add)) (fixed_is e u (number_is u (fixed_value own before outer e) p.0))
            (turn_value outer v f names loops p.1)
        go false k h =
            let p = and_parts (is_turn (length outer) e) (is_number u (fixed_value own before outer f)) h in
            let swap : v + u ≡ u + v = omega arith in
            ap₂ (on_both (binary Add)) (turn_value outer v e names loops p.0)
            (fixed_is f u (number_is u (fixed_value own before outer f) p.1))
            ∙ ap (λ n. Some (n % modulus)) swap
    sum_is BitOr e f h = absurd (false≢true h)
    sum_is BitXor e f h = absurd (false≢true h)
    sum_is BitAnd e f h = absurd (false≢true h)
    sum_is Equal e f h = absurd (false≢true h)
    sum_is NotEqual e f h = absurd (false≢true h)
    sum_is Less e f h = absurd (false≢true h)
    sum_is LessOrEqual e f h = absurd (false≢true h)
    sum_is Greater e f h = absurd (false≢true h)
    sum_is GreaterOrEqual e f h = absurd (false≢true h)
    sum_is Subtract e f h = absurd (false≢true h)
    sum_is Multiply e f h = absurd (false≢true h)

    pub moved_value : (e : Expr) → is_moved own before outer u e ≡ true → value e names ≡ Some ((u + v) % modulus)
    moved_value (Number n) h = absurd (false≢true h)
    moved_value (Scalar x) h = absurd (false≢true h)
    moved_value (LoopName l) h = absurd (false≢true h)
    moved_value (Cell' a place p e) h = absurd (false≢true h)
    moved_value (Unary' op p e) h = absurd (false≢true h)
    moved_value (Binary' op p e q f) h = sum_is op e f h
    moved_value (And' p e q f) h = absurd (false≢true h)
    moved_value (Or' p e q f) h = absurd (false≢true h)
    moved_value (Shift' op p e n) h = absurd (false≢true h)
    moved_value (Divide' op p e n) h = absurd (false≢true h)
