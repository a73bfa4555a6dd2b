-- What is left of a region copies no cell.
use Rattle.std.proofs.Common.{ℕ, zero, suc, ◌+◌, ◌++◌, List, [], ◌∷◌, Option, Some, None, not, slice_index, ◌%◌}
use Rattle.base.specs.declared.tree.Expr.{Expr}
use Rattle.base.specs.declared.tree.Expr.TheVariants.{Number, Scalar, LoopName, Cell', Unary', Binary', And', Or', Shift', Divide'}
use Rattle.base.specs.declared.tree.Region.{Region}
use Rattle.base.specs.declared.tree.Source.{Source}
use Rattle.base.specs.declared.tree.Source.TheVariants.{Value, Read}
use Rattle.base.specs.declared.tree.Stmt.{Stmt, Row_of-Stmt, end_of-Stmt, more_of-Stmt}
use Rattle.base.specs.declared.tree.Stmt.TheVariants as stmt
use Rattle.base.specs.Meaning.{Run, printed, turns_of, read_next}
use Rattle.base.specs.Memory.{Scalars}
use Rattle.base.specs.Value.{modulus, flag, is_zero, unary, binary, shifted, divided}
use Rattle.fine_machine.specs.Left.{Side, Load, Store, Combine, Left, Asks, assigned, expr_left, source_left, turns_left, stmt_left, row_left, list_left, region_left}
use Rattle.actions.specs.Opening.{StaysInside, Goes}

module _ (lengths : List ℕ) where
  abbrev Stays : Left → Type 0
  Stays = StaysInside lengths

  zero_or : (n : ℕ) (x y : Left) → Stays x → Stays y → Stays (elim n [ zero ↦ x | suc m ↦ y ])
  zero_or zero x y p q = p
  zero_or (suc m) x y p q = q

  -- a region asks for loads and stores alone
  expr_inside : (e : Expr) (side : Side) (loops : List ℕ) (scalars : Scalars) (k : ℕ → Left) →
      ((n : ℕ) → Stays (k n)) →
      Stays (expr_left e side loops scalars k)
  expr_inside (Number n) side loops scalars k h = h (n % modulus)
  expr_inside (Scalar x) side loops scalars k h = h (scalars x.0)
  expr_inside (LoopName level) side loops scalars k h = h (slice_index loops level)
  expr_inside (Cell' a place p e) side loops scalars k h =
      expr_inside e side loops scalars (λ i. Asks (Load side (record { array = a; index = i })) (λ r. k r.number))
      (λ i. Goes (Load side (record { array = a; index = i })) (λ r. k r.number) tt (λ r. h r.number))
  expr_inside (Unary' op p a) side loops scalars k h =
      expr_inside a side loops scalars (λ m. k (unary op m)) (λ m. h (unary op m))
  expr_inside (Binary' op p a q b) side loops scalars k h =
      expr_inside a side loops scalars (λ m. expr_left b side loops scalars (λ n. k (binary op m n)))
      (λ m. expr_inside b side loops scalars (λ n. k (binary op m n)) (λ n. h (binary op m n)))
  expr_inside (And' p a q b) side loops scalars k h =
      expr_inside a side loops scalars
      (λ m. elim m [ zero ↦ k 0 | suc m' ↦ expr_left b side loops scalars (λ n. k (flag (not (is_zero n)))) ])
      (λ m. zero_or m (k 0) (expr_left b side loops scalars (λ n. k (flag (not (is_zero n))))) (h 0)
      (expr_inside b side loops scalars (λ n. k (flag (not (is_zero n)))) (λ n. h (flag (not (is_zero n))))))
  expr_inside (Or' p a q b) side loops scalars k h =
      expr_inside a side loops scalars
      (λ m. elim m [ zero ↦ expr_left b side loops scalars (λ n. k (flag (not (is_zero n)))) | suc m' ↦ k 1 ])
      (λ m. zero_or m (expr_left b side loops scalars (λ n. k (flag (not (is_zero n))))) (k 1)
      (expr_inside b side loops scalars (λ n. k (flag (not (is_zero n)))) (λ n. h (flag (not (is_zero n))))) (h 1))
  expr_inside (Shift' op p a n) side loops scalars k h =
      expr_inside a side loops scalars (λ m. k (shifted op m n.count)) (λ m. h (shifted op m n.count))
  expr_inside (Divide' op p a n) side loops scalars k h =
      expr_inside a side loops scalars (λ m. k (divided op m n.value)) (λ m. h (divided op m n.value))

  source_inside : (v : Source) (side : Side) (loops : List ℕ) (s : Run) (k : ℕ → Run → Left) →
      ((n : ℕ) (t : Run) → Stays (k n t)) → Stays (source_left v side loops s k)
  source_inside (Value e) side loops s k h = expr_inside e side loops s.scalars (λ n. k n s) (λ n. h n s)
  source_inside Read side loops s k h = h (read_next s).0 (read_next s).1

  turns_inside : (n v step : ℕ) (body : ℕ → Run → (Run → Left) → Left) (s : Run) (k : Run → Left) →
      ((u : ℕ) (t : Run) (l : Run → Left) → ((t' : Run) → Stays (l t')) → Stays (body u t l)) →
      ((t : Run) → Stays (k t)) → Stays (turns_left n v step body s k)
  turns_inside zero v step body s k b h = h s
  turns_inside (suc n) v step body s k b h =
      b v s (λ t. turns_left n (v + step) step body t k) (λ t. turns_inside n (v + step) step body t k b h)

  mutual
    stmt_inside : (x : Stmt) (side : Side) (loops : List ℕ) (s : Run) (k : Run → Left) → ((t : Run) → Stays (k t)) →
        Stays (stmt_left x side loops s k)
    stmt_inside (stmt.Declare x v) side loops s k h =
        source_inside v side loops s (λ n t. k (assigned x.0 n t)) (λ n t. h (assigned x.0 n t))
    stmt_inside (stmt.Assign x v) side loops s k h =
        source_inside v side loops s (λ n t. k (assigned x.0 n t)) (λ n t. h (assigned x.0 n t))
    stmt_inside (stmt.Store a place e v) side loops s k h =
        expr_inside e side loops s.scalars
        (λ i. source_left v side loops s (λ n t. Asks (Store side (record { array = a; index = i }) n) (λ r. k t)))
        (λ i. source_inside v side loops s (λ n t. Asks (Store side (record { array = a; index = i }) n) (λ r. k t))
        (λ n t. Goes (Store side (record { array = a; index = i }) n) (λ r. k t) tt (λ r. h t)))
    stmt_inside (stmt.Combine op a place e v) side loops s k h =
        expr_inside e side loops s.scalars
        (λ i. expr_left v side loops s.scalars
        (λ n. Asks (Combine side op (record { array = a; index = i }) n) (λ r. k s)))
        (λ i. expr_inside v side loops s.scalars
        (λ n. Asks (Combine side op (record { array = a; index = i }) n) (λ r. k s))
        (λ n. Goes (Combine side op (record { array = a; index = i }) n) (λ r. k s) tt (λ r. h s)))
    stmt_inside (stmt.Print e) side loops s k h =
        expr_inside e side loops s.scalars (λ n. k (printed s n)) (λ n. h (printed s n))
    stmt_inside (stmt.Block' shape all) side loops s k h = row_inside all side loops s k h
    stmt_inside (stmt.Loop' b shape all) side loops s k h =
        turns_inside (turns_of b) b.first b.step (λ v. row_left all side (loops ++ v ∷ [])) s k
        (λ u t l g. row_inside all side (loops ++ u ∷ []) t l g) h
    stmt_inside (stmt.If' c shape all shape' all') side loops s k h =
        expr_inside c side loops s.scalars
        (λ n. elim n [ zero ↦ row_left all' side loops s k | suc m ↦ row_left all side loops s k ])
        (λ n. zero_or n (row_left all' side loops s k) (row_left all side loops s k) (row_inside all' side loops s k h)
        (row_inside all side loops s k h))

    row_inside : {m : _} → (row : Row_of-Stmt m) (side : Side) (loops : List ℕ) (s : Run) (k : Run → Left) →
        ((t : Run) → Stays (k t)) → Stays (row_left row side loops s k)
    row_inside end_of-Stmt side loops s k h = h s
    row_inside (more_of-Stmt first rest) side loops s k h =
        stmt_inside first side loops s (λ t. row_left rest side loops t k) (λ t. row_inside rest side loops t k h)

  pub list_inside : (all : List Stmt) (side : Side) (loops : List ℕ) (s : Run) (k : Run → Left) →
      ((t : Run) → Stays (k t)) →
      Stays (list_left all side loops s k)
  list_inside [] side loops s k h = h s
  list_inside (first ∷ rest) side loops s k h =
      stmt_inside first side loops s (λ t. list_left rest side loops t k) (λ t. list_inside rest side loops t k h)

  pub region_inside : (o : Option Region) (side : Side) (loops : List ℕ) (s : Run) (k : Run → Left) →
      ((t : Run) → Stays (k t)) → Stays (region_left o side loops s k)
  region_inside None side loops s k h = h s
  region_inside (Some r) side loops s k h = list_inside r.body.items side loops s k h
