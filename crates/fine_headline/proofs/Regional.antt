-- What holds of what is left of a region, where each of its loads and stores keeps it.
use Rattle.std.proofs.Common.{Option, Some, None, ◌≡◌, ℕ, zero, suc, ◌+◌, ◌%◌, ◌<◌, ◌≤◌, ◌^◌, Bool, true, false, List, [], ◌∷◌, ◌++◌, refl, sym, subst, arith}
use Rattle.std.specs.Prelude.{not, ◌&&◌, ◌||◌, ◌==◌, flat_map}
use Rattle.std.proofs.lemmas.Bool.{and_parts, cond_both, false_from_ne_true}
use Rattle.std.proofs.lemmas.Bool.Decides.{nat_tests}
use Rattle.std.proofs.lemmas.Nat.{mod_below}
use Rattle.base.specs.declared.item.Cell.{Cell}
use Rattle.base.specs.declared.fault.Interval.{Interval}
use Rattle.base.specs.declared.tree.Bounds.{Bounds}
use Rattle.base.specs.declared.tree.CombineOp.{CombineOp}
use Rattle.base.specs.declared.tree.Expr.{Expr}
use Rattle.base.specs.declared.tree.Expr.TheVariants.{Number, Scalar, LoopName, Cell', Unary', Binary', And', Or', Shift', Divide'}
use Rattle.base.specs.declared.tree.Source.{Source}
use Rattle.base.specs.declared.tree.Source.TheVariants.{Value, Read}
use Rattle.base.specs.declared.tree.Stmt.{Stmt, Row_of-Stmt, end_of-Stmt, more_of-Stmt}
use Rattle.base.specs.declared.tree.Stmt.TheVariants.{Declare, Assign, Store, Combine, Print, Block', Loop', If'}
use Rattle.base.specs.Memory.{Scalars}
use Rattle.base.specs.Value.{modulus, flag, is_zero, unary, binary, shifted, divided}
use Rattle.base.specs.Meaning.{Run, turns_of, turns_left, read_next, printed}
use Rattle.base.specs.Interval.{interval, is_known_zero, is_known_nonzero}
use Rattle.base.specs.Footprint.{Touch, has_cell, expr_touches, source_touches, update_touch, stmt_touches, row_touches, turns_touch, unless}
use Rattle.fine_machine.specs.Left.{Side, Left, Asks, Answer, expr_left, source_left, stmt_left, row_left, list_left, assigned}
use Rattle.fine_machine.specs.Left.{Load, Store as Puts, Combine as Updates, turns_left as turns_after}
use Rattle.regions.specs.Footprints.{BoundedScalars}
use Rattle.regions.proofs.Intervals.{Has, full_has, exactly_has, known_has, unary_has, binary_has, shift_has, divide_has}
use Rattle.regions.proofs.Needs.{Every, every_left, every_right}
use Rattle.regions.proofs.ExprValues.{suc_is_not, and_has, or_has, nonzero_is, zero_is, in_cells}
use Rattle.regions.proofs.StatementsDone.{AllSmall, small_at, small_push, Fine}
use Rattle.regions.proofs.RegionsDone.{turn_below}

zero_not : not (is_zero 0) ≡ true → ⊥
zero_not e = grind (arith, nat_tests)

suc_not : (m : ℕ) → not (is_zero (suc m)) ≡ false → ⊥
suc_not m e = grind (arith, nat_tests)

-- what is asked of the cells that are read, and of those that are written, by the updates with an operator or by none
module _ (reads writes : Option CombineOp → Cell → Type 0) where
  pub record Allowed (t : Touch) : Type 0 where
    pub read : t.is_write ≡ false → (c : Cell) → has_cell c t ≡ true → reads t.combines c
    pub written : t.is_write ≡ true → (c : Cell) → has_cell c t ≡ true → writes t.combines c

  module _ (side : Side) (K : Left → Type 0)
      (loads : (c : Cell) (k : Answer → Left) → reads None c → ((a : Answer) → a.number < 2 ^ 64 → K (k a)) → K
      (Asks (Load side c) k))
      (puts : (c : Cell) (n : ℕ) (k : Answer → Left) → writes None c → n < 2 ^ 64 → ((a : Answer) → K (k a)) → K
      (Asks (Puts side c n) k))
      (updates : (op : CombineOp) (c : Cell) (n : ℕ) (k : Answer → Left) → writes (Some op) c → n < 2 ^ 64 →
      ((a : Answer) → K (k a)) → K (Asks (Updates side op c n) k)) where
    pub expr_all : (e : Expr) (loops : List ℕ) (scalars : Scalars) (certain : Bool) (k : ℕ → Left) →
        BoundedScalars scalars → AllSmall loops →
        Every Allowed (expr_touches e loops certain) → ((n : ℕ) → Has (interval e loops) n → K (k n)) → K
        (expr_left e side loops scalars k)
    expr_all (Number n) loops scalars certain k s l h next =
        next (n % modulus) (exactly_has (n % modulus) (mod_below n (2 ^ 64) (omega arith)))
    expr_all (Scalar x) loops scalars certain k s l h next = next (scalars x.0) (full_has (scalars x.0) (s x.0))
    expr_all (LoopName level) loops scalars certain k s l h next = next _ (exactly_has _ (small_at loops level l))
    expr_all (Cell' a place p e) loops scalars certain k s l h next =
        let t : Touch = record {
          array = a;
          cells = interval e loops;
          is_write = false;
          certain = certain;
          combines = None;
          place = place;
        } in
        let here = every_right Allowed (expr_touches e loops certain) (t ∷ []) h in
        expr_all e loops scalars certain (λ i. Asks (Load side (record { array = a; index = i })) (λ r. k r.number)) s l
        (every_left Allowed (expr_touches e loops certain) (t ∷ []) h)
        (λ i m. loads (record { array = a; index = i }) (λ r. k r.number)
        (here.0.read refl (record { array = a; index = i }) (in_cells a (interval e loops) i t refl refl m))
        (λ r small. next r.number (full_has r.number small)))
    expr_all (Unary' op p e) loops scalars certain k s l h next =
        expr_all e loops scalars certain (λ m. k (unary op m)) s l h
        (λ m i. next (unary op m) (unary_has op (interval e loops) m i))
    expr_all (Binary' op p e q f) loops scalars certain k s l h next =
        expr_all e loops scalars certain (λ m. expr_left f side loops scalars (λ n. k (binary op m n))) s l
        (every_left Allowed (expr_touches e loops certain) _ h)
        (λ m i. expr_all f loops scalars certain (λ n. k (binary op m n)) s l
        (every_right Allowed (expr_touches e loops certain) _ h)
        (λ n j. next (binary op m n) (binary_has op (interval e loops) (interval f loops) m n i j)))
    expr_all (And' p e q f) loops scalars certain k s l h next =
        expr_all e loops scalars certain (λ m. elim m
        [ zero ↦ k 0 | suc m' ↦ expr_left f side loops scalars (λ n. k (flag (not (is_zero n)))) ]) s l
        (every_left Allowed (expr_touches e loops certain) _ h)
        (λ m i. go m i (λ n' more. expr_all f loops scalars certain (λ n. k (flag (not (is_zero n)))) s l
        (every_right Allowed (expr_touches e loops certain) _ h) more))
      where
        go : (m : ℕ) → Has (interval e loops) m →
            ((m' : ℕ) → ((n : ℕ) → Has (interval f loops) n → K (k (flag (not (is_zero n))))) → K
            (expr_left f side loops scalars (λ n. k (flag (not (is_zero n)))))) →
            K (elim m [ zero ↦ k 0 | suc m' ↦ expr_left f side loops scalars (λ n. k (flag (not (is_zero n)))) ])
        go zero i later =
            next 0 (known_has (is_known_nonzero (interval e loops) && is_known_nonzero (interval f loops))
            (is_known_zero (interval e loops) || is_known_zero (interval f loops)) false
            (λ u. absurd (zero_not (nonzero_is (interval e loops) 0 i
            (and_parts (is_known_nonzero (interval e loops)) _ u).0))) (λ u. refl))
        go (suc m') i later =
            later m' (λ n j. next (flag (not (is_zero n)))
            (subst (λ z. Has (interval (And' p e q f) loops) (flag (not z && not (is_zero n)))) (suc_is_not m')
            (and_has (interval e loops) (interval f loops) (suc m') n i j)))
    expr_all (Or' p e q f) loops scalars certain k s l h next =
        expr_all e loops scalars certain (λ m. elim m
        [ zero ↦ expr_left f side loops scalars (λ n. k (flag (not (is_zero n)))) | suc m' ↦ k 1 ]) s l
        (every_left Allowed (expr_touches e loops certain) _ h)
        (λ m i. go m i (λ more. expr_all f loops scalars certain (λ n. k (flag (not (is_zero n)))) s l
        (every_right Allowed (expr_touches e loops certain) _ h) more))
      where
        go : (m : ℕ) → Has (interval e loops) m →
            (((n : ℕ) → Has (interval f loops) n → K (k (flag (not (is_zero n))))) → K
            (expr_left f side loops scalars (λ n. k (flag (not (is_zero n)))))) →
            K (elim m [ zero ↦ expr_left f side loops scalars (λ n. k (flag (not (is_zero n)))) | suc m' ↦ k 1 ])
        go zero i later =
            later (λ n j. next (flag (not (is_zero n))) (or_has (interval e loops) (interval f loops) 0 n i j))
        go (suc m') i later =
            next 1 (known_has (is_known_nonzero (interval e loops) || is_known_nonzero (interval f loops))
            (is_known_zero (interval e loops) && is_known_zero (interval f loops)) true
            (λ u. refl)
            (λ u. absurd (suc_not m' (zero_is (interval e loops) (suc m') i
            (and_parts (is_known_zero (interval e loops)) _ u).0))))
    expr_all (Shift' op p e n) loops scalars certain k s l h next =
        expr_all e loops scalars certain (λ m. k (shifted op m n.count)) s l h
        (λ m i. next (shifted op m n.count) (shift_has op (interval e loops) m n.count n.in_range i))
    expr_all (Divide' op p e n) loops scalars certain k s l h next =
        expr_all e loops scalars certain (λ m. k (divided op m n.value)) s l h
        (λ m i. next (divided op m n.value) (divide_has op (interval e loops) m n.value n.not_zero i))

    pub source_all : (v : Source) (loops : List ℕ) (certain : Bool) (s : Run) (k : ℕ → Run → Left) → Fine s →
        AllSmall loops →
        Every Allowed (source_touches v loops certain) → ((n : ℕ) (t : Run) → n < 2 ^ 64 → Fine t → K (k n t)) → K
        (source_left v side loops s k)
    source_all (Value e) loops certain s k f l h next =
        expr_all e loops s.scalars certain (λ n. k n s) f.scalars l h (λ n i. next n s i.small f)
    source_all Read loops certain s k f l h next = go s.input refl
      where
        go : (input : List ℕ) → s.input ≡ input → K (k (read_next s).0 (read_next s).1)
        go [] e = subst (λ (p : ℕ × Run). K (k p.0 p.1)) (sym (is e)) (next 0 s (omega arith) f)
          where
            is : s.input ≡ [] → read_next s ≡ (0, s)
            is e = rw e refl
        go (x ∷ rest) e =
            let small : AllSmall (x ∷ rest) = subst AllSmall e f.input in
            subst (λ (p : ℕ × Run). K (k p.0 p.1)) (sym (is e))
            (next x (record s { input = rest }) small.0
            (record { scalars = f.scalars; input = small.1; stores = f.stores }))
          where
            is : s.input ≡ x ∷ rest → read_next s ≡ (x, record s { input = rest })
            is e = rw e refl

    assigned_fine : (x n : ℕ) (t : Run) → n < 2 ^ 64 → Fine t → Fine (assigned x n t)
    assigned_fine x n t h f =
        record {
          scalars = λ y. cond_both (x == y) n (t.scalars y) (λ m. m < 2 ^ 64) (λ _. h) (λ _. f.scalars y);
          input = f.input;
          stores = f.stores;
        }

    -- the branch that is taken
    chosen : (i : Interval) (n : ℕ) (first second : Left) (xs ys : List Touch) → Has i n →
        Every Allowed (unless (is_known_zero i) xs) → Every Allowed (unless (is_known_nonzero i) ys) →
        (Every Allowed xs → K first) → (Every Allowed ys → K second) → K (elim n [ zero ↦ second | suc m ↦ first ])
    chosen i zero first second xs ys m h k f g =
        g (subst (λ b. Every Allowed (unless b ys))
        (false_from_ne_true (is_known_nonzero i) (λ e. zero_not (nonzero_is i 0 m e))) k)
    chosen i (suc n) first second xs ys m h k f g =
        f (subst (λ b. Every Allowed (unless b xs))
        (false_from_ne_true (is_known_zero i) (λ e. suc_not n (zero_is i (suc n) m e))) h)

    -- what a statement leaves, whatever follows
    abbrev Keeps : (Run → (Run → Left) → Left) → Type 0
    Keeps f = (s : Run) (k : Run → Left) → Fine s → ((t : Run) → Fine t → K (k t)) → K (f s k)

    turns_all : (b : Bounds) (body : ℕ → Run → (Run → Left) → Left) (touch : ℕ → List Touch) →
        ((v : ℕ) → v < 2 ^ 64 → Every Allowed (touch v) → Keeps (body v)) →
        (n at : ℕ) → n ≤ turns_left at b → Every Allowed (turns_touch n at b.step touch) → Keeps
        (turns_after n at b.step body)
    turns_all b body touch each zero at le h s k f next = next s f
    turns_all b body touch each (suc n) at le h s k f next =
        let below = turn_below b at n le in
        each at below.0 (every_left Allowed (touch at) (turns_touch n (at + b.step) b.step touch) h) s
        (λ t. turns_after n (at + b.step) b.step body t k) f
        (λ t g. turns_all b body touch each n (at + b.step) below.1
        (every_right Allowed (touch at) (turns_touch n (at + b.step) b.step touch) h) t k g next)

    mutual
      stmt_all : (st : Stmt) (loops : List ℕ) (certain : Bool) → AllSmall loops →
          Every Allowed (stmt_touches st loops certain) → Keeps (stmt_left st side loops)
      stmt_all (Declare x v) loops certain l h s k f next =
          source_all v loops certain s (λ n t. k (assigned x.0 n t)) f l h
          (λ n t small g. next (assigned x.0 n t) (assigned_fine x.0 n t small g))
      stmt_all (Assign x v) loops certain l h s k f next =
          source_all v loops certain s (λ n t. k (assigned x.0 n t)) f l h
          (λ n t small g. next (assigned x.0 n t) (assigned_fine x.0 n t small g))
      stmt_all (Store a place e v) loops certain l h s k f next =
          let t : Touch = record {
            array = a;
            cells = interval e loops;
            is_write = true;
            certain = certain;
            combines = None;
            place = place;
          } in
          let later = every_right Allowed (expr_touches e loops certain) (source_touches v loops certain ++ t ∷ []) h in
          let here = every_right Allowed (source_touches v loops certain) (t ∷ []) later in
          expr_all e loops s.scalars certain (λ i. source_left v side loops s
          (λ n t. Asks (Puts side (record { array = a; index = i }) n) (λ r. k t))) f.scalars l
          (every_left Allowed (expr_touches e loops certain) (source_touches v loops certain ++ t ∷ []) h)
          (λ i m. source_all v loops certain s (λ n t. Asks (Puts side (record { array = a; index = i }) n) (λ r. k t))
          f l (every_left Allowed (source_touches v loops certain) (t ∷ []) later)
          (λ n u small g. puts (record { array = a; index = i }) n (λ r. k u)
          (here.0.written refl (record { array = a; index = i }) (in_cells a (interval e loops) i t refl refl m)) small
          (λ r. next u g)))
      stmt_all (Combine op a place e v) loops certain l h s k f next =
          let r : Touch = update_touch op a (interval e loops) false certain place in
          let t : Touch = update_touch op a (interval e loops) true certain place in
          let es = expr_touches e loops certain in
          let vs = expr_touches v loops certain in
          let later = every_right Allowed es ((vs ++ r ∷ []) ++ t ∷ []) h in
          let here = every_right Allowed (vs ++ r ∷ []) (t ∷ []) later in
          expr_all e loops s.scalars certain (λ i. expr_left v side loops s.scalars
          (λ n. Asks (Updates side op (record { array = a; index = i }) n) (λ r. k s))) f.scalars l
          (every_left Allowed es ((vs ++ r ∷ []) ++ t ∷ []) h)
          (λ i m. expr_all v loops s.scalars certain
          (λ n. Asks (Updates side op (record { array = a; index = i }) n) (λ r. k s)) f.scalars l
          (every_left Allowed vs (r ∷ []) (every_left Allowed (vs ++ r ∷ []) (t ∷ []) later))
          (λ n j. updates op (record { array = a; index = i }) n (λ r. k s)
          (here.0.written refl (record { array = a; index = i }) (in_cells a (interval e loops) i t refl refl m)) j.small
          (λ r. next s f)))
      stmt_all (Print e) loops certain l h s k f next =
          expr_all e loops s.scalars certain (λ n. k (printed s n)) f.scalars l h
          (λ n i. next (printed s n) (record { scalars = f.scalars; input = f.input; stores = f.stores }))
      stmt_all (Block' shape all) loops certain l h s k f next = row_all all loops certain l h s k f next
      stmt_all (Loop' b shape all) loops certain l h s k f next =
          turns_all b (λ v. row_left all side (loops ++ v ∷ [])) (λ v. row_touches all (loops ++ v ∷ []) certain)
          (λ v small g. row_all all (loops ++ v ∷ []) certain (small_push loops v l small) g) (turns_of b) b.first
          (omega arith) h s k f next
      stmt_all (If' c shape all shape' all') loops certain l h s k f next =
          let i = interval c loops in
          let es = expr_touches c loops certain in
          let xs = row_touches all loops (certain && is_known_nonzero i) in
          let ys = row_touches all' loops (certain && is_known_zero i) in
          let both = unless (is_known_zero i) xs ++ unless (is_known_nonzero i) ys in
          let later = every_right Allowed es both h in
          expr_all c loops s.scalars certain (λ n. elim n
          [ zero ↦ row_left all' side loops s k | suc m ↦ row_left all side loops s k ]) f.scalars l
          (every_left Allowed es both h)
          (λ n m. chosen i n (row_left all side loops s k) (row_left all' side loops s k) xs ys m
          (every_left Allowed (unless (is_known_zero i) xs) (unless (is_known_nonzero i) ys) later)
          (every_right Allowed (unless (is_known_zero i) xs) (unless (is_known_nonzero i) ys) later)
          (λ g. row_all all loops (certain && is_known_nonzero i) l g s k f next)
          (λ g. row_all all' loops (certain && is_known_zero i) l g s k f next))

      row_all : {m : _} (row : Row_of-Stmt m) (loops : List ℕ) (certain : Bool) → AllSmall loops →
          Every Allowed (row_touches row loops certain) → Keeps (row_left row side loops)
      row_all end_of-Stmt loops certain l h s k f next = next s f
      row_all (more_of-Stmt first rest) loops certain l h s k f next =
          stmt_all first loops certain l (every_left Allowed (stmt_touches first loops certain) _ h) s
          (λ t. row_left rest side loops t k) f
          (λ t g. row_all rest loops certain l (every_right Allowed (stmt_touches first loops certain) _ h) t k g next)

    pub list_all : (all : List Stmt) (loops : List ℕ) → AllSmall loops →
        Every Allowed (flat_map (λ s. stmt_touches s loops true) all) → Keeps (list_left all side loops)
    list_all [] loops l h s k f next = next s f
    list_all (first ∷ rest) loops l h s k f next =
        stmt_all first loops true l (every_left Allowed (stmt_touches first loops true) _ h) s
        (λ t. list_left rest side loops t k) f
        (λ t g. list_all rest loops l (every_right Allowed (stmt_touches first loops true) _ h) t k g next)
