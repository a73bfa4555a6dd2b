-- A loop in a walk: in blocks of turns, or a turn with its value put before the loops around.
use Rattle.std.proofs.Common.{◌≡◌, ℕ, ◌+◌, ◌-◌, ◌/◌, ◌*◌, List, [], ◌∷◌, ◌++◌, Option, Some, None, refl, sym, ap, ap₂, ◌∙◌, subst, arith, Vec, Global}
use Rattle.std.specs.Prelude.{option_and_then, IsSome}
use Rattle.std.proofs.lemmas.Nat.{div-mul-add}
use mathlib.Core.Former.{Count}
use mathlib.Core.Path.{fun_ext}
use Rattle.base.specs.declared.tree.Bounds.{Bounds}
use Rattle.base.specs.declared.tree.Stmt.{Stmt, Loop, Row_of-Stmt, end_of-Stmt, more_of-Stmt, items-the_row-Stmt, items_hidden-the_row-Stmt-0}
use Rattle.base.specs.Memory.{View}
use Rattle.base.specs.Meaning.{Run, turn, turns_of, all_turns, run_stmt, run_row, run_list}
use Rattle.base.proofs.StmtRows.{first_row}
use Rattle.kernel.specs.Loops.{does, Stands, Begins, Ends}
use Rattle.kernel.specs.Walks.{At, CanDo, HasDone, stmt_meaning, list_meaning, loop_meaning, turn_meaning}
use Rattle.kernel.specs.declared.state.Machine.{Machine}
use Rattle.kernel.specs.Rows.{Parts}

row_is_list : (n : Count) (row : Row_of-Stmt n) (view : View) (loops : List ℕ) (s : Run) →
    run_row row view loops s ≡ run_list (items-the_row-Stmt n row) view loops s
row_is_list n end_of-Stmt view loops s = refl
row_is_list n (more_of-Stmt first rest) view loops s =
    ap (λ (f : Run → Option Run). option_and_then f (run_stmt first view loops s))
    (fun_ext (λ (t : Run). row_is_list _ rest view loops t))

pub row_is : (row : (n : Count) × Row_of-Stmt n) (all : List Stmt) → items-the_row-Stmt row.0 row.1 ≡ all →
    (view : View) (loops : List ℕ) (s : Run) → run_row row.1 view loops s ≡ run_list all view loops s
row_is row all e view loops s = row_is_list row.0 row.1 view loops s ∙ ap (λ xs. run_list xs view loops s) e

-- what a loop does whose statements stand in a vector
loop_does : (b : Bounds) (all : Vec Stmt Global) (view : View) (loops : List ℕ) (s : Run) →
    run_stmt (Loop b all) view loops s ≡ all_turns b (does view loops all.items) s
loop_does b all view loops s =
    ap (λ (f : ℕ → Run → Option Run). all_turns b f s)
    (fun_ext (λ (v : ℕ). fun_ext (λ (t : Run).
    row_is (first_row (Loop b all)) all.items (items_hidden-the_row-Stmt-0 all) view (loops ++ v ∷ []) t)))

module _ (s : Stmt) (b : Bounds) (all : Vec Stmt Global) (xs : List Stmt) (m : Machine) (is : s ≡ Loop b all) (same : xs ≡ all.items) where
  loop_is : (view : View) (r : Run) → stmt_meaning s view m.loops.items r ≡ loop_meaning b xs view m.loops.items r
  loop_is view r =
      ap (λ (t : Stmt). run_stmt t view m.loops.items r) is
      ∙ loop_does b all view m.loops.items r
      ∙ ap (λ (ys : List Stmt). all_turns b (does view m.loops.items ys) r) (sym same)

  -- a statement that is a loop
  pub loop_can : CanDo (stmt_meaning s) m → CanDo (loop_meaning b xs) m
  loop_can h = (h.0, h.1, h.2, subst (λ (o : Option Run). IsSome o) (loop_is h.0 h.1) h.3)

  pub loop_done : (m' : Machine) → HasDone (loop_meaning b xs) m m' → HasDone (stmt_meaning s) m m'
  loop_done m' h = (h.0, λ view r t at e. h.1 view r t at (sym (loop_is view r) ∙ e))

and_done : (o : Option Run) → option_and_then (λ s. Some s) o ≡ o
and_done None = refl
and_done (Some s) = refl

-- a statement alone
pub alone_can : (s : Stmt) (xs : List Stmt) (m : Machine) → xs ≡ s ∷ [] → CanDo (stmt_meaning s) m → CanDo (list_meaning xs) m
alone_can s xs m is h = (
  h.0,
  h.1,
  h.2,
  subst (λ (o : Option Run). IsSome o)
      (sym (ap (λ ys. run_list ys h.0 m.loops.items h.1) is ∙ and_done (run_stmt s h.0 m.loops.items h.1))) h.3,
)

pub alone_done : (s : Stmt) (xs : List Stmt) (m m' : Machine) → xs ≡ s ∷ [] → HasDone (list_meaning xs) m m' →
    HasDone (stmt_meaning s) m m'
alone_done s xs m m' is h = (
  h.0,
  λ view r t at e. h.1 view r t at (ap (λ ys. run_list ys view m.loops.items r) is ∙ and_done (run_stmt s view m.loops.items r) ∙ e),
)

-- a turn: its value stands behind those of the loops around
pub turn_can : (v : ℕ) (body : List Stmt) (m m' : Machine) → m'.loops.items ≡ m.loops.items ++ v ∷ [] →
    ((view : View) (s : Run) → At view s m → At view s m') → CanDo (turn_meaning v body) m → CanDo (list_meaning body) m'
turn_can v body m m' is at h =
    (h.0, h.1, at h.0 h.1 h.2, subst (λ ls. IsSome (run_list body h.0 ls h.1)) (sym is) h.3)

pub turn_done : (v : ℕ) (body : List Stmt) (m m' m'' m''' : Machine) → m'.loops.items ≡ m.loops.items ++ v ∷ [] →
    ((view : View) (s : Run) → At view s m → At view s m') → HasDone (list_meaning body) m' m'' →
    m'''.loops.items ≡ m.loops.items → ((view : View) (s : Run) → At view s m'' → At view s m''') →
    HasDone (turn_meaning v body) m m'''
turn_done v body m m' m'' m''' is at done back after = (
  back,
  λ view s t h e. after view t (done.1 view s t (at view s h) (ap (λ ls. run_list body view ls s) is ∙ e)),
)

one_by_one : (n : ℕ) → (n + (1 - 1)) / 1 ≡ n
one_by_one n = let e : n + (1 - 1) ≡ n * 1 + 0 = omega arith in ap (λ x. x / 1) e ∙ div-mul-add n 1 0 (omega arith)

turns_are : (b : Bounds) → b.step ≡ 1 → turns_of b ≡ b.end - b.first
turns_are b one = ap (λ s. (b.end - b.first + (s - 1)) / s) one ∙ one_by_one (b.end - b.first)

loop_turns : (b : Bounds) (body : List Stmt) (view : View) (loops : List ℕ) (s : Run) → b.step ≡ 1 →
    loop_meaning b body view loops s ≡ turn (b.end - b.first) b.first 1 (does view loops body) s
loop_turns b body view loops s one = ap₂ (λ n step. turn n b.first step (does view loops body) s) (turns_are b one) one

module _ (b : Bounds) (body : List Stmt) (m : Machine) (outer numbers : List ℕ) (rows : List Parts)
    (e : outer ≡ m.loops.items) (f : numbers ≡ m.scalars.value) (g : rows ≡ m.rows.items) (one : b.step ≡ 1) where
  stands_so : (view : View) (s : Run) → At view s m → Stands view s numbers rows
  stands_so view s h =
      subst (λ (xs : List ℕ). Stands view s xs rows) (sym f)
      (subst (λ (xs : List Parts). Stands view s m.scalars.value xs) (sym g) h.stands)

  turns_so : (view : View) (s : Run) →
      loop_meaning b body view m.loops.items s ≡ turn (b.end - b.first) b.first 1 (does view outer body) s
  turns_so view s =
      loop_turns b body view m.loops.items s one
      ∙ ap (λ ls. turn (b.end - b.first) b.first 1 (does view ls body) s) (sym e)

  -- the blocks have what they need
  pub blocks_can : CanDo (loop_meaning b body) m → Begins body outer b.first b.end numbers rows
  blocks_can h = (h.0, h.1, stands_so h.0 h.1 h.2, subst (λ (o : Option Run). IsSome o) (turns_so h.0 h.1) h.3)

  -- and lead to where the loop does
  pub blocks_done : (m' : Machine) (rows' : List Parts) →
      Ends body outer b.first b.end numbers rows m'.scalars.value rows' → m'.rows.items ≡ rows' →
      m'.loops.items ≡ m.loops.items → m'.input.now ≡ m.input.now → m'.printed.items ≡ m.printed.items →
      HasDone (loop_meaning b body) m m'
  blocks_done m' rows' ends left same input printed = (
    same,
    λ view s t h is.
        let u = ends view s t (stands_so view s h) (sym (turns_so view s) ∙ is) in
        record {
          stands = subst (λ (xs : List Parts). Stands view t m'.scalars.value xs) (sym left) u.0;
          input = input ∙ h.input ∙ u.1;
          printed = printed ∙ h.printed ∙ u.2;
        },
  )
