-- Two lists of statements, one that a text means and one that it means without its directives, run alike.
use Rattle.std.proofs.Common.{◌≡◌, ℕ, ◌+◌, ◌-◌, ◌/◌, List, [], ◌∷◌, ◌++◌, length, drop, Option, Some, None, refl, sym, ap, subst, ◌∙◌, append_assoc}
use Rattle.std.specs.Prelude.{option_and_then, option_map}
use Rattle.std.proofs.lemmas.Option.{same_Some}
use mathlib.Core.Former.{Count}
use Rattle.base.specs.declared.tree.Bounds.{Bounds}
use Rattle.base.specs.declared.tree.Stmt.{Stmt as Statement, Row_of-Stmt, end_of-Stmt, more_of-Stmt, items-the_row-Stmt}
use Rattle.base.specs.declared.tree.Stmt.TheVariants as statement
use Rattle.base.specs.Memory.{Memory, View, view_of}
use Rattle.base.specs.Value.{value}
use Rattle.base.specs.Meaning.{Run, names_in, printed, choose, turn, turns_of, all_turns, run_stmt, run_row, run_list}
use Rattle.c_grammar.specs.Lexeme.{Lexeme}
use Rattle.c_grammar.specs.Grammar.{Source, Head, Stmt, Declare, Assign, Store, Repeat, Choose, ChooseElse, Show, Block, Directive, Atomic, AtomicAssign, AtomicIf, OverBlock, OverLoop, Stmts, Done, Then, stmts, Term}
use Rattle.c_expressions.specs.Means.{Items, Names, meaning_of, term_size}
use Rattle.c_statements.specs.Statements.{Env, stmt_size, head_size, declared_in, more, behind, in_loop, IsHead, IsStatement, AreStatements}
use Rattle.c_statements.specs.Updates.{as_update}
use Rattle.erasure.specs.Plain.{plain_stmts}
use Rattle.erased_meaning.proofs.Boxes.{Layout}
use Rattle.erased_meaning.proofs.Likeness.{Mode, OnHost, InTarget, IsPassed, Like, Both, both_then, both_less, both_turns, both_choose}
use Rattle.erased_meaning.proofs.Updates.{row_runs}
use Rattle.erased_meaning.proofs.Extremes.{update_ends}
use Rattle.erased_meaning.proofs.Envs.{plain_env, plain_one, plain_then, declared_plain, behind_plain, more_plain, agree_before, IsQuietSource, IsInside, IsQuiet, AreQuiet, IsPlaced, MayDo, MayDoAll, placed_behind, placed_more, placed_loop}
use Rattle.erased_meaning.proofs.Given.{MaySource, MayAssign, values_same, assigns_end, declares_end, stores_end}

-- bounds that one head means
abbrev pub IsSameBounds : Bounds → Bounds → Type 0
IsSameBounds a b = (a.first ≡ b.first) × (a.end ≡ b.end) × (a.step ≡ b.step)

pub same_bounds : (h : Head) (a b : Bounds) → IsHead h a → IsHead h b → IsSameBounds a b
same_bounds h a b p q = (
  same_Some a.first b.first (sym p.first ∙ q.first),
  same_Some a.end b.end (sym p.limit ∙ q.limit),
  same_Some a.step b.step (sym p.step ∙ q.step),
)

pub turns_same : (a b : Bounds) → IsSameBounds a b → turns_of a ≡ turns_of b
turns_same a b e =
    ap (λ (v : ℕ). (a.end - v + (a.step - 1)) / a.step) e.0 ∙ ap (λ (v : ℕ). (v - b.first + (a.step - 1)) / a.step) e.1
    ∙ ap (λ (v : ℕ). (b.end - b.first + (v - 1)) / v) e.2

-- ---- what may be done

may_source : (d : Mode) (env : Env) (s : Stmt) (v : Source) → (IsQuiet env s → IsQuietSource v) → MayDo d env s →
    MaySource d v
may_source (OnHost before) env s v h may = tt
may_source (InTarget kept input printed scalars) env s v h may = h may

may_inner : (d : Mode) (env inner : Env) (s : Stmt) (b : Stmts) → (IsQuiet env s → AreQuiet inner b) → MayDo d env s →
    MayDoAll d inner b
may_inner (OnHost before) env inner s b h may = tt
may_inner (InTarget kept input printed scalars) env inner s b h may = h may

may_first : (d : Mode) (env : Env) (s : Stmt) (ss : Stmts) → MayDoAll d env (Then s ss) → MayDo d env s
may_first (OnHost before) env s ss may = tt
may_first (InTarget kept input printed scalars) env s ss may = may.0

may_rest : (d : Mode) (env : Env) (s : Stmt) (ss : Stmts) → MayDoAll d env (Then s ss) → MayDoAll d (behind s env) ss
may_rest (OnHost before) env s ss may = tt
may_rest (InTarget kept input printed scalars) env s ss may = may.1

-- the if behind the line of an atomic update
may_if : (d : Mode) (env : Env) (l : List Lexeme) (s : Stmt) → MayDo d env (AtomicIf l s) → MayDo d env s
may_if (OnHost before) env l s may = tt
may_if (InTarget kept input printed scalars) env l s may = may

-- the name that is assigned
may_name : (d : Mode) (env : Env) (s : Stmt) (x : List ℕ) → (IsQuiet env s → IsInside (meaning_of env.names x)) →
    MayDo d env s → MayAssign d env x
may_name (OnHost before) env s x h may = tt
may_name (InTarget kept input printed scalars) env s x h may = h may

module _ (d : Layout) (m w : Memory) (mode : Mode) where
  abbrev Alike : Names → Run → Run → Type 0
  Alike names r q = Like d m w mode names r q

  abbrev Ends : Names → Option Run → Option Run → Type 0
  Ends names o p = Both d m w mode names o p

  abbrev here : View
  here = view_of d.first m

  abbrev there : View
  there = view_of d.second w

  printed_ends : (env : Env) (t : Term) (o p : Option ℕ) (r q : Run) → o ≡ p → MayDo mode env (Show t) →
      Alike env.names r q →
      Ends env.names (option_map (printed r) o) (option_map (printed q) p)
  printed_ends env t None None r q e may l = tt
  printed_ends env t (Some v) (Some u) r q e may l =
      let same : v ≡ u = same_Some v u e in
      subst (λ (i : ℕ). Alike env.names (printed r v) (printed q i)) same
      (record { memory = l.memory; scalars = l.scalars; passed = on mode may l.passed })
    where
      on : (d : Mode) → MayDo d env (Show t) → IsPassed d r q → IsPassed d (printed r v) (printed q v)
      on (OnHost before) may p = (p.0, ap (λ (vs : List ℕ). vs ++ v ∷ []) p.1 ∙ append_assoc before r.printed (v ∷ []))
      on (InTarget kept input printed scalars) may p = absurd may
  printed_ends env t None (Some u) r q e may l = absurd cc
  printed_ends env t (Some v) None r q e may l = absurd cc

  rows_end : (names : Names) (j k : Count) (row : Row_of-Stmt j) (row' : Row_of-Stmt k) (loops : List ℕ) (r q : Run) →
      Ends names (run_list (items-the_row-Stmt j row) here loops r)
      (run_list (items-the_row-Stmt k row') there loops q) →
      Ends names (run_row row here loops r) (run_row row' there loops q)
  rows_end names j k row row' loops r q e =
      subst (λ (o : Option Run). Ends names o (run_row row' there loops q)) (sym (row_runs j row here loops r))
      (subst (λ (o : Option Run). Ends names (run_list (items-the_row-Stmt j row) here loops r) o)
      (sym (row_runs k row' there loops q)) e)

  turns_end : (names : Names) (a b : Bounds) (f g : ℕ → Run → Option Run) (r q : Run) → IsSameBounds a b →
      ((v : ℕ) (r q : Run) → Alike names r q → Ends names (f v r) (g v q)) → Alike names r q →
      Ends names (all_turns a f r) (all_turns b g q)
  turns_end names a b f g r q e h l =
      let same : all_turns a g q ≡ all_turns b g q =
      ap (λ (n : ℕ). turn n a.first a.step g q) (turns_same a b e)
      ∙ ap (λ (v : ℕ). turn (turns_of b) v a.step g q) e.0 ∙ ap (λ (v : ℕ). turn (turns_of b) b.first v g q) e.2 in
      subst (λ (o : Option Run). Ends names (all_turns a f r) o) same
      (both_turns d m w mode names f g h (turns_of a) a.first a.step r q l)

  choice_ends : (names : Names) (o p : Option ℕ) (f g f' g' : Run → Option Run) (r q : Run) → o ≡ p →
      Ends names (f r) (f' q) →
      Ends names (g r) (g' q) → Ends names (choose o f g r) (choose p f' g' q)
  choice_ends names o p f g f' g' r q e h k =
      subst (λ (v : Option ℕ). Ends names (choose o f g r) (choose v f' g' q)) e
      (both_choose d m w mode names o f g f' g' r q h k)

  -- the update that a store or an if is
  updated : (s u y : Statement) (loops : List ℕ) (r q : Run) (names : Names) → s ≡ as_update u →
      Ends names (run_stmt u here loops r) (run_stmt y there loops q) →
      Ends names (run_stmt s here loops r) (run_stmt y there loops q)
  updated s u y loops r q names e h =
      subst (λ (a : Statement). Ends names (run_stmt a here loops r) (run_stmt y there loops q)) (sym e)
      (update_ends d m w mode names u loops r (run_stmt y there loops q) h)

  -- nothing is done on either side
  rows_none : (names : Names) (j k : Count) (row : Row_of-Stmt j) (row' : Row_of-Stmt k) (loops : List ℕ) (r q : Run) →
      items-the_row-Stmt j row ≡ [] → items-the_row-Stmt k row' ≡ [] → Alike names r q →
      Ends names (run_row row here loops r) (run_row row' there loops q)
  rows_none names j k row row' loops r q e i l =
      rows_end names j k row row' loops r q
      (subst (λ (xs : List Statement). Ends names (run_list xs here loops r)
      (run_list (items-the_row-Stmt k row') there loops q)) (sym e)
      (subst (λ (ys : List Statement). Ends names (Some r) (run_list ys there loops q)) (sym i) l))

  -- a first statement and those behind it
  list_end : (s : Stmt) (ss : Stmts) (env : Env) (is js : Items) (x : Statement) (xs ys : List Statement)
      (loops : List ℕ) (r q : Run) →
      IsStatement env is s x → AreStatements (plain_env env) js (Then (plain_one s) (plain_stmts ss)) ys →
      ((y : Statement) → IsStatement (plain_env env) js (plain_one s) y →
      Ends (behind s env).names (run_stmt x here loops r) (run_stmt y there loops q)) →
      ((zs : List Statement) (ks : Items) (r q : Run) → Alike (behind s env).names r q →
      AreStatements (plain_env (behind s env)) ks (plain_stmts ss) zs →
      Ends (behind s env).names (run_list xs here loops r) (run_list zs there loops q)) →
      Ends env.names (run_list (x ∷ xs) here loops r) (run_list ys there loops q)
  list_end s ss env is js x xs [] loops r q h k first rest = absurd k
  list_end s ss env is js x xs (y ∷ ys) loops r q h k first rest =
      let ks : Items = drop (stmt_size (plain_one s)) js in
      let more : AreStatements (plain_env (behind s env)) ks (plain_stmts ss) ys =
      subst (λ (e : Env). AreStatements e ks (plain_stmts ss) ys) (behind_plain env is s x h) k.1 in
      both_less d m w mode (behind s env).names env.names (run_list (x ∷ xs) here loops r)
      (run_list (y ∷ ys) there loops q) (agree_before s env)
      (both_then d m w mode (behind s env).names (behind s env).names (run_list xs here loops) (run_list ys there loops)
      (run_stmt x here loops r) (run_stmt y there loops q) (first y k.0) (λ r q l. rest ys ks r q l more))

  mutual
    pub lists_end : (b : Stmts) (env : Env) (is js : Items) (xs ys : List Statement) (loops : List ℕ) (r q : Run) →
        MayDoAll mode env b →
        IsPlaced d mode env → Alike env.names r q → AreStatements env is b xs →
        AreStatements (plain_env env) js (plain_stmts b) ys →
        Ends env.names (run_list xs here loops r) (run_list ys there loops q)
    lists_end Done env is js [] [] loops r q may p l h k = l
    lists_end Done env is js (x ∷ xs) ys loops r q may p l h k = absurd h
    lists_end Done env is js [] (y ∷ ys) loops r q may p l h k = absurd k
    lists_end (Then s ss) env is js [] ys loops r q may p l h k = absurd h
    lists_end (Then s ss) env is js (x ∷ xs) ys loops r q may p l h k =
        list_end s ss env is js x xs ys loops r q h.0
        (subst (λ (b : Stmts). AreStatements (plain_env env) js b ys) (plain_then env is s x (plain_stmts ss) h.0) k)
        (λ y g. one_ends s env is js x y loops r q (may_first mode env s ss may) p l h.0 g)
        (λ zs ks r q l g. lists_end ss (behind s env) (drop (stmt_size s) is) ks xs zs loops r q
        (may_rest mode env s ss may)
        (placed_behind d mode env p s) l h.1 g)

    pub one_ends : (s : Stmt) (env : Env) (is js : Items) (x y : Statement) (loops : List ℕ) (r q : Run) →
        MayDo mode env s →
        IsPlaced d mode env → Alike env.names r q → IsStatement env is s x →
        IsStatement (plain_env env) js (plain_one s) y →
        Ends (behind s env).names (run_stmt x here loops r) (run_stmt y there loops q)
    one_ends (Declare x v) env is js x' y loops r q may p l h k =
        declares_end d m w mode env p x v is js loops r q (may_source mode env (Declare x v) v (λ u. u) may) l x' y h k
    one_ends (Assign x v) env is js s y loops r q may p l h k =
        assigns_end d m w mode env p x v is js loops r q (may_source mode env (Assign x v) v (λ u. u.0) may) l s y
        (may_name mode env (Assign x v) x (λ u. u.1) may) h k
    one_ends (AtomicAssign g x v) env is js s y loops r q may p l h k =
        updated s h.0 y loops r q env.names h.2
        (assigns_end d m w mode env p x v (drop 1 is) js loops r q
        (may_source mode env (AtomicAssign g x v) v (λ u. u.0) may) l h.0 y
        (may_name mode env (AtomicAssign g x v) x (λ u. u.1) may) h.1 k)
    one_ends (Store x i v) env is js s y loops r q may p l h k =
        stores_end d m w mode env p.sound x i v is js s y loops r q
        (may_source mode env (Store x i v) v (λ u. u) may) l h k
    one_ends (Atomic g x i v) env is js s y loops r q may p l h k =
        updated s h.0 y loops r q env.names h.2
        (stores_end d m w mode env p.sound x i v (drop 1 is) js h.0 y loops r q
        (may_source mode env (Atomic g x i v) v (λ u. u) may) l h.1 k)
    one_ends (AtomicIf g t) env is js s y loops r q may p l h k =
        updated s h.0 y loops r q (behind t env).names h.2
        (one_ends t env (drop 1 is) js h.0 y loops r q (may_if mode env g t may) p l h.1 k)
    one_ends (Show t) env is js (statement.Print e) (statement.Print u) loops r q may p l h k =
        printed_ends env t (value e (names_in here loops r)) (value u (names_in there loops q)) r q
        (values_same d m w mode env p.sound t (drop 2 is) (drop 2 js) e u loops r q l h k) may l
    one_ends (Show t) env is js (statement.Print e) _ loops r q may p l h k = absurd k
    one_ends (Show t) env is js _ y loops r q may p l h k = absurd h
    one_ends (Block b) env is js (statement.Block' c row) (statement.Block' c' row') loops r q may p l h k =
        rows_end env.names _ _ row row' loops r q
        (lists_end b env (drop 1 is) (drop 1 js) (items-the_row-Stmt _ row) (items-the_row-Stmt _ row') loops r q
        (may_inner mode env env (Block b) b (λ u. u) may) p l h k)
    one_ends (Block b) env is js (statement.Block' c row) _ loops r q may p l h k = absurd k
    one_ends (Block b) env is js _ y loops r q may p l h k = absurd h
    one_ends (Repeat g b) env is js (statement.Loop' a c row) (statement.Loop' a' c' row') loops r q may p l h k =
        turns_end env.names a a' (λ v. run_row row here (loops ++ v ∷ []))
        (λ v. run_row row' there (loops ++ v ∷ [])) r q
        (same_bounds g a a' h.0 k.0)
        (λ v r q l. both_less d m w mode (in_loop g.name env).names env.names (run_row row here (loops ++ v ∷ []) r)
        (run_row row' there (loops ++ v ∷ []) q) (λ n f g a. a.1)
        (rows_end (in_loop g.name env).names _ _ row row' (loops ++ v ∷ []) r q
        (lists_end b (in_loop g.name env) (drop (head_size g) is) (drop (head_size g) js) (items-the_row-Stmt _ row)
        (items-the_row-Stmt _ row')
        (loops ++ v ∷ []) r q (may_inner mode env (in_loop g.name env) (Repeat g b) b (λ u. u) may)
        (placed_loop d mode env p g.name)
        (record { memory = l.memory; scalars = (tt, l.scalars); passed = l.passed }) h.1 k.1))) l
    one_ends (Repeat g b) env is js (statement.Loop' a c row) _ loops r q may p l h k = absurd k
    one_ends (Repeat g b) env is js _ y loops r q may p l h k = absurd h
    one_ends (Choose t b) env is js (statement.If' e c row c2 row2)
        (statement.If' u b' row' d2 row2') loops r q may p l h k =
        choice_ends env.names (value e (names_in here loops r)) (value u (names_in there loops q)) _ _ _ _ r q
        (values_same d m w mode env p.sound t (drop 2 is) (drop 2 js) e u loops r q l h.0 k.0)
        (rows_end env.names _ _ row row' loops r q
        (lists_end b env (drop (term_size t + 4) is) (drop (term_size t + 4) js) (items-the_row-Stmt _ row)
        (items-the_row-Stmt _ row') loops r q
        (may_inner mode env env (Choose t b) b (λ u. u) may) p l h.1 k.1))
        (rows_none env.names _ _ row2 row2' loops r q h.2 k.2 l)
    one_ends (Choose t b) env is js (statement.If' e c row c2 row2) _ loops r q may p l h k = absurd k
    one_ends (Choose t b) env is js _ y loops r q may p l h k = absurd h
    one_ends (ChooseElse t a b) env is js (statement.If' e c row c2 row2)
        (statement.If' u b' row' d2 row2') loops r q may p l h k =
        choice_ends env.names (value e (names_in here loops r)) (value u (names_in there loops q)) _ _ _ _ r q
        (values_same d m w mode env p.sound t (drop 2 is) (drop 2 js) e u loops r q l h.0 k.0)
        (rows_end env.names _ _ row row' loops r q
        (lists_end a env (drop (term_size t + 4) is) (drop (term_size t + 4) js) (items-the_row-Stmt _ row)
        (items-the_row-Stmt _ row') loops r q
        (may_inner mode env env (ChooseElse t a b) a (λ u. u.0) may) p l h.1 k.1))
        (rows_end env.names _ _ row2 row2' loops r q
        (lists_end b (more (declared_in a) env) (drop (term_size t + length (stmts a) + 7) is)
        (drop (term_size t + length (stmts (plain_stmts a)) + 7) js) (items-the_row-Stmt _ row2)
        (items-the_row-Stmt _ row2') loops r q
        (may_inner mode env (more (declared_in a) env) (ChooseElse t a b) b (λ u. u.1) may)
        (placed_more d mode env p (declared_in a)) l h.2
        (subst (λ (v : Env). AreStatements v (drop (term_size t + length (stmts (plain_stmts a)) + 7) js)
        (plain_stmts b) (items-the_row-Stmt _ row2'))
        (more_plain (declared_in (plain_stmts a)) (declared_in a) env (declared_plain a)) k.2)))
    one_ends (ChooseElse t a b) env is js (statement.If' e c row c2 row2) _ loops r q may p l h k = absurd k
    one_ends (ChooseElse t a b) env is js _ y loops r q may p l h k = absurd h
    one_ends (Directive g) env is js x y loops r q may p l h k = absurd h
    one_ends (OverBlock g b) env is js x y loops r q may p l h k = absurd h
    one_ends (OverLoop g e b) env is js x y loops r q may p l h k = absurd h
