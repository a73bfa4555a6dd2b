-- The parts that a text means, and the one region that it means without its directives, run alike.
use Rattle.std.proofs.Common.{◌≡◌, ℕ, ◌+◌, List, [], ◌∷◌, ◌++◌, drop, Option, Some, None, refl, sym, ap, subst, ◌∙◌, arith, ◌⊎◌, inl, inr}
use Rattle.std.specs.Prelude.{option_and_then, option_map}
use mathlib.Core.Former.{Count}
use Rattle.base.specs.declared.tree.Bounds.{Bounds}
use Rattle.base.specs.declared.tree.Place.{Place}
use Rattle.base.specs.declared.tree.Part.{Part, Row_of-Part, items-the_row-Part}
use Rattle.base.specs.declared.tree.Part.TheVariants as part
use Rattle.base.specs.declared.tree.Stmt.{Stmt as Statement, items-the_row-Stmt}
use Rattle.base.specs.declared.tree.Stmt.TheVariants as statement
use Rattle.base.specs.Memory.{Memory, View, view_of}
use Rattle.base.specs.Meaning.{Run, Plain, turn, turns_of, all_turns, run_stmt, run_row, run_list, after_region, erased_part, erased_row}
use Rattle.c_grammar.specs.Grammar.{Head, Stmt, Declare, Assign, Store, Repeat, Choose, ChooseElse, Show, Block, Directive, Atomic, AtomicAssign, AtomicIf, OverBlock, OverLoop, Stmts, Done, Then}
use Rattle.c_expressions.specs.Means.{Items}
use Rattle.c_statements.specs.Statements.{Env, stmt_size, head_size, behind, more, declared_in, in_loop, IsHead, IsStatement, AreStatements}
use Rattle.c_read.specs.Parts.{Placed, plain, pieces_in, pieces_of, ArePieces, IsPart, IsHostLoop, OneLoop, AreMixed}
use Rattle.erasure.specs.Plain.{plain_before, plain_stmts}
use Rattle.erased_meaning.proofs.Boxes.{Layout}
use Rattle.erased_meaning.proofs.Likeness.{OnHost, Like}
use Rattle.erased_meaning.proofs.Envs.{plain_env, plain_one, plain_then, behind_plain, more_plain, declared_plain, agree_before}
use Rattle.erased_meaning.proofs.Statements.{same_bounds, turns_same, one_ends}
use Rattle.erased_meaning.proofs.Updates.{row_runs}
use Rattle.erased_meaning.proofs.Parts.{Ended, BothEnd, fresh, fresh_same, region_starts, region_ends, parts_run, parts_row, rest_run, region_then, ended_less, ended_then, ended_behind, ended_turns}
use Rattle.erased_meaning.proofs.Outside.{IsSafe, AreSafe, IsOutside, placed_outside, outside_loop, outside_behind}
use Rattle.erased_meaning.proofs.Targets.{is_target_line, is_data_line, target_block, target_loop, host_loop}

-- ---- pieces without places

unplaced : (env : Env) (is : Items) (ss : Stmts) (place : Place) (xs : List Statement) (rest : List Placed) →
    ArePieces env is ss (pieces_in place xs ++ rest) → ArePieces env is ss (plain xs ++ rest)
unplaced env is ss place [] rest h = h
unplaced env is Done place (x ∷ xs) rest h = absurd cc
unplaced env is (Then s ss) place (x ∷ xs) rest h = (tt, h.1, h.2)

module _ (lay : Layout) (w : Memory) where
  abbrev there : View
  there = view_of lay.second w

  -- the pieces of some statements run as the statements do that the text means without its directives
  abbrev pub RunsAlike : Stmts → Type 0
  RunsAlike ss =
      (env : Env) (is js : Items) (xs : List Statement) (ps : List Part) (ys : List Statement) (loops : List ℕ)
      (p : Plain) (r q : Run) →
      AreSafe env ss → IsOutside lay env → ArePieces env is ss (plain xs ++ pieces_of ps) →
      AreStatements (plain_env env) js (plain_stmts ss) ys →
      Like lay p.memory w (OnHost p.printed) env.names r q →
      BothEnd lay w env.names (rest_run lay.first ps loops p (run_list xs (view_of lay.first p.memory) loops r))
      (run_list ys there loops q)

  -- of parts that nothing is open before
  parts_alike : (ss : Stmts) → RunsAlike ss → (env : Env) (is js : Items) (ps : List Part) (ys : List Statement)
      (loops : List ℕ) (p : Plain) (q : Run) →
      AreSafe env ss → IsOutside lay env → ArePieces env is ss (pieces_of ps) →
      AreStatements (plain_env env) js (plain_stmts ss) ys →
      Ended lay w env.names p q → BothEnd lay w env.names (parts_run lay.first ps loops p) (run_list ys there loops q)
  parts_alike ss alike env is js ps ys loops p q safe o h k e =
      subst (λ (u : Plain). BothEnd lay w env.names (parts_run lay.first ps loops u) (run_list ys there loops q))
      (fresh_same p)
      (alike env is js [] ps ys loops p (fresh p) q safe o h k (region_starts lay w env.names p q e))

  -- ---- behind the last statement

  none_left : (env : Env) (ps : List Part) (loops : List ℕ) (p : Plain) (q : Run) → pieces_of ps ≡ [] →
      Ended lay w env.names p q →
      BothEnd lay w env.names (parts_run lay.first ps loops p) (Some q)
  none_left env [] loops p q h e = e
  none_left env (part.Host d ∷ ps) loops p q h e =
      go d.body.items h (λ i. none_left env ps loops p q i e)
    where
      go : (xs : List Statement) → pieces_in d.place xs ++ pieces_of ps ≡ [] →
          (pieces_of ps ≡ [] → BothEnd lay w env.names (parts_run lay.first ps loops p) (Some q)) →
          BothEnd lay w env.names (option_and_then (parts_run lay.first ps loops)
          (option_map (after_region p) (run_list xs (view_of lay.first p.memory) loops (fresh p)))) (Some q)
      go [] h rest =
          subst (λ (u : Plain). BothEnd lay w env.names (parts_run lay.first ps loops u) (Some q))
          (sym (fresh_same p)) (rest h)
      go (x ∷ xs) h rest = absurd cc
  none_left env (part.Block' c row ∷ ps) loops p q h e = absurd cc
  none_left env (part.Loop' b c row ∷ ps) loops p q h e = absurd cc
  none_left env (part.Target t d ∷ ps) loops p q h e = absurd cc
  none_left env (part.Data' g c row ∷ ps) loops p q h e = absurd cc
  none_left env (part.Alone at d ∷ ps) loops p q h e = absurd cc

  -- ---- blocks and loops

  block_part : (b : Stmts) → RunsAlike b → (env : Env) (is js : Items) (n : Count) (row : Row_of-Part n)
      (y : Statement) (loops : List ℕ) (p : Plain) (q : Run) →
      AreSafe env b → IsOutside lay env → ArePieces env is b (pieces_of (items-the_row-Part n row)) →
      IsStatement (plain_env env) js (Block (plain_stmts b)) y →
      Ended lay w env.names p q → BothEnd lay w env.names (erased_row row lay.first loops p) (run_stmt y there loops q)
  block_part b alike env is js n row (statement.Block' d row') loops p q safe o h k e =
      subst (λ (u : Option Plain). BothEnd lay w env.names u (run_row row' there loops q))
      (sym (parts_row lay.first n row loops p))
      (subst (λ (u : Option Run). BothEnd lay w env.names (parts_run lay.first (items-the_row-Part n row) loops p) u)
      (sym (row_runs _ row' there loops q))
      (parts_alike b alike env is (drop 1 js) (items-the_row-Part n row)
      (items-the_row-Stmt _ row') loops p q safe o h k e))
  block_part b alike env is js n row _ loops p q safe o h k e = absurd k

  loop_part : (d : Head) (b : Stmts) → RunsAlike b → (env : Env) (is js : Items) (a : Bounds) (n : Count)
      (row : Row_of-Part n) (y : Statement) (loops : List ℕ) (p : Plain) (q : Run) →
      AreSafe (in_loop d.name env) b → IsOutside lay env → IsHead d a →
      ArePieces (in_loop d.name env) is b (pieces_of (items-the_row-Part n row)) →
      IsStatement (plain_env env) js (Repeat d (plain_stmts b)) y → Ended lay w env.names p q →
      BothEnd lay w env.names (all_turns a (λ v. erased_row row lay.first (loops ++ v ∷ [])) p)
      (run_stmt y there loops q)
  loop_part d b alike env is js a n row (statement.Loop' a' c row') loops p q safe o g h k e =
      subst (λ (u : Option Run). BothEnd lay w env.names (all_turns a
      (λ v. erased_row row lay.first (loops ++ v ∷ [])) p) u) same
      (ended_turns lay w env.names (λ v. erased_row row lay.first (loops ++ v ∷ []))
      (λ v. run_row row' there (loops ++ v ∷ []))
      (λ v p q e. ended_less lay w (in_loop d.name env).names env.names (erased_row row lay.first (loops ++ v ∷ []) p)
      (run_row row' there (loops ++ v ∷ []) q) (λ m f g a. a.1)
      (subst (λ (u : Option Plain). BothEnd lay w (in_loop d.name env).names u
      (run_row row' there (loops ++ v ∷ []) q)) (sym (parts_row lay.first n row (loops ++ v ∷ []) p))
      (subst (λ (u : Option Run). BothEnd lay w (in_loop d.name env).names
      (parts_run lay.first (items-the_row-Part n row) (loops ++ v ∷ []) p) u)
      (sym (row_runs _ row' there (loops ++ v ∷ []) q))
      (parts_alike b alike (in_loop d.name env) is (drop (head_size d) js) (items-the_row-Part n row)
      (items-the_row-Stmt _ row') (loops ++ v ∷ []) p q safe
      (outside_loop lay d.name env o) h k.1
      (record { memory = e.memory; scalars = (tt, e.scalars); input = e.input; printed = e.printed })))))
      (turns_of a) a.first a.step p q e)
    where
      same : turn (turns_of a) a.first a.step (λ v. run_row row' there (loops ++ v ∷ [])) q
          ≡ all_turns a' (λ v. run_row row' there (loops ++ v ∷ [])) q
      same =
          ap (λ (n : ℕ). turn n a.first a.step (λ v. run_row row' there (loops ++ v ∷ [])) q)
          (turns_same a a' (same_bounds d a a' g k.0))
          ∙ ap (λ (v : ℕ). turn (turns_of a') v a.step (λ v. run_row row' there (loops ++ v ∷ [])) q)
          (same_bounds d a a' g k.0).0
          ∙ ap (λ (v : ℕ). turn (turns_of a') a'.first v (λ v. run_row row' there (loops ++ v ∷ [])) q)
          (same_bounds d a a' g k.0).2
  loop_part d b alike env is js a n row _ loops p q safe o g h k e = absurd k

  -- ---- a part and what follows it

  -- what follows a statement, from where the part and the statement end
  abbrev Follow : Env → Stmts → (Plain → Option Plain) → List ℕ → Type 0
  Follow env ss next loops =
      (ks : Items) (zs : List Statement) (p : Plain) (q : Run) → AreStatements (plain_env env) ks (plain_stmts ss) zs →
      Ended lay w env.names p q → BothEnd lay w env.names (next p) (run_list zs there loops q)

  -- where the text without directives has one statement for the part
  one_then : (s : Stmt) (n : ℕ) (ss : Stmts) (env : Env) (js : Items) (ys : List Statement) (o : Option Plain)
      (next : Plain → Option Plain) (loops : List ℕ) (q : Run) →
      behind s (plain_env env) ≡ plain_env (more n env) →
      AreStatements (plain_env env) js (Then s (plain_stmts ss)) ys →
      ((y : Statement) → IsStatement (plain_env env) js s y → BothEnd lay w env.names o (run_stmt y there loops q)) →
      Follow (more n env) ss next loops → BothEnd lay w env.names (option_and_then next o) (run_list ys there loops q)
  one_then s n ss env js [] o next loops q same k part follow = absurd k
  one_then s n ss env js (y ∷ ys) o next loops q same k part follow =
      let ks : Items = drop (stmt_size s) js in
      let rest : AreStatements (plain_env (more n env)) ks
      (plain_stmts ss) ys = subst (λ (e : Env). AreStatements e ks (plain_stmts ss) ys) same k.1 in
      ended_then lay w env.names env.names next (run_list ys there loops) o (run_stmt y there loops q) (part y k.0)
      (λ p q e. ended_less lay w (more n env).names env.names (next p) (run_list ys there loops q) (λ m f g a. a)
      (follow ks ys p q rest (record { memory = e.memory; scalars = e.scalars; input = e.input; printed = e.printed })))

  data_loop : (d : Head) (b : Stmts) → RunsAlike b → (env : Env) (is js : Items) (ps : List Part) (y : Statement)
      (loops : List ℕ) (p : Plain) (q : Run) →
      AreSafe (in_loop d.name env) b → IsOutside lay env →
      OneLoop (λ bounds ps. IsHead d bounds × AreMixed ps × ArePieces (in_loop d.name env) is b (pieces_of ps)) ps →
      IsStatement (plain_env env) js (Repeat d (plain_stmts b)) y → Ended lay w env.names p q →
      BothEnd lay w env.names (parts_run lay.first ps loops p) (run_stmt y there loops q)
  data_loop d b alike env is js (part.Loop' a c row ∷ []) y loops p q safe o h k e =
      subst (λ (u : Option Plain). BothEnd lay w env.names u (run_stmt y there loops q))
      (sym (last (all_turns a (λ v. erased_row row lay.first (loops ++ v ∷ [])) p)))
      (loop_part d b alike env is js a _ row y loops p q safe o h.0 h.2 k e)
    where
      last : (u : Option Plain) → option_and_then (λ s. Some s) u ≡ u
      last None = refl
      last (Some s) = refl
  data_loop d b alike env is js (part.Loop' a c row ∷ x ∷ ps) y loops p q safe o h k e = absurd h
  data_loop d b alike env is js (part.Host r ∷ ps) y loops p q safe o h k e = absurd h
  data_loop d b alike env is js (part.Block' c row ∷ ps) y loops p q safe o h k e = absurd h
  data_loop d b alike env is js (part.Target t r ∷ ps) y loops p q safe o h k e = absurd h
  data_loop d b alike env is js (part.Data' g c row ∷ ps) y loops p q safe o h k e = absurd h
  data_loop d b alike env is js (part.Alone at t ∷ ps) y loops p q safe o h k e = absurd h
  data_loop d b alike env is js [] y loops p q safe o h k e = absurd h

  -- the statements inside a statement with a directive
  abbrev InnerAlike : Stmt → Type 0
  InnerAlike (Repeat d b) = RunsAlike b
  InnerAlike (Block b) = RunsAlike b
  InnerAlike (OverBlock l b) = RunsAlike b
  InnerAlike (OverLoop l d b) = RunsAlike b
  InnerAlike _ = Unit {0}

  part_then : (s : Stmt) → InnerAlike s → (ss : Stmts) (env : Env) (is js : Items) (x : Part) (ys : List Statement)
      (next : Plain → Option Plain) (loops : List ℕ) (p : Plain) (q : Run) →
      IsSafe env s → IsOutside lay env → IsPart env is s x →
      AreStatements (plain_env env) js (plain_before s (plain_stmts ss)) ys →
      Ended lay w env.names p q → Follow (behind s env) ss next loops →
      BothEnd lay w env.names (option_and_then next (erased_part x lay.first loops p)) (run_list ys there loops q)
  part_then (Block b) alike ss env is js (part.Block' c row) ys next loops p q safe o h k e follow =
      one_then (Block (plain_stmts b)) (declared_in b) ss env js ys (erased_row row lay.first loops p) next loops q
      (more_plain _ _ env (declared_plain b)) k
      (λ y g. block_part b alike env (drop 1 is) js _ row y loops p q safe o h.1 g e) follow
  part_then (Repeat d b) alike ss env is js (part.Loop' a c row) ys next loops p q safe o h k e follow =
      one_then (Repeat d (plain_stmts b)) (declared_in b) ss env js ys _ next loops q
      (more_plain _ _ env (declared_plain b)) k
      (λ y g. loop_part d b alike env (drop (head_size d) is) js a _ row y loops p q safe o h.0 h.2 g e) follow
  part_then (OverBlock l b) alike ss env is js (part.Target t r) ys next loops p q safe o h k e follow =
      one_then (Block (plain_stmts b)) (declared_in b) ss env js ys _ next loops q
      (more_plain _ _ env (declared_plain b)) k
      (λ y g. target_block lay w b env (drop 2 is) js r y loops p q
      (safe.0 (is_target_line l h.0 h.1.kind)) o h.3 g e) follow
  part_then (OverLoop l d b) alike ss env is js (part.Target t r) ys next loops p q safe o h k e follow =
      one_then (Repeat d (plain_stmts b)) (declared_in b) ss env js ys _ next loops q
      (more_plain _ _ env (declared_plain b)) k
      (λ y g. target_loop lay w d b env (drop 1 is) js r y loops p q
      (safe.0 (is_target_line l h.0 h.1.kind)) o h.3 g e) follow
  part_then (OverBlock l b) alike ss env is js (part.Data' g c row) ys next loops p q safe o h k e follow =
      one_then (Block (plain_stmts b)) (declared_in b) ss env js ys (erased_row row lay.first loops p) next loops q
      (more_plain _ _ env (declared_plain b)) k
      (λ y g. block_part b alike env (drop 2 is) js _ row y loops p q
      (safe.1 (is_data_line l h.0 h.1.kind)) o h.3 g e) follow
  part_then (OverLoop l d b) alike ss env is js (part.Data' g c row) ys next loops p q safe o h k e follow =
      one_then (Repeat d (plain_stmts b)) (declared_in b) ss env js ys (erased_row row lay.first loops p) next loops q
      (more_plain _ _ env (declared_plain b)) k
      (λ y g. subst (λ (u : Option Plain). BothEnd lay w env.names u (run_stmt y there loops q))
      (sym (parts_row lay.first _ row loops p))
      (either y g h.2)) follow
    where
      either : (y : Statement) → IsStatement (plain_env env) js (Repeat d (plain_stmts b)) y →
          IsHostLoop env (drop 1 is) d b (items-the_row-Part _ row) ⊎
          OneLoop (λ bounds ps. IsHead d bounds × AreMixed ps × ArePieces (in_loop d.name env)
          (drop (1 + head_size d) is) b (pieces_of ps)) (items-the_row-Part _ row) →
          BothEnd lay w env.names (parts_run lay.first (items-the_row-Part _ row) loops p) (run_stmt y there loops q)
      either y g (inl host) = host_loop lay w d b env (drop 1 is) js (items-the_row-Part _ row) y loops p q o host g e
      either y g (inr loop) =
          data_loop d b alike env (drop (1 + head_size d) is) js (items-the_row-Part _ row) y loops p q
          (safe.1 (is_data_line l h.0 h.1.kind)) o loop g e
  part_then (Directive l) alike ss env is js (part.Alone at t) ys next loops p q safe o h k e follow =
      let none : env.scalars ≡ env.scalars + 0 = omega arith in
      follow js ys p q (subst (λ (n : ℕ). AreStatements (record (plain_env env) { scalars = n }) js
      (plain_stmts ss) ys) none k)
      (record { memory = e.memory; scalars = e.scalars; input = e.input; printed = e.printed })
  part_then (Block b) alike ss env is js _ ys next loops p q safe o h k e follow = absurd h
  part_then (Repeat d b) alike ss env is js _ ys next loops p q safe o h k e follow = absurd h
  part_then (OverBlock l b) alike ss env is js _ ys next loops p q safe o h k e follow = absurd h
  part_then (OverLoop l d b) alike ss env is js _ ys next loops p q safe o h k e follow = absurd h
  part_then (Directive l) alike ss env is js _ ys next loops p q safe o h k e follow = absurd h
  part_then (Declare v a) alike ss env is js x ys next loops p q safe o h k e follow = absurd h
  part_then (Assign v a) alike ss env is js x ys next loops p q safe o h k e follow = absurd h
  part_then (Store v i a) alike ss env is js x ys next loops p q safe o h k e follow = absurd h
  part_then (Atomic l v i a) alike ss env is js x ys next loops p q safe o h k e follow = absurd h
  part_then (AtomicAssign l v a) alike ss env is js x ys next loops p q safe o h k e follow = absurd h
  part_then (AtomicIf l t) alike ss env is js x ys next loops p q safe o h k e follow = absurd h
  part_then (Choose t a) alike ss env is js x ys next loops p q safe o h k e follow = absurd h
  part_then (ChooseElse t a b) alike ss env is js x ys next loops p q safe o h k e follow = absurd h
  part_then (Show t) alike ss env is js x ys next loops p q safe o h k e follow = absurd h

  -- ---- one statement more

  then_then : {A B : Type 0} (f : A → Option B) (g : Run → Option A) (o : Option Run) →
      option_and_then f (option_and_then g o) ≡ option_and_then (λ r. option_and_then f (g r)) o
  then_then f g None = refl
  then_then f g (Some r) = refl

  module _ (s : Stmt) (ss : Stmts) (alike : RunsAlike ss) (inner : InnerAlike s) (env : Env) (is js : Items)
      (ys : List Statement) (loops : List ℕ)
      (safe : AreSafe env (Then s ss)) (o : IsOutside lay env)
      (k : AreStatements (plain_env env) js (plain_stmts (Then s ss)) ys) where
    statement_then : (x : Statement) (xs : List Statement) (ps : List Part) (p : Plain) (r q : Run) →
        IsStatement env is s x →
        ArePieces (behind s env) (drop (stmt_size s) is) ss (plain xs ++ pieces_of ps) →
        Like lay p.memory w (OnHost p.printed) env.names r q →
        BothEnd lay w env.names
        (rest_run lay.first ps loops p (run_list (x ∷ xs) (view_of lay.first p.memory) loops r))
        (run_list ys there loops q)
    statement_then x xs ps p r q h rest l =
        go ys (subst (λ (b : Stmts). AreStatements (plain_env env) js b ys)
        (plain_then env is s x (plain_stmts ss) h) k)
      where
        go : (ys : List Statement) → AreStatements (plain_env env) js (Then (plain_one s) (plain_stmts ss)) ys →
            BothEnd lay w env.names
            (rest_run lay.first ps loops p (run_list (x ∷ xs) (view_of lay.first p.memory) loops r))
            (run_list ys there loops q)
        go [] k = absurd k
        go (y ∷ ys) k =
            let view : View = view_of lay.first p.memory in
            let ks : Items = drop (stmt_size (plain_one s)) js in
            let more : AreStatements (plain_env (behind s env)) ks (plain_stmts ss) ys =
            subst (λ (e : Env). AreStatements e ks (plain_stmts ss) ys) (behind_plain env is s x h) k.1 in
            let after : Run → Option Plain = λ r. rest_run lay.first ps loops p (run_list xs view loops r) in
            let both : BothEnd lay w (behind s env).names (option_and_then after (run_stmt x view loops r))
            (run_list (y ∷ ys) there loops q) =
            ended_behind lay w (OnHost p.printed) p.memory (behind s env).names (behind s env).names after
            (run_list ys there loops)
            (run_stmt x view loops r) (run_stmt y there loops q)
            (one_ends lay p.memory w (OnHost p.printed) s env is js x y loops r q tt
            (placed_outside lay p.printed env o) l h k.0)
            (λ r q l. alike (behind s env) (drop (stmt_size s) is) ks xs ps ys loops p r q safe.1
            (outside_behind lay s env o) rest more l) in
            ended_less lay w (behind s env).names env.names (rest_run lay.first ps loops p
            (run_list (x ∷ xs) view loops r)) (run_list (y ∷ ys) there loops q)
            (agree_before s env)
            (subst (λ (u : Option Plain). BothEnd lay w (behind s env).names u (run_list (y ∷ ys) there loops q))
            (sym (then_then (λ r. parts_run lay.first ps loops (after_region p r)) (run_list xs view loops)
            (run_stmt x view loops r))) both)

    part_case : (x : Part) (ps : List Part) (p : Plain) (q : Run) → IsPart env is s x →
        ArePieces (behind s env) (drop (stmt_size s) is) ss (pieces_of ps) →
        Ended lay w env.names p q → BothEnd lay w env.names
        (option_and_then (parts_run lay.first ps loops) (erased_part x lay.first loops p)) (run_list ys there loops q)
    part_case x ps p q h rest e =
        part_then s inner ss env is js x ys (parts_run lay.first ps loops) loops p q safe.0 o h k e
        (λ ks zs p q g e. parts_alike ss alike (behind s env) (drop (stmt_size s) is) ks ps zs loops p q safe.1
        (outside_behind lay s env o) rest g e)

    pieces_then : (ps : List Part) (xs : List Statement) (p : Plain) (r q : Run) →
        ArePieces env is (Then s ss) (plain xs ++ pieces_of ps) →
        Like lay p.memory w (OnHost p.printed) env.names r q →
        BothEnd lay w env.names (rest_run lay.first ps loops p (run_list xs (view_of lay.first p.memory) loops r))
        (run_list ys there loops q)
    pieces_then ps (x ∷ xs) p r q h l = statement_then x xs ps p r q h.1 h.2 l
    pieces_then [] [] p r q h l = absurd h
    pieces_then (part.Host d ∷ ps) [] p r q h l =
        let next : Plain = after_region p r in
        subst (λ (u : Option Plain). BothEnd lay w env.names u (run_list ys there loops q))
        (sym (region_then lay.first ps loops next (run_list d.body.items (view_of lay.first next.memory) loops
        (fresh next))))
        (pieces_then ps d.body.items next (fresh next) q (unplaced env is (Then s ss) d.place d.body.items
        (pieces_of ps) h)
        (region_starts lay w env.names next q (region_ends lay w env.names p r q l)))
    pieces_then (part.Block' c row ∷ ps) [] p r q h l =
        part_case (part.Block' c row) ps (after_region p r) q h.1 h.2 (region_ends lay w env.names p r q l)
    pieces_then (part.Loop' a c row ∷ ps) [] p r q h l =
        part_case (part.Loop' a c row) ps (after_region p r) q h.1 h.2 (region_ends lay w env.names p r q l)
    pieces_then (part.Target t d ∷ ps) [] p r q h l =
        part_case (part.Target t d) ps (after_region p r) q h.1 h.2 (region_ends lay w env.names p r q l)
    pieces_then (part.Data' g c row ∷ ps) [] p r q h l =
        part_case (part.Data' g c row) ps (after_region p r) q h.1 h.2 (region_ends lay w env.names p r q l)
    pieces_then (part.Alone at t ∷ ps) [] p r q h l =
        part_case (part.Alone at t) ps (after_region p r) q h.1 h.2 (region_ends lay w env.names p r q l)

  pieces_done : RunsAlike Done
  pieces_done env is js (x ∷ xs) ps ys loops p r q safe o h k l = absurd cc
  pieces_done env is js [] ps [] loops p r q safe o h k l =
      none_left env ps loops (after_region p r) q h (region_ends lay w env.names p r q l)
  pieces_done env is js [] ps (y ∷ ys) loops p r q safe o h k l = absurd k

  mutual
    runs_alike : (b : Stmts) → RunsAlike b
    runs_alike Done = pieces_done
    runs_alike (Then s ss) =
        λ env is js xs ps ys loops p r q safe o h k l.
        pieces_then s ss (runs_alike ss) (inner_alike s) env is js ys loops safe o k ps xs p r q h l

    inner_alike : (s : Stmt) → InnerAlike s
    inner_alike (Repeat d b) = runs_alike b
    inner_alike (Block b) = runs_alike b
    inner_alike (OverBlock l b) = runs_alike b
    inner_alike (OverLoop l d b) = runs_alike b
    inner_alike (Declare x v) = tt
    inner_alike (Assign x v) = tt
    inner_alike (Store x i v) = tt
    inner_alike (Choose e a) = tt
    inner_alike (ChooseElse e a b) = tt
    inner_alike (Show e) = tt
    inner_alike (Directive l) = tt
    inner_alike (Atomic l x i v) = tt
    inner_alike (AtomicAssign l x v) = tt
    inner_alike (AtomicIf l s) = tt

  -- the parts of a text and the statements that it means without its directives
  pub texts_alike : (b : Stmts) (env : Env) (is js : Items) (ps : List Part) (ys : List Statement) (loops : List ℕ)
      (p : Plain) (q : Run) →
      AreSafe env b → IsOutside lay env → ArePieces env is b (pieces_of ps) →
      AreStatements (plain_env env) js (plain_stmts b) ys →
      Ended lay w env.names p q → BothEnd lay w env.names (parts_run lay.first ps loops p) (run_list ys there loops q)
  texts_alike b = parts_alike b (runs_alike b)
