-- Targets, and loops of the host in a region with mapped data.
use Rattle.std.proofs.Common.{◌≡◌, ℕ, true, false, List, [], ◌∷◌, drop, Option, Some, None, refl, sym, ap, subst, ◌∙◌}
use Rattle.std.specs.Prelude.{option_and_then}
use Rattle.base.specs.declared.tree.Region.{Region}
use Rattle.base.specs.declared.tree.Part.{Part}
use Rattle.base.specs.declared.tree.Part.TheVariants as part
use Rattle.base.specs.declared.tree.Stmt.{Stmt as Statement, items-the_row-Stmt}
use Rattle.base.specs.declared.tree.Stmt.TheVariants as statement
use Rattle.base.specs.Memory.{Memory, View, view_of}
use Rattle.base.specs.Meaning.{Run, Plain, run_stmt, run_list, after_region, run_kernel}
use Rattle.c_grammar.specs.Lexeme.{Lexeme}
use Rattle.c_grammar.specs.LineGrammar as line
use Rattle.c_grammar.specs.Lines.{is_target, is_target_kind}
use Rattle.c_grammar.specs.Grammar.{Head, Repeat, Block, Stmts, Done, Then}
use Rattle.c_grammar.proofs.LineKinds.{kind_is}
use Rattle.c_expressions.specs.Means.{Items}
use Rattle.c_statements.specs.Statements.{Env, IsStatement, AreStatements}
use Rattle.c_constructs.specs.LineMeaning.{LineOf}
use Rattle.c_read.specs.Parts.{in_target, IsHostLoop}
use Rattle.erasure.specs.Plain.{plain_stmts}
use Rattle.erased_meaning.proofs.Boxes.{Layout}
use Rattle.erased_meaning.proofs.Likeness.{OnHost, Both}
use Rattle.erased_meaning.proofs.Envs.{plain_env, AreQuiet}
use Rattle.erased_meaning.proofs.Statements.{lists_end}
use Rattle.erased_meaning.proofs.Updates.{row_runs}
use Rattle.erased_meaning.proofs.Parts.{Ended, BothEnd, fresh, region_starts, region_ends, parts_run, rest_run, region_then, ended_behind, kernel_end}
use Rattle.erased_meaning.proofs.Outside.{IsOutside, placed_outside}

-- ---- the kind of a line

pub is_target_line : (l : List Lexeme) (u : LineOf l) → is_target_kind u.text.kind ≡ true → is_target l ≡ true
unfolding is_target
is_target_line l u e =
    ap is_target (sym u.tokens) ∙ ap is_target_kind (kind_is u.text.kind u.text.clauses) ∙ e

pub is_data_line : (l : List Lexeme) (u : LineOf l) → u.text.kind ≡ line.Data → is_target l ≡ false
unfolding is_target
is_data_line l u e =
    ap is_target (sym u.tokens) ∙ ap is_target_kind (kind_is u.text.kind u.text.clauses ∙ e)

none_on : (o : Option Run) → option_and_then (λ s. Some s) o ≡ o
none_on None = refl
none_on (Some r) = refl

module _ (lay : Layout) (w : Memory) where
  abbrev there : View
  there = view_of lay.second w

  -- ---- targets

  pub target_block : (b : Stmts) (env : Env) (is js : Items) (r : Region) (y : Statement) (loops : List ℕ) (p : Plain)
      (q : Run) →
      AreQuiet (in_target env) b → IsOutside lay env → AreStatements (in_target env) is b r.body.items →
      IsStatement (plain_env env) js (Block (plain_stmts b)) y →
      Ended lay w env.names p q → BothEnd lay w env.names (run_kernel lay.first r loops p) (run_stmt y there loops q)
  target_block b env is js r (statement.Block' d row') loops p q quiet o h k e =
      subst (λ (u : Option Run). BothEnd lay w env.names (run_kernel lay.first r loops p) u)
      (sym (row_runs _ row' there loops q))
      (kernel_end lay w b env is (drop 1 js) r.body.items
      (items-the_row-Stmt _ row') loops p q quiet o.names o.sound h k e)
  target_block b env is js r _ loops p q quiet o h k e = absurd k

  pub target_loop : (d : Head) (b : Stmts) (env : Env) (is js : Items) (r : Region) (y : Statement) (loops : List ℕ)
      (p : Plain) (q : Run) →
      AreQuiet (in_target env) (Then (Repeat d b) Done) → IsOutside lay env →
      AreStatements (in_target env) is (Then (Repeat d b) Done) r.body.items →
      IsStatement (plain_env env) js (Repeat d (plain_stmts b)) y → Ended lay w env.names p q →
      BothEnd lay w env.names (run_kernel lay.first r loops p) (run_stmt y there loops q)
  target_loop d b env is js r y loops p q quiet o h k e =
      subst (λ (u : Option Run). BothEnd lay w env.names (run_kernel lay.first r loops p) u)
      (none_on (run_stmt y there loops q))
      (kernel_end lay w (Then (Repeat d b) Done) env is js r.body.items (y ∷ []) loops p q quiet o.names o.sound h
      (k, tt) e)

  -- ---- loops of the host in a region with mapped data

  pub host_loop : (d : Head) (b : Stmts) (env : Env) (is js : Items) (ps : List Part) (y : Statement) (loops : List ℕ)
      (p : Plain) (q : Run) →
      IsOutside lay env → IsHostLoop env is d b ps → IsStatement (plain_env env) js (Repeat d (plain_stmts b)) y →
      Ended lay w env.names p q →
      BothEnd lay w env.names (parts_run lay.first ps loops p) (run_stmt y there loops q)
  host_loop d b env is js (part.Host r ∷ []) y loops p q o h k e =
      let view : View = view_of lay.first p.memory in
      let run : Both lay p.memory w (OnHost p.printed) env.names (run_list r.body.items view loops (fresh p))
      (run_list (y ∷ []) there loops q) =
      lists_end lay p.memory w (OnHost p.printed) (Then (Repeat d b) Done) env is js r.body.items (y ∷ []) loops
      (fresh p) q tt (placed_outside lay p.printed env o)
      (region_starts lay w env.names p q e) h.1 (k, tt) in
      subst (λ (u : Option Plain). BothEnd lay w env.names u (run_stmt y there loops q))
      (sym (region_then lay.first [] loops p (run_list r.body.items view loops (fresh p))))
      (subst (λ (u : Option Run). BothEnd lay w env.names (rest_run lay.first [] loops p
      (run_list r.body.items view loops (fresh p))) u)
      (none_on (option_and_then (λ s. Some s) (run_stmt y there loops q)) ∙ none_on (run_stmt y there loops q))
      (ended_behind lay w (OnHost p.printed) p.memory env.names env.names (λ s. Some (after_region p s)) (λ s. Some s)
      (run_list r.body.items view loops (fresh p)) (run_list (y ∷ []) there loops q) run
      (λ r q l. region_ends lay w env.names p r q l)))
  host_loop d b env is js (part.Host r ∷ x ∷ ps) y loops p q o h k e = absurd h
  host_loop d b env is js (part.Block' c row ∷ ps) y loops p q o h k e = absurd h
  host_loop d b env is js (part.Loop' a c row ∷ ps) y loops p q o h k e = absurd h
  host_loop d b env is js (part.Target t r ∷ ps) y loops p q o h k e = absurd h
  host_loop d b env is js (part.Data' g c row ∷ ps) y loops p q o h k e = absurd h
  host_loop d b env is js (part.Alone at t ∷ ps) y loops p q o h k e = absurd h
  host_loop d b env is js [] y loops p q o h k e = absurd h
