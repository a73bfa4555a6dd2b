-- A loop with other bounds.
use Rattle.std.proofs.Common.{◌≡◌, ℕ, suc, Bool, List, [], ◌∷◌, ◌++◌, Option, Some, None, refl, sym, ◌∙◌, ap, subst}
use Rattle.std.specs.Prelude.{◌&&◌, ◌||◌, not, nat_lt, option_and_then}
use Rattle.std.proofs.lemmas.Option.{same_Some, none-some}
use mathlib.Core.Path.{fun_ext}
use Rattle.base.specs.declared.tree.Bounds.{Bounds}
use Rattle.base.specs.declared.tree.Stmt.{Stmt, Row_of-Stmt, end_of-Stmt, more_of-Stmt}
use Rattle.base.specs.declared.tree.Stmt.TheVariants.{Declare, Assign, Store, Combine, Print, Block', Loop', If'}
use Rattle.base.specs.Memory.{View}
use Rattle.base.specs.Meaning.{Run, all_turns, run_stmt, run_row, run_list}
use Rattle.base.specs.ScalarUse.{list_assigned, list_needs, row_assigned, row_needs, sets, stmt_assigned, stmt_needs}
use Rattle.base.specs.Turns.{Turn, listed, loop_of, turns_at}
use Rattle.spans.specs.Spans.{list_sure, list_updates, row_sure, row_updates, span_turns, sure_by, updates}

pub row_runs : {m : _} (row : Row_of-Stmt m) (view : View) (loops : List ℕ) (s : Run) →
    run_row row view loops s ≡ run_list (listed row) view loops s
row_runs end_of-Stmt view loops s = refl
row_runs (more_of-Stmt first rest) view loops s =
    ap (λ (f : Run → Option Run). option_and_then f (run_stmt first view loops s))
    (fun_ext (λ (t : Run). row_runs rest view loops t))

needs_are : {m : _} (row : Row_of-Stmt m) (x : ℕ) → row_needs x row ≡ list_needs x (listed row)
needs_are end_of-Stmt x = refl
needs_are (more_of-Stmt first rest) x =
    ap (λ (b : Bool). stmt_needs x first || (not (sets x first) && b)) (needs_are rest x)

assigned_are : {m : _} (row : Row_of-Stmt m) → row_assigned row ≡ list_assigned (listed row)
assigned_are end_of-Stmt = refl
assigned_are (more_of-Stmt first rest) = ap (λ (xs : List ℕ). stmt_assigned first ++ xs) (assigned_are rest)

sure_are : {m : _} (row : Row_of-Stmt m) (x : ℕ) → row_sure x row ≡ list_sure x (listed row)
sure_are end_of-Stmt x = refl
sure_are (more_of-Stmt first rest) x = ap (λ (b : Bool). sure_by x first || b) (sure_are rest x)

updates_are : {m : _} (row : Row_of-Stmt m) → row_updates row ≡ list_updates (listed row)
updates_are end_of-Stmt = refl
updates_are (more_of-Stmt first rest) = ap (λ (b : Bool). updates first || b) (updates_are rest)

-- a statement that is a loop with this body, and what it is with other bounds
pub record Looped (body : List Stmt) : Type 0 where
  pub at : Bounds → Stmt
  pub runs : (b : Bounds) (view : View) (loops : List ℕ) (s : Run) →
      run_stmt (at b) view loops s ≡ all_turns b (λ v. run_list body view (loops ++ v ∷ [])) s
  pub needs : (b : Bounds) (x : ℕ) → stmt_needs x (at b) ≡ list_needs x body
  pub assigned : (b : Bounds) → stmt_assigned (at b) ≡ list_assigned body
  pub sure : (b : Bounds) (x : ℕ) → sure_by x (at b) ≡ (nat_lt b.first b.end && list_sure x body)
  pub updates : (b : Bounds) → updates (at b) ≡ list_updates body
  pub turns : (d : ℕ) (b : Bounds) (loops : List ℕ) → turns_at (suc d) (at b ∷ []) loops ≡ span_turns d b body loops

pub looped : (s : Stmt) (b : Bounds) (body : List Stmt) → loop_of s ≡ Some (b, body) → Looped body
looped (Declare x v) b body h = absurd (none-some (b, body) h)
looped (Assign x v) b body h = absurd (none-some (b, body) h)
looped (Store a place e v) b body h = absurd (none-some (b, body) h)
looped (Combine op a place e v) b body h = absurd (none-some (b, body) h)
looped (Print e) b body h = absurd (none-some (b, body) h)
looped (Block' shape all) b body h = absurd (none-some (b, body) h)
looped (If' c shape all shape' all') b body h = absurd (none-some (b, body) h)
looped (Loop' c shape all) b body h =
    subst Looped (ap (λ (l : Bounds × List Stmt). l.1) (same_Some (c, listed all) (b, body) h))
    (record {
      at = λ b. Loop' b shape all;
      runs = λ b view loops s. ap (λ (f : ℕ → Run → Option Run). all_turns b f s)
          (fun_ext (λ (v : ℕ). fun_ext (λ (t : Run). row_runs all view (loops ++ v ∷ []) t)));
      needs = λ b x. needs_are all x;
      assigned = λ b. assigned_are all;
      sure = λ b x. ap (λ (q : Bool). nat_lt b.first b.end && q) (sure_are all x);
      updates = λ b. updates_are all;
      turns = λ d b loops. refl;
    })
