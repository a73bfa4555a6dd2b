-- Statements that are one loop.
use Rattle.std.proofs.Common.{◌≡◌, ℕ, suc, List, [], ◌∷◌, ◌++◌, Option, Some, None, refl, sym, ◌∙◌, ap, Vec, Global, length, get_or, arith}
use Rattle.std.specs.Prelude.{option_and_then}
use Rattle.std.proofs.lemmas.Option.{same_Some, none-some}
use mathlib.Core.Former.{Count}
use mathlib.Core.Path.{fun_ext}
use Rattle.base.specs.declared.tree.Bounds.{Bounds}
use Rattle.base.specs.declared.tree.Stmt.{Stmt, Loop, Row_of-Stmt, end_of-Stmt, more_of-Stmt, items-the_row-Stmt, items_hidden-the_row-Stmt-0}
use Rattle.base.specs.declared.tree.Stmt.TheVariants.{Declare, Assign, Store, Combine, Print, Block', Loop', If'}
use Rattle.base.proofs.StmtRows.{first_row}
use Rattle.base.specs.Memory.{View}
use Rattle.base.specs.Meaning.{Run, all_turns, run_stmt, run_list, turns_of}
use Rattle.base.specs.Turns.{Turn, each_turn, listed, loop_of, only_loop, turns_at}
use Rattle.spans.specs.Spans.{span_turns}
use Rattle.spans.proofs.Looped.{row_runs}

row_listed : (n : Count) (row : Row_of-Stmt n) → listed row ≡ items-the_row-Stmt n row
row_listed n end_of-Stmt = refl
row_listed n (more_of-Stmt first rest) = ap (λ xs. first ∷ xs) (row_listed _ rest)

-- a loop whose statements stand in a vector
pub is_loop : (s : Stmt) (b : Bounds) (body : Vec Stmt Global) (xs : List Stmt) → s ≡ Loop b body →
    xs ≡ body.items → loop_of s ≡ Some (b, xs)
is_loop s b body xs is same =
    ap loop_of is
    ∙ ap (λ ys. Some (b, ys)) (row_listed (first_row (Loop b body)).0 (first_row (Loop b body)).1
    ∙ items_hidden-the_row-Stmt-0 body ∙ sym same)

pub one_loop : (all : List Stmt) (s : Stmt) → length all ≡ 1 → s ≡ get_or all 0 s → only_loop all ≡ loop_of s
one_loop [] s e is = absurd (omega arith)
one_loop (t ∷ []) s e is = ap loop_of (sym is)
one_loop (t ∷ u ∷ rest) s e is = absurd (omega arith)

-- what such a loop does
loop_runs : (s : Stmt) (b : Bounds) (body : List Stmt) → loop_of s ≡ Some (b, body) → (view : View) (loops : List ℕ)
    (r : Run) → run_stmt s view loops r ≡ all_turns b (λ v. run_list body view (loops ++ v ∷ [])) r
loop_runs (Declare x v) b body h view loops r = absurd (none-some (b, body) h)
loop_runs (Assign x v) b body h view loops r = absurd (none-some (b, body) h)
loop_runs (Store a place e v) b body h view loops r = absurd (none-some (b, body) h)
loop_runs (Combine op a place e v) b body h view loops r = absurd (none-some (b, body) h)
loop_runs (Print e) b body h view loops r = absurd (none-some (b, body) h)
loop_runs (Block' shape all) b body h view loops r = absurd (none-some (b, body) h)
loop_runs (If' c shape all shape' all') b body h view loops r = absurd (none-some (b, body) h)
loop_runs (Loop' c shape all) b body h view loops r =
    ap (λ (f : ℕ → Run → Option Run). all_turns c f r)
    (fun_ext (λ (v : ℕ). fun_ext (λ (t : Run). row_runs all view (loops ++ v ∷ []) t)))
    ∙ ap (λ (l : Bounds × List Stmt). all_turns l.0 (λ v. run_list l.1 view (loops ++ v ∷ [])) r)
    (same_Some (c, listed all) (b, body) h)

and_some : (o : Option Run) → option_and_then (λ s. Some s) o ≡ o
and_some None = refl
and_some (Some s) = refl

pub only_statement : (all : List Stmt) (b : Bounds) (body : List Stmt) → only_loop all ≡ Some (b, body) →
    (s : Stmt) × (all ≡ s ∷ []) × (loop_of s ≡ Some (b, body))
only_statement [] b body h = absurd (none-some (b, body) h)
only_statement (s ∷ []) b body h = (s, refl, h)
only_statement (s ∷ t ∷ rest) b body h = absurd (none-some (b, body) h)

pub only_runs : (all : List Stmt) (b : Bounds) (body : List Stmt) → only_loop all ≡ Some (b, body) → (view : View)
    (loops : List ℕ) (r : Run) → run_list all view loops r ≡ all_turns b (λ v. run_list body view (loops ++ v ∷ [])) r
only_runs all b body h view loops r =
    let s = only_statement all b body h in
    ap (λ xs. run_list xs view loops r) s.1
    ∙ and_some (run_stmt s.0 view loops r) ∙ loop_runs s.0 b body s.2 view loops r

-- and its turns
pub only_turns : (d : ℕ) (all : List Stmt) (b : Bounds) (body : List Stmt) → only_loop all ≡ Some (b, body) →
    (loops : List ℕ) → turns_at (suc d) all loops ≡ span_turns d b body loops
only_turns d all b body h loops =
    ap (λ o. elim o as (λ z. List Turn) [
      | None ↦ record { loops = loops; body = all } ∷ []
      | Some l ↦ each_turn (turns_of l.0) l.0.first l.0.step (λ v. turns_at d l.1 (loops ++ v ∷ []))
    ]) h
