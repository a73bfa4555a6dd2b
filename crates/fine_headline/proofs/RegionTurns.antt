-- A region is its turns one after the other.
use Rattle.std.proofs.Common.{◌≡◌, ℕ, zero, suc, ◌+◌, List, [], ◌∷◌, ◌++◌, Option, Some, None, refl, sym, ◌∙◌, ap}
use Rattle.std.specs.Prelude.{option_and_then}
use Rattle.base.specs.declared.tree.Stmt.{Stmt, Row_of-Stmt, end_of-Stmt, more_of-Stmt}
use Rattle.base.specs.declared.tree.Stmt.TheVariants.{Declare, Assign, Store, Combine, Print, Block', Loop', If'}
use Rattle.base.specs.Memory.{View}
use Rattle.base.specs.Meaning.{Run, turn, turns_of, run_stmt, run_row, run_list}
use Rattle.base.specs.Turns.{Turn, listed, each_turn, turns_at}

and_some : (o : Option Run) → option_and_then (λ s. Some s) o ≡ o
and_some None = refl
and_some (Some s) = refl

and_and : (f g : Run → Option Run) (o : Option Run) →
    option_and_then (λ s. option_and_then g (f s)) o ≡ option_and_then g (option_and_then f o)
and_and f g None = refl
and_and f g (Some s) = refl

and_alike : (f g : Run → Option Run) → ((s : Run) → f s ≡ g s) → (o : Option Run) →
    option_and_then f o ≡ option_and_then g o
and_alike f g h None = refl
and_alike f g h (Some s) = h s

elim_alike : (f g : Run → Option Run) → ((s : Run) → f s ≡ g s) → (o : Option Run) →
    elim o [ None ↦ None | Some s ↦ f s ] ≡ option_and_then g o
elim_alike f g h None = refl
elim_alike f g h (Some s) = h s

module _ (view : View) where
  -- the turns one after the other, each from the scalars that the one before it leaves
  abbrev pub all_run : List Turn → Run → Option Run
  all_run [] s = Some s
  all_run (t ∷ rest) s = option_and_then (all_run rest) (run_list t.body view t.loops s)

  run_append : (xs ys : List Turn) (s : Run) → all_run (xs ++ ys) s ≡ option_and_then (all_run ys) (all_run xs s)
  run_append [] ys s = refl
  run_append (t ∷ xs) ys s =
      and_alike (all_run (xs ++ ys)) (λ s. option_and_then (all_run ys) (all_run xs s)) (run_append xs ys)
      (run_list t.body view t.loops s)
      ∙ and_and (all_run xs) (all_run ys) (run_list t.body view t.loops s)

  listed_runs : {m : _} (row : Row_of-Stmt m) (loops : List ℕ) (s : Run) →
      run_row row view loops s ≡ run_list (listed row) view loops s
  listed_runs end_of-Stmt loops s = refl
  listed_runs (more_of-Stmt first rest) loops s =
      and_alike (run_row rest view loops) (run_list (listed rest) view loops) (listed_runs rest loops)
      (run_stmt first view loops s)

  each_runs : (f : ℕ → Run → Option Run) (turns : ℕ → List Turn) → ((v : ℕ) (s : Run) → f v s ≡ all_run (turns v) s) →
      (n v step : ℕ) (s : Run) → turn n v step f s ≡ all_run (each_turn n v step turns) s
  each_runs f turns h zero v step s = refl
  each_runs f turns h (suc n) v step s =
      elim_alike (turn n (v + step) step f) (all_run (each_turn n (v + step) step turns))
      (each_runs f turns h n (v + step) step) (f v s)
      ∙ (ap (option_and_then (all_run (each_turn n (v + step) step turns))) (h v s)
      ∙ sym (run_append (turns v) (each_turn n (v + step) step turns) s))

  pub turns_run : (d : ℕ) (body : List Stmt) (loops : List ℕ) (s : Run) →
      run_list body view loops s ≡ all_run (turns_at d body loops) s
  turns_run zero body loops s = sym (and_some (run_list body view loops s))
  turns_run (suc d) [] loops s = refl
  turns_run (suc d) (st ∷ u ∷ rest) loops s = sym (and_some (run_list (st ∷ u ∷ rest) view loops s))
  turns_run (suc d) (Loop' b shape all ∷ []) loops s =
      and_some (turn (turns_of b) b.first b.step (λ v. run_row all view (loops ++ v ∷ [])) s)
      ∙ each_runs (λ v. run_row all view (loops ++ v ∷ [])) (λ v. turns_at d (listed all) (loops ++ v ∷ []))
      (λ v s. listed_runs all (loops ++ v ∷ []) s ∙ turns_run d (listed all) (loops ++ v ∷ []) s)
      (turns_of b) b.first b.step s
  turns_run (suc d) (Declare x v ∷ []) loops s = sym (and_some (run_list (Declare x v ∷ []) view loops s))
  turns_run (suc d) (Assign x v ∷ []) loops s = sym (and_some (run_list (Assign x v ∷ []) view loops s))
  turns_run (suc d) (Store a place e v ∷ []) loops s =
      sym (and_some (run_list (Store a place e v ∷ []) view loops s))
  turns_run (suc d) (Combine op a place e v ∷ []) loops s =
      sym (and_some (run_list (Combine op a place e v ∷ []) view loops s))
  turns_run (suc d) (Print e ∷ []) loops s = sym (and_some (run_list (Print e ∷ []) view loops s))
  turns_run (suc d) (Block' shape all ∷ []) loops s =
      sym (and_some (run_list (Block' shape all ∷ []) view loops s))
  turns_run (suc d) (If' c shape all shape' all' ∷ []) loops s =
      sym (and_some (run_list (If' c shape all shape' all' ∷ []) view loops s))
