-- A statement is begun.
use Rattle.std.proofs.Common.{◌≡◌, ◌⊎◌, inl, inr, ℕ, zero, suc, ◌+◌, ◌*◌, ◌∷◌, ◌++◌, [], List, Bor, Vec, Global, ap, sym, ◌∙◌, subst, arith}
use Rattle.base.specs.declared.tree.ArrayId.{ArrayId}
use Rattle.base.specs.declared.tree.CombineOp.{CombineOp}
use Rattle.base.specs.declared.tree.ScalarId.{ScalarId}
use Rattle.base.specs.declared.tree.Place.{Place}
use Rattle.base.specs.declared.tree.Expr.{Expr}
use Rattle.base.specs.declared.tree.Bounds.{Bounds}
use Rattle.base.specs.declared.tree.Source.{Source}
use Rattle.base.specs.declared.tree.Stmt.{Stmt, Block, Loop, If}
use Rattle.base.specs.declared.tree.Stmt.TheVariants as stmt
use Rattle.base.specs.Meaning.{Run, turns_of}
use Rattle.fine_machine.specs.Left.{Left, Side, expr_left, list_left, turns_left}
use Rattle.actions.proofs.Lasts.{front_more}
use Rattle.actions.specs.declared.strand.Strand.{Strand}
use Rattle.actions.specs.declared.stack.Frames.{Frames}
use Rattle.actions.specs.declared.turns.Turns.{Turns}
use Rattle.actions.specs.declared.frame.Frame.TheVariants as frame
use Rattle.actions.specs.Rest.{frames_of, front_of, rest_of}
use Rattle.actions.specs.Weight.{expr_weight, list_weight, weight}
use Rattle.actions.proofs.StmtRests.{left_Block, left_Loop, left_If, weight_Block, weight_Loop, weight_If}
use Rattle.actions.specs.Strand.{BeginsAt, BeginsSource, BeginsStmt, run_of, side_of, stack_of}

pub begins_set : (s : Stmt) (x : ScalarId) (v : Source) (old new : Strand) →
    (s ≡ stmt.Declare x v) ⊎ (s ≡ stmt.Assign x v) →
    BeginsSource v (frame.Assign x) old new → BeginsStmt s old new
unfolding rest_of
begins_set s x v old new (inl is) b =
    subst (λ t. BeginsStmt t old new) (sym is) (record {
      left = b.left;
      weight = b.weight ∙ grind (arith);
    })
begins_set s x v old new (inr is) b =
    subst (λ t. BeginsStmt t old new) (sym is) (record {
      left = b.left;
      weight = b.weight ∙ grind (arith);
    })

pub begins_print : (s : Stmt) (e : Expr) (old new : Strand) → s ≡ stmt.Print e →
    BeginsAt e frame.Print old new → BeginsStmt s old new
unfolding rest_of
begins_print s e old new is b =
    subst (λ t. BeginsStmt t old new) (sym is) (record {
      left = b.left;
      weight = b.weight ∙ grind (arith);
    })

pub begins_store : (s : Stmt) (a : ArrayId) (place : Place) (e : Expr) (v : Bor Source) (old new : Strand) →
    s ≡ stmt.Store a place e v.now → BeginsAt e (frame.Subscript a v) old new → BeginsStmt s old new
unfolding rest_of
begins_store s a place e v old new is b =
    subst (λ t. BeginsStmt t old new) (sym is) (record {
      left = b.left;
      weight = b.weight ∙ grind (arith);
    })

pub begins_combine : (s : Stmt) (op : CombineOp) (a : ArrayId) (place : Place) (e : Expr) (v : Bor Expr) (old new : Strand) →
    s ≡ stmt.Combine op a place e v.now → BeginsAt e (frame.Place op a v) old new → BeginsStmt s old new
unfolding rest_of
begins_combine s op a place e v old new is b =
    subst (λ t. BeginsStmt t old new) (sym is) (record {
      left = b.left;
      weight = b.weight ∙ grind (arith);
    })

pub begins_block : (s : Stmt) (all : Vec Stmt Global) (xs : Bor (List Stmt)) (c : Strand) (frames : Frames) →
    s ≡ Block all → xs.now ≡ all.items → frames_of frames ≡ frame.Rest xs ∷ stack_of c →
    BeginsStmt s c (record c { frames = frames })
unfolding rest_of weight
begins_block s all xs c frames is xs_is frames_is =
    let side = side_of c.on_host in
    let k = λ (t : Run). rest_of side (stack_of c) c.loops.items 0 t in
    subst (λ t. BeginsStmt t c (record c { frames = frames })) (sym is) (record {
      left =
          ap (λ fs. rest_of side fs c.loops.items c.number (run_of c)) frames_is
          ∙ ap (λ ys. list_left ys side c.loops.items (run_of c) k) xs_is
          ∙ sym (left_Block all side c.loops.items (run_of c) k);
      weight =
          ap weight frames_is ∙ ap (λ ys. (1 + list_weight ys) + weight (stack_of c)) xs_is
          ∙ grind (arith, weight_Block all);
    })

-- the turns of a loop, as the machine has them
turns_with : Side → (Run → List ℕ → Left) → Run → ℕ → ℕ → ℕ → List Stmt → List ℕ → Left
turns_with side k s left next step body loops =
    turns_left left next step (λ v. list_left body side (loops ++ v ∷ [])) s (λ t. k t loops)

pub begins_loop : (s : Stmt) (b : Bounds) (body : Vec Stmt Global) (turns : Turns) (xs : Bor (List Stmt)) (c : Strand)
    (frames : Frames) (loops : Vec ℕ Global) → s ≡ Loop b body → turns.left ≡ turns_of b → turns.next ≡ b.first →
    turns.step ≡ b.step → xs.now ≡ body.items → frames_of frames ≡ frame.Turns turns xs ∷ stack_of c →
    loops.items ≡ c.loops.items ++ 0 ∷ [] → BeginsStmt s c (record c { frames = frames; loops = loops })
unfolding rest_of weight turns_with
begins_loop s b body turns xs c frames loops is left_is next_is step_is xs_is frames_is loops_is =
    let side = side_of c.on_host in
    let k = λ (t : Run) (ls : List ℕ). rest_of side (stack_of c) ls 0 t in
    subst (λ t. BeginsStmt t c (record c { frames = frames; loops = loops })) (sym is) (record {
      left =
          ap (λ fs. rest_of side fs loops.items c.number (run_of c)) frames_is
          ∙ (λ i. turns_with side k (run_of c) (left_is i) (next_is i) (step_is i) (xs_is i)
          ((ap front_of loops_is ∙ front_more c.loops.items 0) i))
          ∙ sym (left_Loop b body side c.loops.items (run_of c) (λ t. k t c.loops.items));
      weight =
          ap weight frames_is
          ∙ (λ i. (1 + left_is i * (2 + list_weight (xs_is i))) + weight (stack_of c))
          ∙ grind (arith, weight_Loop b body);
    })

pub begins_if : (s : Stmt) (e : Expr) (first second : Vec Stmt Global) (xs ys : Bor (List Stmt)) (old new : Strand) →
    s ≡ If e first second → xs.now ≡ first.items → ys.now ≡ second.items →
    BeginsAt e (frame.Choose xs ys) old new → BeginsStmt s old new
unfolding rest_of
begins_if s e first second xs ys old new is xs_is ys_is b =
    let side = side_of old.on_host in
    let k = λ (t : Run). rest_of side (stack_of old) old.loops.items 0 t in
    subst (λ t. BeginsStmt t old new) (sym is) (record {
      left =
          b.left
          ∙ (λ i. expr_left e side old.loops.items (run_of old).scalars
          (λ n. elim n [
            | zero ↦ list_left (ys_is i) side old.loops.items (run_of old) k
            | suc m ↦ list_left (xs_is i) side old.loops.items (run_of old) k
          ]))
          ∙ sym (left_If e first second side old.loops.items (run_of old) k);
      weight =
          b.weight
          ∙ (λ i. ((2 + (list_weight (xs_is i) + list_weight (ys_is i))) + weight (stack_of old)) + expr_weight e)
          ∙ grind (arith, weight_If e first second);
    })
