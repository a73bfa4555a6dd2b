-- What is known of a text's targets, and of what stands outside of them.
use Rattle.std.proofs.Common.{◌≡◌, ℕ, Bool, true, false, List, Option, Some, None}
use Rattle.base.specs.declared.tree.ArrayId.{ArrayId}
use Rattle.c_grammar.specs.Lines.{is_target}
use Rattle.c_grammar.specs.Grammar.{Stmt, Declare, Assign, Store, Repeat, Choose, ChooseElse, Show, Block, Directive, Atomic, AtomicAssign, AtomicIf, OverBlock, OverLoop, Stmts, Done, Then}
use Rattle.c_statements.specs.Statements.{Env, box_for, scalar_or_box, with_scalar, behind, in_loop}
use Rattle.c_read.specs.Parts.{in_target}
use Rattle.erased_meaning.proofs.Entries.{Each}
use Rattle.erased_meaning.proofs.Boxes.{Layout}
use Rattle.erased_meaning.proofs.Apart.{IsSound, sound_loop, sound_behind}
use Rattle.erased_meaning.proofs.Likeness.{OnHost}
use Rattle.erased_meaning.proofs.Envs.{AreQuiet, IsPlaced}
use Rattle.erased_meaning.proofs.Parts.{IsOuter}

abbrev mutual
  -- the block or loop of each target reads and prints nothing, and assigns no scalar from outside that is not boxed
  pub IsSafe : Env → Stmt → Type 0
  IsSafe env (Repeat h b) = AreSafe (in_loop h.name env) b
  IsSafe env (Block b) = AreSafe env b
  IsSafe env (OverBlock l b) = (is_target l ≡ true → AreQuiet (in_target env) b) × (is_target l ≡ false → AreSafe env b)
  IsSafe env (OverLoop l h b) =
      (is_target l ≡ true → AreQuiet (in_target env) (Then (Repeat h b) Done)) × (is_target l ≡ false → AreSafe
      (in_loop h.name env) b)
  IsSafe env _ = Unit {0}

  pub AreSafe : Env → Stmts → Type 0
  AreSafe env Done = Unit {0}
  AreSafe env (Then s ss) = IsSafe env s × AreSafe (behind s env) ss

-- outside targets
pub record IsOutside (d : Layout) (env : Env) : Type 0 where
  pub outside : env.inside ≡ false
  pub names : Each IsOuter env.names
  pub sound : IsSound d env

pub placed_outside : (d : Layout) (before : List ℕ) (env : Env) → IsOutside d env → IsPlaced d (OnHost before) env
placed_outside d before env o = record { sound = o.sound; own = tt }

pub outside_loop : (d : Layout) (x : List ℕ) (env : Env) → IsOutside d env → IsOutside d (in_loop x env)
outside_loop d x env o = record { outside = o.outside; names = (tt, o.names); sound = sound_loop d x env o.sound }

-- no scalar is declared in a target
outer_new : (x : List ℕ) (env : Env) → env.inside ≡ false → Each IsOuter env.names →
    Each IsOuter (with_scalar x env).names
outer_new x env e o = (new env.inside (box_for x env) e, o)
  where
    new : (i : Bool) (b : Option ArrayId) → i ≡ false → IsOuter (x, scalar_or_box (record { 0 = env.scalars }) i b)
    new i None e = e
    new i (Some a) e = tt

outside_names : (s : Stmt) (env : Env) → env.inside ≡ false → Each IsOuter env.names →
    ((behind s env).inside ≡ false) × Each IsOuter (behind s env).names
outside_names (Declare x v) env e o = (e, outer_new x env e o)
outside_names (Assign x v) env e o = (e, o)
outside_names (Store x i v) env e o = (e, o)
outside_names (Repeat h b) env e o = (e, o)
outside_names (Choose c b) env e o = (e, o)
outside_names (ChooseElse c b d) env e o = (e, o)
outside_names (Show c) env e o = (e, o)
outside_names (Block b) env e o = (e, o)
outside_names (Directive l) env e o = (e, o)
outside_names (Atomic l x i v) env e o = (e, o)
outside_names (AtomicAssign l x v) env e o = (e, o)
outside_names (AtomicIf l s) env e o = outside_names s env e o
outside_names (OverBlock l b) env e o = (e, o)
outside_names (OverLoop l h b) env e o = (e, o)

pub outside_behind : (d : Layout) (s : Stmt) (env : Env) → IsOutside d env → IsOutside d (behind s env)
outside_behind d s env o =
    let all = outside_names s env o.outside o.names in
    record { outside = all.0; names = all.1; sound = sound_behind d s env o.sound }
