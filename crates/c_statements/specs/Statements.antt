-- Which statement a text means: names are resolved by declaration, and each place is that of its token.
use Rattle.std.specs.Prelude.{◌≡◌, ℕ, ◌+◌, Bool, ◌||◌, if◌then◌else◌, List, [], ◌∷◌, length, drop, Option, Some, None, is_some}
use Rattle.base.specs.declared.tree.ArrayId.{ArrayId}
use Rattle.base.specs.declared.tree.Bounds.{Bounds}
use Rattle.base.specs.declared.tree.Expr.TheVariants.{Number}
use Rattle.base.specs.declared.tree.ScalarId.{ScalarId}
use Rattle.base.specs.declared.tree.Source.{Source as Assigned}
use Rattle.base.specs.declared.tree.Source.TheVariants as from
use Rattle.base.specs.declared.tree.Stmt.{Stmt as Statement, items-the_row-Stmt}
use Rattle.base.specs.declared.tree.Stmt.TheVariants as statement
use Rattle.c_grammar.specs.Grammar.{Source, Input, Value, Head, head_slots, Stmt, Declare, Assign, Store, Repeat, Choose, ChooseElse, Show, Block, Directive, Atomic, AtomicAssign, AtomicIf, OverBlock, OverLoop, stmt, source, Term, Stmts, Done, Then, stmts}
use Rattle.c_expressions.specs.declared.scope.Meaning.{Meaning}
use Rattle.c_expressions.specs.declared.scope.Meaning.TheVariants as meaning
use Rattle.c_expressions.specs.Means.{Items, Names, meaning_of, place_of, term_size, MeansBoxed, MeansScalar, IsExpr}
use Rattle.c_expressions.specs.Scopes.{Boxes, box_of}
use Rattle.c_statements.specs.Updates.{as_update}

-- what stands before a statement: the names that can be used, the boxed scalars, how many scalars are declared, how many
-- loops stand around, and whether a target does
pub record Env : Type 0 where
  pub names : Names
  pub boxes : Boxes
  pub scalars : ℕ
  pub loops : ℕ
  pub inside : Bool

abbrev pub stmt_size : Stmt → ℕ
stmt_size s = length (stmt s)

abbrev pub source_size : Source → ℕ
source_size v = length (source v)

-- a loop's head with the word before it and the brace behind it
abbrev pub head_size : Head → ℕ
head_size h = length (head_slots h) + 2

abbrev mutual
  -- how many scalars a statement declares
  pub declared_by : Stmt → ℕ
  declared_by (Declare x v) = 1
  declared_by (Repeat h b) = declared_in b
  declared_by (Choose e a) = declared_in a
  declared_by (ChooseElse e a b) = declared_in a + declared_in b
  declared_by (Block b) = declared_in b
  declared_by (OverBlock l b) = declared_in b
  declared_by (OverLoop l h b) = declared_in b
  declared_by (Assign x v) = 0
  declared_by (Store x i v) = 0
  declared_by (Show e) = 0
  declared_by (Directive l) = 0
  declared_by (Atomic l x i v) = 0
  declared_by (AtomicAssign l x v) = 0
  declared_by (AtomicIf l s) = declared_by s

  pub declared_in : Stmts → ℕ
  declared_in Done = 0
  declared_in (Then s ss) = declared_by s + declared_in ss

abbrev pub more : ℕ → Env → Env
more n env = record env { scalars = env.scalars + n }

-- the array whose cell a scalar of that name is, if it is boxed where it is declared there
abbrev pub box_for : List ℕ → Env → Option ArrayId
box_for x env = if env.inside || is_some (meaning_of env.names x) then None else box_of env.boxes x

abbrev pub scalar_or_box : ScalarId → Bool → Option ArrayId → Meaning
scalar_or_box n inside None = meaning.Scalar n inside
scalar_or_box n inside (Some a) = meaning.Boxed a n

abbrev pub with_scalar : List ℕ → Env → Env
with_scalar x env =
    record env {
      names = (x, scalar_or_box (record { 0 = env.scalars }) env.inside (box_for x env)) ∷ env.names;
      scalars = env.scalars + 1;
    }

-- behind a statement: a declaration's name is visible to the end of its block
abbrev pub behind : Stmt → Env → Env
behind (Declare x v) env = with_scalar x env
behind (AtomicIf l s) env = behind s env
behind s env = more (declared_by s) env

-- in a loop of that name
abbrev pub in_loop : List ℕ → Env → Env
in_loop x env = record env { names = (x, meaning.Loop env.loops) ∷ env.names; loops = env.loops + 1 }

pub record IsHead (h : Head) (b : Bounds) : Type 0 where
  pub first : h.first ≡ Some b.first
  pub limit : h.limit ≡ Some b.end
  pub step : h.step ≡ Some b.step

abbrev pub IsSource : Env → Items → Source → Assigned → Type 0
IsSource env is Input from.Read = Unit {0}
IsSource env is (Value t) (from.Value e) = IsExpr env.names is t e
IsSource env is _ _ = ⊥

-- an assignment to a scalar of that name, whose name is the first of these tokens
abbrev pub IsAssign : Env → Items → List ℕ → Source → Statement → Type 0
IsAssign env is x v (statement.Assign id w) = MeansScalar (meaning_of env.names x) id × IsSource env (drop 2 is) v w
IsAssign env is x v (statement.Store a at e w) =
    MeansBoxed (meaning_of env.names x) a × (at ≡ place_of is) × (e ≡ Number 0) × IsSource env (drop 2 is) v w
IsAssign env is x v _ = ⊥

-- a store in an array of that name, whose name is the first of these tokens
abbrev pub IsStore : Env → Items → List ℕ → Term → Source → Statement → Type 0
IsStore env is x i v (statement.Store a at e w) =
    (meaning_of env.names x ≡ Some (meaning.Array a)) × (at ≡ place_of is) × IsExpr env.names (drop 2 is) i e ×
    IsSource env (drop (term_size i + 4) is) v w
IsStore env is x i v _ = ⊥

abbrev mutual
  -- the statement that a text without a directive of a part means, where the text is spelled by the first of these
  -- tokens; the line of an atomic update and the assignment or if behind it mean the update that this is
  pub IsStatement : Env → Items → Stmt → Statement → Type 0
  IsStatement env is (Declare x v) (statement.Declare id w) =
      (box_for x env ≡ None) × (id.0 ≡ env.scalars) × IsSource env (drop 3 is) v w
  IsStatement env is (Declare x v) (statement.Store a at e w) =
      (box_for x env ≡ Some a) × (at ≡ place_of (drop 1 is)) × (e ≡ Number 0) × IsSource env (drop 3 is) v w
  IsStatement env is (Assign x v) s = IsAssign env is x v s
  IsStatement env is (Store x i v) s = IsStore env is x i v s
  IsStatement env is (Atomic l x i v) s = (u : Statement) × IsStore env (drop 1 is) x i v u × (s ≡ as_update u)
  IsStatement env is (AtomicAssign l x v) s = (u : Statement) × IsAssign env (drop 1 is) x v u × (s ≡ as_update u)
  IsStatement env is (AtomicIf l t) s = (u : Statement) × IsStatement env (drop 1 is) t u × (s ≡ as_update u)
  IsStatement env is (Show t) (statement.Print e) = IsExpr env.names (drop 2 is) t e
  IsStatement env is (Block b) (statement.Block' shape row) =
      AreStatements env (drop 1 is) b (items-the_row-Stmt _ row)
  IsStatement env is (Repeat h b) (statement.Loop' bounds shape row) =
      IsHead h bounds × AreStatements (in_loop h.name env) (drop (head_size h) is) b (items-the_row-Stmt _ row)
  IsStatement env is (Choose t a) (statement.If' e shape row shape' row') =
      IsExpr env.names (drop 2 is) t e × AreStatements env (drop (term_size t + 4) is) a (items-the_row-Stmt _ row) ×
      (items-the_row-Stmt _ row' ≡ [])
  IsStatement env is (ChooseElse t a b) (statement.If' e shape row shape' row') =
      IsExpr env.names (drop 2 is) t e × AreStatements env (drop (term_size t + 4) is) a (items-the_row-Stmt _ row) ×
      AreStatements (more (declared_in a) env) (drop (term_size t + length (stmts a) + 7) is) b
      (items-the_row-Stmt _ row')
  IsStatement env is _ _ = ⊥

  pub AreStatements : Env → Items → Stmts → List Statement → Type 0
  AreStatements env is Done [] = Unit {0}
  AreStatements env is (Then s ss) (x ∷ xs) =
      IsStatement env is s x × AreStatements (behind s env) (drop (stmt_size s) is) ss xs
  AreStatements env is _ _ = ⊥
