-- Statements that were read, and what is left of the names declared in them.
use Rattle.std.specs.Prelude.{◌≡◌, ◌<◌, ◌≤◌, ◌+◌, ◌∷◌, ◌++◌, ◌||◌, ℕ, false, length, drop, List, Option, Some}
use Rattle.std.specs.Borrow.{Bor}
use Rattle.c_tokens.specs.declared.kind.Sign.TheVariants as sign
use Rattle.base.specs.declared.tree.Stmt.{Stmt as Statement}
use Rattle.c_grammar.specs.Terminal.{Mark}
use Rattle.c_grammar.specs.Grammar.{Stmts, stmts, AreStmts}
use Rattle.c_grammar.specs.Rules.{inside, under_if, below}
use Rattle.c_expressions.specs.declared.changes.Turn.{Turn}
use Rattle.c_expressions.specs.declared.scope.Scope.{Scope}
use Rattle.c_expressions.specs.Changes.{turn_names, names_below}
use Rattle.c_expressions.specs.Means.{Items}
use Rattle.c_expressions.specs.Reading.{terminals, kinds}
use Rattle.c_expressions.specs.Scopes.{boxes_of, context_of, frames_of, names_of}
use Rattle.c_statements.specs.Statements.{Env, declared_in, more, AreStatements}
use Rattle.c_statements.specs.Simple.{loops_in}

-- behind the name that is being declared
abbrev pub naming : Scope → Bor (List ℕ) → Scope
naming s x = record s { fresh = Some x }

-- of the open blocks only the innermost may have more names
pub record IsSameBlock (old new : Scope) : Type 0 where
  pub frames : below (frames_of new) ≡ below (frames_of old)
  pub names : names_below new ≡ names_below old
  pub inside : inside (context_of new 0 0) ≡ inside (context_of old 0 0)
  pub choice : under_if (context_of new 0 0) ≡ under_if (context_of old 0 0)
  pub target : old.target ≡ false → new.target ≡ false
  pub waiting : old.choice ≡ false → new.choice ≡ false
  pub statements : old.statements ≤ new.statements
  pub boxes : (context_of new 0 0).boxes ≡ (context_of old 0 0).boxes

-- the innermost block is closed
pub record IsLeft (old new : Scope) : Type 0 where
  pub frames : frames_of new ≡ below (frames_of old)
  pub names : names_of new ≡ names_below old
  pub target : old.target ≡ false → new.target ≡ false
  pub waiting : old.choice ≡ false → new.choice ≡ false
  pub statements : old.statements ≤ new.statements
  pub boxes : (context_of new 0 0).boxes ≡ (context_of old 0 0).boxes

-- the next block is not that of a target, and each loop around has begun as a statement
pub record IsReady (s : Scope) : Type 0 where
  pub target : s.target ≡ false
  pub loops : loops_in (names_of s) ≤ s.statements

-- what stands before the first statement of a body that is opened next
abbrev pub inner_env : Option Turn → Scope → Env
inner_env t s =
    record {
      names = turn_names t ++ names_of s;
      boxes = boxes_of s;
      scalars = s.scalars;
      loops = loops_in (turn_names t ++ names_of s);
      inside = inside (context_of s 0 0) || s.target;
    }

-- the statements of a block and the brace that ends it; next is how many scalars are declared behind them
pub record AreStmtsRead (env : Env) (next : ℕ) (before after : Items) (xs : List Statement) : Type 0 where
  pub texts : Stmts
  pub tokens : terminals before ≡ kinds (stmts texts) ++ (Mark sign.CloseBrace ∷ terminals after)
  pub rest : after ≡ drop (length (stmts texts) + 1) before
  pub are_texts : AreStmts texts
  pub fewer : length after < length before
  pub means : AreStatements env before texts xs
  pub scalars : next ≡ env.scalars + declared_in texts

-- statements in braces; env is what stands before them, inner what stands behind the first brace, next what stands
-- behind the last
pub record IsBodyRead (env inner next : Env) (before after : Items) (xs : List Statement) : Type 0 where
  pub texts : Stmts
  pub tokens : terminals before ≡ Mark sign.OpenBrace ∷
      (kinds (stmts texts) ++ (Mark sign.CloseBrace ∷ terminals after))
  pub rest : after ≡ drop (length (stmts texts) + 2) before
  pub are_texts : AreStmts texts
  pub fewer : length after < length before
  pub means : AreStatements inner (drop 1 before) texts xs
  pub next_is : next ≡ more (declared_in texts) env
