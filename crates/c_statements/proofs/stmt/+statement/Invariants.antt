use Rattle.std.proofs.Common.{◌≡◌, ◌+◌, ◌*◌, ◌∷◌, length}
use Rattle.c_grammar.specs.Program.{Stack, Body}
use Rattle.c_expressions.specs.Cursor.{items}
use Rattle.c_expressions.specs.Reading.{run}
use Rattle.c_expressions.specs.Scopes.{context_of}
use Rattle.c_statements.specs.Bodies.{IsSameBlock}
use Rattle.c_statements.specs.Simple.{env_of}
use Rattle.c_statements.proofs.Fronts.{AreFront}
use Rattle.c_statements.proofs.stmt.+statement.Given as goal

abbrev pub decreases-body : goal.decreases-body
decreases-body l = 8 * length (items l.tokens.now) + 6

abbrev pub decreases-statements : goal.decreases-statements
decreases-statements l = 8 * length (items l.tokens.now) + 5

abbrev pub decreases-statement : goal.decreases-statement
decreases-statement l = 8 * length (items l.tokens.now) + 4

abbrev pub decreases-blocked : goal.decreases-blocked
decreases-blocked l = 8 * length (items l.tokens.now) + 3

abbrev pub decreases-marked : goal.decreases-marked
decreases-marked l = 8 * length (items l.tokens.now) + 4

abbrev pub decreases-atomic_update : goal.decreases-atomic_update
decreases-atomic_update l = 8 * length (items l.tokens.now) + 3

abbrev pub decreases-choice : goal.decreases-choice
decreases-choice l = 8 * length (items l.tokens.now) + 3

abbrev pub decreases-looped : goal.decreases-looped
decreases-looped l = 8 * length (items l.tokens.now) + 3

abbrev pub invariant-statements-statements : goal.invariant-statements-statements
invariant-statements-statements l = record {
  read : (s : Stack) → run (context_of l.fn.scope 0 0) (Body ∷ s) (items l.fn.tokens) ≡
      run (context_of l.scope 0 0) (Body ∷ s) (items l.tokens);
  scope : IsSameBlock l.fn.scope l.scope;
  tree : AreFront (env_of l.fn.scope) (env_of l.scope) (items l.fn.tokens) (items l.tokens) l.statements.items;
}

abbrev pub decreases-statements-statements : goal.decreases-statements-statements
decreases-statements-statements l = length (items l.tokens)
