use Rattle.std.proofs.Common.{◌≡◌, ◌+◌, ◌*◌, ◌∷◌, length}
use Rattle.c_grammar.specs.Program.{Stack, Body}
use Rattle.c_expressions.specs.Cursor.{items}
use Rattle.c_expressions.specs.Reading.{run}
use Rattle.c_expressions.specs.Scopes.{context_of}
use Rattle.c_statements.specs.Bodies.{IsSameBlock}
use Rattle.c_statements.specs.Simple.{env_of}
use Rattle.c_read.specs.Gathering.{so_far, IsGathered}
use Rattle.c_read.proofs.Pieces.{IsFrontRead}
use Rattle.c_read.proofs.parts.+piece.Given as goal

abbrev pub decreases-gather : goal.decreases-gather
decreases-gather l = 8 * length (items l.tokens.now) + 5

abbrev pub decreases-piece : goal.decreases-piece
decreases-piece l = 8 * length (items l.tokens.now) + 4

abbrev pub decreases-blocked : goal.decreases-blocked
decreases-blocked l = 8 * length (items l.tokens.now) + 3

abbrev pub decreases-looped : goal.decreases-looped
decreases-looped l = 8 * length (items l.tokens.now) + 3

abbrev pub decreases-directed : goal.decreases-directed
decreases-directed l = 8 * length (items l.tokens.now) + 3

abbrev pub decreases-turns : goal.decreases-turns
decreases-turns l = 8 * length (items l.tokens.now) + 6

abbrev pub decreases-data_parts : goal.decreases-data_parts
decreases-data_parts l = 8 * length (items l.tokens.now) + 6

abbrev pub invariant-gather-pieces : goal.invariant-gather-pieces
invariant-gather-pieces l = record {
  read : (s : Stack) → run (context_of l.fn.scope 0 0) (Body ∷ s) (items l.fn.tokens) ≡
      run (context_of l.scope 0 0) (Body ∷ s) (items l.tokens);
  scope : IsSameBlock l.fn.scope l.scope;
  tree : IsFrontRead (env_of l.fn.scope) (env_of l.scope) (items l.fn.tokens) (items l.tokens) (so_far l.gathered);
  sound : IsGathered l.gathered;
}

abbrev pub decreases-gather-pieces : goal.decreases-gather-pieces
decreases-gather-pieces l = length (items l.tokens)

abbrev pub decreases-over : goal.decreases-over
decreases-over l = 8 * length (items l.tokens.now) + 7
