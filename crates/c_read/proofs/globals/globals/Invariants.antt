use Rattle.std.proofs.Common.{◌≡◌, [], ◌∷◌, length}
use Rattle.c_grammar.specs.Program.{Stack, Globals}
use Rattle.c_expressions.specs.Reading.{run}
use Rattle.c_expressions.specs.Cursor.{items}
use Rattle.c_expressions.specs.Scopes.{box_numbers, context_of}
use Rattle.c_read.specs.Globals.{AreGlobalsRead}
use Rattle.c_read.proofs.globals.globals.Given as goal

abbrev pub invariant-globals : goal.invariant-globals
invariant-globals l = record {
  read : (s : Stack) → run (context_of l.fn.scope 0 0) (Globals ∷ s) (items l.fn.tokens) ≡
      run (context_of l.scope 0 0) (Globals ∷ s) (items l.tokens);
  tree : AreGlobalsRead l.fn.scope l.scope [] l.arrays.entries (items l.fn.tokens) (items l.tokens);
  none : box_numbers l.scope ≡ [];
}

abbrev pub decreases-globals : goal.decreases-globals
decreases-globals l = length (items l.tokens)
