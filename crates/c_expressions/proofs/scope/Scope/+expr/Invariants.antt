use Rattle.std.proofs.Common.{◌≡◌, ◌+◌, ◌-◌, ◌*◌, ◌∷◌}
use Rattle.c_grammar.specs.Program.{Stack, Atom, Tail}
use Rattle.c_tokens.specs.declared.limits.TheConstants.{MAX_TOKENS}
use Rattle.c_expressions.specs.Reading.{run}
use Rattle.c_expressions.specs.Cursor.{items}
use Rattle.c_expressions.specs.Scopes.{context_of, names_of}
use Rattle.c_expressions.specs.Trees.{IsRead, IsFurther}
use Rattle.c_expressions.proofs.scope.Scope.+expr.Given as goal

abbrev pub decreases-chain : goal.decreases-chain
decreases-chain l = 8 * (MAX_TOKENS + 1 - l.tally.now.tokens) + 4

abbrev pub decreases-operand : goal.decreases-operand
decreases-operand l = 8 * (MAX_TOKENS + 1 - l.tally.now.tokens) + 3

abbrev pub decreases-named : goal.decreases-named
decreases-named l = 8 * (MAX_TOKENS + 1 - l.tally.now.tokens) + 2

abbrev pub decreases-prefixed : goal.decreases-prefixed
decreases-prefixed l = 8 * (MAX_TOKENS + 1 - l.tally.now.tokens) + 2

abbrev pub decreases-group : goal.decreases-group
decreases-group l = 8 * (MAX_TOKENS + 1 - l.tally.now.tokens) + 2

abbrev pub decreases-extended : goal.decreases-extended
decreases-extended l = 8 * (MAX_TOKENS + 1 - l.tally.now.tokens) + 2

abbrev pub decreases-joined : goal.decreases-joined
decreases-joined l = 8 * (MAX_TOKENS + 1 - l.tally.now.tokens) + 1

abbrev pub decreases-index : goal.decreases-index
decreases-index l = 8 * (MAX_TOKENS + 1 - l.tally.now.tokens) + 1

abbrev pub invariant-chain-operators : goal.invariant-chain-operators
invariant-chain-operators l = record {
  read : (s : Stack) → run (context_of l.self l.depth l.fn.tally.tokens) (Atom ∷ Tail 9 ∷ s) (items l.fn.tokens) ≡
      run (context_of l.self l.depth l.tally.tokens) (Tail l.tally.top ∷ s) (items l.tokens);
  tree : IsRead (names_of l.self) l.least l.tally.top (items l.fn.tokens) (items l.tokens) l.left;
  tally : IsFurther l.fn.tally l.tally;
}

abbrev pub decreases-chain-operators : goal.decreases-chain-operators
decreases-chain-operators l = MAX_TOKENS - l.tally.tokens
