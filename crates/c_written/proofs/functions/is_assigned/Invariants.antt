use Rattle.std.proofs.Common.{◌≡◌, ◌∷◌, length}
use Rattle.c_grammar.specs.Blocks.{bare}
use Rattle.c_grammar.specs.Functions.{is_assigned}
use Rattle.c_terminals.specs.Ahead.{ahead}
use Rattle.c_terminals.specs.Seen.{seen, seen_all}
use Rattle.c_written.proofs.functions.is_assigned.Given as goal

abbrev pub invariant-tokens : goal.invariant-tokens
invariant-tokens l = is_assigned l.name (seen l.before ∷ ahead l.ahead) ≡ is_assigned l.name (bare (seen_all l.fn.tokens))

abbrev pub decreases-tokens : goal.decreases-tokens
decreases-tokens l = length (ahead l.ahead)
