use Rattle.std.proofs.Common.{◌≡◌, [], length}
use Rattle.c_grammar.specs.Blocks.{bare}
use Rattle.c_grammar.specs.Expressions.{Nothing, expression}
use Rattle.c_terminals.specs.Ahead.{ahead}
use Rattle.c_terminals.specs.Seen.{seen_all}
use Rattle.c_written.specs.Values.{seen_values}
use Rattle.c_written.specs.Reader.{rest_of}
use Rattle.c_written.proofs.expressions.expression.Given as goal

abbrev pub invariant-tokens : goal.invariant-tokens
invariant-tokens l =
    rest_of l.reader (ahead l.ahead) ≡ expression (seen_values l.fn.values) l.fn.single Nothing [] 0 (bare (seen_all l.fn.tokens))

abbrev pub decreases-tokens : goal.decreases-tokens
decreases-tokens l = length (ahead l.ahead)
