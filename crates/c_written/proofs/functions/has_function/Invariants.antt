use Rattle.std.proofs.Common.{◌≡◌, length}
use Rattle.std.specs.Prelude.{◌||◌}
use Rattle.c_grammar.specs.Blocks.{bare}
use Rattle.c_grammar.specs.Functions.{has_function, is_static}
use Rattle.c_terminals.specs.Ahead.{ahead}
use Rattle.c_terminals.specs.Seen.{seen_all}
use Rattle.c_written.proofs.functions.has_function.Given as goal

abbrev pub invariant-tokens : goal.invariant-tokens
invariant-tokens l =
    (has_function (ahead l.ahead) || is_static (ahead l.ahead))
    ≡ (has_function (bare (seen_all l.fn.tokens)) || is_static (bare (seen_all l.fn.tokens)))

abbrev pub decreases-tokens : goal.decreases-tokens
decreases-tokens l = length (ahead l.ahead)
