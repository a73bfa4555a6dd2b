use Rattle.std.proofs.Common.{◌≡◌, false, length}
use Rattle.c_grammar.specs.Blocks.{bare}
use Rattle.c_grammar.specs.Macros.{has_call}
use Rattle.c_terminals.specs.Ahead.{ahead}
use Rattle.c_terminals.specs.Seen.{seen_all}
use Rattle.c_macros.proofs.text.has_call.Given as goal

abbrev pub invariant-tokens : goal.invariant-tokens
invariant-tokens l = has_call l.named (ahead l.ahead) ≡ has_call false (bare (seen_all l.fn.tokens))

abbrev pub decreases-tokens : goal.decreases-tokens
decreases-tokens l = length (ahead l.ahead)
