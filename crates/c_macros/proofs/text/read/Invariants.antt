use Rattle.std.proofs.Common.{◌≡◌, length}
use Rattle.c_grammar.specs.Macros.{begin, read}
use Rattle.c_macros.specs.Text.{seen_state}
use Rattle.c_terminals.specs.Seen.{seen_all}
use Rattle.c_macros.proofs.text.read.Given as goal

abbrev pub invariant-tokens : goal.invariant-tokens
invariant-tokens l = read (seen_state l.state) (seen_all l.rest) ≡ read begin (seen_all l.fn.tokens)

abbrev pub decreases-tokens : goal.decreases-tokens
decreases-tokens l = length l.rest
