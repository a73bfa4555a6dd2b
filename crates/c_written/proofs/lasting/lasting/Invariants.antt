use Rattle.std.proofs.Common.{◌≡◌, ◌++◌, length}
use Rattle.c_grammar.specs.Lasting.{lasting, lasting_in}
use Rattle.c_terminals.specs.Seen.{seen_all}
use Rattle.c_written.specs.Lasting.{seen_state}
use Rattle.c_written.proofs.lasting.lasting.Given as goal

abbrev pub invariant-tokens : goal.invariant-tokens
invariant-tokens l =
    seen_all l.done.items ++ lasting_in (seen_state l.state) (seen_all l.rest) ≡ lasting (seen_all l.fn.tokens)

abbrev pub decreases-tokens : goal.decreases-tokens
decreases-tokens l = length l.rest
