use Rattle.std.proofs.Common.{◌≡◌, [], length}
use Rattle.c_grammar.specs.Functions.{returned}
use Rattle.c_terminals.specs.Seen.{seen_all}
use Rattle.c_written.proofs.functions.returned_in.Given as goal

abbrev pub invariant-tokens : goal.invariant-tokens
invariant-tokens l = returned (seen_all l.front.items) (seen_all l.rest) ≡ returned [] (seen_all l.fn.body)

abbrev pub decreases-tokens : goal.decreases-tokens
decreases-tokens l = length l.rest
