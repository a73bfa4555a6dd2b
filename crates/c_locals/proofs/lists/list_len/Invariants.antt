use Rattle.std.proofs.Common.{◌≡◌, ◌+◌, ◌≤◌, length}
use Rattle.c_grammar.specs.Locals.{list_len}
use Rattle.c_terminals.specs.Seen.{seen_all}
use Rattle.c_locals.proofs.lists.list_len.Given as goal

abbrev pub invariant-tokens : goal.invariant-tokens
invariant-tokens l =
    (list_len l.len (seen_all l.rest) ≡ list_len 0 (seen_all l.fn.tokens)) × (l.len + length l.rest ≤ length l.fn.tokens)

abbrev pub decreases-tokens : goal.decreases-tokens
decreases-tokens l = length l.rest
