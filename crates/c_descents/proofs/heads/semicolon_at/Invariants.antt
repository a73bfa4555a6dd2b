use Rattle.std.proofs.Common.{◌≡◌, ◌+◌, length}
use Rattle.c_grammar.specs.Triangles.{semicolon_at}
use Rattle.c_terminals.specs.Seen.{seen_all}
use Rattle.c_descents.proofs.heads.semicolon_at.Given as goal

abbrev pub invariant-tokens : goal.invariant-tokens
invariant-tokens l =
    (semicolon_at l.before (seen_all l.rest) ≡ semicolon_at 0 (seen_all l.fn.tokens)) ×
    (l.before + length l.rest ≡ length l.fn.tokens)

abbrev pub decreases-tokens : goal.decreases-tokens
decreases-tokens l = length l.rest
