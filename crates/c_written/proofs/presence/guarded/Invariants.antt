use Rattle.std.proofs.Common.{◌≡◌, ◌++◌, length, map}
use Rattle.c_grammar.specs.Presence.{guarded}
use Rattle.c_terminals.specs.Held.{written_all}
use Rattle.c_terminals.specs.Seen.{seen_all}
use Rattle.c_written.proofs.presence.guarded.Given as goal

abbrev pub invariant-tokens : goal.invariant-tokens
invariant-tokens l =
    written_all l.done.items ++ guarded (map (λ x. x.now) l.names) (seen_all l.rest)
    ≡ guarded (map (λ x. x.now) l.names) (seen_all l.fn.tokens)

abbrev pub decreases-tokens : goal.decreases-tokens
decreases-tokens l = length l.rest
