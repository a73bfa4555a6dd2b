use Rattle.std.proofs.Common.{◌≡◌, ◌++◌, [], length, map}
use Rattle.std.specs.Prelude.{if◌then◌else◌}
use Rattle.c_grammar.specs.Blocks.{bare}
use Rattle.c_grammar.specs.Functions.{declared_in, name_in}
use Rattle.c_terminals.specs.Ahead.{ahead}
use Rattle.c_terminals.specs.Seen.{seen_all}
use Rattle.c_written.proofs.functions.add_declared.Given as goal

abbrev pub invariant-tokens : goal.invariant-tokens
invariant-tokens l =
    map (λ x. x.now) l.names.items ++ ((if l.typed then name_in (ahead l.ahead) else []) ++ declared_in (ahead l.ahead))
    ≡ map (λ x. x.now) l.fn.names.items ++ declared_in (bare (seen_all l.fn.tokens))

abbrev pub decreases-tokens : goal.decreases-tokens
decreases-tokens l = length (ahead l.ahead)
