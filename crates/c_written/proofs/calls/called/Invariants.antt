use Rattle.std.proofs.Common.{◌≡◌, ◌++◌, length}
use Rattle.c_grammar.specs.Functions.{called}
use Rattle.c_written.specs.Functions.{functions_of, globals_of}
use Rattle.c_terminals.specs.Seen.{seen_all}
use Rattle.c_terminals.specs.Held.{written_all}
use Rattle.c_written.proofs.calls.called.Given as goal

abbrev pub invariant-tokens : goal.invariant-tokens
invariant-tokens l =
    written_all l.done.items ++ called (globals_of l.scope) (functions_of l.scope) l.begins l.room l.left (seen_all l.rest)
    ≡ written_all l.fn.done.items ++ called (globals_of l.scope) (functions_of l.scope) l.fn.begins l.fn.room 0 (seen_all l.tokens)

abbrev pub decreases-tokens : goal.decreases-tokens
decreases-tokens l = length l.rest
