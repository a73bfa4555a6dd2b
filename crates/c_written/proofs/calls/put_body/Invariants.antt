use Rattle.std.proofs.Common.{◌≡◌, ◌++◌, take}
use Rattle.c_grammar.specs.Functions.{put_all, stays}
use Rattle.c_written.specs.Functions.{puts_of}
use Rattle.c_terminals.specs.Held.{written_all}
use Rattle.c_written.proofs.calls.put_body.Given as goal

abbrev pub invariant-tokens : goal.invariant-tokens
invariant-tokens l =
    written_all l.done.items ≡ written_all l.fn.done.items ++ put_all (puts_of l.puts) stays (written_all (take l.written-index l.body))
