use Rattle.std.proofs.Common.{◌≡◌, ◌++◌, drop}
use Rattle.c_grammar.specs.Functions.{put_all}
use Rattle.c_written.specs.Functions.{others_of, puts_of}
use Rattle.c_terminals.specs.Held.{written_all}
use Rattle.c_terminals.specs.Seen.{seen_all}
use Rattle.c_written.proofs.puts.Puts.put_all.Given as goal

abbrev pub invariant-tokens : goal.invariant-tokens
invariant-tokens l =
    written_all l.done.items ++ put_all (puts_of l.self) (others_of l.other) (seen_all (drop l.token-index l.tokens))
    ≡ written_all l.fn.done.items ++ put_all (puts_of l.self) (others_of l.other) (seen_all l.tokens)
