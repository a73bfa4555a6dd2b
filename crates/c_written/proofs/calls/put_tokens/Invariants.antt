use Rattle.std.proofs.Common.{◌≡◌, ◌++◌, take}
use Rattle.c_terminals.specs.Seen.{seen_all}
use Rattle.c_terminals.specs.Held.{written_all}
use Rattle.c_written.proofs.calls.put_tokens.Given as goal

abbrev pub invariant-tokens : goal.invariant-tokens
invariant-tokens l = written_all l.done.items ≡ written_all l.fn.done.items ++ seen_all (take l.token-index l.tokens)
