use Rattle.std.proofs.Common.{◌≡◌, take}
use Rattle.c_terminals.specs.Seen.{seen_all}
use Rattle.c_terminals.specs.Held.{written_all}
use Rattle.c_terminals.proofs.held.owned.Given as goal

abbrev pub invariant-tokens : goal.invariant-tokens
invariant-tokens l = written_all l.written.items ≡ seen_all (take l.token-index l.tokens)
