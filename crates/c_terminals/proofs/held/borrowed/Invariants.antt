use Rattle.std.proofs.Common.{◌≡◌, take}
use Rattle.c_terminals.specs.Seen.{seen_all}
use Rattle.c_terminals.specs.Held.{written_all}
use Rattle.c_terminals.proofs.held.borrowed.Given as goal

abbrev pub invariant-written : goal.invariant-written
invariant-written l = seen_all l.tokens.items ≡ written_all (take l.token-index l.written)
