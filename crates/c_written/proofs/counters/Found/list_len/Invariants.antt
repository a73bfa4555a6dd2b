use Rattle.std.proofs.Common.{◌≡◌, length}
use Rattle.c_grammar.specs.Counters.{list_len}
use Rattle.c_terminals.specs.Ahead.{ahead}
use Rattle.c_written.specs.Counters.{seen_found}
use Rattle.c_written.proofs.counters.Found.list_len.Given as goal

abbrev pub invariant-names : goal.invariant-names
invariant-names l =
    list_len (seen_found l.self) l.len (ahead l.ahead) ≡ list_len (seen_found l.self) 0 (ahead l.start)

abbrev pub decreases-names : goal.decreases-names
decreases-names l = length (ahead l.ahead)
