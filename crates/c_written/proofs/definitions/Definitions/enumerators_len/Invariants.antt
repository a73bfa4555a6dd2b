use Rattle.std.proofs.Common.{◌≡◌, ◌+◌, ◌≤◌, length}
use Rattle.c_grammar.specs.Constants.{enumerators_len}
use Rattle.c_terminals.specs.Ahead.{ahead}
use Rattle.c_written.specs.Definitions.{names_of}
use Rattle.c_written.proofs.definitions.Definitions.enumerators_len.Given as goal

abbrev pub invariant-constants : goal.invariant-constants
invariant-constants l = record {
  same : enumerators_len (names_of l.self) l.count (ahead l.ahead) ≡ enumerators_len (names_of l.self) 1 (ahead l.fn.start);
  few : l.count + length (ahead l.ahead) ≤ 1 + length (ahead l.fn.start);
}

abbrev pub decreases-constants : goal.decreases-constants
decreases-constants l = length (ahead l.ahead)
