use Rattle.std.proofs.Common.{◌≡◌, [], length}
use Rattle.c_grammar.specs.Constants.{worked}
use Rattle.c_terminals.specs.Seen.{seen_all}
use Rattle.c_written.specs.Constants.{HasNotes, with_constants}
use Rattle.c_written.proofs.constants.worked.Given as goal

abbrev pub invariant-tokens : goal.invariant-tokens
invariant-tokens l = record {
  line : with_constants l.constants (seen_all l.rest) ≡ worked [] [] 0 (seen_all l.fn.tokens);
  notes : HasNotes l.constants;
}

abbrev pub decreases-tokens : goal.decreases-tokens
decreases-tokens l = length l.rest
