use Rattle.std.proofs.Common.{◌≡◌, ◌+◌, [], length}
use Rattle.c_grammar.specs.Conditions.{condition}
use Rattle.c_grammar.specs.Expressions.{Nothing}
use Rattle.c_written.specs.Conditions.{read_in, waiting_of}
use Rattle.c_written.specs.Spots.{all_kinds}
use Rattle.c_written.proofs.condition.condition.Given as goal

abbrev pub invariant-tokens : goal.invariant-tokens
invariant-tokens l = record {
  same : condition (read_in l.reader) (waiting_of l.reader.waiting) l.len (all_kinds l.rest) ≡
      condition Nothing [] 0 (all_kinds l.tokens);
  few : l.len + length l.rest ≡ length l.tokens;
}

abbrev pub decreases-tokens : goal.decreases-tokens
decreases-tokens l = length l.rest
