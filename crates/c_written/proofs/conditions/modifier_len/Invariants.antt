use Rattle.std.proofs.Common.{◌≡◌, ◌+◌, length}
use Rattle.c_grammar.specs.Conditions.{modifier_len}
use Rattle.c_written.specs.Spots.{all_kinds}
use Rattle.c_written.proofs.conditions.modifier_len.Given as goal

abbrev pub invariant-tokens : goal.invariant-tokens
invariant-tokens l = record {
  same : modifier_len l.len (all_kinds l.rest) ≡ modifier_len 0 (all_kinds l.tokens);
  few : l.len + length l.rest ≡ length l.tokens;
}

abbrev pub decreases-tokens : goal.decreases-tokens
decreases-tokens l = length l.rest
