use Rattle.std.proofs.Common.{◌≡◌, [], length}
use Rattle.c_grammar.specs.Shared.{all_kept}
use Rattle.c_terminals.specs.Seen.{seen_all}
use Rattle.c_written.specs.Boxes.{texts}
use Rattle.c_written.proofs.shared.all_kept.Given as goal

abbrev pub invariant-tokens : goal.invariant-tokens
invariant-tokens l = all_kept (seen_all l.rest) (texts l.names.items) ≡ all_kept (seen_all l.tokens) []

abbrev pub decreases-tokens : goal.decreases-tokens
decreases-tokens l = length l.rest
