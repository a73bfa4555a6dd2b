use Rattle.std.proofs.Common.{◌≡◌, length, false, []}
use Rattle.c_grammar.specs.Clauses.{BeforeName, are_items}
use Rattle.c_written.specs.Clauses.{seen_part}
use Rattle.c_written.specs.Forms.{all_placed}
use Rattle.c_written.proofs.clauses.are_items.Given as goal

abbrev pub invariant-items : goal.invariant-items
invariant-items l = record {
  same : are_items (seen_part l.part) (all_placed l.rest) ≡ are_items BeforeName (all_placed l.fn.rest);
  going : are_items (seen_part l.part) [] ≡ false;
}

abbrev pub decreases-items : goal.decreases-items
decreases-items l = length l.rest
