use Rattle.std.proofs.Common.{◌≡◌, ◌+◌, ◌≤◌, length}
use Rattle.c_grammar.specs.LineForms.{product_len}
use Rattle.c_written.specs.Forms.{all_placed}
use Rattle.c_written.specs.Values.{seen_values}
use Rattle.c_written.proofs.products.product_len.Given as goal

abbrev pub invariant-tokens : goal.invariant-tokens
invariant-tokens l = record {
  end : product_len (seen_values l.values) l.depth l.count (all_placed l.left) ≡
      product_len (seen_values l.values) 0 0 (all_placed l.fn.rest);
  few : l.count + length l.left ≡ length l.fn.rest;
  depth : l.depth ≤ 16;
}

abbrev pub decreases-tokens : goal.decreases-tokens
decreases-tokens l = length l.left
