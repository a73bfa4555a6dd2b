use Rattle.std.proofs.Common.{◌≡◌, ◌+◌, ◌-◌, ◌++◌, length, map}
use Rattle.std.specs.Prelude.{is_some}
use Rattle.c_grammar.specs.Rules.{fresh_names, max_arrays, numbered_from}
use Rattle.c_expressions.specs.Means.{meaning_of}
use Rattle.c_expressions.specs.Scopes.{box_numbers, names_of}
use Rattle.c_read.specs.Boxes.{AreAsciiNames, boxed_in, boxed_of, boxing, texts}
use Rattle.c_read.specs.Globals.{boxes_in, entry_of}
use Rattle.c_read.proofs.boxes.add_boxes.Given as goal

abbrev pub invariant-names : goal.invariant-names
invariant-names l = record {
  scope : l.scope ≡ boxing l.fn.scope l.scope;
  arrays : l.scope.arrays ≡ l.fn.scope.arrays + length (boxed_in l.scope);
  boxes : box_numbers l.scope ≡ numbered_from l.fn.scope.arrays (boxed_in l.scope);
  names : boxed_in l.scope ++ fresh_names (λ x. is_some (meaning_of (names_of l.fn.scope) x))
      (max_arrays - l.scope.arrays) (boxed_in l.scope) (texts l.rest) ≡ boxed_of l.fn.scope (texts l.names);
  entries : map entry_of l.arrays.entries ≡ map entry_of l.fn.arrays.entries ++ boxes_in (boxed_in l.scope);
  ascii : AreAsciiNames (texts l.rest);
}

abbrev pub decreases-names : goal.decreases-names
decreases-names l = length l.rest
