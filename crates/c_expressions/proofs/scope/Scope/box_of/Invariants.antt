use Rattle.std.proofs.Common.{◌≡◌, length, map}
use Rattle.c_grammar.specs.Rules.{is_boxes_name}
use Rattle.c_expressions.specs.Scopes.{as_boxes, box_numbers, box_of, boxes_of}
use Rattle.c_expressions.proofs.scope.Scope.box_of.Given as goal

abbrev pub invariant-boxes : goal.invariant-boxes
invariant-boxes l = record {
  array : box_of (as_boxes (map (λ b. (b.name.now, b.array.0)) l.rest)) l.name ≡ box_of (boxes_of l.self) l.name;
  named : is_boxes_name (map (λ b. (b.name.now, b.array.0)) l.rest) l.name ≡ is_boxes_name (box_numbers l.self) l.name;
}

abbrev pub decreases-boxes : goal.decreases-boxes
decreases-boxes l = length l.rest
