use Rattle.std.proofs.Common.{arith, Some, ap, sym, ◌∙◌}
use Rattle.c_expressions.specs.Scopes.{context_of}
use Rattle.c_read.proofs.Lengths.{go_length, zero_length, large_length}
use Rattle.c_read.proofs.array.array_length.Goals as goal
use Rattle.c_read.proofs.array.array_length.Goals.{then-cells-eq0-via-then-cells-eq0, then-cells-eq0-via-else-cells-eq0+then-cells-gt-MAX_CELLS}

pub returns-then-cells-eq0-clause-read : goal.returns-then-cells-eq0-clause-read
returns-then-cells-eq0-clause-read c s =
    elim c.then-cells-eq0.branch [
      | then-cells-eq0-via-then-cells-eq0 w ↦ zero_length (context_of c.args.scope.now 0 0) c.in_ok-cells.cells s c.args.tokens.now c.in_ok-cells.ensures.number w.if-cells-eq0.true ∙ ap Some (sym c.fault.ensures)
      | then-cells-eq0-via-else-cells-eq0+then-cells-gt-MAX_CELLS w ↦ large_length (context_of c.args.scope.now 0 0) c.in_ok-cells.cells s c.args.tokens.now c.in_ok-cells.ensures.number w.if-cells-gt-MAX_CELLS.true ∙ ap Some (sym c.fault.ensures)
    ]

pub returns-clause-read : goal.returns-clause-read
returns-clause-read c = grind (arith, go_length)
