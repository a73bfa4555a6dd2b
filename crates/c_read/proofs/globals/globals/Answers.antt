use Rattle.std.proofs.Common.{arith, []}
use Rattle.c_expressions.specs.Cursor.{items}
use Rattle.c_read.proofs.Fronts.{globals_then, ascii_behind}
use Rattle.c_read.proofs.globals.globals.Goals as goal

pub global-requires-clause-text : goal.global-requires-clause-text
global-requires-clause-text c =
    ascii_behind c.args.scope.now c.globals.scope [] c.globals.arrays.entries (items c.args.tokens.now)
    (items c.globals.tokens) c.requires.text c.globals.invariant.tree

pub globals-preserved : goal.globals-preserved
globals-preserved c = grind (arith, globals_then)
