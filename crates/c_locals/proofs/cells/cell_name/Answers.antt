use Rattle.c_grammar.specs.Locals.{cell_names}
use Rattle.c_locals.proofs.cells.cell_name.Goals as goal

pub returns : goal.returns
unfolding cell_names
returns c = c.five_at.ensures
