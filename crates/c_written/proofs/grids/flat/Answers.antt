use Rattle.c_written.proofs.Flattening.{all_flat}
use Rattle.c_written.proofs.grids.flat.Goals as goal

pub returns : goal.returns
returns c = all_flat c.args.deep c.tokens.grids c.tokens.rest.now _ c.in_default.len_below c.tokens.invariant
