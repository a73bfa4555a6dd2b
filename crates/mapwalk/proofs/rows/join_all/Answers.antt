use Rattle.std.proofs.Common.{sym, ◌∙◌, arith}
use Rattle.mapwalk.proofs.RowLists.{joined_end}
use Rattle.mapwalk.proofs.rows.join_all.Goals as goal

pub returns : goal.returns
returns c = sym (joined_end c.entries.entries.items c.args.exits.now c.entries.i (omega arith)) ∙ c.entries.invariant.joined
