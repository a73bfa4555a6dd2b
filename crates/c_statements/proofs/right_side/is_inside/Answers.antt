use Rattle.c_statements.proofs.right_side.is_inside.Goals as goal

pub returns : goal.returns
returns c = c.is_inside.ensures 0 0
