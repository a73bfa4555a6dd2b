use Rattle.c_read.proofs.region.target_loop.Goals as goal

pub returns-clause-tree : goal.returns-clause-tree
returns-clause-tree c = c.in_ok-turns.ensures.tree c.args.tokens.now c.requires.word c.take.ensures
