use Rattle.kernel.proofs.BlockTurns.{next_there, carried_on, carried_end}
use Rattle.kernel.proofs.block.blocks.Goals as goal

pub block-requires-clause-there : goal.block-requires-clause-there
block-requires-clause-there c =
    next_there c.args.form c.args.body.now c.args.outer.now c.args.bounds.first c.args.bounds.end c.turns.v c.size_of-count.result
    c.size_of-count.ensures.some c.size_of-count.ensures.within c.args.scalars.now c.args.rows.now c.requires.form c.requires.within
    c.turns.scalars c.turns.rows c.requires.turns c.turns.invariant

pub turns-preserved : goal.turns-preserved
turns-preserved c =
    carried_on c.args.form c.args.body.now c.args.outer.now c.args.bounds.first c.args.bounds.end c.turns.v c.size_of-count.result
    c.size_of-count.ensures.some c.size_of-count.ensures.within c.args.scalars.now c.args.rows.now c.requires.form c.requires.within
    c.turns.scalars c.turns.rows c.block.new.scalars c.block.new.rows c.turns.invariant c.in_ok-block.ensures

pub returns : goal.returns
returns c =
    carried_end c.args.body.now c.args.outer.now c.args.bounds.first c.args.bounds.end c.turns.v c.args.scalars.now
    c.args.rows.now c.turns.scalars c.turns.rows c.turns-test.false c.turns.invariant
