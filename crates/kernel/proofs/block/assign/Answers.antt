use Rattle.std.proofs.Common.{List, ap, ◌∙◌, subst}
use Rattle.kernel.specs.Lanes.{AreAssigned, block_of}
use Rattle.kernel.specs.declared.turns.Lane.{Lane}
use Rattle.kernel.proofs.BlockLanes.{assigned_block}
use Rattle.kernel.proofs.block.assign.Goals as goal

pub returns-clause-block : goal.returns-clause-block
returns-clause-block c =
    let l : Lane = record { scalar = c.args.x; numbers = c.in_ok-numbers.numbers } in
    ap (λ (ls : List Lane). block_of c.args.at.now ls c.args.rows.now) c.in_ok-insert.ensures.items
    ∙ assigned_block c.args.at.now c.args.lanes.now.items c.args.rows.now c.args.e.now l
    (subst (λ (ls : List Lane). AreAssigned c.args.at.now c.args.x.0 c.args.e.now ls (block_of c.args.at.now ls c.args.rows.now) c.in_ok-numbers.numbers.items)
    c.deref.ensures.value c.in_ok-numbers.ensures.values)
