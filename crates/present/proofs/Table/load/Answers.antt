use Rattle.std.proofs.Common.{ap, sym, ◌∙◌, subst}
use Rattle.std.specs.Prelude.{option_and_then}
use Rattle.present.specs.Blocks.{number_in}
use Rattle.present.specs.Found.{IsBlockAt}
use Rattle.present.proofs.Orders.{stored_each}
use Rattle.present.proofs.BlockReads.{found_read, found_within, found_has, read_block, number_within}
use Rattle.present.proofs.Table.load.Goals as goal

pub returns : goal.returns
returns c =
    let t = c.args.self.now in
    let b = c.index-block.result.now in
    let found = subst (λ bs. IsBlockAt bs c.args.cell c.in_ok-i.i) c.deref.ensures.value c.in_ok-i.ensures.some in
    sym (ap (λ o. option_and_then (number_in c.args.cell) o)
    (found_read t.blocks.items t.stored c.args.cell c.in_ok-i.i b found c.index-block.ensures)
    ∙ c.number.ensures)

pub number-requires : goal.number-requires
number-requires c =
    let t = c.args.self.now in
    let b = c.index-block.result.now in
    let found = subst (λ bs. IsBlockAt bs c.args.cell c.in_ok-i.i) c.deref.ensures.value c.in_ok-i.ensures.some in
    let e = read_block t.blocks.items c.in_ok-i.i b
    (found_within t.blocks.items c.args.cell c.in_ok-i.i found) c.index-block.ensures in
    let here = found_has t.blocks.items c.args.cell c.in_ok-i.i b found c.index-block.ensures in
    number_within b c.args.cell (stored_each t.blocks.items t.stored c.in_ok-i.i b e) here
