use Rattle.std.proofs.Common.{ap, sym, subst}
use Rattle.std.specs.Prelude.{option_map}
use Rattle.base.specs.Map.{Block as Present}
use Rattle.present.specs.Blocks.{present}
use Rattle.present.specs.Found.{IsBlockAt}
use Rattle.present.proofs.BlockReads.{found_read}
use Rattle.present.proofs.Table.lookup.Goals as goal

pub returns : goal.returns
returns c =
    let t = c.args.self.now in
    let w = subst (λ bs. IsBlockAt bs c.args.cell c.in_ok-i.i) c.deref.ensures.value c.in_ok-i.ensures.some in
    let e = found_read t.blocks.items t.stored c.args.cell c.in_ok-i.i c.index-block.result.now w
    c.index-block.ensures in
    sym (ap (λ o. option_map (λ (b : Present). (b.section, b.count)) (option_map present o)) e)
