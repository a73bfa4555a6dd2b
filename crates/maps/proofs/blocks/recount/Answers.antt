use Rattle.std.proofs.Common.{◌∙◌, ◌<◌, ap, arith, get_or, length, map, set, sym}
use Rattle.std.proofs.lemmas.List.{get_or-map, length-map, map-set}
use Rattle.std.proofs.lemmas.List.Edits.{map_over_more}
use Rattle.base.specs.Map.{counted}
use Rattle.maps.specs.declared.blocks.Block.{Block}
use Rattle.maps.specs.Shown.{block_of}
use Rattle.maps.proofs.blocks.recount.Goals as goal

abbrev other : Block
other = record { section = record { array = record { 0 = 0 }; first = 0; length = 0 }; count = 0 }

pub each-preserved : goal.each-preserved
each-preserved c =
    let f = counted c.args.section.now c.args.count in
    let old = map block_of c.args.blocks.now in
    let now = map block_of c.each.blocks in
    let i = c.each.block-index in
    let x = get_or c.each.blocks i other in
    let below : i < length c.each.blocks = omega arith in
    let inside : i < length old = omega (arith, length-map c.args.blocks.now block_of) in
    map-set block_of c.each.blocks i c.recounted.result
    ∙ ap (λ b. set now i b) c.recounted.ensures
    ∙ map_over_more f old now i (block_of x) inside c.each.invariant
    (sym (get_or-map block_of c.each.blocks i other (block_of x) below))
