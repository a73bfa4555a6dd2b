use Rattle.std.proofs.Common.{◌-◌, length, refl, ap, sym, ◌∙◌, subst, arith}
use Rattle.std.specs.Prelude.{option_and_then, is_some}
use Rattle.std.proofs.lemmas.List.{length-set}
use Rattle.shared_row.specs.Rows.{numbers_of}
use Rattle.present.specs.declared.block.Block.{Block}
use Rattle.present.specs.Blocks.{number_in}
use Rattle.present.specs.Found.{IsBlockAt}
use Rattle.present.proofs.Orders.{stored_each, stored_from, stored_set, cells_set}
use Rattle.present.proofs.BlockReads.{found_read, found_within, found_has, read_block, number_within}
use Rattle.present.proofs.Storing.{HasNumber, number_there, shows_stored}
use Rattle.present.proofs.Table.store.Goals as goal

pub set_number-requires : goal.set_number-requires
set_number-requires c =
    let t = c.args.self.now in
    let b = c.index_mut-block.result.now in
    let found = subst (λ bs. IsBlockAt bs c.args.cell c.in-Some.i) c.deref.ensures.value c.in-Some.ensures.some in
    let e = read_block t.blocks.items c.in-Some.i b
    (found_within t.blocks.items c.args.cell c.in-Some.i found) c.index_mut-block.ensures.value in
    let here = found_has t.blocks.items c.args.cell c.in-Some.i b found c.index_mut-block.ensures.value in
    let w = number_within b c.args.cell (stored_each t.blocks.items t.stored c.in-Some.i b e) here in
    omega (arith, w)

pub invariant_of-self : goal.invariant_of-self
invariant_of-self c =
    let t = c.args.self.now in
    let bs = t.blocks.items in
    let b = c.index_mut-block.result.now in
    let new : Block = record { section = b.section; count = b.count; values = c.set_number.new.values } in
    let found = subst (λ bs. IsBlockAt bs c.args.cell c.in-Some.i) c.deref.ensures.value c.in-Some.ensures.some in
    let e = read_block bs c.in-Some.i b
    (found_within bs c.args.cell c.in-Some.i found) c.index_mut-block.ensures.value in
    let w = stored_each bs t.stored c.in-Some.i b e in
    let one = stored_from new (record {
      has_cells = w.has_cells;
      end = w.end;
      numbers = ap length c.set_number.ensures
          ∙ length-set (numbers_of b.values) (c.args.cell.index - b.section.first) c.args.number ∙ w.numbers;
    }) in
    record {
      stored = stored_set bs c.in-Some.i b new t.stored e refl one;
      counted = t.counted ∙ sym (cells_set bs c.in-Some.i b new e refl);
      room = t.room;
    }

pub returns-in-Some-clause-found : goal.returns-in-Some-clause-found
returns-in-Some-clause-found c =
    let t = c.args.self.now in
    let bs = t.blocks.items in
    let b = c.index_mut-block.result.now in
    let found = subst (λ bs. IsBlockAt bs c.args.cell c.in-Some.i) c.deref.ensures.value c.in-Some.ensures.some in
    let e = read_block bs c.in-Some.i b
    (found_within bs c.args.cell c.in-Some.i found) c.index_mut-block.ensures.value in
    let here = found_has bs c.args.cell c.in-Some.i b found c.index_mut-block.ensures.value in
    sym (ap (λ o. is_some (option_and_then (number_in c.args.cell) o))
    (found_read bs t.stored c.args.cell c.in-Some.i b found c.index_mut-block.ensures.value)
    ∙ number_there b c.args.cell (stored_each bs t.stored c.in-Some.i b e) here)

pub returns-in-Some-clause-stored : goal.returns-in-Some-clause-stored
returns-in-Some-clause-stored c d h =
    let t = c.args.self.now in
    let bs = t.blocks.items in
    let b = c.index_mut-block.result.now in
    let found = subst (λ bs. IsBlockAt bs c.args.cell c.in-Some.i) c.deref.ensures.value c.in-Some.ensures.some in
    let e = read_block bs c.in-Some.i b
    (found_within bs c.args.cell c.in-Some.i found) c.index_mut-block.ensures.value in
    let here = found_has bs c.args.cell c.in-Some.i b found c.index_mut-block.ensures.value in
    let new : Block = record { section = b.section; count = b.count; values = c.set_number.new.values } in
    let is : HasNumber b (c.args.cell.index - b.section.first) c.args.number new =
    record { section = refl; count = refl; numbers = c.set_number.ensures } in
    shows_stored bs t.used d t.stored c.in-Some.i b c.args.cell c.args.number new e here is h
