use Rattle.std.proofs.Common.{◌≡◌, ◌-◌, length, refl, ap, sym, ◌∙◌, arith}
use Rattle.std.specs.Prelude.{slice_range}
use Rattle.host_memory.specs.Arrays.{row_of}
use Rattle.base.specs.Memory.{end_of, is_inside}
use Rattle.base.proofs.Places.{length_overwritten}
use Rattle.std.proofs.lemmas.Option.{slice_get_within}
use Rattle.shared_row.specs.Rows.{numbers_of}
use Rattle.present.specs.declared.block.Block.{Block}
use Rattle.present.proofs.Orders.{stored_each, stored_from, stored_set, cells_set}
use Rattle.present.proofs.Founds.{one_block}
use Rattle.present.proofs.BlockReads.{read_block}
use Rattle.present.proofs.Copies.{offset_fits, section_length, shows_brought}
use Rattle.present.proofs.Table.bring_in_at.Goals as goal

pub copy_section_to-requires-clause-fits : goal.copy_section_to-requires-clause-fits
copy_section_to-requires-clause-fits c =
    let t = c.args.self.now in
    let s = c.args.section.now in
    let b = c.index_mut-block.result.now in
    let r = c.requires.inside in
    let e = read_block t.blocks.items c.args.at b
    (slice_get_within t.blocks.items c.args.at r.block r.is) c.index_mut-block.ensures.value in
    let same : r.block ≡ b = one_block _ r.block b r.is e in
    let inside : is_inside s b.section ≡ _ = ap (λ (x : Block). is_inside s x.section) (sym same) ∙ r.inside in
    let fits = offset_fits b s (stored_each t.blocks.items t.stored c.args.at b e) inside in
    omega (arith, fits)

pub invariant_of-self : goal.invariant_of-self
invariant_of-self c =
    let t = c.args.self.now in
    let bs = t.blocks.items in
    let b = c.index_mut-block.result.now in
    let r = c.requires.inside in
    let e = read_block bs c.args.at b (slice_get_within bs c.args.at r.block r.is) c.index_mut-block.ensures.value in
    let w = stored_each bs t.stored c.args.at b e in
    let new : Block = record { section = b.section; count = b.count; values = c.copy_section_to.new.row } in
    let inside : is_inside c.args.section.now b.section ≡ _ =
    ap (λ (x : Block). is_inside c.args.section.now x.section) (sym (one_block _ r.block b r.is e)) ∙ r.inside in
    let fits = offset_fits b c.args.section.now w inside in
    let numbers = slice_range (row_of c.args.host.now c.args.section.now.array.0) c.args.section.now.first (end_of c.args.section.now) in
    let long = section_length c.args.host.now c.args.section.now c.requires.within in
    let one = stored_from new (record {
      has_cells = w.has_cells;
      end = w.end;
      numbers = ap length c.copy_section_to.ensures.copied
          ∙ length_overwritten (numbers_of b.values) numbers (c.args.section.now.first - b.section.first)
          (omega (arith, fits, long))
          ∙ w.numbers;
    }) in
    record {
      stored = stored_set bs c.args.at b new t.stored e refl one;
      counted = t.counted ∙ sym (cells_set bs c.args.at b new e refl);
      room = t.room;
    }

pub returns-clause-brought : goal.returns-clause-brought
returns-clause-brought c d h =
    let t = c.args.self.now in
    let bs = t.blocks.items in
    let s = c.args.section.now in
    let b = c.index_mut-block.result.now in
    let r = c.requires.inside in
    let e = read_block bs c.args.at b (slice_get_within bs c.args.at r.block r.is) c.index_mut-block.ensures.value in
    let same : r.block ≡ b = one_block _ r.block b r.is e in
    let inside : is_inside s b.section ≡ _ = ap (λ (x : Block). is_inside s x.section) (sym same) ∙ r.inside in
    let new : Block = record { section = b.section; count = b.count; values = c.copy_section_to.new.row } in
    shows_brought bs t.used d t.stored c.args.at b new s c.args.host.now e inside c.requires.within refl refl
    c.copy_section_to.ensures.copied h
