use Rattle.std.proofs.Common.{◌≡◌, ap, refl, sym, ◌∙◌, arith}
use mathlib.Core.Path.{fun_ext}
use Rattle.host_memory.specs.Arrays.{memory_of}
use Rattle.base.specs.Memory.{is_inside}
use Rattle.base.proofs.Places.{get_set_same}
use Rattle.std.proofs.lemmas.Option.{slice_get_within}
use Rattle.present.specs.declared.block.Block.{Block}
use Rattle.present.specs.Rows.{HasSameNumbers}
use Rattle.present.proofs.Orders.{stored_each, stored_from, stored_set, cells_set}
use Rattle.present.proofs.Founds.{one_block}
use Rattle.present.proofs.BlockReads.{read_block}
use Rattle.present.proofs.Copies.{offset_fits, brought_out}
use Rattle.present.proofs.SameNumbers.{is_stored_same, same_block_at, same_number_at}
use Rattle.present.proofs.Table.bring_out_at.Goals as goal

pub copy_section_from-requires-clause-fits : goal.copy_section_from-requires-clause-fits
copy_section_from-requires-clause-fits c =
    let t = c.args.self.now in
    let s = c.args.section.now in
    let b = c.index_mut-block.result.now in
    let r = c.requires.inside in
    let e = read_block t.blocks.items c.args.at b
    (slice_get_within t.blocks.items c.args.at r.block r.is) c.index_mut-block.ensures.value in
    let same : r.block ≡ b = one_block _ r.block b r.is e in
    let inside : is_inside s b.section ≡ _ = ap (λ (x : Block). is_inside s x.section) (sym same) ∙ r.inside in
    let fits = offset_fits b s (stored_each t.blocks.items t.stored c.args.at b e) inside in
    omega (arith, fits)

pub invariant_of-self : goal.invariant_of-self
invariant_of-self c =
    let t = c.args.self.now in
    let bs = t.blocks.items in
    let b = c.index_mut-block.result.now in
    let r = c.requires.inside in
    let e = read_block bs c.args.at b (slice_get_within bs c.args.at r.block r.is) c.index_mut-block.ensures.value in
    let new : Block = record { section = b.section; count = b.count; values = c.copy_section_from.new.row } in
    let h : HasSameNumbers b new = record { section = refl; count = refl; numbers = c.copy_section_from.ensures.same } in
    let one = is_stored_same b new h (stored_from b (stored_each bs t.stored c.args.at b e)) in
    record {
      stored = stored_set bs c.args.at b new t.stored e refl one;
      counted = t.counted ∙ sym (cells_set bs c.args.at b new e refl);
      room = t.room;
    }

pub returns-clause-brought : goal.returns-clause-brought
returns-clause-brought c d h =
    let t = c.args.self.now in
    let s = c.args.section.now in
    let b = c.index_mut-block.result.now in
    let r = c.requires.inside in
    let e = read_block t.blocks.items c.args.at b
    (slice_get_within t.blocks.items c.args.at r.block r.is) c.index_mut-block.ensures.value in
    let same : r.block ≡ b = one_block _ r.block b r.is e in
    let inside : is_inside s b.section ≡ _ = ap (λ (x : Block). is_inside s x.section) (sym same) ∙ r.inside in
    let host = memory_of c.args.host.now in
    c.copy_section_from.ensures.copied
    ∙ fun_ext (λ x. brought_out t.blocks.items t.used d t.stored c.args.at b s host e inside h x)

pub returns-clause-inside : goal.returns-clause-inside
returns-clause-inside c =
    let bs = c.args.self.now.blocks.items in
    let s = c.args.section.now in
    let b = c.index_mut-block.result.now in
    let r = c.requires.inside in
    let there = slice_get_within bs c.args.at r.block r.is in
    let e = read_block bs c.args.at b there c.index_mut-block.ensures.value in
    let same : r.block ≡ b = one_block _ r.block b r.is e in
    let new : Block = record { section = b.section; count = b.count; values = c.copy_section_from.new.row } in
    record {
      block = new;
      is = get_set_same bs c.args.at new there;
      inside = ap (λ (x : Block). is_inside s x.section) (sym same) ∙ r.inside;
    }

pub returns-clause-unchanged : goal.returns-clause-unchanged
returns-clause-unchanged c =
    let t = c.args.self.now in
    let bs = t.blocks.items in
    let b = c.index_mut-block.result.now in
    let r = c.requires.inside in
    let e = read_block bs c.args.at b (slice_get_within bs c.args.at r.block r.is) c.index_mut-block.ensures.value in
    let new : Block = record { section = b.section; count = b.count; values = c.copy_section_from.new.row } in
    let h : HasSameNumbers b new = record { section = refl; count = refl; numbers = c.copy_section_from.ensures.same } in
    record {
      blocks = fun_ext (λ x. same_block_at bs t.stored c.args.at b new e h x);
      numbers = fun_ext (λ x. same_number_at bs t.stored c.args.at b new e h x);
      in_use = refl;
      capacity = refl;
      fill = refl;
    }
