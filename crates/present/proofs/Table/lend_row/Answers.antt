use Rattle.std.proofs.Common.{◌≡◌, length, refl, ap, sym, ◌∙◌, subst}
use mathlib.Core.Path.{fun_ext}
use Rattle.std.proofs.lemmas.Result.{IfOk-weaker}
use Rattle.shared_row.specs.Rows.{lent_numbers}
use Rattle.present.specs.Found.{IsInsideAt}
use Rattle.present.specs.Rows.{AreRead, numbers_of_part}
use Rattle.present.specs.Table.{number_at}
use Rattle.present.proofs.Orders.{stored_each, stored_from, stored_set, cells_set}
use Rattle.present.proofs.SameNumbers.{is_stored_same, same_block_at, same_number_at}
use Rattle.present.proofs.WholeRows.{inside_read, part_is_read, read_length}
use Rattle.present.proofs.Table.lend_row.Goals as goal

pub lend-requires-clause-stored : goal.lend-requires-clause-stored
lend-requires-clause-stored c =
    let bs = c.args.self.now.blocks.items in
    let b = c.index_mut-block.result.now in
    let h = subst (λ xs. IsInsideAt xs c.args.section.now c.in-Inside.at) c.deref.ensures.value c.in-Inside.ensures in
    let r = inside_read bs c.args.section.now c.in-Inside.at b h c.index_mut-block.ensures.value in
    stored_from b (stored_each bs c.args.self.now.stored c.in-Inside.at b r.0)

pub lend-requires-clause-inside : goal.lend-requires-clause-inside
lend-requires-clause-inside c =
    let bs = c.args.self.now.blocks.items in
    let b = c.index_mut-block.result.now in
    let h = subst (λ xs. IsInsideAt xs c.args.section.now c.in-Inside.at) c.deref.ensures.value c.in-Inside.ensures in
    (inside_read bs c.args.section.now c.in-Inside.at b h c.index_mut-block.ensures.value).1

pub invariant_of-self : goal.invariant_of-self
invariant_of-self c =
    let t = c.args.self.now in
    let bs = t.blocks.items in
    let b = c.index_mut-block.result.now in
    let new = c.lend.new.block in
    let h = subst (λ xs. IsInsideAt xs c.args.section.now c.in-Inside.at) c.deref.ensures.value c.in-Inside.ensures in
    let e = (inside_read bs c.args.section.now c.in-Inside.at b h c.index_mut-block.ensures.value).0 in
    let one = is_stored_same b new c.lend.ensures.same (stored_from b (stored_each bs t.stored c.in-Inside.at b e)) in
    record {
      stored = stored_set bs c.in-Inside.at b new t.stored e c.lend.ensures.same.section one;
      counted = t.counted ∙ sym (cells_set bs c.in-Inside.at b new e c.lend.ensures.same.section);
      room = t.room;
    }

pub returns-clause-lent : goal.returns-clause-lent
returns-clause-lent c =
    let t = c.args.self.now in
    let bs = t.blocks.items in
    let s = c.args.section.now in
    let b = c.index_mut-block.result.now in
    let h = subst (λ xs. IsInsideAt xs s c.in-Inside.at) c.deref.ensures.value c.in-Inside.ensures in
    let r = inside_read bs s c.in-Inside.at b h c.index_mut-block.ensures.value in
    IfOk-weaker c.lend.result (λ row. lent_numbers row ≡ numbers_of_part b s)
    (λ row. AreRead (number_at t) s (lent_numbers row))
    (λ row e. subst (AreRead (number_at t) s) (sym e) (part_is_read bs t.stored c.in-Inside.at b r.0 s r.1))
    c.lend.ensures.lent

pub returns-clause-count : goal.returns-clause-count
returns-clause-count c =
    let t = c.args.self.now in
    let bs = t.blocks.items in
    let s = c.args.section.now in
    let b = c.index_mut-block.result.now in
    let h = subst (λ xs. IsInsideAt xs s c.in-Inside.at) c.deref.ensures.value c.in-Inside.ensures in
    let r = inside_read bs s c.in-Inside.at b h c.index_mut-block.ensures.value in
    IfOk-weaker c.lend.result (λ row. lent_numbers row ≡ numbers_of_part b s)
    (λ row. length (lent_numbers row) ≡ s.length)
    (λ row e. ap length e ∙ read_length bs t.stored c.in-Inside.at b r.0 s r.1)
    c.lend.ensures.lent

pub returns-clause-unchanged : goal.returns-clause-unchanged
returns-clause-unchanged c =
    let t = c.args.self.now in
    let bs = t.blocks.items in
    let b = c.index_mut-block.result.now in
    let new = c.lend.new.block in
    let h = subst (λ xs. IsInsideAt xs c.args.section.now c.in-Inside.at) c.deref.ensures.value c.in-Inside.ensures in
    let e = (inside_read bs c.args.section.now c.in-Inside.at b h c.index_mut-block.ensures.value).0 in
    record {
      blocks = fun_ext (λ x. same_block_at bs t.stored c.in-Inside.at b new e c.lend.ensures.same x);
      numbers = fun_ext (λ x. same_number_at bs t.stored c.in-Inside.at b new e c.lend.ensures.same x);
      in_use = refl;
      capacity = refl;
      fill = refl;
    }
