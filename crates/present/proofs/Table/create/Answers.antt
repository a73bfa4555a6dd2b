use Rattle.std.proofs.Common.{◌≡◌, ◌+◌, length, not, insert, refl, ap, sym, ◌∙◌, arith}
use Rattle.std.proofs.lemmas.Bool.{cond-true}
use Rattle.shared_row.specs.declared.shared.SharedRow.TheVariants as row
use Rattle.present.specs.declared.block.Block.{Block}
use Rattle.present.specs.Blocks.{are_stored, cells_in}
use Rattle.present.proofs.Orders.{stored_from, stored_insert, cells_insert}
use Rattle.present.proofs.Table.create.Goals as goal

pub invariant_of-self-2 : goal.invariant_of-self-2
invariant_of-self-2 c =
    let t = c.args.self.now in
    let s = c.args.section in
    let bs = t.blocks.items in
    let b : Block = record { section = s; count = 1; values = row.Sole c.in_ok-values.values } in
    let done = c.is_err.ensures.negation ∙ ap not c.if-is_err.false in
    let items : c.insert.new.self.items ≡ insert bs c.args.at b = c.insert.ensures.items ∙ cond-true _ _ _ done in
    let long = c.in_ok-values.ensures.len in
    let numbers : length c.in_ok-values.values.items ≡ s.length = omega (arith, c.in_ok-values.values.ok.0) in
    let one = stored_from b (record {
      has_cells = c.requires.section.has_cells;
      end = c.requires.section.end;
      numbers = numbers;
    }) in
    let absent = c.requires.absent in
    record {
      stored = ap are_stored items
          ∙ stored_insert bs c.args.at b t.stored one absent.bound absent.before absent.after;
      counted = ap (λ n. n + s.length) t.counted ∙ sym (cells_insert bs c.args.at b) ∙ sym (ap cells_in items);
      room = c.requires.room;
    }

pub returns-clause-created : goal.returns-clause-created
returns-clause-created c =
    let b : Block = record { section = c.args.section; count = 1; values = row.Sole c.in_ok-values.values } in
    let done = c.is_err.ensures.negation ∙ ap not c.if-is_err.false in
    record {
      block = b;
      blocks = c.insert.ensures.items ∙ cond-true _ _ _ done;
      section = refl;
      count = refl;
      values = c.in_ok-values.ensures.items_if_clones_equal (λ y e. e);
    }
