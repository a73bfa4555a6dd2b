use Rattle.std.proofs.Common.{length, sym, ◌∙◌, subst, arith}
use Rattle.std.specs.Vec.{with_items}
use Rattle.std.proofs.lemmas.List.{with_items_is}
use Rattle.shared_row.specs.Rows.{marks_of, numbers_in}
use Rattle.present.specs.Rows.{AreStoredIn, marked_in}
use Rattle.present.proofs.BlockRows.{same_cells, same_stored, shows_rows}
use Rattle.present.proofs.Table.store_row.Goals as goal

pub invariant_of-self : goal.invariant_of-self
invariant_of-self c =
    let t = c.args.self.now in
    let bs = t.blocks.items in
    let v = marked_in c.args.array c.args.first (numbers_in c.args.cells.now)
    (marks_of (length (numbers_in c.args.cells.now)) c.args.marks.now) in
    let old = subst (λ xs. AreStoredIn v xs c.store_blocks.new.blocks) c.deref_mut.ensures.value c.store_blocks.ensures in
    let items = with_items_is t.blocks c.store_blocks.new.blocks (omega (arith, old.same_length, t.blocks.ok.0)) in
    let all = subst (AreStoredIn v bs) (sym items) old in
    record {
      stored = same_stored v bs (with_items t.blocks c.store_blocks.new.blocks).items all t.stored;
      counted = t.counted ∙ sym (same_cells v bs (with_items t.blocks c.store_blocks.new.blocks).items all);
      room = t.room;
    }

pub returns-clause-stored : goal.returns-clause-stored
returns-clause-stored c d h =
    let t = c.args.self.now in
    let bs = t.blocks.items in
    let v = marked_in c.args.array c.args.first (numbers_in c.args.cells.now)
    (marks_of (length (numbers_in c.args.cells.now)) c.args.marks.now) in
    let old = subst (λ xs. AreStoredIn v xs c.store_blocks.new.blocks) c.deref_mut.ensures.value c.store_blocks.ensures in
    let items = with_items_is t.blocks c.store_blocks.new.blocks (omega (arith, old.same_length, t.blocks.ok.0)) in
    shows_rows v bs (with_items t.blocks c.store_blocks.new.blocks).items t.used d (subst (AreStoredIn v bs) (sym items) old) h
