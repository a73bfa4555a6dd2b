use Rattle.std.proofs.Common.{◌-◌, ◌+◌, List, None, Some, refl, slice_index, subst}
use Rattle.lanes.specs.Apart.{in_block}
use Rattle.kernel.specs.Forms.{IsCarriedOn}
use Rattle.kernel.specs.Lanes.{begun_block, block_of}
use Rattle.kernel.specs.Offsets.{places_of}
use Rattle.kernel.specs.declared.turns.Lane.{Lane}
use Rattle.kernel.specs.declared.turns.Turns.{Turns}
use Rattle.kernel.proofs.BlockLanes.{begin_there, all_done}
use Rattle.kernel.proofs.SumLanes.{added_at, formed, front_there, sum_done}
use Rattle.kernel.proofs.block.block.Goals as goal
use Rattle.kernel.proofs.block.block.Goals.{in-None, in-Some+in_ok-number-in-Some}

pub do_body-requires-clause-there : goal.do_body-requires-clause-there
do_body-requires-clause-there c =
    let at : Turns =
    record {
      first = c.args.first;
      count = c.args.count;
      outer = c.args.outer;
      scalars = record { ref_ptr = c.args.scalars.ref_ptr; now = c.args.scalars.now };
      offset = c.args.form.offset;
      mask = None;
      some = c.requires.some;
      no_wrap = c.requires.no_wrap;
      each = λ m e. absurd cc;
    } in
    begin_there at c.args.form.front.now c.new-lanes.result.items c.args.rows.now c.new-lanes.ensures.items
    (front_there (places_of c.args.form.offset) (in_block c.args.first c.args.count) c.args.outer.now c.args.form.front.now c.args.form.sum
    (begun_block c.args.scalars.now c.args.rows.now) c.requires.there)

pub carry_on-requires-clause-there : goal.carry_on-requires-clause-there
carry_on-requires-clause-there c =
    let at : Turns =
    record {
      first = c.args.first;
      count = c.args.count;
      outer = c.args.outer;
      scalars = record { ref_ptr = c.args.scalars.ref_ptr; now = c.args.scalars.now };
      offset = c.args.form.offset;
      mask = None;
      some = c.requires.some;
      no_wrap = c.requires.no_wrap;
      each = λ m e. absurd cc;
    } in
    added_at at c.args.form.front.now c.args.form.sum c.in-Some.sum c.new-lanes.result.items c.do_body.new.lanes.items
    c.deref-in-Some.result.now c.args.rows.now c.do_body.new.rows c.in-Some.is c.new-lanes.ensures.items
    c.in_ok-do_body.ensures.block c.deref-in-Some.ensures.value c.requires.there

pub returns : goal.returns
returns c =
    let at : Turns =
    record {
      first = c.args.first;
      count = c.args.count;
      outer = c.args.outer;
      scalars = record { ref_ptr = c.args.scalars.ref_ptr; now = c.args.scalars.now };
      offset = c.args.form.offset;
      mask = None;
      some = c.requires.some;
      no_wrap = c.requires.no_wrap;
      each = λ m e. absurd cc;
    } in
    let front = c.args.form.front.now in
    let last = c.args.first + (c.args.count - 1) in
    let begun = begun_block c.args.scalars.now c.args.rows.now in
    elim c.match-form.branch [
      | in-None w ↦ formed c.args.form.sum None (places_of c.args.form.offset) (in_block c.args.first c.args.count) c.args.outer.now front
          (slice_index c.args.scalars.now) c.args.first c.args.count last begun _ c.match-form.scalars c.do_body.new.rows w.in-None.is
          w.scalars-is
          (all_done at front c.new-lanes.result.items c.do_body.new.lanes.items _ c.args.rows.now c.do_body.new.rows
          w.keep_last.new.scalars c.new-lanes.ensures.items c.in_ok-do_body.ensures.block w.deref.ensures.value w.keep_last.ensures)
      | in-Some+in_ok-number-in-Some w ↦ formed c.args.form.sum (Some w.in-Some.sum) (places_of c.args.form.offset) (in_block c.args.first c.args.count)
          c.args.outer.now front (slice_index c.args.scalars.now) c.args.first c.args.count last begun _ c.match-form.scalars
          c.do_body.new.rows w.in-Some.is w.scalars-is
          (sum_done at refl front w.in-Some.sum c.new-lanes.result.items c.do_body.new.lanes.items _ c.args.rows.now c.do_body.new.rows
          w.keep_last-in-Some.new.scalars w.set.new.scalars w.in_ok-number-in-Some.number c.new-lanes.ensures.items c.in_ok-do_body.ensures.block
          w.deref-in-Some-2.ensures.value w.keep_last-in-Some.ensures
          (subst (λ (ls : List Lane). IsCarriedOn at.first at.count at.outer.now at.scalars.now (block_of at ls c.do_body.new.rows) w.in-Some.sum w.in_ok-number-in-Some.number)
          w.deref-in-Some.ensures.value w.in_ok-number-in-Some.ensures) w.set.ensures)
    ]
