use Rattle.std.proofs.Common.{◌∙◌, get_or, sym, subst, arith}
use Rattle.std.proofs.lemmas.Option.{slice_get-get_or}
use Rattle.base.specs.declared.item.Section.{Section}
use Rattle.present.specs.Rows.{over}
use Rattle.present.specs.Table.{number_at}
use Rattle.frames.specs.Rows.{IsLoaded}
use Rattle.frames.specs.Views.{every}
use Rattle.frames.proofs.LoadedRows.{loaded_fit, loaded_more, loaded_rows}
use Rattle.frames.proofs.RowViews.{cells_in_reach, rows_bounded}
use Rattle.frames.proofs.device.load_rows.Goals as goal

abbrev no_section : Section
no_section = record { array = record { 0 = 0 }; first = 0; length = 0 }

pub load_row-requires : goal.load_row-requires
load_row-requires c =
    let reach = c.args.reach.now in
    let rows = c.args.rows.now in
    let a = c.each.a in
    let count = c.requires.room.count in
    c.requires.room.each a (get_or reach a no_section) (get_or c.each.rows a c.index-rows-a.result)
    (slice_get-get_or reach a no_section (omega (arith, count)))
    (sym (c.each.invariant.loaded.rest a (omega arith)) ∙ slice_get-get_or c.each.rows a c.index-rows-a.result (omega arith))

pub each-preserved : goal.each-preserved
each-preserved c =
    let reach = c.args.reach.now in
    let a = c.each.a in
    let count = c.requires.room.count in
    let was = c.each.invariant.unchanged in
    let is = c.load_row.ensures.unchanged in
    record {
      loaded = loaded_more (number_at c.args.table.now) reach a c.args.rows.now c.each.rows (get_or reach a no_section)
          (get_or c.each.rows a c.index-rows-a.result) c.load_row.new.row (omega arith)
          (slice_get-get_or reach a no_section (omega (arith, count)))
          (slice_get-get_or c.each.rows a c.index-rows-a.result (omega arith))
          (subst (λ v. IsLoaded v (get_or reach a no_section) (get_or c.each.rows a c.index-rows-a.result) c.load_row.new.row)
          was.numbers c.load_row.ensures.loaded) c.each.invariant.loaded;
      unchanged = record {
        blocks = is.blocks ∙ was.blocks;
        numbers = is.numbers ∙ was.numbers;
        in_use = is.in_use ∙ was.in_use;
        capacity = is.capacity ∙ was.capacity;
        fill = is.fill ∙ was.fill;
      };
    }

pub returns-clause-cells : goal.returns-clause-cells
returns-clause-cells c =
    let v = number_at c.args.table.now in
    cells_in_reach (over v (every 0)) c.args.reach.now c.each.rows c.requires.arrays
    (loaded_rows v c.args.reach.now c.each.a c.args.rows.now c.each.rows c.requires.room (omega arith) (omega arith) c.each.invariant.loaded)

pub returns-clause-bounded : goal.returns-clause-bounded
returns-clause-bounded c =
    let v = number_at c.args.table.now in
    rows_bounded (over v (every 0)) c.args.reach.now c.each.rows
    (loaded_rows v c.args.reach.now c.each.a c.args.rows.now c.each.rows c.requires.room (omega arith) (omega arith) c.each.invariant.loaded)

pub returns-clause-fits : goal.returns-clause-fits
returns-clause-fits c =
    loaded_fit (number_at c.args.table.now) c.args.reach.now c.each.a c.args.rows.now c.each.rows c.requires.room (omega arith)
    (omega arith) c.each.invariant.loaded
