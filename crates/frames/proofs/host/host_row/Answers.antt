use Rattle.std.proofs.Common.{refl, sym, subst, ◌∙◌, arith}
use Rattle.host_memory.specs.Arrays.{lengths_of, memory_of}
use Rattle.base.specs.Memory.{view_of}
use Rattle.shared_row.specs.Rows.{lent_numbers}
use Rattle.shared_row.specs.declared.lent.RowCells.TheVariants as cells
use Rattle.frames.specs.Rows.{AreNumbers}
use Rattle.frames.proofs.RowViews.{empty_row, filled_row, within_host}
use Rattle.frames.proofs.host.host_row.Goals as goal

pub section-requires : goal.section-requires
section-requires c = within_host c.args.host.now c.args.section.now (omega arith) c.requires

pub returns-then-section-eq0 : goal.returns-then-section-eq0
returns-then-section-eq0 c = record {
  row = empty_row (view_of (lengths_of c.args.host.now) (memory_of c.args.host.now)) c.args.section.now _
      (omega arith) c.new.ensures.items (record { first = c.args.section.now.first; cells = cells.Own c.new.result })
      refl refl;
}

pub lent-requires : goal.lent-requires
lent-requires c = within_host c.args.host.now c.args.section.now (omega arith) c.requires

pub returns-in-Some : goal.returns-in-Some
returns-in-Some c = record {
  row = filled_row c.args.host.now c.args.section.now (lent_numbers c.in-Some.lent)
      (record { first = c.args.section.now.first; cells = cells.Lent c.in-Some.lent })
      (within_host c.args.host.now c.args.section.now (omega arith) c.requires)
      c.in-Some.ensures (subst AreNumbers c.numbers.ensures c.are_numbers.ensures) refl refl;
}

pub returns : goal.returns
returns c = record {
  row = filled_row c.args.host.now c.args.section.now c.in_ok-cells.cells.items
      (record { first = c.args.section.now.first; cells = cells.Own c.in_ok-cells.cells })
      (within_host c.args.host.now c.args.section.now (omega arith) c.requires)
      (c.in_ok-cells.ensures.items ∙ c.section.ensures) (subst AreNumbers (sym c.in_ok-cells.ensures.items) c.copied.ensures.bounded) refl refl;
}
