use Rattle.std.proofs.Common.{sym, ◌∙◌, subst}
use Rattle.std.proofs.lemmas.Option.{get_or_from_slice_get, slice_get_within}
use Rattle.host_memory.specs.Arrays.{IsWithin, memory_of}
use Rattle.actions.proofs.HostCells.{cell_within, read_alone}
use Rattle.actions.proofs.single.number_of.Goals as goal

pub section-requires : goal.section-requires
section-requires c =
    subst (IsWithin c.args.host.now) (sym c.alone.ensures)
    (cell_within c.args.host.now c.args.cell (sym c.has_cell.ensures ∙ c.if-not-has_cell.false))

pub bounds-section-0 : goal.bounds-section-0
bounds-section-0 c =
    slice_get_within c.section.result.now 0 (memory_of c.args.host.now c.args.cell)
    (read_alone c.args.host.now c.args.cell c.alone.result c.section.result.now
    (sym c.has_cell.ensures ∙ c.if-not-has_cell.false) c.alone.ensures c.section.ensures)

pub returns : goal.returns
returns c =
    get_or_from_slice_get c.section.result.now 0 (memory_of c.args.host.now c.args.cell) 0
    (read_alone c.args.host.now c.args.cell c.alone.result c.section.result.now
    (sym c.has_cell.ensures ∙ c.if-not-has_cell.false) c.alone.ensures c.section.ensures)
