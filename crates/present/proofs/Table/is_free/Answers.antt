use Rattle.std.proofs.Common.{subst}
use Rattle.present.specs.Found.{IsAbsentAt, IsInsideAt, IsInPart}
use Rattle.present.specs.Needed.{sections_in}
use Rattle.base.proofs.Sections.{inside_in, first_in}
use Rattle.present.proofs.Founds.{absent_none, at_block}
use Rattle.present.proofs.NeededCells.{free_or, takes_at}
use Rattle.present.specs.Table.{first_cell}
use Rattle.present.proofs.Table.is_free.Goals as goal

pub returns-in-Absent : goal.returns-in-Absent
returns-in-Absent c =
    let t = c.args.self.now in
    let s = c.args.section.now in
    let h = subst (λ bs. IsAbsentAt bs s c.in-Absent.field-0) c.deref.ensures.value c.in-Absent.ensures in
    free_or t (sections_in c.args.created.now) s c.meets.result c.meets.ensures
    (absent_none t.blocks.items t.stored s c.in-Absent.field-0 c.requires.section h)

pub returns-in-Inside : goal.returns-in-Inside
returns-in-Inside c =
    let t = c.args.self.now in
    let s = c.args.section.now in
    let h = subst (λ bs. IsInsideAt bs s c.in-Inside.field-0) c.deref.ensures.value c.in-Inside.ensures in
    let first = first_in s c.requires.section.has_cells in
    takes_at t (sections_in c.args.created.now) s (first_cell s) h.block
    (at_block t.blocks.items t.stored (first_cell s) c.in-Inside.field-0 h.block h.is
    (inside_in (first_cell s) s h.block.section h.inside first)) first

pub returns-in-InPart : goal.returns-in-InPart
returns-in-InPart c =
    let t = c.args.self.now in
    let s = c.args.section.now in
    let h = subst (λ bs. IsInPart bs s) c.deref.ensures.value c.in-InPart.ensures in
    takes_at t (sections_in c.args.created.now) s h.cell h.block
    (at_block t.blocks.items t.stored h.cell h.place h.block h.is h.in_block) h.in_section
