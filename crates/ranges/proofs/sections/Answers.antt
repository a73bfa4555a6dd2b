use Rattle.std.proofs.Common.{None, sym, ◌∙◌, subst}
use Rattle.base.specs.declared.fault.RangeFault.{RangeFault}
use Rattle.base.specs.Meaning.{lengths_of}
use Rattle.base.specs.Accepted.{section_faults}
use Rattle.ranges.specs.Faults.{IsFirst, least_map, least_depend}
use Rattle.ranges.proofs.SectionFaults.{sections_fine, section_first}
use Rattle.ranges.proofs.sections.Goals as goal

pub returns-in-None-clause-fine : goal.returns-in-None-clause-fine
returns-in-None-clause-fine c =
    sections_fine (lengths_of c.args.program.now) c.args.item.now.maps.items c.args.item.now.depends.items
    (sym (c.note_depends.ensures
    ∙ (λ i. least_depend (lengths_of c.args.program.now) (c.deref-2.ensures i) (c.note_maps.ensures i))
    ∙ (λ i. least_depend (lengths_of c.args.program.now) c.args.item.now.depends.items (least_map
    (lengths_of c.args.program.now) (c.deref.ensures i) None))) ∙ c.in-None.is)

pub returns-in-Some-clause-fault : goal.returns-in-Some-clause-fault
returns-in-Some-clause-fault c =
    subst (λ (f : RangeFault). IsFirst (section_faults (lengths_of c.args.program.now) c.args.item.now.maps.items
    c.args.item.now.depends.items) f) (sym c.fault_at.ensures)
    (section_first (lengths_of c.args.program.now) c.args.item.now.maps.items c.args.item.now.depends.items
    c.in-Some.place
    (sym (c.note_depends.ensures
    ∙ (λ i. least_depend (lengths_of c.args.program.now) (c.deref-2.ensures i) (c.note_maps.ensures i))
    ∙ (λ i. least_depend (lengths_of c.args.program.now) c.args.item.now.depends.items (least_map
    (lengths_of c.args.program.now) (c.deref.ensures i) None))) ∙ c.in-Some.is))
