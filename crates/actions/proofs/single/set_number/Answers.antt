use Rattle.std.proofs.Common.{sym, ◌∙◌, subst}
use Rattle.host_memory.specs.Arrays.{IsWithin, memory_of}
use Rattle.actions.proofs.HostCells.{cell_within, set_alone}
use Rattle.actions.proofs.single.set_number.Goals as goal

pub set_section-requires-clause-within : goal.set_section-requires-clause-within
set_section-requires-clause-within c =
    subst (IsWithin c.args.host.now) (sym c.alone.ensures) (cell_within c.args.host.now c.args.cell c.requires)

pub returns-clause-set : goal.returns-clause-set
returns-clause-set c =
    c.set_section.ensures.set
    ∙ set_alone (memory_of c.args.host.now) c.args.cell c.args.number c.alone.result c.alone.ensures
