use Rattle.frames.proofs.host.store_run.Goals as goal

pub set_section-requires-clause-within : goal.set_section-requires-clause-within
set_section-requires-clause-within c = record { has_cells = c.requires.some; end = c.requires.cells }
