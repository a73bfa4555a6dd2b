use Rattle.std.proofs.Common.{◌≡◌, ◌+◌, ◌-◌, ◌≤◌, length, sym, subst}
use Rattle.std.specs.Prelude.{slice_index}
use Rattle.base.specs.declared.item.Cell.{Cell}
use Rattle.base.specs.Memory.{within}
use Rattle.host_memory.specs.Arrays.{memory_of, row_of}
use Rattle.shared_row.specs.Rows.{lent_numbers}
use Rattle.frames.specs.Rows.{run_from}
use Rattle.frames.proofs.host.store_lent.Goals as goal

pub set_section_lent-requires-clause-within : goal.set_section_lent-requires-clause-within
set_section_lent-requires-clause-within c =
    let same = sym c.numbers.ensures in
    record {
      has_cells = subst (λ xs. 1 ≤ length xs) same c.requires.some;
      end = subst (λ xs. c.args.first + length xs ≤ length (row_of c.args.host.now c.args.array.0)) same c.requires.cells;
    }

pub returns-clause-stored : goal.returns-clause-stored
returns-clause-stored c =
    subst (λ xs. memory_of c.set_section_lent.new.self
    ≡ within (run_from c.args.array c.args.first (length xs))
    (λ (x : Cell). slice_index (lent_numbers c.args.lent.now) (x.index - c.args.first)) (memory_of c.args.host.now))
    c.numbers.ensures c.set_section_lent.ensures.set
