use Rattle.std.proofs.Common.{◌≡◌, ◌<◌, Some, ◌+◌, ◌≤◌, length, subst}
use Rattle.std.specs.Prelude.{slice_get}
use Rattle.std.proofs.lemmas.Option.{slice_get_read}
use mathlib.Core.Path.{fun_ext}
use Rattle.host_memory.specs.Arrays.{items_of}
use Rattle.shared_row.specs.Rows.{lent_numbers}
use Rattle.host_memory.proofs.HostRows.{row_there, set_number, lengths_set, same_length}
use Rattle.host_memory.proofs.memory.Memory.set_section_lent.Goals as goal

pub returns-clause-set : goal.returns-clause-set
returns-clause-set c =
    let rows = c.args.self.now.arrays.items in
    let s = c.args.section.now in
    let v = c.index_mut-row.result.now in
    let there : s.array.0 < length rows = row_there c.args.self.now s c.requires.within in
    let row : slice_get rows s.array.0 ≡ Some v =
    slice_get_read rows (length rows) s.array.0 v (λ _. length rows) there c.index_mut-row.ensures.value in
    let fits = subst (λ o. s.first + s.length ≤ length (items_of o)) row c.requires.within.end in
    fun_ext (λ d. set_number rows s v c.set_lent.new.row (lent_numbers c.args.lent.now) there row fits c.requires.length
    c.set_lent.ensures d)

pub returns-clause-lengths : goal.returns-clause-lengths
returns-clause-lengths c =
    let rows = c.args.self.now.arrays.items in
    let s = c.args.section.now in
    let v = c.index_mut-row.result.now in
    let there : s.array.0 < length rows = row_there c.args.self.now s c.requires.within in
    let row : slice_get rows s.array.0 ≡ Some v =
    slice_get_read rows (length rows) s.array.0 v (λ _. length rows) there c.index_mut-row.ensures.value in
    let fits = subst (λ o. s.first + s.length ≤ length (items_of o)) row c.requires.within.end in
    lengths_set rows s.array.0 v c.set_lent.new.row row
    (same_length rows s v c.set_lent.new.row (lent_numbers c.args.lent.now) there row fits c.requires.length c.set_lent.ensures)
