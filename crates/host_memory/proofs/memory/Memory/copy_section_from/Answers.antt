use Rattle.std.proofs.Common.{◌≡◌, ◌<◌, Some, ◌+◌, ◌≤◌, length, subst, arith}
use Rattle.std.specs.Prelude.{slice_get, slice_range}
use Rattle.std.proofs.lemmas.Option.{slice_get_read}
use Rattle.std.proofs.lemmas.List.Edits.{length-between}
use mathlib.Core.Path.{fun_ext}
use Rattle.shared_row.specs.Rows.{numbers_of}
use Rattle.host_memory.specs.Arrays.{items_of}
use Rattle.host_memory.proofs.HostRows.{row_there, set_number, lengths_set, same_length}
use Rattle.host_memory.proofs.memory.Memory.copy_section_from.Goals as goal

pub returns-clause-copied : goal.returns-clause-copied
returns-clause-copied c =
    let rows = c.args.self.now.arrays.items in
    let s = c.args.section.now in
    let v = c.index_mut-own.result.now in
    let there : s.array.0 < length rows = row_there c.args.self.now s c.requires.within in
    let row : slice_get rows s.array.0 ≡ Some v =
    slice_get_read rows (length rows) s.array.0 v (λ _. length rows) there c.index_mut-own.ensures.value in
    let fits = subst (λ o. s.first + s.length ≤ length (items_of o)) row c.requires.within.end in
    let numbers = slice_range (numbers_of c.args.row.now) c.args.at (c.args.at + s.length) in
    let between = length-between (numbers_of c.args.row.now) c.args.at (c.args.at + s.length) c.requires.fits in
    let long : length numbers ≡ s.length = omega arith in
    fun_ext (λ d. set_number rows s v c.copy_part.new.to numbers there row fits long c.copy_part.ensures.copied d)

pub returns-clause-lengths : goal.returns-clause-lengths
returns-clause-lengths c =
    let rows = c.args.self.now.arrays.items in
    let s = c.args.section.now in
    let v = c.index_mut-own.result.now in
    let there : s.array.0 < length rows = row_there c.args.self.now s c.requires.within in
    let row : slice_get rows s.array.0 ≡ Some v =
    slice_get_read rows (length rows) s.array.0 v (λ _. length rows) there c.index_mut-own.ensures.value in
    let fits = subst (λ o. s.first + s.length ≤ length (items_of o)) row c.requires.within.end in
    let numbers = slice_range (numbers_of c.args.row.now) c.args.at (c.args.at + s.length) in
    let between = length-between (numbers_of c.args.row.now) c.args.at (c.args.at + s.length) c.requires.fits in
    let long : length numbers ≡ s.length = omega arith in
    lengths_set rows s.array.0 v c.copy_part.new.to row
    (same_length rows s v c.copy_part.new.to numbers there row fits long c.copy_part.ensures.copied)
