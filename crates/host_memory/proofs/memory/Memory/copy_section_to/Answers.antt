use Rattle.std.proofs.Common.{◌≡◌, ◌<◌, Some, length, ap}
use Rattle.std.specs.Prelude.{slice_get}
use Rattle.std.proofs.lemmas.Option.{slice_get_read}
use mathlib.Core.Path.{fun_ext}
use Rattle.base.specs.declared.item.Cell.{Cell}
use Rattle.host_memory.proofs.HostRows.{row_there, lengths_set, same_number}
use Rattle.host_memory.proofs.memory.Memory.copy_section_to.Goals as goal

pub returns-clause-same : goal.returns-clause-same
returns-clause-same c =
    let rows = c.args.self.now.arrays.items in
    let s = c.args.section.now in
    let v = c.index_mut-own.result.now in
    let there : s.array.0 < length rows = row_there c.args.self.now s c.requires.within in
    let row : slice_get rows s.array.0 ≡ Some v =
    slice_get_read rows (length rows) s.array.0 v (λ _. length rows) there c.index_mut-own.ensures.value in
    let same = c.copy_part.ensures.same in
    record {
      memory = fun_ext (λ (x : Cell). same_number rows s.array.0 v c.copy_part.new.from row same x.array.0 x.index);
      lengths = lengths_set rows s.array.0 v c.copy_part.new.from row (ap length same);
    }
