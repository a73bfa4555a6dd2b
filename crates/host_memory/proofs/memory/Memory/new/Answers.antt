use Rattle.std.proofs.Common.{◌≡◌, map, ap, ◌∙◌, arith}
use Rattle.std.proofs.lemmas.List.{take_all}
use Rattle.host_memory.proofs.HostRows.{rows_of, zero_row, zero_memory, zero_lengths}
use Rattle.host_memory.proofs.memory.Memory.new.Goals as goal

pub returns : goal.returns
returns c =
    let all : rows_of c.loop-length.arrays.items ≡ map zero_row c.args.lengths.now =
    c.loop-length.invariant
    ∙ ap (λ ns. map zero_row ns) (take_all c.loop-length.length-index c.args.lengths.now (omega arith)) in
    record {
      zeros = zero_memory c.args.lengths.now (record { alloc = c.args.alloc; arrays = c.loop-length.arrays }) all;
      lengths = zero_lengths c.args.lengths.now c.loop-length.arrays.items all;
    }
