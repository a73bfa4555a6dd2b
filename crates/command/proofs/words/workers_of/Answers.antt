use Rattle.std.proofs.Common.{arith, codes}
use Rattle.clap.specs.Words.{found_of, one_of, rows_of}
use Rattle.command.proofs.Entries.{same_in_range}
use Rattle.command.proofs.words.workers_of.Goals as goal

pub returns : goal.returns
returns c = same_in_range 1 16 4 (one_of (codes "workers") (rows_of (found_of c.args.given.now))) c.number_of.result c.workers_from.result.count
    (omega arith) (omega arith) c.workers_from.ensures (c.number_of.ensures 1 16)
