use Rattle.c_terminals.specs.Seen.{seen, seen_all}
use Rattle.c_written.proofs.Allotting.{allocations_taken}
use Rattle.c_written.proofs.allocated.Allocations.take.Goals as goal

pub returns : goal.returns
returns c =
    allocations_taken c.read.result c.args.self.now c.read.new.self (seen c.args.token) (seen_all c.args.rest.now)
    c.read.ensures
