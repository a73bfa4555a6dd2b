use Rattle.std.proofs.Common.{arith}
use Rattle.mapcheck.proofs.third.conflict_among.Goals as goal

pub first_conflict-requires-clause-few : goal.first_conflict-requires-clause-few
first_conflict-requires-clause-few c =
    let few = c.in_ok-accesses.ensures.few in
    let count = c.in_ok-accesses.ensures.accesses.count in
    let same = c.deref.ensures.len in omega (arith, few, count, same)
