use Rattle.std.proofs.Common.{rules}
use Rattle.lower.proofs.Reached.{are_reached}
use Rattle.lower.proofs.image.build.Goals as goal

pub invariant_of-result : goal.invariant_of-result
invariant_of-result c = record {
  accepted = c.requires.accepted;
  no_statement = search rules;
  codes_kept = c.in_ok-codes.ensures;
  marked_kept = c.requires.marked;
  all_reached = c.requires.reaches.count;
  reaches_kept = are_reached c.args.outlined.now c.args.reaches.now c.requires.accepted c.requires.reaches;
}
