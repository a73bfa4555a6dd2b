use Rattle.ranges.proofs.Spans.{part_bits_left, part_bits_right}
use Rattle.ranges.proofs.bound.bound_bits.Goals as goal

pub returns-clause-left : goal.returns-clause-left
returns-clause-left c x y h = part_bits_left x y c.args.b h

pub returns-clause-right : goal.returns-clause-right
returns-clause-right c x y h = part_bits_right x y c.args.b h
