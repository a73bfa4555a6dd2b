use Rattle.std.proofs.Common.{◌≡◌, true, false, rules}
use Rattle.std.specs.Prelude.{not}
use Rattle.std.specs.List.Sorted.{IsPartitionPoint}
use Rattle.std.proofs.lemmas.List.Sorted.{IsPartitionPoint-from_clause}
use Rattle.order.specs.declared.touches.Touch.{Touch}
use Rattle.order.specs.Touches.{is_later}
use Rattle.order.proofs.Turns.{not_false, not_true, parted}
use Rattle.order.proofs.touches.first_later.Goals as goal

point : (c : goal.After-partition_point) → IsPartitionPoint
    (λ (t : Touch). not (is_later c.args.section.now c.args.item t) ≡ true)
    (λ (t : Touch). not (is_later c.args.section.now c.args.item t) ≡ false) c.args.touches.now c.partition_point.result
point c = IsPartitionPoint-from_clause (λ t. not (is_later c.args.section.now c.args.item t)) c.args.touches.now
    c.partition_point.result c.partition_point.ensures.partitioned
    (parted c.args.section.now c.args.item c.args.touches.now c.requires) (λ a r f k. search rules)

pub returns-clause-earlier : goal.returns-clause-earlier
returns-clause-earlier c = λ k d low high. not_true _ ((point c).0 k d low high)

pub returns-clause-later : goal.returns-clause-later
returns-clause-later c = λ k d low high. not_false _ ((point c).1 k d low high)
