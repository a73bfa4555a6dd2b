use Rattle.std.proofs.Common.{◌≡◌, ℕ, List, Bool, false, replicate, subst, sym, arith}
use Rattle.std.proofs.lemmas.Grind.{common_steps, div_ceil_times}
use Rattle.taskgraph.specs.Marks.{AreCounted}
use Rattle.taskgraph.proofs.Rows.{counted_new}
use Rattle.taskgraph.proofs.marks.Marks.new.Goals as goal

pub invariant_of-result : goal.invariant_of-result
invariant_of-result c =
    let n = c.args.count in
    let rows = c.div_ceil.result in
    let unmarked : c.in_ok-vec.field-0.items ≡ replicate n false = grind (arith, common_steps) in
    let zeros : c.in_ok-vec-2.field-0.items ≡ replicate rows 0 = grind (arith, common_steps) in
    let bounds = div_ceil_times n 256 (omega arith) in
    subst (λ (l : List Bool). AreCounted l c.in_ok-vec-2.field-0.items 0) (sym unmarked)
    (subst (λ (l : List ℕ). AreCounted (replicate n false) l 0) (sym zeros)
    (counted_new n rows (omega (arith, bounds.0, c.div_ceil.ensures)) (omega (arith, bounds.1, c.div_ceil.ensures))))
