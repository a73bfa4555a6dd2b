use Rattle.std.proofs.Common.{ℕ, false, arith, if◌then◌else◌}
use Rattle.std.specs.Prelude.{slice_index, slice_index_or}
use Rattle.kernel.proofs.MaskRows.{one_more, none_changed}
use Rattle.kernel.proofs.masks.keep_others.Goals as goal

pub lanes-init : goal.lanes-init
lanes-init c =
    none_changed ℕ 0 (λ k n. if slice_index_or c.args.mask.now k false then n else slice_index c.args.others.now k) c.args.numbers.now

pub lanes-preserved : goal.lanes-preserved
lanes-preserved c =
    one_more ℕ 0 (λ k n. if slice_index_or c.args.mask.now k false then n else slice_index c.args.others.now k) c.args.numbers.now
    c.lanes.numbers c.lanes.j _ (omega arith) c.lanes.invariant c.pick.ensures

pub returns-clause-each : goal.returns-clause-each
returns-clause-each c k lt = let s = c.lanes.invariant.size in c.lanes.invariant.done k (omega (arith, lt)) lt
