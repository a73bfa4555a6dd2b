use Rattle.std.proofs.Common.{◌≡◌, false, List, length, length-append, sym, ap, subst, ◌∷◌, [], arith}
use Rattle.base.specs.declared.item.Cell.{Cell}
use Rattle.ranges.specs.declared.cells.CellSet.{CellSet}
use Rattle.ranges.specs.Ways.{touched_in}
use Rattle.ranges.proofs.OpposedSets.{none_more}
use Rattle.ranges.proofs.met.Meetings.new.Goals as goal

pub sets-preserved : goal.sets-preserved
sets-preserved c =
    let items = c.in_ok-push.ensures.items in
    record {
      few =
          let more = ap (λ (sets : List CellSet). length sets) items in
          let both = length-append c.sets.touched.items (c.new.result ∷ []) in
          let test = c.sets-test.true in
          let count = c.len.ensures in
          omega (arith, more, both, test, count);
      empty = λ k d. subst (λ (sets : List CellSet). touched_in sets k d ≡ false) (sym items)
          (none_more c.sets.touched.items c.new.result c.sets.invariant.empty (λ (e : Cell). ap (λ f. f e) c.new.ensures) k d);
    }
