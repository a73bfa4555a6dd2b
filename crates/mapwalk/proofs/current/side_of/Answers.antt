use Rattle.std.proofs.Common.{◌<◌, ◌++◌, ◌∷◌, [], take, sym, ap, ◌∙◌, subst}
use Rattle.std.proofs.lemmas.List.{map-append, take_all, take_more}
use Rattle.mapwalk.specs.Current.{length_of, row_lengths}
use Rattle.mapwalk.proofs.SideRows.{AllAre, all_start, are_more}
use Rattle.mapwalk.proofs.current.side_of.Goals as goal

pub arrays-preserved : goal.arrays-preserved
arrays-preserved c =
    let v = c.in_ok-new.field-0 in
    let side = c.arrays.side.items in
    record {
      lengths = ap row_lengths c.in_ok-push.ensures.items ∙ map-append length_of side (v ∷ [])
          ∙ ap (λ ns. ns ++ v.length ∷ []) c.arrays.invariant.lengths
          ∙ ap (λ k. take c.arrays.length-index c.args.lengths.now ++ k ∷ []) c.in_ok-new.ensures.length
          ∙ sym (take_more c.args.lengths.now c.arrays.length-index 0 c.arrays-test.true);
      marks = subst (AllAre c.args.mark) (sym c.in_ok-push.ensures.items)
          (are_more side c.args.mark v c.arrays.invariant.marks
          (λ i h. c.in_ok-new.ensures.marks i (subst (λ n. i < n) c.in_ok-new.ensures.length h)));
    }

pub returns-clause-marks : goal.returns-clause-marks
returns-clause-marks c =
    all_start c.arrays.side.items c.args.lengths.now c.args.mark
    (c.arrays.invariant.lengths ∙ take_all c.arrays.length-index c.args.lengths.now c.arrays-test.false)
    c.arrays.invariant.marks
