use Rattle.std.proofs.Common.{◌≡◌, ◌∙◌, Some, get_or, sym, ap, arith}
use Rattle.std.specs.Prelude.{slice_get, slice_set}
use Rattle.std.proofs.lemmas.Option.{same_Some, slice_get-get_or}
use Rattle.mapwalk.specs.declared.spots.Spot.{Spot}
use Rattle.mapwalk.specs.Spots.{lower}
use Rattle.mapwalk.proofs.RowLists.{get_mapped, set_mapped}
use Rattle.mapwalk.proofs.ordered.lower_all.Goals as goal

abbrev other : Spot
other = record { section = record { array = record { 0 = 0 }; first = 0; length = 0 }; number = 0 }

pub each-preserved : goal.each-preserved
each-preserved c =
    let f = lower c.args.number in
    let old = c.args.spots.now in
    let i = c.each.spot-index in
    let x = get_or old i other in
    let at : slice_get old i ≡ Some x = slice_get-get_or old i other (omega arith) in
    let now : get_or c.each.spots i other ≡ x =
    same_Some (get_or c.each.spots i other) x (sym (slice_get-get_or c.each.spots i other (omega arith))
    ∙ ap (λ xs. slice_get xs i) c.each.invariant ∙ get_mapped f old i ∙ at) in
    ap (λ xs. slice_set xs i c.lowered.result) c.each.invariant
    ∙ set_mapped f old i x c.lowered.result at (c.lowered.ensures ∙ ap f now)
