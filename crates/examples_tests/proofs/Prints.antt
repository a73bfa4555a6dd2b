-- What accepted programs print in every order is what they print without their directives.
use Rattle.std.proofs.Common.{rules, ◌≡◌, ℕ, List, [], ◌∷◌, Option, Some, refl, sym, ap, ap₂, ◌∙◌, true}
use Rattle.std.specs.Prelude.{option_map}
use Rattle.base.specs.declared.tree.Part.{Part}
use Rattle.base.specs.Memory.{zeros}
use Rattle.base.specs.Meaning.{Plain, erased, erased_list}
use Rattle.base.specs.Items.{plan_of}
use Rattle.headline.proofs.Headline.{headline}
use Rattle.examples_tests.specs.Decide.{accepts}
use Rattle.examples_tests.specs.Smallest.{smallest}
use Rattle.examples_tests.specs.More.{two_halves, one_after_other, in_data, copied_again, two_devices, any_order, two_loops, inner_in_order, own_scalar, summed, between}
use Rattle.examples_tests.specs.EveryOrder.{PrintsAlways, NoOrderShows}
use Rattle.examples_tests.proofs.Smallest.{all_accepted}

abbrev fresh : Plain
fresh = record { memory = zeros; scalars = λ x. 0; input = []; printed = [] }

abbrev printed_by : Option Plain → Option (List ℕ)
printed_by o = option_map (λ s. s.printed) o

prints_always : (n : ℕ) (lengths : List ℕ) (parts : List Part) (printed : List ℕ) →
    accepts n (plan_of lengths parts) ≡ true → printed_by (erased_list parts lengths fresh) ≡ Some printed →
    PrintsAlways lengths parts printed
prints_always n lengths parts printed h computed p l e fill events s is_fill run ended =
    let right = headline p (all_accepted n lengths parts h p l e) in
    let shown = right.shows [] fill events s (search rules) is_fill run ended in
    let same : erased p [] ≡ erased_list parts lengths fresh = ap₂ (λ ps ls. erased_list ps ls fresh) e l in
    let both : Some shown.plain.printed ≡ Some printed = sym (ap printed_by shown.is_erased) ∙ ap printed_by same ∙
    computed in
    let equal : shown.plain.printed ≡ printed = cc in
    shown.output ∙ equal

pub no_order_shows : NoOrderShows
no_order_shows v p = record {
  smallest_prints = prints_always 0 (4 ∷ []) (smallest v p) (1 ∷ 3 ∷ 5 ∷ 7 ∷ []) refl refl;
  two_halves_prints = prints_always 1 (8 ∷ []) (two_halves v p) (1 ∷ 2 ∷ 3 ∷ 4 ∷ 40 ∷ 50 ∷ 60 ∷ 70 ∷ []) refl refl;
  one_after_other_prints = prints_always 1 (4 ∷ []) (one_after_other v p) (2 ∷ 4 ∷ 6 ∷ 8 ∷ []) refl refl;
  in_data_prints = prints_always 0 (4 ∷ []) (in_data v p) (6 ∷ []) refl refl;
  copied_again_prints = prints_always 0 (4 ∷ 4 ∷ []) (copied_again v p) (6 ∷ 6 ∷ 6 ∷ 6 ∷ []) refl refl;
  two_devices_prints = prints_always 1 (4 ∷ 8 ∷ []) (two_devices v p) (1 ∷ 2 ∷ 3 ∷ 4 ∷ 30 ∷ 30 ∷ 30 ∷ 30 ∷ []) refl refl;
  any_order_prints = prints_always 0 (4 ∷ []) (any_order v p) (1 ∷ 3 ∷ 5 ∷ 7 ∷ []) refl refl;
  two_loops_prints = prints_always 0 (8 ∷ []) (two_loops v p) (0 ∷ 1 ∷ 2 ∷ 3 ∷ 1 ∷ 2 ∷ 3 ∷ 4 ∷ []) refl refl;
  inner_in_order_prints = prints_always 0 (2 ∷ []) (inner_in_order v p) (3 ∷ 4 ∷ []) refl refl;
  own_scalar_prints = prints_always 0 (4 ∷ []) (own_scalar v p) (1 ∷ 2 ∷ 3 ∷ 4 ∷ []) refl refl;
  summed_prints = prints_always 0 (1 ∷ 4 ∷ []) (summed v p) (60 ∷ []) refl refl;
  between_prints = prints_always 0 (2 ∷ 4 ∷ []) (between v p) (30 ∷ 0 ∷ []) refl refl;
}
