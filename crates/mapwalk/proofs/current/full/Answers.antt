use Rattle.std.proofs.Common.{◌≡◌, ◌<◌, sym, ap, ◌∙◌, append-nil, ◌++◌, [], ◌∷◌, map, length, arith}
use Rattle.std.specs.Prelude.{filter, cond}
use Rattle.std.specs.List.{list_all, range_with_len}
use Rattle.std.proofs.lemmas.List.{map-append}
use Rattle.mapwalk.specs.Marks.{has_mark}
use Rattle.mapwalk.specs.Current.{array_number, is_full_in}
use Rattle.mapwalk.proofs.SideRows.{filter_more, full_row}
use Rattle.mapwalk.proofs.current.full.Goals as goal
use Rattle.mapwalk.proofs.current.full.Goals.{then-is_full+in_ok-push, else-is_full}

pub arrays-preserved : goal.arrays-preserved
arrays-preserved c =
    let p = is_full_in c.args.side.now in
    let a = c.arrays.array in
    let there : a < length c.args.side.now = omega arith in
    let full : c.is_full.result ≡ p a = c.is_full.ensures
    ∙ ap (λ m. list_all (has_mark m) (range_with_len 0 m.length)) c.index-side-array.is
    ∙ full_row c.args.side.now a c.index-side-array.result there in
    elim c.if-is_full.branch [
      | then-is_full+in_ok-push w ↦
          ap (λ v. map array_number v.items) w.full-is
          ∙ ap (map array_number) w.in_ok-push.ensures.items
          ∙ map-append array_number c.arrays.full.items (record { 0 = a } ∷ [])
          ∙ ap (λ xs. xs ++ a ∷ []) c.arrays.invariant
          ∙ ap (λ b. filter p (range_with_len 0 a) ++ cond b (a ∷ []) []) (sym w.if-is_full.true ∙ full)
          ∙ sym (filter_more p a)
      | else-is_full w ↦
          ap (λ v. map array_number v.items) w.full-is
          ∙ c.arrays.invariant
          ∙ sym (append-nil (filter p (range_with_len 0 a)))
          ∙ ap (λ b. filter p (range_with_len 0 a) ++ cond b (a ∷ []) []) (sym w.if-is_full.false ∙ full)
          ∙ sym (filter_more p a)
    ]
