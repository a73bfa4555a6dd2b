use Rattle.std.proofs.Common.{◌≡◌, ◌+◌, ◌-◌, ◌<◌, ◌++◌, ◌∷◌, [], List, Some, drop, take, length, map, sym, ap, ◌∙◌, arith, append_assoc, length-append}
use Rattle.std.specs.Prelude.{option_map, slice_get, Vec}
use Rattle.std.specs.declared.alloc.Global.{Global}
use Rattle.std.proofs.lemmas.List.{length-map, map-append}
use Rattle.std.proofs.lemmas.Option.{slice_get-get_or, slice_get-map}
use Rattle.base.proofs.Places.{get_drop}
use Rattle.mapwalk.specs.declared.rows.Acts.{Acts}
use Rattle.mapwalk.specs.Walk.{row_items}
use Rattle.mapwalk.proofs.Repeating.{get_front, take_more}
use Rattle.mapwalk.proofs.heads.copy_rows.Goals as goal

pub rows-preserved : goal.rows-preserved
rows-preserved c =
    let old = map row_items c.args.acts.now.items in
    let first = c.len.result - c.args.period in
    let j = c.rows.j in
    let now = c.rows.acts.items in
    let row = c.in_ok-row.row in
    let many : length old ≡ c.len.result = length-map c.args.acts.now.items row_items ∙ sym (c.len.ensures ∙ c.args.acts.now.ok.0) in
    let low : first + j < length old = let le = c.requires in let lt = c.rows-test.true in omega (arith, many, le, lt) in
    let long = length-map now row_items in
    let both = length-append old (take j (drop first old)) in
    let same = ap (λ (xs : List (List Acts)). length xs) c.rows.invariant in
    let inside : first + j < length now = omega (arith, low, long, both, same) in
    let at : slice_get (map row_items now) (first + j) ≡ Some row.items =
    slice_get-map row_items now (first + j)
    ∙ ap (option_map row_items) (slice_get-get_or now (first + j) c.index.result.now inside
    ∙ ap (λ (v : Vec Acts Global). Some v) (sym c.index.ensures))
    ∙ ap (λ (xs : List Acts). Some xs) (sym (c.in_ok-row.ensures.items ∙ c.deref.ensures.value)) in
    let here : slice_get (drop first old) j ≡ Some row.items =
    get_drop first old j ∙ sym (get_front old (take j (drop first old)) (first + j) low)
    ∙ ap (λ (xs : List (List Acts)). slice_get xs (first + j)) (sym c.rows.invariant) ∙ at in
    ap (map row_items) c.in_ok-push.ensures.items
    ∙ map-append row_items now (row ∷ [])
    ∙ ap (λ xs. xs ++ row.items ∷ []) c.rows.invariant
    ∙ append_assoc old (take j (drop first old)) (row.items ∷ [])
    ∙ ap (λ ys. old ++ ys) (sym (take_more (drop first old) j row.items here))
