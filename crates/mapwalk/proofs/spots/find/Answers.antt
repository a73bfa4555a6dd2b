use Rattle.std.proofs.Common.{◌≡◌, ◌∙◌, get_or, List, ℕ, sym, arith}
use Rattle.std.proofs.lemmas.Option.{slice_get-get_or, slice_get_within}
use Rattle.mapwalk.specs.declared.spots.Spot.{Spot}
use Rattle.mapwalk.specs.Spots.{AllBefore}
use Rattle.mapwalk.proofs.OrderedBlocks.{order_of}
use Rattle.mapwalk.proofs.Searches.{absent_at, absent_before, inside_at, part_at}
use Rattle.mapwalk.proofs.spots.find.Goals as goal

before_start : (spots : List Spot) (i p q : ℕ) → p ≡ q → AllBefore spots i p → AllBefore spots i q
before_start spots i p q e h k x l f = let m = h k x l f in omega (arith, m, e)

abbrev other : Spot
other = record { section = record { array = record { 0 = 0 }; first = 0; length = 0 }; number = 0 }

pub returns-then-i-spots : goal.returns-then-i-spots
returns-then-i-spots c =
    absent_at c.args.blocks.now c.args.spots.now (order_of c.args.blocks.now c.args.spots.now c.requires) c.args.section.now c.first_after-i.result c.first_after-i.ensures.bound
    (before_start _ _ _ _ c.start.ensures.value c.first_after-i.ensures.before)
    (λ k x l e. (let m = slice_get_within c.args.spots.now k x e in absurd (omega (arith, l, m, c.if-i-spots.true))))

pub returns-then-stop-start : goal.returns-then-stop-start
returns-then-stop-start c =
    let spots = c.args.spots.now in
    let i = c.first_after-i.result in
    absent_before c.args.blocks.now spots (order_of c.args.blocks.now spots c.requires) c.args.section.now i c.first_after-i.ensures.bound
    (before_start _ _ _ _ c.start.ensures.value c.first_after-i.ensures.before) (get_or spots i other)
    (slice_get-get_or spots i other (omega arith)) (omega arith)

pub returns-then-is_within : goal.returns-then-is_within
returns-then-is_within c =
    let spots = c.args.spots.now in
    let s = c.args.section.now in
    let i = c.first_after-i.result in
    let at = slice_get-get_or spots i other (omega arith) in
    let after = c.first_after-i.ensures.after i (get_or spots i other) (omega arith) at in
    let begin = c.start.ensures.value in
    let first = c.start-2.ensures.value in
    inside_at c.args.blocks.now spots (order_of c.args.blocks.now spots c.requires) s i c.first_after-i.ensures.bound
    (before_start _ _ _ _ begin c.first_after-i.ensures.before) (get_or spots i other) at (omega (arith, after, begin))
    (omega arith) (sym c.is_within.ensures ∙ c.if-is_within.true)

pub returns-else-is_within : goal.returns-else-is_within
returns-else-is_within c =
    let spots = c.args.spots.now in
    let s = c.args.section.now in
    let i = c.first_after-i.result in
    let at = slice_get-get_or spots i other (omega arith) in
    let after = c.first_after-i.ensures.after i (get_or spots i other) (omega arith) at in
    let begin = c.start.ensures.value in
    part_at c.args.blocks.now spots (order_of c.args.blocks.now spots c.requires) s i c.first_after-i.ensures.bound
    (before_start _ _ _ _ begin c.first_after-i.ensures.before) (get_or spots i other) at (omega (arith, after, begin))
    (omega arith) (sym c.is_within.ensures ∙ c.if-is_within.false) c.is_small-2.ensures c.is_small.ensures
