use Rattle.std.proofs.Common.{get_or, arith}
use Rattle.std.proofs.lemmas.Option.{slice_get-get_or, slice_get_within}
use Rattle.present.specs.Found.{AllBefore}
use Rattle.present.proofs.Orders.{Stored, stored_each}
use Rattle.present.proofs.Founds.{place_of, from_place, none_high, none_between, begin_after}
use Rattle.present.proofs.find.block_with.Goals as goal
use Rattle.present.proofs.find.block_with.Goals.{else-i-blocks-via-then-i-blocks+else-start-place, else-i-blocks-via-else-i-blocks}

pub returns-then-cell-ge-MOST_CELLS-clause-none : goal.returns-then-cell-ge-MOST_CELLS-clause-none
returns-then-cell-ge-MOST_CELLS-clause-none c = none_high c.args.blocks.now c.requires c.args.cell (omega arith)

pub start-requires : goal.start-requires
start-requires c =
    let bs = c.args.blocks.now in
    let i = c.first_after-i.result in
    let w : Stored (get_or bs i c.index-blocks-i.result) =
    stored_each bs c.requires i _ (slice_get-get_or bs i _ c.if-i-blocks.true) in
    let end = w.end in
    omega arith

pub returns-then-start-place-clause-some : goal.returns-then-start-place-clause-some
returns-then-start-place-clause-some c =
    let bs = c.args.blocks.now in
    let i = c.first_after-i.result in
    let b = get_or bs i c.index-blocks-i.result in
    let e = slice_get-get_or bs i c.index-blocks-i.result c.if-i-blocks.true in
    let after = c.first_after-i.ensures.after i b (omega arith) e in
    let from = c.from.ensures in
    record {
      block = b;
      is = e;
      has = from_place c.args.cell b (stored_each bs c.requires i b e)
          (record { low = omega arith; above = omega arith; below = omega arith });
    }

pub returns-else-i-blocks-clause-none : goal.returns-else-i-blocks-clause-none
returns-else-i-blocks-clause-none c =
    let bs = c.args.blocks.now in
    let i = c.first_after-i.result in
    let from = c.from.ensures in
    let at : AllBefore bs i (place_of c.args.cell) =
    λ k x l e. (let h = c.first_after-i.ensures.before k x l e in omega arith) in
    none_between bs c.requires c.args.cell i at
    (elim c.else-i-blocks.branch [
      | else-i-blocks-via-then-i-blocks+else-start-place w ↦
          begin_after bs c.requires (place_of c.args.cell) i (get_or bs i w.index-blocks-i.result)
          (slice_get-get_or bs i w.index-blocks-i.result w.if-i-blocks.true) (omega arith)
      | else-i-blocks-via-else-i-blocks w ↦
          λ k x l e. (let within = slice_get_within bs k x e in absurd (omega arith))
    ])
