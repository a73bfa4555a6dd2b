use Rattle.std.proofs.Common.{◌≡◌, ℕ, ◌<◌, length, get_or, List, arith}
use Rattle.std.proofs.lemmas.Option.{slice_get-get_or}
use Rattle.present.specs.declared.block.Block.{Block}
use Rattle.present.specs.Found.{AllBefore}
use Rattle.present.proofs.Orders.{Stored, stored_each}
use Rattle.present.proofs.Founds.{absent_last, absent_between, inside_at, in_part}
use Rattle.present.proofs.find.find.Goals as goal
use Rattle.present.proofs.find.find.Goals.{else-begin-first-via-then-begin-first+else-end-begin-2, else-begin-first-via-else-begin-first}

before_start : (bs : List Block) (i p q : ℕ) → p ≡ q → AllBefore bs i p → AllBefore bs i q
before_start bs i p q e h k b l f = let m = h k b l f in omega arith

pub returns-then-i-blocks : goal.returns-then-i-blocks
returns-then-i-blocks c =
    absent_last c.args.blocks.now c.requires.stored c.args.section.now c.first_after-i.result
    (before_start _ _ _ _ c.start-first.ensures.value c.first_after-i.ensures.before) c.if-i-blocks.true

pub start-begin-requires : goal.start-begin-requires
start-begin-requires c =
    let bs = c.args.blocks.now in
    let i = c.first_after-i.result in
    let within : i < length bs = omega arith in
    let w : Stored (get_or bs i c.index-blocks-i.result) =
    stored_each bs c.requires.stored i _ (slice_get-get_or bs i _ within) in
    let end = w.end in
    omega arith

pub overflow_add-begin : goal.overflow_add-begin
overflow_add-begin c =
    let bs = c.args.blocks.now in
    let i = c.first_after-i.result in
    let within : i < length bs = omega arith in
    let w : Stored (get_or bs i c.index-blocks-i.result) =
    stored_each bs c.requires.stored i _ (slice_get-get_or bs i _ within) in
    let end = w.end in
    omega arith

pub returns-then-end-begin : goal.returns-then-end-begin
returns-then-end-begin c =
    let bs = c.args.blocks.now in
    let i = c.first_after-i.result in
    let within : i < length bs = omega arith in
    let b = get_or bs i c.index-blocks-i.result in
    absent_between bs c.requires.stored c.args.section.now i b
    (before_start _ _ _ _ c.start-first.ensures.value c.first_after-i.ensures.before) (slice_get-get_or bs i _ within)
    (omega arith)

pub returns-then-end-begin-2 : goal.returns-then-end-begin-2
returns-then-end-begin-2 c =
    let bs = c.args.blocks.now in
    let i = c.first_after-i.result in
    let within : i < length bs = omega arith in
    let b = get_or bs i c.index-blocks-i.result in
    inside_at bs c.requires.stored c.args.section.now i b c.requires.section (slice_get-get_or bs i _ within)
    (omega arith) (omega arith)

pub returns-else-begin-first : goal.returns-else-begin-first
returns-else-begin-first c =
    let bs = c.args.blocks.now in
    let i = c.first_after-i.result in
    let within : i < length bs = omega arith in
    let b = get_or bs i c.index-blocks-i.result in
    let e = slice_get-get_or bs i c.index-blocks-i.result within in
    let after = c.first_after-i.ensures.after i b (omega arith) e in
    in_part bs c.requires.stored c.args.section.now i b c.requires.section e (omega arith) (omega arith)
    (λ l m. elim c.else-begin-first.branch [
      | else-begin-first-via-then-begin-first+else-end-begin-2 w ↦ omega arith
      | else-begin-first-via-else-begin-first w ↦ omega arith
    ])
