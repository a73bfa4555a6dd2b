use Rattle.std.proofs.Common.{◌≡◌, ◌+◌, ◌-◌, ◌<◌, ◌≤◌, length, refl, sym, ◌∙◌, subst, arith}
use Rattle.std.specs.Prelude.{slice_set}
use Rattle.std.proofs.lemmas.List.{length-map, length-set}
use Rattle.order.specs.Bare.{bare, plan_of}
use Rattle.order.specs.Rows.{AreRowsFrom, IsNextWait, is_bare_wait}
use Rattle.order.proofs.Befores.{one_read}
use Rattle.order.proofs.Steps.{row_set, wait_here, wait_later}
use Rattle.order.proofs.rows.rows_of.Goals as goal

pub loop-item-preserved-then-is_bare_wait : goal.loop-item-preserved-then-is_bare_wait
loop-item-preserved-then-is_bare_wait c =
    let its = c.args.items.now in
    let p = plan_of its in
    let rows = c.loop-item.rows.items in
    let i = c.loop-item.item - 1 in
    let many : length p.items ≡ length its = length-map its bare in
    let next : c.loop-item.item ≡ i + 1 = omega (arith, c.loop-item-test.true) in
    let top : c.loop-item.item ≤ length its = c.loop-item.auto.item in
    let all : length rows ≡ length its = c.loop-item.invariant.many in
    let inside : i < length rows = omega (arith, next, top, all) in
    let size : length (slice_set rows i c.in_ok-rows-2.field-0) ≡ length rows = length-set rows i c.in_ok-rows-2.field-0 in
    record {
      touches = c.loop-item.invariant.touches;
      many = size ∙ all;
      wait = wait_here p i (omega (arith, many, next, top))
          (one_read its i c.index-items-item.result is_bare_wait (omega (arith, next, top)) c.index-items-item.is
          ∙ sym c.is_bare_wait.ensures ∙ c.if-is_bare_wait.true);
      rows = row_set p rows (slice_set rows i c.in_ok-rows-2.field-0) i c.in_ok-rows-2.field-0
          (subst (λ n. AreRowsFrom p n rows) next c.loop-item.invariant.rows) c.in_ok-rows-2.ensures inside size refl;
    }

pub loop-item-preserved : goal.loop-item-preserved
loop-item-preserved c =
    let its = c.args.items.now in
    let p = plan_of its in
    let rows = c.loop-item.rows.items in
    let i = c.loop-item.item - 1 in
    let next : c.loop-item.item ≡ i + 1 = omega (arith, c.loop-item-test.true) in
    let top : c.loop-item.item ≤ length its = c.loop-item.auto.item in
    let all : length rows ≡ length its = c.loop-item.invariant.many in
    let inside : i < length rows = omega (arith, next, top, all) in
    let size : length (slice_set rows i c.in_ok-rows-2.field-0) ≡ length rows = length-set rows i c.in_ok-rows-2.field-0 in
    record {
      touches = c.loop-item.invariant.touches;
      many = size ∙ all;
      wait = wait_later p i c.loop-item.wait
          (one_read its i c.index-items-item.result is_bare_wait (omega (arith, next, top)) c.index-items-item.is
          ∙ sym c.is_bare_wait.ensures ∙ c.if-is_bare_wait.false)
          (subst (λ n. IsNextWait p n c.loop-item.wait) next c.loop-item.invariant.wait);
      rows = row_set p rows (slice_set rows i c.in_ok-rows-2.field-0) i c.in_ok-rows-2.field-0
          (subst (λ n. AreRowsFrom p n rows) next c.loop-item.invariant.rows) c.in_ok-rows-2.ensures inside size refl;
    }
