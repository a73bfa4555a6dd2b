use Rattle.std.proofs.Common.{◌<◌, length, refl, sym, ◌∙◌, arith}
use Rattle.order.proofs.Found.{clash_read, nothing_asked, none_more}
use Rattle.order.proofs.clash.clash_before.Goals as goal

pub returns-then-is_empty : goal.returns-then-is_empty
returns-then-is_empty c = λ k lt. nothing_asked c.args.items.now c.args.item c.index-items-item.result c.requires
    (sym c.is_empty.ensures ∙ c.if-is_empty.true) k

pub returns-in-Some : goal.returns-in-Some
returns-in-Some c =
    let its = c.args.items.now in
    let other = c.loop-other.other in
    let earlier : other < c.args.item = c.loop-other-test.true in
    let inside : other < length its = omega (arith, c.requires) in
    record {
      item = refl;
      earlier = earlier;
      cell = clash_read its other c.args.item c.index-items-other.result c.index-items-item.result c.deref.result.now
          c.deref-in-loop-other.result.now inside c.requires c.deref.ensures c.deref-in-loop-other.ensures
          ∙ sym c.least_clash.ensures ∙ c.in-Some.is;
      first = c.loop-other.invariant;
    }

pub loop-other-preserved : goal.loop-other-preserved
loop-other-preserved c =
    let its = c.args.items.now in
    let other = c.loop-other.other in
    let earlier : other < c.args.item = c.loop-other-test.true in
    let inside : other < length its = omega (arith, c.requires) in
    none_more its other c.args.item c.loop-other.invariant
    (clash_read its other c.args.item c.index-items-other.result c.index-items-item.result c.deref.result.now
    c.deref-in-loop-other.result.now inside c.requires c.deref.ensures c.deref-in-loop-other.ensures
    ∙ sym c.least_clash.ensures ∙ c.in_default.is)
