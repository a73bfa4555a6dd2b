use Rattle.std.proofs.Common.{◌≡◌, ◌+◌, ◌*◌, ◌/◌, ◌<◌, List, Bool, false, true, length, ap, subst, sym, ◌∙◌, arith}
use Rattle.std.proofs.lemmas.Grind.{get_or_default_zero}
use Rattle.taskgraph.specs.Marks.{is_marked}
use Rattle.taskgraph.specs.Waiting.{one_if}
use Rattle.taskgraph.proofs.Rows.{counted_set, row_inside}
use Rattle.taskgraph.proofs.Those.{small}
use Rattle.taskgraph.proofs.marks.Marks.insert.Goals as goal

pub overflow_add-index_mut : goal.overflow_add-index_mut
overflow_add-index_mut c =
    let m = c.self.inside in
    let i = c.args.item in
    let inside : i < length m.marks.items = subst (λ (l : List Bool). i < length l) (sym c.self.view_is) c.requires.inside in
    let row = row_inside m.marks.items m.counts.items m.len i c.self.invariant inside in
    let is = c.index_mut-2.ensures.value ∙ get_or_default_zero m.counts.items (i / 256) c.index_mut-2.result.now row in
    let few = small (is_marked m.marks.items) (256 * (i / 256)) 256 in
    omega (arith, is, c.self.invariant.each (i / 256) row, few)

pub overflow_add-self : goal.overflow_add-self
overflow_add-self c =
    let m = c.self.inside in
    let few = small (is_marked m.marks.items) 0 (length m.marks.items) in
    omega (arith, few, c.self.invariant.all, m.marks.ok, m.marks.small)

pub invariant_of-self : goal.invariant_of-self
invariant_of-self c =
    let m = c.self.inside in
    let i = c.args.item in
    let inside : i < length m.marks.items = subst (λ (l : List Bool). i < length l) (sym c.self.view_is) c.requires.inside in
    let row = row_inside m.marks.items m.counts.items m.len i c.self.invariant inside in
    let is = c.index_mut-2.ensures.value ∙ get_or_default_zero m.counts.items (i / 256) c.index_mut-2.result.now row in
    let fresh : one_if (is_marked m.marks.items i) ≡ 0 =
    ap one_if (subst (λ (l : List Bool). is_marked l i ≡ false) (sym c.self.view_is) c.requires.fresh) in
    counted_set m.marks.items m.counts.items m.len i (c.index_mut-2.result.now + 1) (m.len + 1) true c.self.invariant inside
    (omega (arith, is, fresh)) (omega (arith, fresh))
